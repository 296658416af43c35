-- Marks and keywords, told apart by their numbers.
use Rattle.std.specs.Prelude.{ℕ, ◌==◌, Bool}
use Rattle.token_scanner.specs.declared.token.Mark.{Mark}
use Rattle.token_scanner.specs.declared.token.Mark.TheVariants.{OpenBrace, CloseBrace, OpenParen, CloseParen, OpenBracket, CloseBracket}
use Rattle.token_scanner.specs.declared.token.Mark.TheVariants.{Colon, Semicolon, Comma, Dot, Range, Assign, Equal, Unequal, Less, AtMost}
use Rattle.token_scanner.specs.declared.token.Mark.TheVariants.{Greater, AtLeast, Plus, Minus, Star, Slash, Percent, Reducer, Memo, Proc}
use Rattle.token_scanner.specs.declared.token.Mark.TheVariants.{Call, Spawn, Sync, Update, If, Else, CilkFor, In, Grain, Return, Read, Has}
use Rattle.token_scanner.specs.declared.token.Mark.TheVariants.{Limit, Sum}

abbrev pub mark_number : Mark → ℕ
mark_number OpenBrace = 0
mark_number CloseBrace = 1
mark_number OpenParen = 2
mark_number CloseParen = 3
mark_number OpenBracket = 4
mark_number CloseBracket = 5
mark_number Colon = 6
mark_number Semicolon = 7
mark_number Comma = 8
mark_number Dot = 9
mark_number Range = 10
mark_number Assign = 11
mark_number Equal = 12
mark_number Unequal = 13
mark_number Less = 14
mark_number AtMost = 15
mark_number Greater = 16
mark_number AtLeast = 17
mark_number Plus = 18
mark_number Minus = 19
mark_number Star = 20
mark_number Slash = 21
mark_number Percent = 22
mark_number Reducer = 23
mark_number Memo = 24
mark_number Proc = 25
mark_number Call = 26
mark_number Spawn = 27
mark_number Sync = 28
mark_number Update = 29
mark_number If = 30
mark_number Else = 31
mark_number CilkFor = 32
mark_number In = 33
mark_number Grain = 34
mark_number Return = 35
mark_number Read = 36
mark_number Has = 37
mark_number Limit = 38
mark_number Sum = 39

abbrev pub same_mark : Mark → Mark → Bool
same_mark a b = mark_number a == mark_number b
