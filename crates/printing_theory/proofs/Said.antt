-- The tokens of a source tree, as a program of it is printed: names stand in place.
use Rattle.std.proofs.Common.{pos, List, [], ◌∷◌, Option, Some, None}
use Rattle.std.specs.Prelude.{codes}
use Rattle.token_scanner.specs.declared.token.Mark.TheVariants as mark
use Rattle.token_scanner.specs.Words.{Word, Sign, Number}
use Rattle.token_scanner.specs.Words as word
use Rattle.meaning.specs.Tree.{Name}
use Rattle.source_tree.specs.Kinds.{WrittenKind, Add, Mul, Min, Max, And, Or, Xor, Items, First, Last, Argmax, Affine, Hist, Table}
use Rattle.source_tree.specs.Source.{Phrase, Num, Var, Cell, Has, Limit, Sum, Neg, Bin, Stmt, Binds, Enters, Reads, Syncs, Updates, Tests, Loops, Returns, Stmts, none, some, stmts_of, Decl, Reduces, Defines, Source}
use Rattle.program_printer.specs.Printing.{operator_mark, way_mark, numbers_words, initial_words, names_words, memo_words}

abbrev pub phrase_words : Phrase → List Word → List Word
phrase_words (Num n) us = Number n ∷ us
phrase_words (Var x) us = word.Name x ∷ us
phrase_words (Cell t e c) us = word.Name t ∷ Sign mark.OpenBracket ∷ phrase_words e (Sign mark.CloseBracket ∷ Sign mark.Dot ∷ word.Name c ∷ us)
phrase_words (Has t e) us = Sign mark.Has ∷ word.Name t ∷ Sign mark.OpenBracket ∷ phrase_words e (Sign mark.CloseBracket ∷ us)
phrase_words (Limit t) us = Sign mark.Limit ∷ word.Name t ∷ us
phrase_words (Sum t c) us = Sign mark.Sum ∷ word.Name t ∷ Sign mark.Dot ∷ word.Name c ∷ us
phrase_words (Neg e) us = Sign mark.OpenParen ∷ Sign mark.Minus ∷ phrase_words e (Sign mark.CloseParen ∷ us)
phrase_words (Bin o e f) us = Sign mark.OpenParen ∷ phrase_words e (Sign (operator_mark o) ∷ phrase_words f (Sign mark.CloseParen ∷ us))

abbrev pub more_phrases : List Phrase → List Word → List Word
more_phrases [] us = us
more_phrases (e ∷ es) us = Sign mark.Comma ∷ phrase_words e (more_phrases es us)

abbrev pub phrases_words : List Phrase → List Word → List Word
phrases_words [] us = us
phrases_words (e ∷ es) us = phrase_words e (more_phrases es us)

abbrev pub args_words : List Phrase → List Word → List Word
args_words es us = Sign mark.OpenParen ∷ phrases_words es (Sign mark.CloseParen ∷ us)

abbrev pub called_words : Name → List Phrase → List Word → List Word
called_words f es us = word.Name f ∷ args_words es (Sign mark.Semicolon ∷ us)

abbrev pub target_words : Option Name → List Word → List Word
target_words None us = us
target_words (Some x) us = word.Name x ∷ Sign mark.Assign ∷ us

abbrev mutual
  pub stmt_words : Stmt → List Word → List Word
  stmt_words (Binds l x e) us = word.Name x ∷ Sign mark.Assign ∷ phrase_words e (Sign mark.Semicolon ∷ us)
  stmt_words (Enters l x w f es) us = target_words x (Sign (way_mark w) ∷ called_words f es us)
  stmt_words (Reads l x r) us = word.Name x ∷ Sign mark.Assign ∷ Sign mark.Read ∷ word.Name r ∷ Sign mark.Semicolon ∷ us
  stmt_words (Syncs l) us = Sign mark.Sync ∷ Sign mark.Semicolon ∷ us
  stmt_words (Updates l r es) us = Sign mark.Update ∷ word.Name r ∷ phrases_words es (Sign mark.Semicolon ∷ us)
  stmt_words (Tests l e b c) us = Sign mark.If ∷ phrase_words e (Sign mark.OpenBrace ∷ stmts_words b (Sign mark.CloseBrace ∷ otherwise_words c us))
  stmt_words (Loops l x low high grain f es) us = Sign mark.CilkFor ∷ word.Name x ∷ Sign mark.In ∷ phrase_words low (Sign mark.Range ∷ phrase_words high (Sign mark.Grain ∷ Number (pos grain) ∷ Sign mark.Colon ∷ called_words f es us))
  stmt_words (Returns l e) us = Sign mark.Return ∷ phrase_words e (Sign mark.Semicolon ∷ us)

  pub stmts_words : Stmts → List Word → List Word
  stmts_words none us = us
  stmts_words (some s rest) us = stmt_words s (stmts_words rest us)

  pub otherwise_words : Stmts → List Word → List Word
  otherwise_words none us = us
  otherwise_words (some s rest) us = Sign mark.Else ∷ Sign mark.OpenBrace ∷ stmt_words s (stmts_words rest (Sign mark.CloseBrace ∷ us))

abbrev pub written_words : WrittenKind → List Word → List Word
written_words Add us = word.Name (codes "add") ∷ us
written_words Mul us = word.Name (codes "mul") ∷ us
written_words Min us = word.Name (codes "min") ∷ us
written_words Max us = word.Name (codes "max") ∷ us
written_words And us = word.Name (codes "and") ∷ us
written_words Or us = word.Name (codes "or") ∷ us
written_words Xor us = word.Name (codes "xor") ∷ us
written_words Items us = word.Name (codes "list") ∷ us
written_words (First n) us = word.Name (codes "first") ∷ Number (pos n) ∷ us
written_words (Last n) us = word.Name (codes "last") ∷ Number (pos n) ∷ us
written_words Argmax us = word.Name (codes "argmax") ∷ us
written_words Affine us = word.Name (codes "affine") ∷ us
written_words Hist us = word.Name (codes "hist") ∷ us
written_words (Table n u xs) us = word.Name (codes "table") ∷ Number (pos n) ∷ word.Name (codes "unit") ∷ Number (pos u) ∷ Sign mark.OpenBracket ∷ numbers_words xs (Sign mark.CloseBracket ∷ us)

abbrev pub defined_words : Name → List Name → Stmts → List Word → List Word
defined_words f xs ss us = word.Name f ∷ Sign mark.OpenParen ∷ names_words xs (Sign mark.CloseParen ∷ Sign mark.OpenBrace ∷ stmts_words ss (Sign mark.CloseBrace ∷ us))

abbrev pub decl_said : Decl → List Word → List Word
decl_said (Reduces l x k vs) us = Sign mark.Reducer ∷ word.Name x ∷ Sign mark.Colon ∷ written_words k (initial_words vs (Sign mark.Semicolon ∷ us))
decl_said (Defines l m f xs ss) us = memo_words m (Sign mark.Proc ∷ defined_words f xs (stmts_of ss) us)

abbrev pub said_onto : Source → List Word → List Word
said_onto [] us = us
said_onto (d ∷ ds) us = decl_said d (said_onto ds us)

abbrev pub said : Source → List Word
said ds = said_onto ds []
