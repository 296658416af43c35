-- Pieces of what is read, which functions of their own read.
use Rattle.std.specs.Prelude.{List, ℕ}
use Rattle.token_scanner.specs.Words.{Words}
use Rattle.token_scanner.specs.declared.token.Mark.TheVariants.{Range, CloseBracket, Dot}
use Rattle.source_tree.specs.Source.{Phrase}
use Rattle.token_readers.specs.Reading.{◌>>=◌, Read, mark_at, name_at}
use Rattle.procedure_parser.specs.Reading.{whole_at}

-- a range's other end, behind the first
abbrev pub high_at : Words → Read Phrase
high_at ts = mark_at Range ts >>= whole_at

-- a cell's column, behind the row
abbrev pub column_at : Words → Read (List ℕ)
column_at ts = mark_at CloseBracket ts >>= λ us. mark_at Dot us >>= name_at
