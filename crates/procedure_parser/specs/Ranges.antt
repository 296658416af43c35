-- The two ends of a range.
use Rattle.source_tree.specs.Source.{Phrase, phrase}
use Rattle.procedure_parser.specs.declared.statement.Ends.{Ends}

abbrev pub ends : Ends → Phrase × Phrase
ends e = (phrase e.low, phrase e.high)
