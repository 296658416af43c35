use Rattle.checked_defines.proofs.Texts.{reads_grammar}
use Rattle.checked_defines.proofs.laws.reader_is_grammar.Goals as goal

pub returns : goal.returns
returns c = record { grammar = reads_grammar }
