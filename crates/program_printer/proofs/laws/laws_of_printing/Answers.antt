use Rattle.program_printer.specs.Printing.{printed_words}
use Rattle.program_printer.proofs.Rescan.{tokens_again}
use Rattle.program_printer.proofs.laws.laws_of_printing.Goals as goal

pub returns : goal.returns
returns c = record { tokens = λ t i. tokens_again (printed_words t) i }
