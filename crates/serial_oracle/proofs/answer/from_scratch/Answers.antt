use Rattle.meaning.specs.TreeView.{tree}
use Rattle.serial_oracle.specs.Listing.{tables_plain}
use Rattle.serial_oracle.specs.Keeping.{revised}
use Rattle.serial_oracle.proofs.Noted.{none_fit}
use Rattle.serial_oracle.proofs.Scratch.{from_none}
use Rattle.serial_oracle.proofs.answer.from_scratch.Goals as goal

pub run_main-requires-clause-fit : goal.run_main-requires-clause-fit
run_main-requires-clause-fit c = none_fit (tree c.args.program.now)

pub returns : goal.returns
returns c = from_none (revised (tree c.args.program.now) (record { numbers = c.new.result; counter = 0 })) (tables_plain c.args.tables.now) c.run_main.result c.run_main.ensures.answer
