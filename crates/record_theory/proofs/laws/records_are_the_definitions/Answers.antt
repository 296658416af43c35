use Rattle.linked_program.specs.Checked.{revised_of}
use Rattle.record_theory.proofs.Lookups.{looks_up, put_all}
use Rattle.record_theory.proofs.laws.records_are_the_definitions.Goals as goal

pub returns-clause-lookup : goal.returns-clause-lookup
returns-clause-lookup c = λ program names kinds tables depth f args ks rs h listed known. looks_up program names kinds tables listed known depth f args ks rs h

pub returns-clause-commit : goal.returns-clause-commit
returns-clause-commit c = λ program rs ss ks js. put_all (revised_of program) program.tables program.kinds ks js rs ss
