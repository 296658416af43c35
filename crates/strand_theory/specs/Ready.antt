-- What the theory of runs asks of a program, its tables and what is remembered.
use Rattle.meaning.specs.Tables.{Tables}
use Rattle.meaning.specs.Records.{Revised, IsSound}
use Rattle.meaning.specs.Schedules.{Memory}
use Rattle.meaning.specs.Fitting.{ProgramFits}
use Rattle.trail_theory.specs.Order.{Every}
use Rattle.trail_theory.specs.ReadsAtEnd.{KeepsRules}
use Rattle.trail_theory.specs.Typed.{HasMonoids, TablesFit}

-- what the checker and the reader of tables give, and records that say what they should
pub record IsReady (program : Revised) (tables : Tables) (memory : Memory) : Type 0 where
  pub rules : KeepsRules program.tree
  pub monoids : HasMonoids program.tree
  pub numbers : ProgramFits program.tree
  pub cells : TablesFit tables
  pub sound : Every (IsSound program) memory.records
