use Rattle.std.proofs.Common.{[], length}
use Rattle.positions.specs.Setting.{setting_with}
use Rattle.thread_tests.proofs.tests.floors.given_up.Given as goal

abbrev pub ghosts-by_workers-J-Run : goal.ghosts-by_workers-J-Run
ghosts-by_workers-J-Run g a = record { setting = setting_with a.borrowed.program.now a.borrowed.tables.now.tables [] a.borrowed.records.now }

abbrev pub ghosts-by_workers-J-Ledger : goal.ghosts-by_workers-J-Ledger
ghosts-by_workers-J-Ledger g a = record { name = a.blanks.leavers.name; parts = a.blanks.leavers.parts }

abbrev pub ghosts-by_workers-J-Stocked : goal.ghosts-by_workers-J-Stocked
ghosts-by_workers-J-Stocked g a = record { total = a.pool.total; begun = length a.pool.kits; ledger = a.blanks.kits.name }
