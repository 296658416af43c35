use Rattle.std.proofs.Common.{[], length}
use Rattle.positions.specs.Setting.{setting_with}
use Rattle.threaded_driver.proofs.run.run_taken.Given as goal

abbrev pub ghosts-run_borrowed-J-Run : goal.ghosts-run_borrowed-J-Run
ghosts-run_borrowed-J-Run g a = record { setting = setting_with a.borrowed.program.now a.borrowed.tables.now.tables [] a.borrowed.records.now }

abbrev pub ghosts-run_borrowed-J-Ledger : goal.ghosts-run_borrowed-J-Ledger
ghosts-run_borrowed-J-Ledger g a = record { name = a.blanks.leavers.name; parts = a.blanks.leavers.parts }

abbrev pub ghosts-run_borrowed-J-Stocked : goal.ghosts-run_borrowed-J-Stocked
ghosts-run_borrowed-J-Stocked g a = record { total = a.stock.pool.total; begun = length a.stock.pool.kits; ledger = a.blanks.kits.name }
