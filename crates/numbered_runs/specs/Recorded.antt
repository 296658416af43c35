-- What a run has counted and recorded at its end.
use Rattle.std.specs.Prelude.{◌≡◌, ℕ, List, []}
use Rattle.linked_program.specs.Checked.{PlainChecked}
use Rattle.input_tables.specs.Edited.{Edited}
use Rattle.record_theory.specs.Record.{PlainRecord}
use Rattle.positions.specs.Tallies.{PlainTally}
use Rattle.positions.specs.declared.answer.RunAnswer.{RunAnswer}
use Rattle.positions.specs.declared.answer.RunAnswer.TheVariants as answer
use Rattle.numbered_runs.specs.News.{HasCounted, HaveNews}
use Rattle.numbered_runs.specs.Sound.{AreSoundFor, setting_by}

-- those counts, and those new records
abbrev pub tally_of : ℕ → ℕ → ℕ → List PlainRecord → PlainTally
tally_of executed reused unrecorded made = record { opened = []; made = made; executed = executed; reused = reused; unrecorded = unrecorded }

-- where the run has finished, it has counted the needed instances, whichever sound records its records stand for, and its new
-- records are sound and hold now; else it leaves none
abbrev pub HasRecordedBy : PlainChecked → Edited → List PlainRecord → RunAnswer → List PlainRecord → Type 0
HasRecordedBy program tables records (answer.Finished v values n m k) made =
    (s : AreSoundFor program records) → HasCounted (setting_by program tables records s) (tally_of n m k made)
    × HaveNews (setting_by program tables records s) (tally_of n m k made)
HasRecordedBy program tables records _ made = made ≡ []
