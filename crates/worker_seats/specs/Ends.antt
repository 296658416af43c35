-- How a run by threads has ended, for the setting that it was of.
use Rattle.std.specs.Prelude.{◌≡◌, List, []}
use Rattle.record_theory.specs.Record.{PlainRecord}
use Rattle.record_theory.specs.Named.{HaveValues}
use Rattle.positions.specs.Setting.{Setting}
use Rattle.positions.specs.declared.answer.RunAnswer.{RunAnswer}
use Rattle.positions.specs.declared.answer.RunAnswer.TheVariants as answer
use Rattle.numbered_runs.specs.Named.{history}
use Rattle.right_strands.specs.Laid.{AnswersElision, IsGiven, HasRecorded}
use Rattle.worker_seats.specs.Histories.{HasHistory}
use Rattle.worker_seats.specs.declared.ended.Ended.{Ended}

-- only a run that has finished leaves records
abbrev pub IsAlone : RunAnswer → List PlainRecord → Type 0
IsAlone (answer.Finished v values n m k) made = Unit {0}
IsAlone _ made = made ≡ []

-- want of memory, or the elision's answer with the records and the history of the run
pub record IsEnd (setting : Setting) (e : Ended) : Type 0 where
  pub elision : AnswersElision setting e.answer
  pub given : IsGiven e.answer
  pub recorded : HasRecorded setting e.answer e.tally.made
  pub alone : IsAlone e.answer e.tally.made
  pub values : HaveValues setting.kinds e.tally.made
  pub history_of : HasHistory e.answer (history e.steps.items)
