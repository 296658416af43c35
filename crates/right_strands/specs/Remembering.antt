-- The records by name of a run: whichever sound ones its records stand for.
use Rattle.meaning.specs.Schedules.{recording_from}
use Rattle.positions.specs.Setting.{Setting}
use Rattle.numbered_runs.specs.News.{AreSound}

-- sound records by name that the run's records stand for
abbrev pub Remembers : Setting → Type 0
Remembers setting = AreSound setting.program setting.names setting.kinds setting.records

-- the same run, with those records by name
abbrev pub recalling : (setting : Setting) → Remembers setting → Setting
recalling setting k = record setting { memory = recording_from k.kept }
