-- How a run of a session's program by threads has ended.
use Rattle.std.specs.Prelude.{[]}
use Rattle.positions.specs.Setting.{setting_with}
use Rattle.kept_session.specs.Sessions.{PlainSession}
use Rattle.worker_seats.specs.declared.ended.Ended.{Ended}
use Rattle.worker_seats.specs.Ends.{IsEnd}

-- that of a run of a session's program
abbrev pub IsEndFor : PlainSession → Ended → Type 0
IsEndFor s = IsEnd (setting_with s.checked s.tables.tables [] s.records)
