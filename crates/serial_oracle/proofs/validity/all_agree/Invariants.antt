use Rattle.std.proofs.Common.{◌≡◌, map, drop}
use Rattle.meaning.specs.Every.{every}
use Rattle.meaning.specs.Records.{agrees}
use Rattle.serial_oracle.specs.Listing.{tables_plain}
use Rattle.serial_oracle.specs.Keeping.{reading_plain}
use Rattle.serial_oracle.proofs.validity.all_agree.Given as goal

abbrev pub invariant-loop-reading : goal.invariant-loop-reading
invariant-loop-reading l = every (agrees (tables_plain l.tables)) (map reading_plain l.readings) ≡ every (agrees (tables_plain l.tables)) (map reading_plain (drop l.reading-index l.readings))
