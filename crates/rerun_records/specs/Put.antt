-- What it comes to that records are put in among others.
use Rattle.std.specs.Prelude.{◌≡◌, List, map}
use Rattle.meaning.specs.Tables.{Tables}
use Rattle.record_theory.specs.Record.{PlainRecord, as_made}
use Rattle.record_theory.specs.Commits.{put_records}
use Rattle.record_theory.specs.InStep.{IsInStep, ReadNow}

-- these were put in one after another: so it is of the records with their numbers, and without them, and they stay in step with the tables
pub record ArePut (old made new : List PlainRecord) : Type 0 where
  pub put : new ≡ put_records old made
  pub put_as_made : map as_made new ≡ put_records (map as_made old) made
  pub in_step : (tables : Tables) → IsInStep tables old → ReadNow tables made → IsInStep tables new
