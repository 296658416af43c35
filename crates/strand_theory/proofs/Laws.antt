-- What the theory of strands asks of a program that is ready: stretches multiply, and records that answer are sound.
use Rattle.meaning.specs.Tables.{Tables}
use Rattle.meaning.specs.Outcome.{Accumulators}
use Rattle.meaning.specs.Records.{Revised}
use Rattle.meaning.specs.Trail.{sight_of}
use Rattle.meaning.specs.SmallStep.{Lookup}
use Rattle.meaning.specs.Tallies.{valid_record}
use Rattle.meaning.specs.Schedules.{Memory}
use Rattle.trail_theory.specs.Right.{StretchesMultiply, RecordedAreSound}
use Rattle.trail_theory.proofs.TypedWalks.{stretches_multiply_reading}
use Rattle.trail_theory.proofs.ValidRecords.{valid_recorded_are_sound}
use Rattle.trail_theory.proofs.KeptRecords.{valid_answers}
use Rattle.strand_theory.specs.Ready.{IsReady}

module _ (program : Revised) (tables : Tables) (memory : Memory) where
  abbrev pub S : Accumulators
  S = sight_of program.tree tables

  abbrev pub L : Lookup
  L = valid_record program tables memory.records

module _ (program : Revised) (tables : Tables) (memory : Memory) (ready : IsReady program tables memory) where
  pub law : StretchesMultiply program.tree tables (S program tables memory) (L program tables memory)
  law = stretches_multiply_reading program.tree tables (S program tables memory) (L program tables memory) ready.rules.reads ready.monoids ready.numbers ready.cells

  pub sound : RecordedAreSound program.tree tables (S program tables memory) (L program tables memory)
  sound = valid_recorded_are_sound program tables (S program tables memory) ready.rules.reads (L program tables memory) (λ f vs d k r e. valid_answers program tables memory.records ready.sound f vs d k e)
