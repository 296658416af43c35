-- What a strand keeps where iterations are recorded in one go, and where nothing is done.
use Rattle.std.proofs.Common.{ℕ, List, refl}
use Rattle.monoid_laws.specs.declared.Kind.{Kind}
use Rattle.record_theory.specs.Record.{PlainRecord}
use Rattle.positions.specs.Setting.{Setting}
use Rattle.positions.specs.Layers.{PlainLayer}
use Rattle.positions.specs.Strands.{PlainStrand}
use Rattle.small_steps.specs.Steps.{IsSupplied, KeepsKits}
use Rattle.small_steps.proofs.Supplies.{kits_stay}
use Rattle.running_ahead.specs.Stepped.{here}
use Rattle.running_ahead.specs.Leaves.{IsRecordedAhead}

pub recorded_here : (setting : Setting) (s : PlainStrand) → IsRecordedAhead setting s s
recorded_here setting s = record { steps = here; lower = refl }

pub kits_same : {S : Type 0} (fits gives : List Kind → S → Type 0) (free total : S → ℕ) (kinds : List Kind) (kits : S) (records : List PlainRecord) (topmost : List Kind) (lower : List PlainLayer)
    → IsSupplied fits gives free total kinds kits records topmost lower → KeepsKits fits gives free total kinds kits kits lower lower
kits_same fits gives free total kinds kits records topmost lower supplied = kits_stay fits gives free total kinds kits lower lower supplied.given refl
