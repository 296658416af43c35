-- Hulls over records by their places: a hull holds what the records at so many places one after another have read.
use Rattle.std.specs.Prelude.{◌≡◌, ◌+◌, ◌*◌, ◌<◌, ◌≤◌, ℕ, nat_eq, ℤ, Bool, true, false, not, List, [], ◌∷◌, Option, Some, None, length, slice_get}
use Rattle.std.specs.List.{list_any}
use Rattle.meaning.specs.Every.{every}
use Rattle.record_theory.specs.Record.{PlainRecord}
use Rattle.instance_records.specs.declared.spans.Span.{Span}
use Rattle.instance_records.specs.Spans.{is_covered_by, is_touched}
use Rattle.record_theory.specs.InStep.{is_apart}
use Rattle.rerun_records.specs.Skips.{PlainSkips, PassBut}

-- hulls in order, each for so many places
pub record PlainLevel : Type 0 where
  pub width : ℕ
  pub hulls : List (List Span)

-- there is a hull, and none of the changes lies in it
abbrev pub is_hull_apart : List (ℕ × ℤ) → Option (List Span) → Bool
is_hull_apart changes None = false
is_hull_apart changes (Some h) = not (is_touched h changes)

-- what the records at a hull's places have read lies in it, but maybe for those at these places, and no hull is there before the places are
pub record CoversBut (places : List ℕ) (records : List PlainRecord) (level : PlainLevel) : Type 0 where
  pub full : length level.hulls * level.width ≤ length records
  pub held :
      (i p : ℕ) (h : List Span) (r : PlainRecord) → slice_get level.hulls i ≡ Some h → i * level.width ≤ p → p < i * level.width + level.width
      → list_any (nat_eq p) places ≡ false → slice_get records p ≡ Some r → every (is_covered_by h) r.reads ≡ true

-- so it is on each level
abbrev pub AreLevelsBut : List ℕ → List PlainRecord → List PlainLevel → Type 0
AreLevelsBut places records [] = Unit {0}
AreLevelsBut places records (level ∷ levels) = CoversBut places records level × AreLevelsBut places records levels

-- at all places
abbrev pub CoversLevel : List PlainRecord → PlainLevel → Type 0
CoversLevel = CoversBut []

-- hulls by levels, beside them those of instances around others, and places whose hulls needn't hold yet what the record there has read
pub record PlainCovers : Type 0 where
  pub levels : List PlainLevel
  pub skips : PlainSkips
  pub late : List ℕ

abbrev pub AreCoveredBut : List ℕ → List PlainRecord → PlainCovers → Type 0
AreCoveredBut places records covers = AreLevelsBut places records covers.levels × PassBut places records covers.skips

abbrev pub AreCovered : List PlainRecord → PlainCovers → Type 0
AreCovered = AreCoveredBut []

-- so it is but of the places that are late
abbrev pub AreKept : List PlainRecord → PlainCovers → Type 0
AreKept records covers = AreCoveredBut covers.late records covers

-- from that place on up to another no record has read what the change of the row may have changed
abbrev pub AreApart : List PlainRecord → ℕ × ℤ → ℕ → ℕ → Type 0
AreApart records change first end =
    (p : ℕ) (r : PlainRecord) → first ≤ p → p < end → slice_get records p ≡ Some r → every (is_apart (change ∷ [])) r.reads ≡ true

-- records are those that there were but at these places, and behind them
pub record AreSameBut (places : List ℕ) (before now : List PlainRecord) : Type 0 where
  pub no_fewer : length before ≤ length now
  pub same : (p : ℕ) (r : PlainRecord) → p < length before → list_any (nat_eq p) places ≡ false → slice_get now p ≡ Some r → slice_get before p ≡ Some r
