-- Hulls of records one after another, each apart from another or inside it.
use Rattle.std.specs.Prelude.{◌≡◌, ◌<◌, ◌≤◌, ℕ, nat_eq, true, false, List, Some, length, slice_get}
use Rattle.std.specs.List.{list_any}
use Rattle.evaluation.specs.declared.note.Note.{Note}
use Rattle.meaning.specs.Every.{every}
use Rattle.record_theory.specs.Record.{PlainRecord}
use Rattle.instance_records.specs.declared.spans.Span.{Span}
use Rattle.instance_records.specs.Spans.{is_covered_by}

-- a hull of the records from a place up to another, and how many hulls end before its first place
pub record PlainSkip : Type 0 where
  pub first : ℕ
  pub until : ℕ
  pub before : ℕ
  pub hull : List Span

-- hulls in the order of their ends, of records before a place
pub record PlainSkips : Type 0 where
  pub done : ℕ
  pub skips : List PlainSkip

-- all that lies in the first lies in the second
abbrev pub IsInHull : List Span → List Span → Type 0
IsInHull g h = (note : Note) → is_covered_by g note ≡ true → is_covered_by h note ≡ true

-- the hull lies in another, of records from that place on
pub record LiesIn (s : PlainSkip) (first : ℕ) (hull : List Span) : Type 0 where
  pub from : first ≤ s.first
  pub held : IsInHull s.hull hull

-- what the records at a hull's places have read lies in it, but maybe for those at these places; of two hulls the earlier one ends before
-- the other's first place, or lies in the other
pub record PassBut (places : List ℕ) (records : List PlainRecord) (all : PlainSkips) : Type 0 where
  pub full : all.done ≤ length records
  pub some : (i : ℕ) (s : PlainSkip) → slice_get all.skips i ≡ Some s → s.first < s.until
  pub ends : (i : ℕ) (s : PlainSkip) → slice_get all.skips i ≡ Some s → s.until ≤ all.done
  pub few : (i : ℕ) (s : PlainSkip) → slice_get all.skips i ≡ Some s → s.before ≤ i
  pub order : (i j : ℕ) (s t : PlainSkip) → i < j → slice_get all.skips i ≡ Some s → slice_get all.skips j ≡ Some t → s.until ≤ t.until
  pub apart : (i j : ℕ) (s t : PlainSkip) → i < t.before → slice_get all.skips i ≡ Some s → slice_get all.skips j ≡ Some t → s.until ≤ t.first
  pub inside : (i j : ℕ) (s t : PlainSkip) → t.before ≤ i → i < j → slice_get all.skips i ≡ Some s → slice_get all.skips j ≡ Some t → LiesIn s t.first t.hull
  pub held :
      (i p : ℕ) (s : PlainSkip) (r : PlainRecord) → slice_get all.skips i ≡ Some s → s.first ≤ p → p < s.until
      → list_any (nat_eq p) places ≡ false → slice_get records p ≡ Some r → every (is_covered_by s.hull) r.reads ≡ true

-- what the records from a place up to another have read lies in a hull, before which so many hulls end; the others lie in it
pub record Reaches (records : List PlainRecord) (skips : List PlainSkip) (hull : List Span) (place first before : ℕ) : Type 0 where
  pub within : first ≤ place
  pub few : before ≤ length skips
  pub apart : (i : ℕ) (s : PlainSkip) → i < before → slice_get skips i ≡ Some s → s.until ≤ first
  pub inside : (i : ℕ) (s : PlainSkip) → before ≤ i → slice_get skips i ≡ Some s → LiesIn s first hull
  pub held : (p : ℕ) (r : PlainRecord) → first ≤ p → p < place → slice_get records p ≡ Some r → every (is_covered_by hull) r.reads ≡ true
