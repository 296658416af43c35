-- Hulls hold what a record has read of the rows of which the one before it at its place had.
use Rattle.std.proofs.Common.{◌≡◌, ◌<◌, ◌≤◌, ◌*◌, ℕ, zero, suc, true, List, [], ◌∷◌, Some, length, refl, sym, subst}
use Rattle.std.proofs.lemmas.List.{length-set}
use Rattle.std.specs.Prelude.{slice_get, slice_set}
use Rattle.meaning.specs.Every.{every}
use Rattle.record_theory.specs.Record.{PlainRecord}
use Rattle.instance_records.specs.declared.spans.Span.{Span}
use Rattle.instance_records.specs.Spans.{is_covered_by}
use Rattle.rerun_records.specs.Covers.{PlainLevel, PlainCovers, AreKept, CoversBut}
use Rattle.rerun_records.specs.Skips.{PlainSkips, PassBut}
use Rattle.rerun_records.proofs.Covering.{each_level}

-- whatever holds what the first has read holds what the second has
abbrev pub IsOfRows : PlainRecord → PlainRecord → Type 0
IsOfRows old made = (h : List Span) → every (is_covered_by h) old.reads ≡ true → every (is_covered_by h) made.reads ≡ true

-- the record at a place is one of whose rows what is there now has read
set_holds : (records : List PlainRecord) (place p : ℕ) (made r : PlainRecord) → ((old : PlainRecord) → slice_get records place ≡ Some old → IsOfRows old made)
    → slice_get (slice_set records place made) p ≡ Some r → (h : List Span) → ((old : PlainRecord) → slice_get records p ≡ Some old → every (is_covered_by h) old.reads ≡ true)
    → every (is_covered_by h) r.reads ≡ true
set_holds [] place p made r rows e h held = held r e
set_holds (x ∷ xs) zero zero made r rows e h held = (let is : made ≡ r = cc (e) in subst (λ (t : PlainRecord). every (is_covered_by h) t.reads ≡ true) is (rows x refl h (held x refl)))
set_holds (x ∷ xs) zero (suc p) made r rows e h held = held r e
set_holds (x ∷ xs) (suc i) zero made r rows e h held = held r e
set_holds (x ∷ xs) (suc i) (suc p) made r rows e h held = set_holds xs i p made r rows e h held

module _ (records : List PlainRecord) (place : ℕ) (made : PlainRecord) (rows : (old : PlainRecord) → slice_get records place ≡ Some old → IsOfRows old made) where
  set_level : (late : List ℕ) (level : PlainLevel) → CoversBut late records level → CoversBut late (slice_set records place made) level
  set_level late level c = record {
    full = subst (λ (n : ℕ). length level.hulls * level.width ≤ n) (sym (length-set records place made)) c.full;
    held = λ i p h r at from upto other there. set_holds records place p made r rows there h (λ old was. c.held i p h old at from upto other was);
  }

  set_pass : (late : List ℕ) (all : PlainSkips) → PassBut late records all → PassBut late (slice_set records place made) all
  set_pass late all c = record {
    full = subst (λ (n : ℕ). all.done ≤ n) (sym (length-set records place made)) c.full;
    some = c.some;
    ends = c.ends;
    few = c.few;
    order = c.order;
    apart = c.apart;
    inside = c.inside;
    held = λ i p s r at from upto other there. set_holds records place p made r rows there s.hull (λ old was. c.held i p s old at from upto other was);
  }

  -- hulls that hold what was read hold it still
  pub set_kept : (covers : PlainCovers) → AreKept records covers → AreKept (slice_set records place made) covers
  set_kept covers c = (each_level covers.late covers.late records (slice_set records place made) (set_level covers.late) covers.levels c.0, set_pass covers.late covers.skips c.1)
