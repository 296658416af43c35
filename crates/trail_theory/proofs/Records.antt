-- Records that are sound for the elision are sound for the trail.
use Rattle.std.proofs.Common.{ℕ, suc, ◌-◌, List, [], ◌∷◌, Some, None, Ok, Err, ℤ, ◌≡◌, refl, sym, ap, ◌∙◌, subst, true}
use Rattle.meaning.specs.Tree.{Name, Tree}
use Rattle.meaning.specs.Tables.{Tables}
use Rattle.meaning.specs.Outcome.{Log, Accumulators, Fault, Outcome, Place, Reads, Enters, Updates, Reuses, Begins, Syncs, Leaves, Faults, Marks, Spawns, Out}
use Rattle.meaning.specs.Statements.{identities, proc_of}
use Rattle.meaning.specs.Elision.{start, main, elide, depth_limit}
use Rattle.meaning.specs.Records.{Kept}
use Rattle.meaning.specs.Trail.{run}
use Rattle.meaning.specs.SmallStep.{Lookup}
use Rattle.meaning.specs.Layers.{SameNotes, Notes, blank, notes, noted, noted_one, notes_of}
use Rattle.trail_theory.specs.Waiting.{HasNoReads}
use Rattle.trail_theory.specs.ReadsAtEnd.{IsOther, ReadsAtMainsEnd}
use Rattle.trail_theory.specs.Right.{AnswersFor, LookupIsSound, IsRecorded, RecordedAreSound}
use Rattle.trail_theory.specs.ElisionBeside.{forgotten, Fits, Matches, SaysElision}
use Rattle.trail_theory.proofs.Places.{both_ways}
use Rattle.trail_theory.proofs.Elides.{run_fits}
use Rattle.trail_theory.proofs.MainElides.{other_fits}

pub notes_forgotten : (l : Notes) (es : Log) → noted l es ≡ noted l (forgotten es)
notes_forgotten l [] = refl
notes_forgotten l (Reads r ∷ es) = notes_forgotten (noted_one l (Reads r)) es
notes_forgotten l (Enters f args d ∷ es) = notes_forgotten (noted_one l (Enters f args d)) es
notes_forgotten l (Updates n kind w ∷ es) = notes_forgotten (noted_one l (Updates n kind w)) es
notes_forgotten l (Reuses f args ws ∷ es) = notes_forgotten l es
notes_forgotten l (Begins n d ∷ es) = notes_forgotten l es
notes_forgotten l (Syncs n ∷ es) = notes_forgotten l es
notes_forgotten l (Spawns n ∷ es) = notes_forgotten l es
notes_forgotten l (Leaves n v ∷ es) = notes_forgotten l es
notes_forgotten l (Faults k ∷ es) = notes_forgotten l es
notes_forgotten l (Marks f args b ∷ es) = notes_forgotten l es

module _ (program : Tree) (tables : Tables) (sight : Accumulators) (lookup : Lookup) where
  said : (k : Kept) (depth : ℕ) (o : Out Fault ℤ) (es : Log) (w : Outcome) → SaysElision program k o depth → Fits o es w → (w ≡ Ok k.value) × SameNotes (notes program es) (notes_of k depth)
  said k depth o es (Ok v) s e = (sym (ap (λ x. x.answer) e.0) ∙ s.0, subst (λ w. SameNotes w (notes_of k depth)) (sym (notes_forgotten (blank program) es ∙ ap (λ x. notes program x.log) (sym e.0))) s.1)
  said k depth o es (Err j) s e = absurd (let q = sym e.0 ∙ s.0 in cc)

  -- of procedures whose elision is their stretch of the trail
  pub sound_for : (P : Name → Type 0) → ((left : ℕ) (f : Name) (vs : List ℤ) (n : Place) → P f → Matches (elide program tables (suc left) start f vs (identities program)) (run program tables sight left None f vs n)) → ((f : Name) (vs : List ℤ) (left : ℕ) (k : Kept) → P f → lookup f vs (depth_limit - left) ≡ Some k → SaysElision program k (elide program tables (suc left) start f vs (identities program)) (depth_limit - left)) → AnswersFor program tables sight lookup P
  sound_for P fits h =
      record {
        runs = λ f vs left n k p e. (said k (depth_limit - left) (elide program tables (suc left) start f vs (identities program)) (run program tables sight left None f vs n).events (run program tables sight left None f vs n).outcome (h f vs left k p e) (fits left f vs n p)).0;
        notes_are = λ f vs left n k p e. (said k (depth_limit - left) (elide program tables (suc left) start f vs (identities program)) (run program tables sight left None f vs n).events (run program tables sight left None f vs n).outcome (h f vs left k p e) (fits left f vs n p)).1;
      }

  pub sound_of : HasNoReads program → ((f : Name) (vs : List ℤ) (left : ℕ) (k : Kept) → lookup f vs (depth_limit - left) ≡ Some k → SaysElision program k (elide program tables (suc left) start f vs (identities program)) (depth_limit - left)) → LookupIsSound program tables sight lookup
  sound_of nr h = sound_for (λ f. Unit {0}) (λ left f vs n p. run_fits program tables sight nr left None start f vs n (identities program)) (λ f vs left k p e. h f vs left k e)

  pub narrower : (P Q : Name → Type 0) → ((f : Name) → Q f → P f) → AnswersFor program tables sight lookup P → AnswersFor program tables sight lookup Q
  narrower P Q w h = record { runs = λ f vs left n k q e. h.runs f vs left n k (w f q) e; notes_are = λ f vs left n k q e. h.notes_are f vs left n k (w f q) e }

  -- main isn't recorded
  pub recorded_other : ReadsAtMainsEnd program → (f : Name) → IsRecorded program f → IsOther f
  recorded_other ruled f memo e = both_ways (proc_of program main).memo (subst (λ g. (proc_of program g).memo ≡ true) e memo) ruled.unrecorded

  pub recorded_sound : ReadsAtMainsEnd program → ((f : Name) (vs : List ℤ) (left : ℕ) (k : Kept) → IsRecorded program f → lookup f vs (depth_limit - left) ≡ Some k → SaysElision program k (elide program tables (suc left) start f vs (identities program)) (depth_limit - left)) → RecordedAreSound program tables sight lookup
  recorded_sound ruled h =
      sound_for (IsRecorded program) (λ left f vs n memo. other_fits program tables sight ruled left None start f (recorded_other ruled f memo) vs n (identities program)) h
