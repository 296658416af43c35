-- Where a strand begins.
use Rattle.std.proofs.Common.{◌≡◌, ℕ, zero, suc, ◌-◌, ◌≤◌, ◌==◌, true, ◌&&◌, [], ◌∷◌, ◌++◌, length, take, refl, sym, ◌∙◌, ap, subst, arith}
use Rattle.std.specs.Prelude.{nat_eq}
use Rattle.std.proofs.Math.Dec.{eqb-suc-zero, eqb-suc-suc}
use Rattle.meaning.specs.Outcome.{Place}
use Rattle.meaning.specs.SmallStep.{root, behind, Start as NamedStart, is_entry, same_name}
use Rattle.std.proofs.lemmas.List.{take-append-le, length-append}
use Rattle.std.proofs.Math.Seq.{take-append_seam}
use Rattle.std.proofs.lemmas.Bool.{eq-eqb}
use Rattle.positions.specs.declared.phase.Phase.{Phase}
use Rattle.positions.specs.declared.phase.Phase.TheVariants.{Running}
use Rattle.positions.specs.declared.start.Start.{Start}
use Rattle.positions.specs.declared.start.Start.TheVariants.{Root, Behind}
use Rattle.positions.specs.Strands.{shorter, entry_by}
use Rattle.positions.specs.Stands.{IsWithin, IsStart}
use Rattle.positions.specs.Simulation.{IsBehind}

-- a strand keeps its beginning where what the instance does next allows it
pub start_moved : (st : Start) (ph ph' : Phase) (path path' : Place) (m : NamedStart)
    → ((d : ℕ) → IsWithin ph d (length path) → (take d path ≡ take d path') × IsWithin ph' d (length path')) → IsStart st ph path m → IsStart st ph' path' m
start_moved Root ph ph' path path' root f h = tt
start_moved Root ph ph' path path' (behind m j) f h = absurd h
start_moved (Behind d k) ph ph' path path' root f h = absurd h
start_moved (Behind d k) ph ph' path path' (behind m j) f h = (h.0 ∙ (f d h.2).0, h.1, (f d h.2).1)

-- a strand that begins behind a child by name does so by numbers
pub begins_behind : (st : Start) (ph : Phase) (path : Place) (m : Place) (j : ℕ) → IsStart st ph path (behind m j) → IsBehind st
begins_behind Root ph path m j h = absurd h
begins_behind (Behind d k) ph path m j h = tt

same_number : (a : ℕ) → nat_eq a a ≡ true
same_number a = eq-eqb a a refl

same_as_front : (d : ℕ) (path : Place) → d ≤ length path → same_name (take d path) path ≡ (length path == d)
same_as_front zero [] h = refl
same_as_front zero (a ∷ path) h = sym (eqb-suc-zero (length path))
same_as_front (suc d) [] h = absurd (omega arith)
same_as_front (suc d) (a ∷ path) h =
    ap (λ b. b && same_name (take d path) path) (same_number a) ∙ same_as_front d path (omega arith) ∙ sym (eqb-suc-suc (length path) d)

-- whether the strand begins in the instance of that name
pub entry_is : (st : Start) (path : Place) (m : NamedStart) → IsStart st Running path m → is_entry m path ≡ entry_by st path
entry_is Root path root h = refl
entry_is Root path (behind m j) h = absurd h
entry_is (Behind d k) path root h = absurd h
entry_is (Behind d k) path (behind m j) h = ap (λ n. same_name n path) h.0 ∙ same_as_front d path h.2

-- ---- the name of a child

pub longer : (path : Place) (k : ℕ) → length (path ++ k ∷ []) ≡ suc (length path)
longer path k = omega (arith, length-append path (k ∷ []))

pub shorter_child : (path : Place) (k : ℕ) → shorter (path ++ k ∷ []) ≡ path
shorter_child path k =
    ap (λ n. take n (path ++ k ∷ [])) (let e : length (path ++ k ∷ []) - 1 ≡ length path = omega (arith, length-append path (k ∷ [])) in e) ∙ take-append_seam path (k ∷ [])

-- the strand's beginning, seen from a child of its topmost instance
pub start_in_child : (st : Start) (ph ph' : Phase) (path : Place) (k : ℕ) (m : NamedStart)
    → ((d : ℕ) → IsWithin ph d (length path) → (d ≤ length path) × IsWithin ph' d (suc (length path))) → IsStart st ph path m → IsStart st ph' (path ++ k ∷ []) m
start_in_child st ph ph' path k m f h =
    start_moved st ph ph' path (path ++ k ∷ []) m
    (λ d w. (sym (take-append-le d path (k ∷ []) (f d w).0), subst (IsWithin ph' d) (sym (longer path k)) (f d w).1)) h
