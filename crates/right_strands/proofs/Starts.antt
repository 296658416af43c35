-- Where strands begin, by numbers and by names.
use Rattle.std.proofs.Common.{◌≡◌, inl, inr, ℕ, suc, ◌+◌, ◌<◌, ◌≤◌, List, ◌∷◌, length, refl, sym, ap, ap₂, ◌∙◌, arith}
use Rattle.std.specs.Prelude.{pos}
use Rattle.std.proofs.lemmas.List.{length-take-le, length-append}
use Rattle.meaning.specs.Outcome.{Place}
use Rattle.meaning.specs.SmallStep.{Start as NamedStart, root, behind}
use Rattle.trail_theory.specs.TaskFits.{Spot}
use Rattle.positions.specs.declared.phase.Phase.{Phase}
use Rattle.positions.specs.declared.phase.Phase.TheVariants.{Entering, Running, AtSpawn, Returning, Leaving, Broken}
use Rattle.positions.specs.declared.start.Start.{Start}
use Rattle.positions.specs.declared.start.Start.TheVariants.{Root, Behind}
use Rattle.positions.specs.Stands.{IsStart, IsWithin}

-- a strand has one beginning by names, whatever its phase
pub start_same : (st : Start) (ph ph' : Phase) (path : List ℕ) (m m' : NamedStart) → IsStart st ph path m → IsStart st ph' path m' → m ≡ m'
start_same Root ph ph' path root root h i = refl
start_same Root ph ph' path root (behind m k) h i = absurd i
start_same Root ph ph' path (behind m k) m' h i = absurd h
start_same (Behind d c) ph ph' path root m' h i = absurd h
start_same (Behind d c) ph ph' path (behind m k) root h i = absurd i
start_same (Behind d c) ph ph' path (behind m k) (behind n l) h i =
    let e : m ≡ n = h.0 ∙ sym i.0 in
    let f : k ≡ l = h.1 ∙ sym i.1 in
    ap (λ p. behind p k) e ∙ ap (behind n) f

within_le : (ph : Phase) (d n : ℕ) → IsWithin ph d n → d ≤ n
within_le Entering d n h = let k : d < n = h in omega arith
within_le Running d n h = h
within_le AtSpawn d n h = let k : d < n = h in omega arith
within_le (Returning v) d n h = h
within_le (Leaving v) d n h = let k : d < n = h in omega arith
within_le (Broken f) d n h = h

-- a beginning by name is that of one place by numbers
abbrev start_by : NamedStart → Start
start_by root = Root
start_by (behind m k) = Behind (length m) k

start_is : (st : Start) (ph : Phase) (path : List ℕ) (m : NamedStart) → IsStart st ph path m → st ≡ start_by m
start_is Root ph path root h = refl
start_is Root ph path (behind m k) h = absurd h
start_is (Behind d c) ph path root h = absurd h
start_is (Behind d c) ph path (behind m k) h =
    let e : length m ≡ d = ap length h.0 ∙ length-take-le d path (within_le ph d (length path) h.2) in
    ap₂ Behind (sym e) (sym h.1)

pub starts_same : (st st' : Start) (ph ph' : Phase) (path path' : List ℕ) (m : NamedStart) → IsStart st ph path m → IsStart st' ph' path' m → st ≡ st'
starts_same st st' ph ph' path path' m h i = start_is st ph path m h ∙ sym (start_is st' ph' path' m i)

-- a strand that has come to a child began before it
pub start_tight : (st : Start) (path : List ℕ) (m : NamedStart) (n : Place) (c : ℕ) → length path ≡ suc (length n) → Spot m n c → IsStart st AtSpawn path m → IsStart st (Leaving (pos 0)) path m
start_tight Root path root n c long s h = tt
start_tight Root path (behind m k) n c long s h = absurd h
start_tight (Behind d j) path root n c long s h = absurd h
start_tight (Behind d j) path (behind m k) n c long (inl s) h =
    let short : length m ≡ d = ap length h.0 ∙ length-take-le d path (within_le AtSpawn d (length path) h.2) in
    let same : length n ≡ length m = ap length s.0 in
    (h.0, h.1, omega arith)
start_tight (Behind d j) path (behind m k) n c long (inr s) h =
    let short : length m ≡ d = ap length h.0 ∙ length-take-le d path (within_le AtSpawn d (length path) h.2) in
    let longer : length n ≡ length m + suc (length s.path) = ap length s.is ∙ length-append m (s.child ∷ s.path) in
    (h.0, h.1, omega arith)
