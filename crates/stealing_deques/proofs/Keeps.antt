-- Each move keeps the rule of a deque.
use Rattle.std.proofs.Common.{◌≡◌, ◌≢◌, ◌<◌, ◌≤◌, ℕ, zero, suc, ◌+◌, ◌==◌, true, false, true≢false, List, [], ◌∷◌, ◌++◌, length, set, sym, refl, ap, ◌∙◌, subst, ⊎_elim, arith, length-append, if◌then◌else◌, Option, Some, None}
use Rattle.std.proofs.lemmas.Bool.Decides.{nat_tests}
use mathlib.Core.Option.{some, some-ne-none}
use lib.ListN.{get_elem?}
use Rattle.crossbeam_deque.specs.Tasks.{Pushes, Pops, Forks, Merges, Admits, Learns}
use Rattle.crossbeam_deque.proofs.Lists.{at_set, at_snoc}
use Rattle.stealing_deques.specs.declared.entry.Spot.{Spot}
use Rattle.stealing_deques.specs.declared.entry.PlainEntry.{PlainEntry}
use Rattle.stealing_deques.specs.declared.entry.Knowledge.{Knowledge}
use Rattle.stealing_deques.specs.Order.{times, count_held, once_below, GoesOn, IsChained, EndsAt, IsBoundTo, PlacesRise, AreSeen, FitsOwner, FitsThief, ComeBefore, turned, IsInOrder, knowing, after_push, after_pop, after_steal, IfOne}

at_end : (l : List Knowledge) (a b : Knowledge) (j : ℕ) → get_elem? l j ≢ some b → get_elem? (l ++ a ∷ []) j ≡ some b → j ≡ length l
at_end [] a b zero n e = refl
at_end [] a b (suc j) n e = absurd (some-ne-none b (sym e))
at_end (x ∷ xs) a b zero n e = absurd (n e)
at_end (x ∷ xs) a b (suc j) n e = ap suc (at_end xs a b j n e)

abbrev Each : (ℕ → Knowledge → Type 0) → List Knowledge → Type 0
Each F views = (port : ℕ) (v : Knowledge) → get_elem? views port ≡ some v → F port v

each_set : (F : ℕ → Knowledge → Type 0) (views : List Knowledge) (port : ℕ) (w : Knowledge) → F port w → ((j : ℕ) (u : Knowledge) → j ≢ port → get_elem? views j ≡ some u → F j u) → Each F (set views port w)
each_set F views port w mine others j u e = ⊎_elim (λ (x : (j ≡ port) × (w ≡ u)). subst (λ (y : ℕ × Knowledge). F y.0 y.1) (λ i. (sym x.0 i, x.1 i)) mine)
    (λ (x : (j ≢ port) × (get_elem? views j ≡ some u)). others j u x.0 x.1) (at_set views port j w u e)

abbrev one : ℕ → ℕ → ℕ
one x n = if n == x then 1 else 0

count_held_snoc : (x : ℕ) (cs : List PlainEntry) (c : PlainEntry) → count_held x (cs ++ c ∷ []) ≡ count_held x cs + (if c.number == x then 1 else 0)
count_held_snoc x [] c = omega arith
count_held_snoc x (d ∷ cs) c = omega (arith, count_held_snoc x cs c)

below_more : (x n : ℕ) → once_below x (n + 1) ≡ once_below x n + (if n == x then 1 else 0)
below_more x n = grind (arith, nat_tests)

chain_push_some : (cs : List PlainEntry) (here : Spot) (c : PlainEntry) → IsChained cs here → GoesOn c.to.name c.at.name → c.to ≡ here → IsChained (cs ++ c ∷ []) c.at
chain_push_some [] here c h g e = (g, refl)
chain_push_some (a ∷ []) here c h g e = (h.0, e ∙ sym h.1, (g, refl))
chain_push_some (a ∷ b ∷ cs) here c h g e = (h.0, h.1, chain_push_some (b ∷ cs) here c h.2 g e)

chain_push : (here : Option Spot) (cs : List PlainEntry) (c : PlainEntry) → EndsAt cs here → GoesOn c.to.name c.at.name → IsBoundTo here c.to → IsChained (cs ++ c ∷ []) c.at
chain_push None [] c h g e = (g, refl)
chain_push None (a ∷ cs) c h g e = absurd (omega arith)
chain_push (Some here) cs c h g e = chain_push_some cs here c h g e

chain_pop_some : (cs : List PlainEntry) (here : Spot) (c : PlainEntry) → IsChained (cs ++ c ∷ []) here → IsChained cs c.to × (c.at ≡ here)
chain_pop_some [] here c h = (tt, h.1)
chain_pop_some (a ∷ []) here c h = ((h.0, sym h.1), h.2.1)
chain_pop_some (a ∷ b ∷ cs) here c h = let r = chain_pop_some (b ∷ cs) here c h.2 in ((h.0, h.1, r.0), r.1)

chain_pop : (here : Option Spot) (cs : List PlainEntry) (c : PlainEntry) → EndsAt (cs ++ c ∷ []) here → IsChained cs c.to × (here ≡ Some c.at)
chain_pop None cs c h = absurd (omega (arith, h, length-append cs (c ∷ [])))
chain_pop (Some here) cs c h = let r = chain_pop_some cs here c h in (r.0, ap (λ (n : Spot). Some n) (sym r.1))

chain_steal : (here : Option Spot) (cs : List PlainEntry) (c : PlainEntry) → EndsAt (c ∷ cs) here → EndsAt cs here
chain_steal None cs c h = absurd (omega arith)
chain_steal (Some here) [] c h = tt
chain_steal (Some here) (a ∷ cs) c h = h.2

first_goes_on : (c : PlainEntry) (cs : List PlainEntry) (here : Spot) → IsChained (c ∷ cs) here → GoesOn c.to.name c.at.name
first_goes_on c [] here h = h.0
first_goes_on c (d ∷ cs) here h = h.0

places_rise_some : (cs : List PlainEntry) (here : Spot) → IsChained cs here → PlacesRise cs
places_rise_some [] here h = tt
places_rise_some (c ∷ []) here h = tt
places_rise_some (c ∷ d ∷ cs) here h = (subst (λ (s : Spot). GoesOn s.name d.at.name) h.1 (first_goes_on d cs here h.2), places_rise_some (d ∷ cs) here h.2)

places_rise : (here : Option Spot) (cs : List PlainEntry) → EndsAt cs here → PlacesRise cs
places_rise None [] h = tt
places_rise None (c ∷ cs) h = absurd (omega arith)
places_rise (Some here) cs h = places_rise_some cs here h

-- ---- the order of pushes

come_later : (m n : ℕ) (cs : List PlainEntry) → m ≤ n → ComeBefore m cs → ComeBefore n cs
come_later m n [] less h = tt
come_later m n (c ∷ cs) less h = let few : c.number < m = h.0 in (omega (arith, few, less), h.1)

turned_snoc : (cs taken : List PlainEntry) (c : PlainEntry) → turned (cs ++ c ∷ []) taken ≡ c ∷ turned cs taken
turned_snoc [] taken c = refl
turned_snoc (d ∷ cs) taken c = turned_snoc cs (d ∷ taken) c

-- what was stolen came before
stolen_before : (n : ℕ) (cs taken : List PlainEntry) → ComeBefore n (turned cs taken) → ComeBefore n taken
stolen_before n [] taken h = h
stolen_before n (c ∷ cs) taken h =
    let i : ComeBefore n (c ∷ taken) = stolen_before n cs (c ∷ taken) h in
    let few : c.number < n = i.0 in
    come_later c.number n taken (omega (arith, few)) i.1

come_push : (n : ℕ) (cs taken : List PlainEntry) (c : PlainEntry) → c.number ≡ n → ComeBefore n (turned cs taken) → ComeBefore (n + 1) (turned (cs ++ c ∷ []) taken)
come_push n cs taken c e h =
    subst (ComeBefore (n + 1)) (sym (turned_snoc cs taken c)) (omega (arith, e), subst (λ (m : ℕ). ComeBefore m (turned cs taken)) (sym e) h)

come_pop : (n : ℕ) (cs taken : List PlainEntry) (c : PlainEntry) → ComeBefore n (turned (cs ++ c ∷ []) taken) → ComeBefore n (turned cs taken)
come_pop n cs taken c h =
    let i : ComeBefore n (c ∷ turned cs taken) = subst (ComeBefore n) (turned_snoc cs taken c) h in
    let few : c.number < n = i.0 in
    come_later c.number n (turned cs taken) (omega (arith, few)) i.1

pub begins : IsInOrder [] (knowing true true 0 None [] [] ∷ [])
begins =
    let v = knowing true true 0 None [] [] in
    let F : ℕ → Knowledge → Type 0 = λ j u. FitsOwner 0 0 [] [] j u × FitsThief 0 [] j u in (
      0,
      0,
      0,
      [],
      [],
      (λ x. grind (arith, nat_tests)),
      omega arith,
      tt,
      each_set F (v ∷ []) 0 v ((λ _. (refl, refl, refl, refl)), λ _. (refl, refl)) (λ j u other e. absurd (other (at_end [] v u j (λ x. some-ne-none u (sym x)) e))),
    )

pub pushes : (port : ℕ) (v : Knowledge) (c : PlainEntry) → v.owns ≡ true → c.number ≡ v.pushed → GoesOn c.to.name c.at.name → IsBoundTo v.here c.to
    → Pushes IsInOrder port v (c ∷ []) (λ w. w ≡ after_push v c)
pushes port v c may number goes_on fits items views h at =
    let w : Knowledge = after_push v c in
    let mine = h.8 port v at in
    let o = mine.0 may in
    let F : ℕ → Knowledge → Type 0 = λ j u. FitsOwner h.0 (h.2 + 1) h.3 (items ++ c ∷ []) j u × FitsThief h.1 h.4 j u in (
      w,
      (
        h.0,
        h.1,
        h.2 + 1,
        h.3,
        h.4,
        (λ x.
            let e : one x c.number ≡ one x h.2 = ap (one x) (number ∙ o.1) in
            omega (arith, h.5 x, count_held_snoc x items c, below_more x h.2, e)),
        omega (arith, h.6, length-append items (c ∷ [])),
        come_push h.2 items h.4 c (number ∙ o.1) h.7,
        each_set F views port w
            ((λ _. (o.0, ap (λ (m : ℕ). m + 1) o.1, o.2, chain_push v.here items c o.3 goes_on fits)), mine.1)
            (λ j u other e. ((λ p. absurd (other (((h.8 j u e).0 p).0 ∙ sym o.0))), (h.8 j u e).1)),
      ),
      refl,
    )

pub pops : (port : ℕ) (v : Knowledge) → v.owns ≡ true → Pops IsInOrder port v (λ xs w. IfOne xs (λ c. (v.here ≡ Some c.at) × (w ≡ after_pop v c)))
pops port v may x items views h at =
    let w : Knowledge = after_pop v x in
    let mine = h.8 port v at in
    let o = mine.0 may in
    let popped = x.number ∷ h.3 in
    let F : ℕ → Knowledge → Type 0 = λ j u. FitsOwner h.0 h.2 popped items j u × FitsThief h.1 h.4 j u in (
      w,
      (
        h.0,
        h.1,
        h.2,
        popped,
        h.4,
        (λ y. omega (arith, h.5 y, count_held_snoc y items x)),
        omega (arith, h.6, length-append items (x ∷ [])),
        come_pop h.2 items h.4 x h.7,
        each_set F views port w
            ((λ _. (o.0, o.1, ap (λ (l : List ℕ). x.number ∷ l) o.2, (chain_pop v.here items x o.3).0)), mine.1)
            (λ j u other e. ((λ p. absurd (other (((h.8 j u e).0 p).0 ∙ sym o.0))), (h.8 j u e).1)),
      ),
      ((chain_pop v.here items x o.3).1, refl),
    )

pub steals_one : (port : ℕ) (v : Knowledge) (x : PlainEntry) → v.steals ≡ true → v.owns ≢ true → (items : List PlainEntry) (views : List Knowledge) → IsInOrder (x ∷ items) views → get_elem? views port ≡ some v
    → (w : Knowledge) × IsInOrder items (set views port w) × ((w ≡ after_steal v x) × ComeBefore x.number v.stolen)
steals_one port v x may apart items views h at =
    let w : Knowledge = after_steal v x in
    let mine = h.8 port v at in
    let t = mine.1 may in
    let stolen = x ∷ h.4 in
    let before : ComeBefore h.2 (x ∷ h.4) = stolen_before h.2 items (x ∷ h.4) h.7 in
    let F : ℕ → Knowledge → Type 0 = λ j u. FitsOwner h.0 h.2 h.3 items j u × FitsThief h.1 stolen j u in (
      w,
      (
        h.0,
        h.1,
        h.2,
        h.3,
        stolen,
        (λ y. omega (arith, h.5 y)),
        omega (arith, h.6),
        h.7,
        each_set F views port w
            ((λ p. absurd (apart p)), λ _. (t.0, ap (λ (l : List PlainEntry). x ∷ l) t.1))
            (λ j u other e. (
              (λ p. let f = (h.8 j u e).0 p in (f.0, f.1, f.2, chain_steal u.here items x f.3)),
              λ p. absurd (other (((h.8 j u e).1 p).0 ∙ sym t.0)),
            )),
      ),
      (refl, subst (λ (l : List PlainEntry). ComeBefore x.number l) (sym t.1) before.1),
    )

pub parts : (port : ℕ) (v : Knowledge) → v.owns ≡ true → v.steals ≡ true → (here : Option Spot) → ((items : List PlainEntry) → EndsAt items v.here → (length v.popped + length v.stolen) + length items ≡ v.pushed → EndsAt items here)
    → Forks IsInOrder port v (knowing true false v.pushed here v.popped []) (knowing false true 0 None [] v.stolen)
parts port v a b here keeps items views h at =
    let l : Knowledge = knowing true false v.pushed here v.popped [] in
    let r : Knowledge = knowing false true 0 None [] v.stolen in
    let mine = h.8 port v at in
    let o = mine.0 a in
    let t = mine.1 b in
    let vs : List Knowledge = set views port l in
    let Old : ℕ → Knowledge → Type 0 = λ j u. FitsOwner h.0 h.2 h.3 items j u × (u.steals ≢ true) in
    let count : (length v.popped + length v.stolen) + length items ≡ v.pushed = omega (arith, h.6, ap (λ (x : List ℕ). length x) o.2, ap (λ (x : List PlainEntry). length x) t.1, o.1) in
    let old : Each Old vs = each_set Old views port l ((λ _. (o.0, o.1, o.2, keeps items o.3 count)), λ p. true≢false (sym p))
    (λ j u other e. ((h.8 j u e).0, λ p. other (((h.8 j u e).1 p).0 ∙ sym t.0))) in (
      h.0,
      length vs,
      h.2,
      h.3,
      h.4,
      h.5,
      h.6,
      h.7,
      λ j u e. ⊎_elim (λ x. ((old j u x).0, λ p. absurd ((old j u x).1 p)))
          (λ (is : r ≡ u). ((λ p. absurd (true≢false (sym (ap (λ (y : Knowledge). y.owns) is ∙ p)))), λ p. (at_end vs r u j (λ x. (old j u x).1 p) e, ap (λ (y : Knowledge). y.stolen) (sym is) ∙ t.1))) (at_snoc vs r u j e),
    )

-- the thief's side goes its way
pub forks : (port : ℕ) (v : Knowledge) → v.owns ≡ true → v.steals ≡ true → Forks IsInOrder port v (knowing true false v.pushed v.here v.popped []) (knowing false true 0 None [] v.stolen)
forks port v a b = parts port v a b v.here (λ items c _. c)

-- where all that was pushed was taken, the deque is empty, and the owner may go on anywhere
pub forks_anew : (port : ℕ) (v : Knowledge) → v.owns ≡ true → v.steals ≡ true → length v.popped + length v.stolen ≡ v.pushed
    → Forks IsInOrder port v (knowing true false v.pushed None v.popped []) (knowing false true 0 None [] v.stolen)
forks_anew port v a b all = parts port v a b None (λ items _ count. omega (arith, all, count))

pub merges : (port : ℕ) (v : Knowledge) (other : ℕ) (u : Knowledge) → v.owns ≡ true → u.steals ≡ true
    → Merges IsInOrder port v other u (knowing true true v.pushed v.here v.popped u.stolen) (knowing false false 0 None [] [])
merges port v other u a b items views h at two at' =
    let both : Knowledge = knowing true true v.pushed v.here v.popped u.stolen in
    let spent : Knowledge = knowing false false 0 None [] [] in
    let mine = h.8 port v at in
    let o = mine.0 a in
    let vs : List Knowledge = set views port both in
    let was : get_elem? views other ≡ some u = ⊎_elim (λ x. absurd (two x.0)) (λ x. x.1) (at_set views port other both u at') in
    let theirs = (h.8 other u was).1 b in
    let Now : ℕ → Knowledge → Type 0 = λ j y. j ≢ other → FitsOwner h.0 h.2 h.3 items j y × FitsThief port h.4 j y in
    let now : Each Now vs = each_set Now views port both (λ _. ((λ _. o), λ _. (refl, theirs.1)))
    (λ j y _ e away. ((h.8 j y e).0, λ p. absurd (away (((h.8 j y e).1 p).0 ∙ sym theirs.0)))) in
    let All : ℕ → Knowledge → Type 0 = λ j y. FitsOwner h.0 h.2 h.3 items j y × FitsThief port h.4 j y in
    (h.0, port, h.2, h.3, h.4, h.5, h.6, h.7, each_set All vs other spent ((λ p. absurd (true≢false (sym p))), λ p. absurd (true≢false (sym p))) (λ j y away e. now j y e away))

pub admits : Admits IsInOrder (knowing false false 0 None [] [])
admits items views h =
    let g : Knowledge = knowing false false 0 None [] [] in (
      h.0,
      h.1,
      h.2,
      h.3,
      h.4,
      h.5,
      h.6,
      h.7,
      λ j u e. ⊎_elim (λ x. h.8 j u x)
          (λ (is : g ≡ u). ((λ p. absurd (true≢false (sym (ap (λ (y : Knowledge). y.owns) is ∙ p)))), λ p. absurd (true≢false (sym (ap (λ (y : Knowledge). y.steals) is ∙ p))))) (at_snoc views g u j e),
    )

-- what the owner sees at one moment
pub learns : (port : ℕ) (v : Knowledge) → v.owns ≡ true → Learns IsInOrder port v (AreSeen v)
learns port v may items views h at =
    let o = (h.8 port v at).0 may in (
      places_rise v.here items o.3,
      o.3,
      (
        h.4,
        (λ x.
            subst (λ (p : List ℕ). (times x p + count_held x h.4) + count_held x items ≡ once_below x v.pushed) (sym o.2)
            (subst (λ (m : ℕ). (times x h.3 + count_held x h.4) + count_held x items ≡ once_below x m) (sym o.1) (h.5 x))),
        omega (arith, h.6, o.1, ap (λ (l : List ℕ). length l) o.2),
        subst (λ (m : ℕ). ComeBefore m (turned items h.4)) (sym o.1) h.7,
      ),
    )
