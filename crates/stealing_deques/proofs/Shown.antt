-- What holds of lists of entries holds of lists of things that are shown as entries.
use Rattle.std.proofs.Common.{◌≡◌, ◌≢◌, ℕ, ◌+◌, true, false, List, [], ◌∷◌, length, map, set, sym, subst, arith, Some, None}
use Rattle.std.proofs.lemmas.List.{map-append}
use Rattle.crossbeam_deque.specs.Tasks.{Pushes, Takes, Pops, Forks, Merges, Admits, Learns}
use Rattle.stealing_deques.specs.declared.entry.PlainEntry.{PlainEntry}
use Rattle.stealing_deques.specs.declared.entry.Knowledge.{Knowledge}
use Rattle.stealing_deques.specs.Order.{GoesOn, IsBoundTo, ComeBefore, IsInOrder, AreSeen, IfOne, knowing, owning, stealing, after_push, after_pop, after_steal}
use Rattle.stealing_deques.proofs.Keeps as plain

module _ {E : Type 0} (f : E → PlainEntry) where
  abbrev Rule : List E → List Knowledge → Type 0
  Rule items views = IsInOrder (map f items) views

  pub pushes : (port : ℕ) (v : Knowledge) (x : E) → v.owns ≡ true → (f x).number ≡ v.pushed → GoesOn (f x).to.name (f x).at.name → IsBoundTo v.here (f x).to
      → Pushes Rule port v (x ∷ []) (λ w. w ≡ after_push v (f x))
  pushes port v x may number goes_on fits items views h at =
      let r = plain.pushes port v (f x) may number goes_on fits (map f items) views h at in
      (r.0, subst (λ (l : List PlainEntry). IsInOrder l (set views port r.0)) (sym (map-append f items (x ∷ []))) r.1, r.2)

  pub pops : (port : ℕ) (v : Knowledge) → v.owns ≡ true → Pops Rule port v (λ xs w. IfOne (map f xs) (λ c. (v.here ≡ Some c.at) × (w ≡ after_pop v c)))
  pops port v may x items views h at =
      plain.pops port v may (f x) (map f items) views (subst (λ (l : List PlainEntry). IsInOrder l views) (map-append f items (x ∷ [])) h) at

  pub takes : (port : ℕ) (v : Knowledge) → v.steals ≡ true → v.owns ≢ true → Takes Rule port v 1 (λ xs w. IfOne (map f xs) (λ c. (w ≡ after_steal v c) × ComeBefore c.number v.stolen))
  takes port v may apart [] items views lo few h at = absurd (omega (arith, lo))
  takes port v may apart (x ∷ []) items views lo few h at = plain.steals_one port v (f x) may apart (map f items) views h at
  takes port v may apart (x ∷ y ∷ zs) items views lo few h at = absurd (omega (arith, few))

  pub forks : (port : ℕ) (v : Knowledge) → v.owns ≡ true → v.steals ≡ true → Forks Rule port v (owning v v.here) (stealing v)
  forks port v a b = λ items views h at. plain.forks port v a b (map f items) views h at

  pub forks_anew : (port : ℕ) (v : Knowledge) → v.owns ≡ true → v.steals ≡ true → length v.popped + length v.stolen ≡ v.pushed → Forks Rule port v (owning v None) (stealing v)
  forks_anew port v a b all = λ items views h at. plain.forks_anew port v a b all (map f items) views h at

  pub merges : (port : ℕ) (v : Knowledge) (other : ℕ) (u : Knowledge) → v.owns ≡ true → u.steals ≡ true
      → Merges Rule port v other u (knowing true true v.pushed v.here v.popped u.stolen) (knowing false false 0 None [] [])
  merges port v other u a b = λ items views h at two at'. plain.merges port v other u a b (map f items) views h at two at'

  pub admits : Admits Rule (knowing false false 0 None [] [])
  admits items views h = plain.admits (map f items) views h

  pub learns : (port : ℕ) (v : Knowledge) → v.owns ≡ true → Learns Rule port v (λ items. AreSeen v (map f items))
  learns port v may items views h at = plain.learns port v may (map f items) views h at
