use Rattle.std.proofs.Common.{rules, ◌≡◌, ◌<◌, ◌∙◌, ◌++◌, ◌∷◌, sym, ap, subst, arith, length, get_or, take, drop, ℤ, List}
use Rattle.std.proofs.Common.{of_z}
use Rattle.std.proofs.lemmas.List.{get_or_default}
use Rattle.std.specs.Int.{w64, cast_signed}
use Rattle.std.specs.Prelude.{FitsSigned, ◌+ℤ◌, ◌<ℤ◌, ◌≤ℤ◌}
use Rattle.std.proofs.lemmas.Int.{to_z-of_z}
use Rattle.monoid_laws.specs.Kinds.{wrap, add_at}
use Rattle.monoid_laws.proofs.Amounts.{add_at_found, add_at_new, lt_or_same}
use Rattle.reducer_values.proofs.adding.add_amount.Goals as goal
use Rattle.reducer_values.proofs.adding.add_amount.Goals.{then-i-len+else-found-key, else-i-len}

pub returns-then-found-key-clause-added : goal.returns-then-found-key-clause-added
returns-then-found-key-clause-added c =
    let xs = c.args.amounts.now.items in
    let f : FitsSigned w64 c.args.key = c.ranges.key in
    let fa : FitsSigned w64 c.args.amount = c.ranges.amount in
    let g : FitsSigned w64 c.sum_of.result = search rules in
    let fk : FitsSigned w64 c.index.result.now.0 = search rules in
    let fh : FitsSigned w64 c.index.result.now.1 = search rules in
    let s : c.sum_of.result ≡ wrap (c.args.amount +ℤ c.index.result.now.1) = simp to_z-of_z at c.sum_of.ensures in
    let t : c.index.result.now.0 ≡ c.args.key = simp to_z-of_z at (ap (cast_signed w64) c.if-found-key.true) in
    let h : c.key_index-i.result < length xs = search rules in
    let p : add_at c.args.key c.args.amount xs ≡ take c.key_index-i.result xs ++ add_at c.args.key c.args.amount (drop c.key_index-i.result xs) = simp (to_z-of_z, c.deref.ensures.value) at (c.key_index-i.ensures.passed c.args.amount) in
    simp to_z-of_z (add_at_found xs c.key_index-i.result c.args.key c.args.amount c.sum_of.result c.index.result.now h c.index.ensures (sym t) s p)

reach : (c : goal.In-Ok) (e : ℤ × ℤ) → c.key_index-i.result < length c.args.amounts.now.items → e ≡ get_or c.args.amounts.now.items c.key_index-i.result e → c.args.key ≤ℤ e.0
reach c e h is =
    let f : FitsSigned w64 c.args.key = c.ranges.key in
    simp to_z-of_z at (subst (λ (l : List (ℤ × ℤ)). (e : ℤ × ℤ) → c.key_index-i.result < length l → e ≡ get_or l c.key_index-i.result e → cast_signed w64 (of_z w64 c.args.key) ≤ℤ e.0)
    c.deref.ensures.value c.key_index-i.ensures.reached e h is)

differs : (c : goal.In-Ok) (e : ℤ × ℤ) → c.key_index-i.result < length c.args.amounts.now.items → e ≡ get_or c.args.amounts.now.items c.key_index-i.result e → ¬ (e.0 ≡ c.args.key)
differs c e h is s = elim c.if-i-len.branch [
  | then-i-len+else-found-key w ↦
      (let t : w.index.result.now ≡ e = w.index.ensures ∙ get_or_default c.args.amounts.now.items c.key_index-i.result w.index.result.now e h ∙ sym is in
      w.if-found-key.false (ap (of_z w64) (ap (λ (p : ℤ × ℤ). p.0) t ∙ s)))
  | else-i-len w ↦ absurd (omega (arith, h, w.if-i-len.false, c.len.ensures, c.args.amounts.now.ok.0))
]

higher : (c : goal.In-Ok) (e : ℤ × ℤ) → c.key_index-i.result < length c.args.amounts.now.items → e ≡ get_or c.args.amounts.now.items c.key_index-i.result e → c.args.key <ℤ e.0
higher c e h is = lt_or_same c.args.key e.0 (reach c e h is) (differs c e h is)

pub returns-in-Ok-clause-added : goal.returns-in-Ok-clause-added
returns-in-Ok-clause-added c =
    let xs = c.args.amounts.now.items in
    let f : FitsSigned w64 c.args.key = c.ranges.key in
    let fa : FitsSigned w64 c.args.amount = c.ranges.amount in
    let p : add_at c.args.key c.args.amount xs ≡ take c.key_index-i.result xs ++ add_at c.args.key c.args.amount (drop c.key_index-i.result xs) =
    simp (to_z-of_z, c.deref.ensures.value) at (c.key_index-i.ensures.passed c.args.amount) in
    let k : c.insert.new.self.items ≡ take c.key_index-i.result xs ++ (c.args.key, c.args.amount) ∷ drop c.key_index-i.result xs = simp to_z-of_z at c.in-Ok.ensures.items in
    k ∙ add_at_new xs c.key_index-i.result c.args.key c.args.amount (λ e h is. higher c e h is) p
