-- Values so far, and the rest of them.
use Rattle.std.proofs.Common.{◌≡◌, ◌<◌, ◌+◌, ℕ, Bool, false, cond, is_ok, is_err, List, [], ◌∷◌, ◌++◌, ℤ, Result, Ok, Err, length, drop, get_or, refl, sym, ap, ◌∙◌, append_assoc}
use Rattle.std.proofs.lemmas.List.{drop_more}
use Rattle.meaning.specs.declared.FaultKind.{FaultKind}
use Rattle.meaning.specs.Outcome.{Log, Out, ◌>>=◌, onward, pure}

abbrev pub before : List ℤ → Result (List ℤ) FaultKind → Result (List ℤ) FaultKind
before vs (Ok ws) = Ok (vs ++ ws)
before vs (Err e) = Err e

-- what a call leaves that wasn't refused
pub when_done : {A B : Type 0} {X : Type 0} (r : Result A B) (b : Bool) (new x y : X) → b ≡ is_err r → b ≡ false → new ≡ cond (is_ok r) x y → new ≡ x
when_done (Ok a) b new x y is not done = done
when_done (Err e) b new x y is not done = absurd cc

-- ---- one value more

abbrev with_first : ℤ → Out FaultKind (List ℤ) → Out FaultKind (List ℤ)
with_first v o = o >>= (λ vs. pure (v ∷ vs))

values_more : (numbers more : List ℤ) (v : ℤ) (log : Log) (r : Result (List ℤ) FaultKind) → more ≡ numbers ++ v ∷ []
    → before numbers (onward log r (λ vs. pure (v ∷ vs))).answer ≡ before more r
values_more numbers more v log (Ok vs) is = ap Ok (sym (append_assoc numbers (v ∷ []) vs) ∙ ap (λ l. l ++ vs) (sym is))
values_more numbers more v log (Err k) is = refl

module _ {X : Type 0} (all : List X → Out FaultKind (List ℤ)) (xs : List X) (i : ℕ) (x : X) (there : i < length xs) (here : x ≡ get_or xs i x) (m : Out FaultKind ℤ)
    (first : all (x ∷ drop (i + 1) xs) ≡ m >>= (λ v. with_first v (all (drop (i + 1) xs)))) (whole : Result (List ℤ) FaultKind) (numbers : List ℤ)
    (so_far : whole ≡ before numbers (all (drop i xs)).answer) where
  next : whole ≡ before numbers (m >>= (λ v. with_first v (all (drop (i + 1) xs)))).answer
  next =
      let left : drop i xs ≡ x ∷ drop (i + 1) xs = drop_more xs i x there ∙ ap (λ y. y ∷ drop (i + 1) xs) (sym here) in
      so_far ∙ ap (λ l. before numbers (all l).answer) left ∙ ap (λ (o : Out FaultKind (List ℤ)). before numbers o.answer) first

  pub next_fails : (k : FaultKind) → m.answer ≡ Err k → whole ≡ Err k
  next_fails k is = next ∙ ap (λ r. before numbers (onward m.log r (λ v. with_first v (all (drop (i + 1) xs)))).answer) is

  pub next_gives : (v : ℤ) (more : List ℤ) → m.answer ≡ Ok v → more ≡ numbers ++ v ∷ [] → whole ≡ before more (all (drop (i + 1) xs)).answer
  next_gives v more is longer =
      next ∙ ap (λ r. before numbers (onward m.log r (λ w. with_first w (all (drop (i + 1) xs)))).answer) is
      ∙ values_more numbers more v (all (drop (i + 1) xs)).log (all (drop (i + 1) xs)).answer longer
