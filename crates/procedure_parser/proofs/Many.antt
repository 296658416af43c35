-- One item after the other, as a loop reads them.
use Rattle.std.proofs.Common.{◌≡◌, ℕ, suc, ◌-◌, ◌+◌, ◌≤◌, ◌<◌, Bool, true, false, List, [], ◌∷◌, ◌++◌, Some, Ok, Err, refl, sym, ap, subst, ◌∙◌, append_assoc, arith}
use Rattle.std.proofs.lemmas.List.{append-nil}
use Rattle.token_readers.specs.declared.fault.ParseError.{ParseError}
use Rattle.token_readers.specs.declared.fault.ParseError.TheVariants as errors
use Rattle.token_scanner.specs.Words.{Words}
use Rattle.token_readers.specs.Reading.{◌>>=◌, Read, Fails, stuck_before}
use Rattle.procedure_parser.specs.Reading.{many_go, with_front}
use Rattle.procedure_parser.proofs.Chain.{passes}

pub regroup : {A : Type 0} (front : List A) (n : A) (read : Read (List A)) → with_front front (read >>= λ x. Ok (n ∷ x.0, x.1)) ≡ with_front (front ++ n ∷ []) read
regroup front n (Ok x) = ap (λ (ns : List _). Ok (ns, x.1)) (simp append_assoc)
regroup front n (Err f) = refl

module _ {A : Type 0} (go : Words → Bool) (item : Words → Read A) (front : List A) (n i : ℕ) (ts : Words) (total : Read (List A)) (so_far : with_front front (many_go go item (n - i) ts) ≡ total) where
  turn : i < n → with_front front (many_go go item (suc (n - (i + 1))) ts) ≡ total
  turn lt = let k : suc (n - (i + 1)) ≡ n - i = omega arith in rw k so_far

  pub next_item : i < n → go ts ≡ true → (x : A) (us : Words) → item ts ≡ Ok (x, us) → with_front (front ++ x ∷ []) (many_go go item (n - (i + 1)) us) ≡ total
  unfolding many_go
  next_item lt g x us e =
      let one : with_front front (many_go go item (suc (n - (i + 1))) ts) ≡ with_front (front ++ x ∷ []) (many_go go item (n - (i + 1)) us) = rw (g, e) (regroup front x (many_go go item (n - (i + 1)) us)) in
      sym one ∙ turn lt

  pub no_item : i < n → go ts ≡ false → total ≡ Ok (front, ts)
  unfolding many_go
  no_item lt g =
      let one : with_front front (many_go go item (suc (n - (i + 1))) ts) ≡ Ok (front, ts) = rw g (ap (λ (ns : List A). Ok (ns, ts)) (append-nil front)) in
      sym (turn lt) ∙ one

  pub no_turn : n ≤ i → total ≡ Ok (front, ts)
  unfolding many_go
  no_turn le =
      let k : n - i ≡ 0 = omega arith in
      let one : with_front front (many_go go item (n - i) ts) ≡ Ok (front, ts) = rw k (ap (λ (ns : List A). Ok (ns, ts)) (append-nil front)) in
      sym so_far ∙ one

  pub item_fails : (e : ParseError) → i < n → go ts ≡ true → Fails e (item ts) → Fails e total
  unfolding many_go
  item_fails errors.Memory lt g h = tt
  item_fails (errors.Stuck k) lt g h =
      let e : with_front front (many_go go item (suc (n - (i + 1))) ts) ≡ with_front front (item ts >>= λ x. many_go go item (n - (i + 1)) x.1 >>= λ xs. Ok (x.0 ∷ xs.0, xs.1)) = rw g refl in
      subst (λ (t : Read (List A)). stuck_before t ≡ Some k) (sym e ∙ turn lt) (passes (item ts >>= λ x. many_go go item (n - (i + 1)) x.1 >>= λ xs. Ok (x.0 ∷ xs.0, xs.1)) _ k (passes (item ts) _ k h))
