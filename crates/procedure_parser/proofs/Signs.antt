-- The numbers of an initial value, as a loop reads them.
use Rattle.std.proofs.Common.{◌≡◌, ℕ, suc, ◌-◌, ◌+◌, ◌≤◌, ◌<◌, ℤ, true, false, List, [], ◌∷◌, ◌++◌, Some, Ok, refl, sym, ap, subst, ◌∙◌, arith}
use Rattle.std.proofs.lemmas.List.{append-nil}
use Rattle.token_readers.specs.declared.fault.ParseError.{ParseError}
use Rattle.token_readers.specs.declared.fault.ParseError.TheVariants as errors
use Rattle.token_scanner.specs.declared.token.Mark.TheVariants.{Comma}
use Rattle.token_scanner.specs.Words.{Words, starts, rest}
use Rattle.token_readers.specs.Reading.{◌>>=◌, Read, Fails, stuck_before}
use Rattle.procedure_parser.specs.Reading.{signed_at, more_signed_at, with_front}
use Rattle.procedure_parser.proofs.Chain.{passes}
use Rattle.procedure_parser.proofs.Many.{regroup}

module _ (front : List ℤ) (n i : ℕ) (ts : Words) (total : Read (List ℤ)) (so_far : with_front front (more_signed_at (n - i) ts) ≡ total) where
  turn : i < n → with_front front (more_signed_at (suc (n - (i + 1))) ts) ≡ total
  turn lt = let k : suc (n - (i + 1)) ≡ n - i = omega arith in rw k so_far

  pub next_signed : i < n → starts Comma ts ≡ true → (x : ℤ) (us : Words) → signed_at (rest ts) ≡ Ok (x, us) → with_front (front ++ x ∷ []) (more_signed_at (n - (i + 1)) us) ≡ total
  unfolding more_signed_at
  next_signed lt g x us e =
      let one : with_front front (more_signed_at (suc (n - (i + 1))) ts) ≡ with_front (front ++ x ∷ []) (more_signed_at (n - (i + 1)) us) = rw (g, e) (regroup front x (more_signed_at (n - (i + 1)) us)) in
      sym one ∙ turn lt

  pub no_signed : i < n → starts Comma ts ≡ false → total ≡ Ok (front, ts)
  unfolding more_signed_at
  no_signed lt g =
      let one : with_front front (more_signed_at (suc (n - (i + 1))) ts) ≡ Ok (front, ts) = rw g (ap (λ (ns : List ℤ). Ok (ns, ts)) (append-nil front)) in
      sym (turn lt) ∙ one

  pub last_turn : n ≤ i → with_front front (more_signed_at 0 ts) ≡ total
  last_turn le = let k : n - i ≡ 0 = omega arith in subst (λ m. with_front front (more_signed_at m ts) ≡ total) k so_far

  pub signed_fails : (e : ParseError) → i < n → starts Comma ts ≡ true → Fails e (signed_at (rest ts)) → Fails e total
  unfolding more_signed_at
  signed_fails errors.Memory lt g h = tt
  signed_fails (errors.Stuck k) lt g h =
      let e : with_front front (more_signed_at (suc (n - (i + 1))) ts) ≡ with_front front (signed_at (rest ts) >>= λ x. more_signed_at (n - (i + 1)) x.1 >>= λ xs. Ok (x.0 ∷ xs.0, xs.1)) = rw g refl in
      subst (λ (t : Read (List ℤ)). stuck_before t ≡ Some k) (sym e ∙ turn lt) (passes (signed_at (rest ts) >>= λ x. more_signed_at (n - (i + 1)) x.1 >>= λ xs. Ok (x.0 ∷ xs.0, xs.1)) _ k (passes (signed_at (rest ts)) _ k h))
