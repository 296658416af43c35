-- A chain of operations, as a loop reads it.
use Rattle.std.proofs.Common.{◌≡◌, ℕ, suc, ◌+◌, ◌-◌, ◌<◌, ◌≤◌, true, false, ltb, Option, Some, None, Result, Ok, Err, refl, sym, subst, ◌∙◌, arith}
use Rattle.std.proofs.lemmas.Bool.{lt-ltb, le-ltb}
use Rattle.meaning.specs.declared.tree.Operator.{Operator}
use Rattle.token_readers.specs.declared.fault.ParseError.{ParseError}
use Rattle.token_readers.specs.declared.fault.ParseError.TheVariants as errors
use Rattle.token_scanner.specs.Words.{Words, rest}
use Rattle.source_tree.specs.Source.{Phrase, Bin, depth}
use Rattle.token_readers.specs.Reading.{◌>>=◌, Read, Fails, stuck_before}
use Rattle.procedure_parser.specs.Reading.{Reader, chain_at}

-- a fault passes on
pub passes : {A B : Type 0} (x : Result A Words) (f : A → Result B Words) (k : ℕ) → stuck_before x ≡ Some k → stuck_before (x >>= f) ≡ Some k
passes (Ok y) f k h = absurd cc
passes (Err e) f k h = h

module _ (operation : Words → Option Operator) (next : Reader) (r i : ℕ) (left : Phrase) (ts : Words) (total : Read Phrase) (within : i < r) (so_far : chain_at operation next (r - i) r left ts ≡ total) where
  -- with a turn left
  pub turn : chain_at operation next (suc (r - (i + 1))) r left ts ≡ total
  turn = let k : suc (r - (i + 1)) ≡ r - i = omega arith in rw k so_far

  pub stops : operation ts ≡ None → total ≡ Ok (left, ts)
  unfolding chain_at
  stops h = sym turn ∙ rw h refl

  pub full : (o : Operator) → operation ts ≡ Some o → r ≤ depth left → total ≡ Err ts
  unfolding chain_at
  full o h le = let f : ltb (depth left) r ≡ false = le-ltb _ _ le in sym turn ∙ rw (h, f) refl

  pub goes_on : (o : Operator) (b : Phrase) (us : Words) → operation ts ≡ Some o → depth left < r → next (r - 1) (rest ts) ≡ Ok (b, us) → chain_at operation next (r - (i + 1)) r (Bin o left b) us ≡ total
  unfolding chain_at
  goes_on o b us h lt n =
      let f : ltb (depth left) r ≡ true = lt-ltb _ _ lt in
      let e : chain_at operation next (suc (r - (i + 1))) r left ts ≡ chain_at operation next (r - (i + 1)) r (Bin o left b) us = rw (h, f, n) refl in
      sym e ∙ turn

  pub ends : (e : ParseError) (o : Operator) → operation ts ≡ Some o → depth left < r → Fails e (next (r - 1) (rest ts)) → Fails e total
  unfolding chain_at
  ends errors.Memory o h lt n = tt
  ends (errors.Stuck k) o h lt n =
      let f : ltb (depth left) r ≡ true = lt-ltb _ _ lt in
      let e : chain_at operation next (suc (r - (i + 1))) r left ts ≡ (next (r - 1) (rest ts) >>= λ x. chain_at operation next (r - (i + 1)) r (Bin o left x.0) x.1) = rw (h, f) refl in
      subst (λ (t : Read Phrase). stuck_before t ≡ Some k) (sym e ∙ turn) (passes (next (r - 1) (rest ts)) _ k n)

pub out : (operation : Words → Option Operator) (next : Reader) (r i : ℕ) (left : Phrase) (ts : Words) (total : Read Phrase) → r ≤ i → chain_at operation next (r - i) r left ts ≡ total → total ≡ Err ts
unfolding chain_at
out operation next r i left ts total le so_far =
    let k : r - i ≡ 0 = omega arith in
    let e : chain_at operation next (r - i) r left ts ≡ Err ts = rw k refl in
    sym so_far ∙ e
