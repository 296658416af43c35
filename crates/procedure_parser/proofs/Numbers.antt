-- Numbers within bounds.
use Rattle.std.proofs.Common.{◌≡◌, ℕ, ◌≤◌, ℤ, pos, negsuc, Bool, true, false, [], ◌∷◌, Option, Some, None, Ok, Err, refl, sym, ap, subst, ◌∙◌, inl, inr}
use Rattle.std.specs.Prelude.{nat_le, ◌&&◌, cond}
use Rattle.std.proofs.lemmas.Bool.{leb-true, le-leb}
use Rattle.token_scanner.specs.Words.{Name, Number, Sign, Bad, Over, Words, rest, for_some, front_count, count_of}
use Rattle.token_readers.specs.Reading.{◌>>=◌, Read, or_stuck, count_within, within_of, within_at}
use Rattle.procedure_parser.specs.Grammar.{Form, Within, within}
use Rattle.procedure_parser.proofs.Law.{nothing, LawAt, IsLocal, by_reply, reply_as, gives_at, skip_at, heads_run}
use Rattle.procedure_parser.proofs.Head.{on_bool, on_option, local}

number_there : (z : ℤ) (n l : ℕ) (us : Words) → count_of z ≡ Some n → (Number z, l) ∷ us ≡ (Number (pos n), l) ∷ us
number_there (pos k) n l us h = let e : k ≡ n = (cc) in ap (λ (k : ℕ). (Number (pos k), l) ∷ us) e
number_there (negsuc k) n l us h = absurd cc

count_is : (ts : Words) (n : ℕ) → front_count ts ≡ Some n → (l : ℕ) × (us : Words) × (ts ≡ (Number (pos n), l) ∷ us)
count_is [] n h = absurd cc
count_is ((Number z, l) ∷ us) n h = (l, us, number_there z n l us h)
count_is ((Name y, l) ∷ us) n h = absurd cc
count_is ((Sign m, l) ∷ us) n h = absurd cc
count_is ((Bad, l) ∷ us) n h = absurd cc
count_is ((Over, l) ∷ us) n h = absurd cc

both_true : (a b : Bool) → (a && b) ≡ true → (a ≡ true) × (b ≡ true)
both_true true true h = (refl, refl)
both_true true false h = absurd cc
both_true false b h = absurd cc

bounds : (low high n k : ℕ) → count_within low high n ≡ Some k → (n ≡ k) × (low ≤ k) × (k ≤ high)
bounds low high n k h =
    elim (on_bool (nat_le low n && nat_le n high)) [
      | inl t ↦
          let g : Some n ≡ Some k = sym (ap (λ (b : Bool). cond b (Some n) None) t) ∙ h in
          let e : n ≡ k = (cc) in
          let p = both_true (nat_le low n) (nat_le n high) t in
          (e, subst (λ (k : ℕ). low ≤ k) e (leb-true _ _ p.0), subst (λ (k : ℕ). k ≤ high) e (leb-true _ _ p.1))
      | inr f ↦ let g : None ≡ Some k = sym (ap (λ (b : Bool). cond b (Some n) None) f) ∙ h in absurd (cc)
    ]

within_is : (low high : ℕ) (ts : Words) (k : ℕ) → within_of low high ts ≡ Some k → (l : ℕ) × (us : Words) × (ts ≡ (Number (pos k), l) ∷ us) × (low ≤ k) × (k ≤ high)
unfolding within_of
within_is low high ts k h =
    elim (on_option (front_count ts)) [
      | inl n ↦ let g : None ≡ Some k = sym (ap (λ (o : Option ℕ). for_some o None (count_within low high)) n) ∙ h in absurd (cc)
      | inr (n, e) ↦
          let g : count_within low high n ≡ Some k = sym (ap (λ (o : Option ℕ). for_some o None (count_within low high)) e) ∙ h in
          let b = bounds low high n k g in
          let s = count_is ts n e in
          (s.0, s.1, subst (λ (k : ℕ). ts ≡ (Number (pos k), s.0) ∷ s.1) b.0 s.2, b.1, b.2)
    ]

within_local : (low high : ℕ) → IsLocal (within_of low high)
unfolding within_of
within_local low high = local (within_of low high) (λ w us vs. refl)

-- where one number is within the bounds
pub within_law : (low high some : ℕ) → low ≤ some → some ≤ high → (ts : Words) → LawAt (within_at low high) (Within low high) ts
unfolding within_at
within_law low high some ge le ts =
    elim (on_option (within_of low high ts)) [
      | inl n ↦ by_reply (within_at low high) (Within low high) ts (Err ts) (ap (λ (o : Option ℕ). or_stuck ts o) n) (record {
        front = nothing;
        is = refl;
        goes = λ v. ((Number (pos some), 0) ∷ v, some, within some 0 v ge le);
        same = λ v k. ap (λ (o : Option ℕ). or_stuck v o) (sym (within_local low high ts v k) ∙ n);
      })
      | inr (n, e) ↦
          let s = within_is low high ts n e in
          let there : (w : Words) → within_of low high w ≡ Some n → within_at low high w ≡ Ok (n, rest w) = λ w h. ap (λ (o : Option ℕ). or_stuck w o) h in
          by_reply (within_at low high) (Within low high) ts (Ok (n, rest ts)) (there ts e)
          (reply_as (λ w. Ok (n, rest w)) (within_at low high) (Within low high) (Within low high) ts (Ok (n, rest ts))
          (λ f us v is k. there (f.run v) (sym (within_local low high (f.run us) (f.run v) (heads_run f us v k)) ∙ ap (within_of low high) (sym is) ∙ e)) (λ a us vs r. r)
          (subst (λ (w : Words). LawAt (λ w. Ok (n, rest w)) (Within low high) w) (sym s.2)
          (skip_at (λ w. Ok (n, w)) (λ a us vs. Within low high a ((Number (pos n), s.0) ∷ us) vs) (Within low high) (Number (pos n), s.0) s.1 (λ a us vs p. p) (gives_at _ n s.1 (λ v. within n s.0 v s.3 s.4)))))
    ]

-- ---- a number that has to come, and what stands behind it

module _ {A : Type 0} (low high some : ℕ) (ge : low ≤ some) (le : some ≤ high) (K : ℕ → Words → Read A) (T : Form A) where
  abbrev counts : Words → Read A
  counts w = within_at low high w >>= λ z. K z.0 z.1

  count_on : (w : Words) (n : ℕ) → within_of low high w ≡ Some n → counts w ≡ K n (rest w)
  unfolding within_at
  count_on w n h = ap (λ (o : Option ℕ). or_stuck w o >>= λ z. K z.0 z.1) h

  count_not : (w : Words) → within_of low high w ≡ None → counts w ≡ Err w
  unfolding within_at
  count_not w h = ap (λ (o : Option ℕ). or_stuck w o >>= λ z. K z.0 z.1) h

  abbrev pub Counted : ℕ → Form A
  Counted n a us vs = (l : ℕ) → T a ((Number (pos n), l) ∷ us) vs

  counted : (ts : Words) (n l : ℕ) (us : Words) → within_of low high ts ≡ Some n → ts ≡ (Number (pos n), l) ∷ us → LawAt (K n) (Counted n) us → LawAt counts T ts
  counted ts n l us h e law =
      let skipped : LawAt (λ w. K n (rest w)) T ts = subst (λ (w : Words). LawAt (λ w. K n (rest w)) T w) (sym e) (skip_at (K n) (Counted n) T (Number (pos n), l) us (λ a us vs r. r l) law) in
      by_reply counts T ts (K n (rest ts)) (count_on ts n h)
      (reply_as (λ w. K n (rest w)) counts T T ts (K n (rest ts)) (λ f us v is k. count_on (f.run v) n (sym (within_local low high (f.run us) (f.run v) (heads_run f us v k)) ∙ ap (within_of low high) (sym is) ∙ h)) (λ a us vs r. r) skipped)

  pub within_then_at : (ts : Words) → ((x : Words) → (y : Words) × (a : A) × ((l : ℕ) → T a ((Number (pos some), l) ∷ y) x)) → ((n : ℕ) (us : Words) → low ≤ n → n ≤ high → LawAt (K n) (Counted n) us) → LawAt counts T ts
  within_then_at ts fill law =
      elim (on_option (within_of low high ts)) [
        | inr (n, h) ↦ let s = within_is low high ts n h in counted ts n s.0 s.1 h s.2 (law n s.1 s.3 s.4)
        | inl h ↦ by_reply counts T ts (Err ts) (count_not ts h) (record {
          front = nothing;
          is = refl;
          goes = λ x. let f = fill x in ((Number (pos some), 0) ∷ f.0, f.1, f.2 0);
          same = λ x k. count_not x (sym (within_local low high ts x k) ∙ h);
        })
      ]

pub only_within : (low high n : ℕ) (ts us : Words) → Within low high n ts us → within_at low high ts ≡ Ok (n, us)
unfolding within_at within_of
only_within low high _ _ _ (within n l us ge le) =
    let a : nat_le low n ≡ true = le-leb _ _ ge in
    let b : nat_le n high ≡ true = le-leb _ _ le in
    rw (a, b) refl
