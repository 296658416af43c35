-- What readers of several items do.
use Rattle.std.proofs.Common.{◌≡◌, ℕ, zero, suc, ◌<◌, ◌≤◌, Bool, true, false, cond, List, [], ◌∷◌, length, Ok, Err, refl, sym, ap, subst, ◌∙◌, arith, ◌⊎◌, inl, inr}
use Rattle.std.proofs.lemmas.List.{nil_from_length}
use Rattle.token_scanner.specs.Words.{Words}
use Rattle.token_readers.specs.Reading.{◌>>=◌, Read}
use Rattle.procedure_parser.specs.Reading.{many_go, many_at}
use Rattle.procedure_parser.specs.Grammar.{Form, Many, nil, cons}
use Rattle.procedure_parser.proofs.Law.{Reply, LawAt, IsLocal, by_reply, reply_as, if_true, if_false, gives_at, then_at}
use Rattle.procedure_parser.proofs.Head.{on_bool}

-- what a reader that has a law has read is in its form
pub read_form : {A : Type 0} (P : Words → Read A) (R : Form A) (ts : Words) (x : A) (us : Words) → LawAt P R ts → P ts ≡ Ok (x, us) → R x ts us
read_form P R ts x us law e =
    let r : Reply P R ts (Ok (x, us)) = subst (λ (z : Read _). Reply P R ts z) e law in
    subst (λ (w : Words). R x w us) (sym r.is) (r.holds us)

pub on_read : {A : Type 0} (y : Read A) → ((z : A × Words) × (y ≡ Ok z)) ⊎ ((us : Words) × (y ≡ Err us))
on_read (Ok z) = inl (z, refl)
on_read (Err us) = inr (us, refl)

module _ {A : Type 0} (go : Words → Bool) (item : Words → Read A) (R : Form A) (go_local : IsLocal go) (go_end : go [] ≡ false) (law : (ts : Words) → go ts ≡ true → LawAt item R ts) (short : (x : A) (ts us : Words) → R x ts us → length us < length ts) where
  abbrev step : (Words → Read (List A)) → Words → Read (List A)
  step rec w = item w >>= λ x. rec x.1 >>= λ xs. Ok (x.0 ∷ xs.0, xs.1)

  shortens : (ts us : Words) (x : A) → go ts ≡ true → item ts ≡ Ok (x, us) → length us < length ts
  shortens ts us x g e = short x ts us (read_form item R ts x us (law ts g) e)

  -- enough turns are as good as any
  fuel : (k j : ℕ) (ts : Words) → length ts ≤ k → length ts ≤ j → many_go go item k ts ≡ many_go go item j ts
  unfolding many_go
  fuel zero zero ts h i = refl
  fuel zero (suc j) ts h i = let e : ts ≡ [] = nil_from_length ts (omega arith) in let g : go ts ≡ false = ap go e ∙ go_end in rw g refl
  fuel (suc k) zero ts h i = let e : ts ≡ [] = nil_from_length ts (omega arith) in let g : go ts ≡ false = ap go e ∙ go_end in rw g refl
  fuel (suc k) (suc j) ts h i =
      elim (on_bool (go ts)) [
        | inr g ↦ rw g refl
        | inl g ↦ elim (on_read (item ts)) [
          | inl (z, e) ↦ let lt = shortens ts z.1 z.0 g e in let f = fuel k j z.1 (omega (arith, lt)) (omega (arith, lt)) in rw (g, e, f) refl
          | inr (us, e) ↦ rw (g, e) refl
        ]
      ]

  abbrev unrolled : Words → Read (List A)
  unrolled w = cond (go w) (step (many_at go item) w) (Ok ([], w))

  unroll : (ts : Words) → many_at go item ts ≡ unrolled ts
  unfolding many_go
  unroll [] = rw go_end refl
  unroll (t ∷ ts) =
      elim (on_bool (go (t ∷ ts))) [
        | inr g ↦ rw g refl
        | inl g ↦ elim (on_read (item (t ∷ ts))) [
          | inl (z, e) ↦ let lt = shortens (t ∷ ts) z.1 z.0 g e in let f = fuel (length ts) (length z.1) z.1 (omega (arith, lt)) (omega arith) in rw (g, e, f) refl
          | inr (us, e) ↦ rw (g, e) refl
        ]
      ]

  rolled : (ts : Words) → LawAt unrolled (Many R) ts → LawAt (many_at go item) (Many R) ts
  rolled ts l =
      by_reply (many_at go item) (Many R) ts (unrolled ts) (unroll ts)
      (reply_as unrolled (many_at go item) (Many R) (Many R) ts (unrolled ts) (λ f us x is k. unroll (f.run x)) (λ a us vs r. r) l)

  pub many_law : (n : ℕ) (ts : Words) → length ts ≤ n → LawAt (many_at go item) (Many R) ts
  many_law zero ts h =
      let e : ts ≡ [] = nil_from_length ts (omega arith) in
      let g : go ts ≡ false = ap go e ∙ go_end in
      rolled ts (if_false (Many R) go (step (many_at go item)) (λ w. Ok ([], w)) ts go_local g (gives_at (Many R) [] ts (λ v. nil v)))
  many_law (suc n) ts h =
      rolled ts (elim (on_bool (go ts)) [
        | inr g ↦ if_false (Many R) go (step (many_at go item)) (λ w. Ok ([], w)) ts go_local g (gives_at (Many R) [] ts (λ v. nil v))
        | inl g ↦ if_true (Many R) go (step (many_at go item)) (λ w. Ok ([], w)) ts go_local g
            (then_at item (λ x w. many_at go item w >>= λ xs. Ok (x ∷ xs.0, xs.1)) R (Many R) ts (law ts g)
            (λ v. (v, λ x us r. (x ∷ [], cons x [] us v v r (nil v))))
            (λ x us r. then_at (many_at go item) (λ xs w. Ok (x ∷ xs, w)) (Many R) _ us (many_law n us (omega (arith, short x ts us r)))
            (λ v. (v, λ xs ws q. (x ∷ xs, λ zs p. cons x xs zs ws v p q)))
            (λ xs ws q. gives_at _ (x ∷ xs) ws (λ v ys p zs m. cons x xs zs ys v m p))))
      ])

  -- what begins so, and is read where what stands behind may do so
  abbrev pub OnlyItem : (Words → Type 0) → Type 0
  OnlyItem Ends = (ts us : Words) (x : A) → R x ts us → (go ts ≡ true) × Ends ts × (Ends us → item ts ≡ Ok (x, us))

  pub many_ends : (Ends : Words → Type 0) → OnlyItem Ends → (xs : List A) (us vs : Words) → Many R xs us vs → Ends vs → Ends us
  many_ends Ends only _ _ _ (nil ts) e = e
  many_ends Ends only _ _ _ (cons x xs ts us vs r m) e = (only ts us x r).1

  -- what is in the form is read
  pub only_many : (Ends : Words → Type 0) → OnlyItem Ends → (xs : List A) (ts us : Words) → Many R xs ts us → Ends us → go us ≡ false → many_at go item ts ≡ Ok (xs, us)
  only_many Ends only _ _ _ (nil ts) e g = unroll ts ∙ rw g refl
  only_many Ends only _ _ _ (cons x xs ts us vs r m) e g =
      let i = only_many Ends only xs us vs m e g in
      let o = only ts us x r in
      let f = o.2 (many_ends Ends only xs us vs m e) in
      unroll ts ∙ rw (o.0, f, i) refl
