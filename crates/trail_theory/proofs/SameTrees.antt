-- What the test for the same procedure finds the same is the same.
use Rattle.std.proofs.Common.{ℕ, List, [], ◌∷◌, Option, Some, None, ℤ, ◌≡◌, refl, ap, ap₂, true, false, Bool, eqb-true, nat_eq, ◌&&◌}
use Rattle.std.proofs.lemmas.Slice.Eq.{bytes_eq-Decides}
use Rattle.std.specs.Str.{bytes_eq}
use Rattle.std.specs.Ordering.{int_eq}
use Rattle.std.proofs.lemmas.Bool.Decides.{Decides-int_eq}
use Rattle.meaning.specs.declared.tree.Operator.{Operator}
use Rattle.meaning.specs.declared.tree.Operator.TheVariants as o
use Rattle.meaning.specs.declared.tree.Way.{Way}
use Rattle.meaning.specs.declared.tree.Way.TheVariants.{Call, Spawn}
use Rattle.meaning.specs.Tree.{Name, Term, number, name, cell, has, limit, sum, negate, binary, Deed, bind, enter, read, sync, update, choose, loop, give, Body, end, step, Proc}
use Rattle.meaning.specs.Edits.{same_operator, same_term, same_terms, same_way, same_into, same_deed, same_body, same_names, same_mark, same_proc}
use Rattle.trail_theory.proofs.KeptRecords.{both_left, both_right}

pub name_true : (a b : Name) → bytes_eq a b ≡ true → a ≡ b
name_true a b e = (bytes_eq-Decides a b).0 e

number_true : (m n : ℤ) → int_eq m n ≡ true → m ≡ n
number_true m n e = (Decides-int_eq m n).0 e

operator_true : (p q : Operator) → same_operator p q ≡ true → p ≡ q
operator_true o.Add o.Add e = refl
operator_true o.Subtract o.Subtract e = refl
operator_true o.Multiply o.Multiply e = refl
operator_true o.Divide o.Divide e = refl
operator_true o.Remainder o.Remainder e = refl
operator_true o.Equal o.Equal e = refl
operator_true o.Unequal o.Unequal e = refl
operator_true o.Less o.Less e = refl
operator_true o.AtMost o.AtMost e = refl
operator_true o.Greater o.Greater e = refl
operator_true o.AtLeast o.AtLeast e = refl
operator_true p q e = absurd cc

way_true : (v w : Way) → same_way v w ≡ true → v ≡ w
way_true Call Call e = refl
way_true Spawn Spawn e = refl
way_true v w e = absurd cc

into_true : (x y : Option ℕ) → same_into x y ≡ true → x ≡ y
into_true None None e = refl
into_true (Some x) (Some y) e = ap Some (eqb-true x y e)
into_true x y e = absurd cc

both : (a b : Bool) → a && b ≡ true → (a ≡ true) × (b ≡ true)
both a b e = (both_left a b e, both_right a b e)

term_true : (s t : Term) → same_term s t ≡ true → s ≡ t
term_true (number m) (number n) e = λ i. number (number_true m n e i)
term_true (name x) (name y) e = λ i. name (eqb-true x y e i)
term_true (cell t a c) (cell u b d) e =
    let h3 = both (bytes_eq t u && same_term a b) (bytes_eq c d) e in
    let h2 = both (bytes_eq t u) (same_term a b) h3.0 in
    λ i. cell (name_true t u h2.0 i) (term_true a b h2.1 i) (name_true c d h3.1 i)
term_true (has t a) (has u b) e =
    let h2 = both (bytes_eq t u) (same_term a b) e in
    λ i. has (name_true t u h2.0 i) (term_true a b h2.1 i)
term_true (limit t) (limit u) e = λ i. limit (name_true t u e i)
term_true (sum t c) (sum u d) e =
    let h2 = both (bytes_eq t u) (bytes_eq c d) e in
    λ i. sum (name_true t u h2.0 i) (name_true c d h2.1 i)
term_true (negate a) (negate b) e = λ i. negate (term_true a b e i)
term_true (binary p a b) (binary q c d) e =
    let h3 = both (same_operator p q && same_term a c) (same_term b d) e in
    let h2 = both (same_operator p q) (same_term a c) h3.0 in
    λ i. binary (operator_true p q h2.0 i) (term_true a c h2.1 i) (term_true b d h3.1 i)
term_true s t e = absurd cc

terms_true : (es fs : List Term) → same_terms es fs ≡ true → es ≡ fs
terms_true [] [] e = refl
terms_true (a ∷ es) (b ∷ fs) e = let h = both (same_term a b) (same_terms es fs) e in ap₂ ◌∷◌ (term_true a b h.0) (terms_true es fs h.1)
terms_true es fs e = absurd cc

mutual
  deed_true : (d e : Deed) → same_deed d e ≡ true → d ≡ e
  deed_true (bind x a) (bind y b) e =
      let h2 = both (nat_eq x y) (same_term a b) e in
      λ i. bind (eqb-true x y h2.0 i) (term_true a b h2.1 i)
  deed_true (enter x v f es) (enter y w g fs) e =
      let h4 = both (same_into x y && same_way v w && bytes_eq f g) (same_terms es fs) e in
      let h3 = both (same_into x y && same_way v w) (bytes_eq f g) h4.0 in
      let h2 = both (same_into x y) (same_way v w) h3.0 in
      λ i. enter (into_true x y h2.0 i) (way_true v w h2.1 i) (name_true f g h3.1 i) (terms_true es fs h4.1 i)
  deed_true (read x r) (read y s) e =
      let h2 = both (nat_eq x y) (bytes_eq r s) e in
      λ i. read (eqb-true x y h2.0 i) (name_true r s h2.1 i)
  deed_true sync sync e = refl
  deed_true (update r es) (update s fs) e =
      let h2 = both (bytes_eq r s) (same_terms es fs) e in
      λ i. update (name_true r s h2.0 i) (terms_true es fs h2.1 i)
  deed_true (choose q a b) (choose f c d) e =
      let h3 = both (same_term q f && same_body a c) (same_body b d) e in
      let h2 = both (same_term q f) (same_body a c) h3.0 in
      λ i. choose (term_true q f h2.0 i) (body_true a c h2.1 i) (body_true b d h3.1 i)
  deed_true (loop x a b g f es) (loop y c d h k fs) e =
      let h6 = both (nat_eq x y && same_term a c && same_term b d && nat_eq g h && bytes_eq f k) (same_terms es fs) e in
      let h5 = both (nat_eq x y && same_term a c && same_term b d && nat_eq g h) (bytes_eq f k) h6.0 in
      let h4 = both (nat_eq x y && same_term a c && same_term b d) (nat_eq g h) h5.0 in
      let h3 = both (nat_eq x y && same_term a c) (same_term b d) h4.0 in
      let h2 = both (nat_eq x y) (same_term a c) h3.0 in
      λ i. loop (eqb-true x y h2.0 i) (term_true a c h2.1 i) (term_true b d h3.1 i) (eqb-true g h h4.1 i) (name_true f k h5.1 i) (terms_true es fs h6.1 i)
  deed_true (give a) (give b) e = λ i. give (term_true a b e i)
  deed_true d d' e = absurd cc

  body_true : (a b : Body) → same_body a b ≡ true → a ≡ b
  body_true end end e = refl
  body_true (step m d rest) (step n c more) e =
      let h3 = both (nat_eq m n && same_deed d c) (same_body rest more) e in
      let h2 = both (nat_eq m n) (same_deed d c) h3.0 in
      λ i. step (eqb-true m n h2.0 i) (deed_true d c h2.1 i) (body_true rest more h3.1 i)
  body_true a b e = absurd cc

names_true : (xs ys : List Name) → same_names xs ys ≡ true → xs ≡ ys
names_true [] [] e = refl
names_true (x ∷ xs) (y ∷ ys) e = let h = both (bytes_eq x y) (same_names xs ys) e in ap₂ ◌∷◌ (name_true x y h.0) (names_true xs ys h.1)
names_true xs ys e = absurd cc

mark_true : (a b : Bool) → same_mark a b ≡ true → a ≡ b
mark_true true true e = refl
mark_true false false e = refl
mark_true true false e = absurd cc
mark_true false true e = absurd cc

-- of the same name
pub proc_true : (p q : Proc) → p.called ≡ q.called → same_proc p q ≡ true → p ≡ q
proc_true p q c e =
    let h4 = both (same_mark p.memo q.memo && nat_eq p.parameters q.parameters && same_names p.names q.names) (same_body p.body q.body) e in
    let h3 = both (same_mark p.memo q.memo && nat_eq p.parameters q.parameters) (same_names p.names q.names) h4.0 in
    let h2 = both (same_mark p.memo q.memo) (nat_eq p.parameters q.parameters) h3.0 in
    λ i. record { called = c i; memo = mark_true p.memo q.memo h2.0 i; parameters = eqb-true p.parameters q.parameters h2.1 i; names = names_true p.names q.names h3.1 i; body = body_true p.body q.body h4.1 i }
