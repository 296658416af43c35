-- Rows of one table that are joined before they are put in.
use Rattle.std.proofs.Common.{◌≡◌, ℕ, ℤ, Bool, true, false, cond, List, [], ◌∷◌, map, refl, sym, ap, ◌∙◌}
use Rattle.std.specs.Prelude.{◌||◌, nat_eq, Some, slice_get}
use Rattle.std.specs.Int.{int_min, int_max}
use Rattle.std.proofs.lemmas.Bool.Decides.{Decides-eqb}
use Rattle.monoid_laws.proofs.Numbers.{min_assoc, max_assoc}
use Rattle.evaluation.specs.declared.reading.Reading.{Reading}
use Rattle.instance_records.specs.declared.spans.Span.{Span}
use Rattle.instance_records.specs.Spans.{span_of, joined, put_span, put_spans}
use Rattle.instance_records.proofs.Covered.{put_twice}

abbrev pub made : ℕ → Bool → ℤ → ℤ → Span
made t w l h = record { table = t; whole = w; low = l; high = h }

or_assoc : (a b c : Bool) → (a || b) || c ≡ a || (b || c)
or_assoc true b c = refl
or_assoc false b c = refl

or_none : (a : Bool) → a ≡ a || false
or_none true = refl
or_none false = refl

joined_assoc : (a b c : Span) → joined (joined a b) c ≡ joined a (joined b c)
joined_assoc a b c =
    ap (λ w. made a.table w (int_min (int_min a.low b.low) c.low) (int_max (int_max a.high b.high) c.high)) (or_assoc a.whole b.whole c.whole)
    ∙ ap (λ l. made a.table (a.whole || (b.whole || c.whole)) l (int_max (int_max a.high b.high) c.high)) (min_assoc a.low b.low c.low)
    ∙ ap (made a.table (a.whole || (b.whole || c.whole)) (int_min a.low (int_min b.low c.low))) (max_assoc a.high b.high c.high)

-- what is put in behind rows of the same table may be joined with them before
pub put_joined : (xs : List Span) (a b : Span) → b.table ≡ a.table → put_span xs (joined a b) ≡ put_span (put_span xs a) b
put_joined [] a b e = ap (λ t. cond t (joined a b ∷ []) (a ∷ b ∷ [])) (sym ((Decides-eqb a.table b.table).1 (sym e)))
put_joined (x ∷ xs) a b e =
    elim (nat_eq x.table a.table) as (λ t. nat_eq x.table a.table ≡ t → cond t (joined x (joined a b) ∷ xs) (x ∷ put_span xs (joined a b)) ≡ put_span (cond t (joined x a ∷ xs) (x ∷ put_span xs a)) b) [
      | true ↦ λ t.
          ap (λ z. z ∷ xs) (sym (joined_assoc x a b))
          ∙ ap (λ c. cond c (joined (joined x a) b ∷ xs) (joined x a ∷ put_span xs b)) (sym (ap (nat_eq x.table) e ∙ t))
      | false ↦ λ t.
          ap (λ zs. x ∷ zs) (put_joined xs a b e)
          ∙ ap (λ c. cond c (joined x b ∷ put_span xs a) (x ∷ put_span (put_span xs a) b)) (sym (ap (nat_eq x.table) e ∙ t))
    ] refl

-- the same of one row more
pub put_row : (xs : List Span) (a : Span) (row : ℤ) (b : Span) → b ≡ made a.table false row row → put_span xs (made a.table a.whole (int_min a.low row) (int_max a.high row)) ≡ put_span (put_span xs a) b
put_row xs a row b e =
    ap (λ w. put_span xs (made a.table w (int_min a.low row) (int_max a.high row))) (or_none a.whole)
    ∙ put_joined xs a (made a.table false row row) refl
    ∙ ap (put_span (put_span xs a)) (sym e)

-- the rows of the first are there already
pub put_first_twice : (own : List Reading) (xs : List Span) (s : Span) (first : Reading) → s ≡ span_of first → slice_get own 0 ≡ Some first
    → put_spans (put_span xs s) (map span_of own) ≡ put_spans xs (map span_of own)
put_first_twice [] xs s first e f = absurd cc
put_first_twice (x ∷ own) xs s first e f =
    let same : first ≡ x = cc in
    ap (λ t. put_spans (put_span (put_span xs t) (span_of x)) (map span_of own)) (e ∙ ap span_of same)
    ∙ ap (λ ss. put_spans ss (map span_of own)) (put_twice xs (span_of x))
