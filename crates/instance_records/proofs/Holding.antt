-- What lies in spans lies in those that have their rows.
use Rattle.std.proofs.Common.{◌≡◌, ℕ, ℤ, Bool, true, false, true≢false, not, List, [], ◌∷◌, refl, sym, ap, ◌∙◌, arith}
use Rattle.std.proofs.lemmas.Int.{ints}
use Rattle.std.proofs.lemmas.Bool.Decides.{Decides-eqb}
use Rattle.std.specs.Prelude.{◌&&◌, ◌||◌, nat_eq, int_le}
use Rattle.std.specs.List.{list_any}
use Rattle.evaluation.specs.declared.note.Note.{Note}
use Rattle.evaluation.specs.declared.note.Note.TheVariants.{Cell, Has, Limit, Sum}
use Rattle.instance_records.specs.declared.spans.Span.{Span}
use Rattle.instance_records.specs.Spans.{has_row, has_rows, hold_rows, covers, is_covered_by}
use Rattle.record_theory.proofs.Members.{left_is, right_is, both}
use Rattle.instance_records.proofs.Covered.{le_is, is_le}

between : (low high a b row : ℤ) → int_le low a && int_le b high ≡ true → int_le a row && int_le row b ≡ true → int_le low row && int_le row high ≡ true
between low high a b row e f =
    let below = is_le low a (left_is (int_le low a) (int_le b high) e) in
    let above = is_le b high (right_is (int_le low a) (int_le b high) e) in
    let from = is_le a row (left_is (int_le a row) (int_le row b) f) in
    let upto = is_le row b (right_is (int_le a row) (int_le row b) f) in
    both (int_le low row) (int_le row high) (le_is low row (omega (arith, ints, below, from))) (le_is row high (omega (arith, ints, above, upto)))

either_rows : (v w p q r : Bool) → (p ≡ true → q ≡ true → r ≡ true) → v || (not w && p) ≡ true → w || q ≡ true → v || r ≡ true
either_rows true w p q r f e g = refl
either_rows false true p q r f e g = absurd (true≢false (sym e))
either_rows false false p q r f e g = f e g

either_whole : (v w p : Bool) → v || (not w && p) ≡ true → w ≡ true → v ≡ true
either_whole true w p e g = refl
either_whole false true p e g = e
either_whole false false p e g = absurd (true≢false (sym g))

module _ (s x : Span) where
  same_table : has_rows s x ≡ true → s.table ≡ x.table
  same_table e = (Decides-eqb s.table x.table).0 (left_is (nat_eq s.table x.table) (s.whole || (not x.whole && (int_le s.low x.low && int_le x.high s.high))) e)

  has_its_row : (row : ℤ) → has_rows s x ≡ true → has_row x row ≡ true → has_row s row ≡ true
  has_its_row row e =
      either_rows s.whole x.whole (int_le s.low x.low && int_le x.high s.high) (int_le x.low row && int_le row x.high) (int_le s.low row && int_le row s.high) (between s.low s.high x.low x.high row)
      (right_is (nat_eq s.table x.table) (s.whole || (not x.whole && (int_le s.low x.low && int_le x.high s.high))) e)

  is_whole : has_rows s x ≡ true → x.whole ≡ true → s.whole ≡ true
  is_whole e =
      either_whole s.whole x.whole (int_le s.low x.low && int_le x.high s.high)
      (right_is (nat_eq s.table x.table) (s.whole || (not x.whole && (int_le s.low x.low && int_le x.high s.high))) e)

  of_table : (t : ℕ) (a b : Bool) → has_rows s x ≡ true → (a ≡ true → b ≡ true) → nat_eq x.table t && a ≡ true → nat_eq s.table t && b ≡ true
  of_table t a b e f g = both (nat_eq s.table t) b (ap (λ n. nat_eq n t) (same_table e) ∙ left_is (nat_eq x.table t) a g) (f (right_is (nat_eq x.table t) a g))

covers_too : (s x : Span) (note : Note) → has_rows s x ≡ true → covers note x ≡ true → covers note s ≡ true
covers_too s x (Cell t row c v) e = of_table s x t (has_row x row) (has_row s row) e (has_its_row s x row e)
covers_too s x (Has t row there) e = of_table s x t (has_row x row) (has_row s row) e (has_its_row s x row e)
covers_too s x (Limit t v) e = of_table s x t x.whole s.whole e (is_whole s x e)
covers_too s x (Sum t c v) e = of_table s x t x.whole s.whole e (is_whole s x e)

one_of : (spans : List Span) (x : Span) (note : Note) → list_any (λ s. has_rows s x) spans ≡ true → covers note x ≡ true → is_covered_by spans note ≡ true
one_of [] x note e g = e
one_of (s ∷ ss) x note e g =
    elim (has_rows s x) as (λ b. has_rows s x ≡ b → b || list_any (λ y. has_rows y x) ss ≡ true → covers note s || is_covered_by ss note ≡ true) [
      | true ↦ λ h f. ap (λ b. b || is_covered_by ss note) (covers_too s x note h g)
      | false ↦ λ h f. behind (covers note s) (is_covered_by ss note) (one_of ss x note f g)
    ] refl e
  where
    behind : (a b : Bool) → b ≡ true → a || b ≡ true
    behind true b e = refl
    behind false b e = e

pub held_by : (spans others : List Span) (note : Note) → hold_rows spans others ≡ true → is_covered_by others note ≡ true → is_covered_by spans note ≡ true
held_by spans [] note e g = absurd (true≢false (sym g))
held_by spans (x ∷ xs) note e g =
    elim (covers note x) as (λ b. covers note x ≡ b → b || is_covered_by xs note ≡ true → is_covered_by spans note ≡ true) [
      | true ↦ λ h f. one_of spans x note (left_is (list_any (λ s. has_rows s x) spans) (hold_rows spans xs) e) h
      | false ↦ λ h f. held_by spans xs note (right_is (list_any (λ s. has_rows s x) spans) (hold_rows spans xs) e) f
    ] refl g
