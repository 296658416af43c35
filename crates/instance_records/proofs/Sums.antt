-- Where no reading is of a sum and no span has all rows, no sum was read.
use Rattle.std.proofs.Common.{◌≡◌, ℕ, ℤ, Bool, true, false, true≢false, List, [], ◌∷◌, map, refl, ap, ◌∙◌}
use Rattle.std.specs.Prelude.{◌&&◌, ◌||◌, nat_eq}
use Rattle.std.specs.List.{list_any}
use Rattle.evaluation.specs.declared.note.Note.TheVariants.{Sum}
use Rattle.evaluation.specs.declared.reading.Reading.{Reading}
use Rattle.evaluation.specs.declared.reading.Reading.TheVariants as r
use Rattle.evaluation.specs.Short.{note_of}
use Rattle.instance_records.specs.Spans.{is_covered_by}
use Rattle.instance_records.specs.Readings.{is_a_sum}
use Rattle.instance_records.specs.declared.spans.Span.{Span}
use Rattle.record_theory.specs.Same.{is_read}

pub no_sums : (own : List Reading) (table column : ℕ) (value : ℤ) → list_any is_a_sum own ≡ false → is_read (map note_of own) (Sum table column value) ≡ false
no_sums [] table column value e = refl
no_sums (r.Cell c t row v ∷ rs) table column value e = no_sums rs table column value e
no_sums (r.Has there t row ∷ rs) table column value e = no_sums rs table column value e
no_sums (r.Limit t v ∷ rs) table column value e = no_sums rs table column value e
no_sums (r.Sum c t v ∷ rs) table column value e = absurd (true≢false e)

not_whole : (a b rest : Bool) → b || rest ≡ false → (a && b ≡ false) × (rest ≡ false)
not_whole true true rest e = absurd (true≢false e)
not_whole true false rest e = (refl, e)
not_whole false true rest e = absurd (true≢false e)
not_whole false false rest e = (refl, e)

pub no_whole : (spans : List Span) (table column : ℕ) (value : ℤ) → list_any (λ (s : Span). s.whole) spans ≡ false → is_covered_by spans (Sum table column value) ≡ false
no_whole [] table column value e = refl
no_whole (s ∷ ss) table column value e =
    let parts = not_whole (nat_eq s.table table) s.whole (list_any (λ (x : Span). x.whole) ss) e in
    ap (λ b. b || is_covered_by ss (Sum table column value)) parts.0 ∙ no_whole ss table column value parts.1
