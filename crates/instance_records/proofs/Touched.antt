-- Readings on which no change of a row rests.
use Rattle.std.proofs.Common.{◌≡◌, ℕ, ℤ, Bool, true, false, true≢false, not, List, [], ◌∷◌, refl, ap}
use Rattle.std.specs.Prelude.{◌||◌}
use Rattle.std.specs.List.{list_any}
use Rattle.evaluation.specs.declared.note.Note.{Note}
use Rattle.meaning.specs.Every.{every}
use Rattle.instance_records.specs.declared.spans.Span.{Span}
use Rattle.instance_records.specs.Spans.{is_covered_by, is_touched}
use Rattle.record_theory.specs.InStep.{rests_on, is_apart}
use Rattle.instance_records.proofs.Covered.{untouched}
use Rattle.record_theory.proofs.Members.{both, every_weaker}

neither : (a b : Bool) → a || b ≡ false → (a ≡ false) × (b ≡ false)
neither true b e = absurd (true≢false e)
neither false b e = (refl, e)

pub own_apart : (changes : List (ℕ × ℤ)) (notes : List Note) → list_any (λ note. list_any (rests_on note) changes) notes ≡ false → every (is_apart changes) notes ≡ true
own_apart changes [] e = refl
own_apart changes (n ∷ ns) e =
    let each = neither (list_any (rests_on n) changes) (list_any (λ note. list_any (rests_on note) changes) ns) e in both (is_apart changes n) (every (is_apart changes) ns) (ap not each.0) (own_apart changes ns each.1)

pub spans_apart : (changes : List (ℕ × ℤ)) (spans : List Span) (notes : List Note) → is_touched spans changes ≡ false → every (is_covered_by spans) notes ≡ true → every (is_apart changes) notes ≡ true
spans_apart changes spans notes h = every_weaker (is_covered_by spans) (is_apart changes) notes (λ note e. ap not (untouched spans changes note h e))
