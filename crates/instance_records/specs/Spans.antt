-- Stretches of rows in which what was read lies, one for each table.
use Rattle.std.specs.Prelude.{ℕ, nat_eq, ℤ, int_le, Bool, true, false, not, cond, ◌&&◌, ◌||◌, List, [], ◌∷◌, pos}
use Rattle.std.specs.Int.{int_min, int_max}
use Rattle.std.specs.List.{list_any}
use Rattle.meaning.specs.Every.{every}
use Rattle.evaluation.specs.declared.note.Note.{Note}
use Rattle.evaluation.specs.declared.note.Note.TheVariants as n
use Rattle.evaluation.specs.declared.reading.Reading.{Reading}
use Rattle.evaluation.specs.declared.reading.Reading.TheVariants as r
use Rattle.instance_records.specs.declared.few_spans.FewSpans.{FewSpans}
use Rattle.instance_records.specs.declared.few_spans.FewSpans.TheVariants as few
use Rattle.instance_records.specs.declared.spans.Span.{Span}

-- spans of which one lies by itself
abbrev pub spans_in : FewSpans → List Span
spans_in (few.One span) = span ∷ []
spans_in (few.Several spans) = spans.items

-- the rows that a reading rests on
abbrev pub span_of : Reading → Span
span_of (r.Cell c t row v) = record { table = t; whole = false; low = pos row; high = pos row }
span_of (r.Has there t row) = record { table = t; whole = false; low = row; high = row }
span_of (r.Limit t v) = record { table = t; whole = true; low = pos 0; high = pos 0 }
span_of (r.Sum c t v) = record { table = t; whole = true; low = pos 0; high = pos 0 }

-- the row of the span's table is one of these
abbrev pub has_row : Span → ℤ → Bool
has_row s row = s.whole || (int_le s.low row && int_le row s.high)

-- what is read so rests on these rows alone
abbrev pub covers : Note → Span → Bool
covers (n.Cell t row c v) s = nat_eq s.table t && has_row s row
covers (n.Has t row there) s = nat_eq s.table t && has_row s row
covers (n.Limit t v) s = nat_eq s.table t && s.whole
covers (n.Sum t c v) s = nat_eq s.table t && s.whole

abbrev pub is_covered_by : List Span → Note → Bool
is_covered_by spans note = list_any (covers note) spans

-- the changed row, given by its table's number and its own, is one of these
abbrev pub lies_in : ℕ × ℤ → Span → Bool
lies_in change s = nat_eq s.table change.0 && has_row s change.1

abbrev pub is_touched : List Span → List (ℕ × ℤ) → Bool
is_touched spans changes = list_any (λ s. list_any (λ c. lies_in c s) changes) spans

-- the rows of both, and those between
abbrev pub joined : Span → Span → Span
joined a b = record { table = a.table; whole = a.whole || b.whole; low = int_min a.low b.low; high = int_max a.high b.high }

-- joined with the span of its table, where there is one
abbrev pub put_span : List Span → Span → List Span
put_span [] s = s ∷ []
put_span (x ∷ xs) s = cond (nat_eq x.table s.table) (joined x s ∷ xs) (x ∷ put_span xs s)

abbrev pub put_spans : List Span → List Span → List Span
put_spans xs [] = xs
put_spans xs (s ∷ ss) = put_spans (put_span xs s) ss

-- the rows of the second are rows of the first
abbrev pub has_rows : Span → Span → Bool
has_rows s x = nat_eq s.table x.table && (s.whole || (not x.whole && (int_le s.low x.low && int_le x.high s.high)))

abbrev pub hold_rows : List Span → List Span → Bool
hold_rows spans others = every (λ x. list_any (λ s. has_rows s x) spans) others
