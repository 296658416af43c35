-- Tables with the same numbers row by row are equal.
use Rattle.std.specs.Prelude.{◌≡◌, ℕ, ◌-◌, ◌*◌, ◌<◌, ◌≤◌, List, ◌++◌, take, drop, replicate, slice_index}
use Rattle.std.proofs.Common.{sym, ap, subst, ◌∙◌}
use Rattle.std.proofs.Props.{props}
use Rattle.std.proofs.lemmas.List.{take-append-drop}
use mathlib.Core.HLevel.{is_prop→PathP}
use Rattle.monoid_laws.specs.declared.Table.{Table}

pub same_parts : (a b : Table) → a.size ≡ b.size → a.unit ≡ b.unit → a.cells ≡ b.cells → a ≡ b
same_parts a b e f h = λ i. record {
  size = e i;
  unit = f i;
  cells = h i;
  unit_in = is_prop→PathP (λ j. f j < e j) (λ j. hlevel props) a.unit_in b.unit_in i;
  few = is_prop→PathP (λ j. e j ≤ 16) (λ j. hlevel props) a.few b.few i;
  cells_in = is_prop→PathP (λ j. (n : ℕ) → n < e j * e j → slice_index (h j) n < e j) (λ j. hlevel props) a.cells_in b.cells_in i;
  rest_zero = is_prop→PathP (λ j. drop (e j * e j) (h j) ≡ replicate (256 - e j * e j) 0) (λ j. hlevel props) a.rest_zero b.rest_zero i;
}

-- the cells are the rows and then zeros
filled : ℕ → List ℕ → List ℕ
filled n xs = xs ++ replicate (256 - n) 0

cells_filled : (t : Table) → filled (t.size * t.size) (take (t.size * t.size) t.cells) ≡ t.cells
unfolding filled
cells_filled t =
    subst (λ (xs : List ℕ). take (t.size * t.size) t.cells ++ xs ≡ t.cells) t.rest_zero (take-append-drop (t.size * t.size) t.cells)

pub same_rows : (a b : Table) → a.size ≡ b.size → a.unit ≡ b.unit → take (a.size * a.size) a.cells ≡ take (b.size * b.size) b.cells → a ≡ b
same_rows a b e f h =
    let n : a.size * a.size ≡ b.size * b.size = ap (λ (k : ℕ). k * k) e in
    let j : filled (a.size * a.size) (take (a.size * a.size) a.cells) ≡ filled (b.size * b.size) (take (b.size * b.size) b.cells) = cc in
    same_parts a b e f (sym (cells_filled a) ∙ j ∙ cells_filled b)
