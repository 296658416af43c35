use Rattle.std.proofs.Common.{rules, ◌≡◌, ◌≤◌, ◌<◌, ◌*◌, length, ℕ, take, slice_index, sym, ◌∙◌, refl, arith}
use Rattle.std.specs.Prelude.{All}
use Rattle.token_scanner.specs.Words.{words}
use Rattle.procedure_parser.specs.Reading.{table_at}
use Rattle.procedure_parser.proofs.Tables.{take_cells, cells_sound, small_square}
use Rattle.procedure_parser.proofs.kinds.table.Goals as goal

pub unwrap-table-requires : goal.unwrap-table-requires
unwrap-table-requires c =
    let s = cells_sound c.in_ok-size.size c.in_ok-numbers.numbers.items (words c.in_ok-unit.rest.now) (words c.in_ok-numbers.rest.now) c.in_ok-size.ensures.within.0 c.in_ok-numbers.ensures in
    let unit_in : c.byte_of-2.result < c.byte_of.result = omega (arith, c.byte_of.ensures, c.byte_of-2.ensures, c.in_ok-unit.ensures.within, c.in_ok-size.ensures.within) in
    let few : c.byte_of.result ≤ 16 = omega (arith, c.byte_of.ensures, c.in_ok-size.ensures.within) in
    let count : length c.deref.result.now ≡ c.byte_of.result * c.byte_of.result = rw (c.deref.ensures.value, c.byte_of.ensures) s.0 in
    let below : All (λ n. n < c.byte_of.result) c.deref.result.now = rw (c.deref.ensures.value, c.byte_of.ensures) s.1 in
    c.table_of.ensures.made.1 (unit_in, few, count, below)

pub returns : goal.returns
unfolding table_at
returns c =
    let t = c.unwrap-table.result in
    let s = cells_sound c.in_ok-size.size c.in_ok-numbers.numbers.items (words c.in_ok-unit.rest.now) (words c.in_ok-numbers.rest.now) c.in_ok-size.ensures.within.0 c.in_ok-numbers.ensures in
    let l : length t.cells ≡ 256 = search rules in
    let z : t.size ≡ c.byte_of.result = search rules in
    let u : t.unit ≡ c.byte_of-2.result = search rules in
    let k : (i : ℕ) → i < length c.deref.result.now → slice_index t.cells i ≡ slice_index c.deref.result.now i = search rules in
    let h : (i : ℕ) → i < length c.in_ok-numbers.numbers.items → slice_index t.cells i ≡ slice_index c.in_ok-numbers.numbers.items i = rw (← c.deref.ensures.value) k in
    let le : length c.in_ok-numbers.numbers.items ≤ length t.cells = omega (arith, l, s.0, small_square c.in_ok-size.size c.in_ok-size.ensures.within.1) in
    let n : t.size * t.size ≡ length c.in_ok-numbers.numbers.items = rw (z, c.byte_of.ensures) (sym s.0) in
    let e : take (t.size * t.size) t.cells ≡ c.in_ok-numbers.numbers.items = rw n (take_cells t.cells c.in_ok-numbers.numbers.items le h) in
    let y : t.size ≡ c.in_ok-size.size = z ∙ c.byte_of.ensures in
    let v : t.unit ≡ c.in_ok-unit.unit = u ∙ c.byte_of-2.ensures in
    rw (e, y, v, c.in_ok-size.ensures.exact, c.in_ok-rest.ensures, c.in_ok-unit.ensures.exact, c.in_ok-numbers.ensures) refl
