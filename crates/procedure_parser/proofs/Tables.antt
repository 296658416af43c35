-- What the numbers of a table are, once they are read.
use Rattle.std.proofs.Common.{◌≡◌, ℕ, zero, suc, ◌+◌, ◌-◌, ◌*◌, ◌<◌, ◌≤◌, List, [], ◌∷◌, length, take, slice_index, Ok, refl, arith}
use Rattle.std.specs.Prelude.{All}
use Rattle.token_scanner.specs.Words.{Words}
use Rattle.procedure_parser.specs.Reading.{cells_at}
use Rattle.procedure_parser.specs.Grammar.{Within, within, comma_number, MoreCells, no_more_cells, more_cells, Cells, cells}
use Rattle.procedure_parser.proofs.Lists.{read_form}
use Rattle.procedure_parser.proofs.Declarations.{cells_law}

pub take_cells : (ys xs : List ℕ) → length xs ≤ length ys → ((i : ℕ) → i < length xs → slice_index ys i ≡ slice_index xs i) → take (length xs) ys ≡ xs
take_cells ys [] le h = refl
take_cells [] (x ∷ xs) le h = absurd (omega arith)
take_cells (y ∷ ys) (x ∷ xs) le h =
    let e : y ≡ x = h 0 (omega arith) in
    let t = take_cells ys xs (omega arith) (λ i lt. h (suc i) (omega (arith, lt))) in
    rw (e, t) refl

all_nil : (n : ℕ) → All (λ x. x < n) []
all_nil n k d h = absurd (omega arith)

all_cons : (n x : ℕ) (xs : List ℕ) → x < n → All (λ x. x < n) xs → All (λ x. x < n) (x ∷ xs)
all_cons n x xs h t zero d lt = h
all_cons n x xs h t (suc k) d lt = t k d (omega (arith, lt))

number_below : (n x : ℕ) (ts us : Words) → 1 ≤ n → Within 0 (n - 1) x ts us → x < n
number_below n _ _ _ one (within x l us ge le) = omega (arith, one, le)

more_below : (n k : ℕ) (xs : List ℕ) (ts us : Words) → 1 ≤ n → MoreCells n k xs ts us → (length xs ≡ k) × All (λ x. x < n) xs
more_below n _ _ _ _ one (no_more_cells us) = (refl, all_nil n)
more_below n _ _ _ _ one (more_cells k x xs ts us vs (comma_number _ l zs _ w) m) =
    let i = more_below n k xs us vs one m in
    (omega (arith, i.0), all_cons n x xs (number_below n x zs us one w) i.1)

part_square : (n k : ℕ) → n + k ≡ 16 → n * n ≤ 256
part_square n k e = let q : (n + k) * (n + k) ≡ 256 = rw e refl in omega (arith, q)

pub small_square : (n : ℕ) → n ≤ 16 → n * n ≤ 256
small_square n h = part_square n (16 - n) (omega (arith, h))

square_pos : (n : ℕ) → 1 ≤ n → 1 ≤ n * n
square_pos zero h = absurd (omega arith)
square_pos (suc n) h = omega arith

cells_below : (n : ℕ) (xs : List ℕ) (ts us : Words) → 1 ≤ n → Cells n xs ts us → (length xs ≡ n * n) × All (λ x. x < n) xs
cells_below n _ _ _ one (cells x xs k l ts us vs w m) =
    let i = more_below n (n * n - 1) xs us _ one m in
    (omega (arith, i.0, square_pos n one), all_cons n x xs (number_below n x ts us one w) i.1)

pub cells_sound : (n : ℕ) (xs : List ℕ) (ts us : Words) → 1 ≤ n → cells_at n ts ≡ Ok (xs, us) → (length xs ≡ n * n) × All (λ x. x < n) xs
cells_sound n xs ts us one e = cells_below n xs ts us one (read_form (cells_at n) (Cells n) ts xs us (cells_law n ts) e)
