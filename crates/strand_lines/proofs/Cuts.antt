-- Places in one list of numbers: one more put behind them.
use Rattle.std.proofs.Common.{◌≡◌, ℕ, suc, ◌+◌, ◌≤◌, List, [], ◌∷◌, ◌++◌, length, take, drop, refl, sym, ap, ◌∙◌, arith}
use Rattle.std.proofs.Math.Seq.{take-length}
use Rattle.std.proofs.lemmas.List.{take-append-le, drop-append-le, length-append, length-drop}
use Rattle.strand_lines.specs.PlaceLists.{cut, total}

pub total_more : (lengths : List ℕ) (n : ℕ) → total (lengths ++ n ∷ []) ≡ total lengths + n
total_more [] n = omega arith
total_more (l ∷ lengths) n = let r : total (lengths ++ n ∷ []) ≡ total lengths + n = total_more lengths n in omega (arith, r)

pub cut_more : (lengths numbers place : List ℕ) → total lengths ≡ length numbers → cut (lengths ++ length place ∷ []) (numbers ++ place) ≡ cut lengths numbers ++ place ∷ []
cut_more [] [] place h = ap (λ p. p ∷ []) (take-length place)
cut_more [] (n ∷ numbers) place h = absurd (omega arith)
cut_more (l ∷ lengths) numbers place h =
    let within : l ≤ length numbers = omega (arith, h) in
    ap (λ p. p ∷ cut (lengths ++ length place ∷ []) (drop l (numbers ++ place))) (take-append-le l numbers place within)
    ∙ ap (λ rest. take l numbers ∷ cut (lengths ++ length place ∷ []) rest) (drop-append-le l numbers place within)
    ∙ ap (λ ps. take l numbers ∷ ps) (cut_more lengths (drop l numbers) place (omega (arith, h, length-drop l numbers)))

-- what a list is with one more place behind the others
pub total_after : (lengths numbers place more all : List ℕ) → total lengths ≡ length numbers → more ≡ lengths ++ length place ∷ [] → all ≡ numbers ++ place → total more ≡ length all
total_after lengths numbers place more all h e f =
    ap total e ∙ total_more lengths (length place) ∙ ap (λ n. n + length place) h ∙ sym (length-append numbers place) ∙ ap length (sym f)

pub cut_after : (lengths numbers place more all : List ℕ) → total lengths ≡ length numbers → more ≡ lengths ++ length place ∷ [] → all ≡ numbers ++ place
    → cut more all ≡ cut lengths numbers ++ place ∷ []
cut_after lengths numbers place more all h e f = ap (λ ls. cut ls all) e ∙ ap (λ ns. cut (lengths ++ length place ∷ []) ns) f ∙ cut_more lengths numbers place h
