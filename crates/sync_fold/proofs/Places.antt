-- The places of lines by their numbers, and the first two lines that may be folded.
use Rattle.std.proofs.Common.{◌≡◌, ℕ, zero, suc, ◌+◌, ◌-◌, ◌<◌, Bool, true, false, cond, List, [], ◌∷◌, length, get_or, take, drop, Option, Some, None, refl, sym, ap, ◌∙◌, subst, arith}
use Rattle.std.proofs.lemmas.List.{length-map, get_or-map, drop-map, length-drop}
use Rattle.std.proofs.Math.Seq.{take-length}
use Rattle.meaning.specs.Outcome.{Place}
use Rattle.meaning.specs.Strands.{Held, Line}
use Rattle.numbered_runs.specs.Named.{line}
use Rattle.numbered_runs.specs.declared.step.StrandLine.{StrandLine}
use Rattle.strand_list.specs.Pages.{shown}
use Rattle.sync_fold.specs.Books.{PlainLaid, PlacesAt, folds_here, fold_among}

add_one : (k : ℕ) → k + 1 ≡ suc k
add_one k = omega arith

pub places_of : (xs : List StrandLine) (k : ℕ) (x y : StrandLine) → k + 1 < length xs → x ≡ get_or xs k x → y ≡ get_or xs (k + 1) y → PlacesAt k (shown xs) (Some (x.place.items, y.place.items))
places_of xs k x y h e f = λ d.
    let n : length (shown xs) ≡ length xs = length-map xs line in
    let i : get_or (shown xs) k d ≡ line x = get_or-map line xs k x d (omega arith) ∙ ap line (sym e) in
    let j : get_or (shown xs) (suc k) d ≡ line y = ap (λ m. get_or (shown xs) m d) (sym (add_one k)) ∙ get_or-map line xs (k + 1) y d h ∙ ap line (sym f) in
    (omega arith, ap (λ (l : Line). Some (l.0, y.place.items)) (sym i) ∙ ap (λ (l : Line). Some ((get_or (shown xs) k d).0, l.0)) (sym j))

-- the first two may be folded
pub fold_here : (ls : List Line) (ds : List PlainLaid) → folds_here ls ds ≡ true → length ds ≡ length ls → PlacesAt 0 ls (fold_among ls ds)
fold_here [] ds e h = absurd cc
fold_here (x ∷ []) ds e h = absurd cc
fold_here (x ∷ y ∷ ls) [] e h = absurd (omega arith)
fold_here (x ∷ y ∷ ls) (d ∷ ds) e h = λ z. (omega arith, ap (λ b. cond b (Some (x.0, y.0)) (fold_among (y ∷ ls) ds)) e)

pub places_behind : (k : ℕ) (ls : List Line) (o : Option (Place × Place)) → PlacesAt 0 (drop k ls) o → PlacesAt k ls o
places_behind zero ls o h = h
places_behind (suc k) [] o h = λ d. absurd (let i = (h d).0 in omega arith)
places_behind (suc k) (x ∷ ls) o h = λ d. let i = places_behind k ls o h d in (let j = i.0 in omega arith, i.1)

-- they may not
pub fold_later : (k : ℕ) (ls : List Line) (ds : List PlainLaid) → length ds ≡ length ls → k < length ls → folds_here (drop k ls) (drop k ds) ≡ false → fold_among (drop k ls) (drop k ds) ≡ fold_among (drop (suc k) ls) (drop (suc k) ds)
fold_later k [] ds h i e = absurd (omega arith)
fold_later zero (x ∷ []) [] h i e = refl
fold_later zero (x ∷ []) (d ∷ ds) h i e = sym (no_lines ds)
  where
    no_lines : (ds : List PlainLaid) → fold_among [] ds ≡ None
    no_lines ds = refl
fold_later zero (x ∷ y ∷ ls) [] h i e = absurd (omega arith)
fold_later zero (x ∷ y ∷ ls) (d ∷ ds) h i e = ap (λ b. cond b (Some (x.0, y.0)) (fold_among (y ∷ ls) ds)) e
fold_later (suc k) (x ∷ ls) [] h i e = absurd (omega arith)
fold_later (suc k) (x ∷ ls) (d ∷ ds) h i e = fold_later k ls ds (omega arith) (omega arith) e

-- ---- the same of lists of the code, cut as a slice is

pub cut : {A : Type 0} (xs : List A) (k n : ℕ) → length xs ≡ n → k < n → take (n - k) (drop k xs) ≡ drop k xs
cut xs k n e h = ap (λ m. take (m - k) (drop k xs)) (sym e) ∙ cut_here xs k (subst (λ m. k < m) (sym e) h)
  where
    cut_here : {A : Type 0} (xs : List A) (k : ℕ) → k < length xs → take (length xs - k) (drop k xs) ≡ drop k xs
    cut_here [] k h = absurd (omega arith)
    cut_here (x ∷ xs) zero h = let e : suc (length xs) - 0 ≡ suc (length xs) = omega arith in ap (λ n. take n (x ∷ xs)) e ∙ take-length (x ∷ xs)
    cut_here (x ∷ xs) (suc k) h = let e : suc (length xs) - suc k ≡ length xs - k = omega arith in ap (λ n. take n (drop k xs)) e ∙ cut_here xs k (omega arith)

here_cut : (xs : List StrandLine) (ds : List PlainLaid) (k : ℕ) (b : Bool) → length ds ≡ length xs → k < length xs
    → folds_here (shown (take (length xs - k) (drop k xs))) (take (length ds - k) (drop k ds)) ≡ b → folds_here (drop k (shown xs)) (drop k ds) ≡ b
here_cut xs ds k b e h f =
    ap (λ ls. folds_here ls (drop k ds)) (drop-map line k xs) ∙ ap (λ ls. folds_here (shown ls) (drop k ds)) (sym (cut xs k (length xs) refl h))
    ∙ ap (λ es. folds_here (shown (take (length xs - k) (drop k xs))) es) (sym (cut ds k (length ds) refl (subst (λ n. k < n) (sym e) h))) ∙ f

pub goes_on : (xs : List StrandLine) (ds : List PlainLaid) (k : ℕ) → length ds ≡ length xs → k < length xs
    → folds_here (shown (take (length xs - k) (drop k xs))) (take (length ds - k) (drop k ds)) ≡ false
    → fold_among (shown xs) ds ≡ fold_among (shown (drop k xs)) (drop k ds)
    → fold_among (shown xs) ds ≡ fold_among (shown (drop (k + 1) xs)) (drop (k + 1) ds)
goes_on xs ds k e h f i =
    let n : length (shown xs) ≡ length xs = length-map xs line in
    i ∙ ap (λ ls. fold_among ls (drop k ds)) (sym (drop-map line k xs)) ∙ fold_later k (shown xs) ds (e ∙ sym n) (subst (λ m. k < m) (sym n) h) (here_cut xs ds k false e h f)
    ∙ ap (λ ls. fold_among ls (drop (suc k) ds)) (drop-map line (suc k) xs) ∙ ap (λ m. fold_among (shown (drop m xs)) (drop m ds)) (sym (add_one k))

pub found_at : (xs : List StrandLine) (ds : List PlainLaid) (k : ℕ) → length ds ≡ length xs → k < length xs
    → folds_here (shown (take (length xs - k) (drop k xs))) (take (length ds - k) (drop k ds)) ≡ true
    → fold_among (shown xs) ds ≡ fold_among (shown (drop k xs)) (drop k ds)
    → PlacesAt k (shown xs) (fold_among (shown xs) ds)
found_at xs ds k e h f i =
    let n : length (shown xs) ≡ length xs = length-map xs line in
    let m : length (drop k ds) ≡ length (drop k (shown xs)) = length-drop k ds ∙ ap (λ m. m - k) (e ∙ sym n) ∙ sym (length-drop k (shown xs)) in
    places_behind k (shown xs) (fold_among (shown xs) ds)
    (subst (PlacesAt 0 (drop k (shown xs))) (sym (i ∙ ap (λ ls. fold_among ls (drop k ds)) (sym (drop-map line k xs)))) (fold_here (drop k (shown xs)) (drop k ds) (here_cut xs ds k true e h f) m))

-- a line that is there in place of none
abbrev pub any_line : Line
any_line = ([], Held 0)

pub first_is : (k : ℕ) (ls ms : List Line) (o p : Option (Place × Place)) → PlacesAt k ls o → PlacesAt k ms p → ms ≡ ls → o ≡ p
first_is k ls ms o p h i e =
    (h any_line).1 ∙ ap (λ ls. Some ((get_or ls k any_line).0, (get_or ls (suc k) any_line).0)) (sym e) ∙ sym (i any_line).1

pub places_within : (k : ℕ) (xs : List StrandLine) (ls : List Line) (o : Option (Place × Place)) → PlacesAt k ls o → shown xs ≡ ls → k + 1 < length xs
places_within k xs ls o h e =
    let n : length (shown xs) ≡ length xs = length-map xs line in
    let i : suc k < length (shown xs) = subst (λ ls. suc k < length ls) (sym e) (h any_line).0 in omega arith
