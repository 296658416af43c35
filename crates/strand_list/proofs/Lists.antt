-- What a step of the code makes of a list of strands is what the definitions make of it.
use Rattle.std.proofs.Common.{◌≡◌, ℕ, zero, suc, ◌+◌, ◌-◌, ◌<◌, Bool, true, false, cond, ◌||◌, List, [], ◌∷◌, length, set, get_or, take, drop, refl, sym, ap, ◌∙◌, subst, arith, bytes_eq}
use Rattle.std.specs.List.{insert, remove}
use Rattle.std.proofs.lemmas.List.{length-map, map-append, map-set, take-map, drop-map, get_or-map}
use Rattle.std.proofs.Math.Seq.{take-length}
use Rattle.std.proofs.lemmas.Slice.Eq.{bytes_eq-Decides}
use Rattle.meaning.specs.Outcome.{Place}
use Rattle.meaning.specs.Strands.{State, Held, Line, becomes, splits, folds, may_fold}
use Rattle.numbered_runs.specs.Named.{line, named_state}
use Rattle.numbered_runs.specs.declared.step.StrandLine.{StrandLine}
use Rattle.strand_theory.proofs.Books.{NoneAt}
use Rattle.strand_list.specs.Pages.{shown, position, removes, Apart, begins_pair, are_neighbours}
use Rattle.strand_lines.specs.Lines.{begins_with}

-- ---- by numbers of lines

becomes_set : (s : State) (p : Place) (ls : List Line) (d : Line) → position p ls < length ls → becomes s ls p ≡ set ls (position p ls) ((get_or ls (position p ls) d).0, s)
becomes_set s p [] d h = absurd (omega arith)
becomes_set s p ((q, t) ∷ ls) d h = by (bytes_eq q p) h (λ i. becomes_set s p ls d i)
  where
    by : (b : Bool) → cond b 0 (suc (position p ls)) < suc (length ls) → (position p ls < length ls → becomes s ls p ≡ set ls (position p ls) ((get_or ls (position p ls) d).0, s))
        → cond b ((q, s) ∷ ls) ((q, t) ∷ becomes s ls p) ≡ set ((q, t) ∷ ls) (cond b 0 (suc (position p ls))) ((get_or ((q, t) ∷ ls) (cond b 0 (suc (position p ls))) d).0, s)
    by true i r = refl
    by false i r = ap (λ l. (q, t) ∷ l) (r (omega arith))

becomes_missing : (s : State) (p : Place) (ls : List Line) → position p ls ≡ length ls → becomes s ls p ≡ ls
becomes_missing s p [] h = refl
becomes_missing s p ((q, t) ∷ ls) h = by (bytes_eq q p) h (λ i. becomes_missing s p ls i)
  where
    by : (b : Bool) → cond b 0 (suc (position p ls)) ≡ suc (length ls) → (position p ls ≡ length ls → becomes s ls p ≡ ls) → cond b ((q, s) ∷ ls) ((q, t) ∷ becomes s ls p) ≡ (q, t) ∷ ls
    by true i r = absurd (omega arith)
    by false i r = ap (λ l. (q, t) ∷ l) (r (omega arith))

splits_insert : (v n : Place) (w : ℕ) (ls : List Line) → position v ls < length ls → splits ls v n w ≡ insert ls (suc (position v ls)) (n, Held w)
splits_insert v n w [] h = absurd (omega arith)
splits_insert v n w ((q, t) ∷ ls) h = by (bytes_eq q v) h (λ i. splits_insert v n w ls i)
  where
    by : (b : Bool) → cond b 0 (suc (position v ls)) < suc (length ls) → (position v ls < length ls → splits ls v n w ≡ insert ls (suc (position v ls)) (n, Held w))
        → cond b ((q, t) ∷ (n, Held w) ∷ ls) ((q, t) ∷ splits ls v n w) ≡ insert ((q, t) ∷ ls) (suc (cond b 0 (suc (position v ls)))) (n, Held w)
    by true i r = refl
    by false i r = ap (λ l. (q, t) ∷ l) (r (omega arith))

splits_missing : (v n : Place) (w : ℕ) (ls : List Line) → position v ls ≡ length ls → splits ls v n w ≡ ls
splits_missing v n w [] h = refl
splits_missing v n w ((q, t) ∷ ls) h = by (bytes_eq q v) h (λ i. splits_missing v n w ls i)
  where
    by : (b : Bool) → cond b 0 (suc (position v ls)) ≡ suc (length ls) → (position v ls ≡ length ls → splits ls v n w ≡ ls) → cond b ((q, t) ∷ (n, Held w) ∷ ls) ((q, t) ∷ splits ls v n w) ≡ (q, t) ∷ ls
    by true i r = absurd (omega arith)
    by false i r = ap (λ l. (q, t) ∷ l) (r (omega arith))

removes_at : (p : Place) (ls : List Line) → position p ls < length ls → removes ls p ≡ remove ls (position p ls)
removes_at p [] h = absurd (omega arith)
removes_at p (x ∷ ls) h = by (bytes_eq x.0 p) h (λ i. removes_at p ls i)
  where
    by : (b : Bool) → cond b 0 (suc (position p ls)) < suc (length ls) → (position p ls < length ls → removes ls p ≡ remove ls (position p ls)) → cond b ls (x ∷ removes ls p) ≡ remove (x ∷ ls) (cond b 0 (suc (position p ls)))
    by true i r = refl
    by false i r = ap (λ l. x ∷ l) (r (omega arith))

removes_missing : (p : Place) (ls : List Line) → position p ls ≡ length ls → removes ls p ≡ ls
removes_missing p [] h = refl
removes_missing p (x ∷ ls) h = by (bytes_eq x.0 p) h (λ i. removes_missing p ls i)
  where
    by : (b : Bool) → cond b 0 (suc (position p ls)) ≡ suc (length ls) → (position p ls ≡ length ls → removes ls p ≡ ls) → cond b ls (x ∷ removes ls p) ≡ x ∷ ls
    by true i r = absurd (omega arith)
    by false i r = ap (λ l. x ∷ l) (r (omega arith))

-- ---- the same of lists of the code

there : (p : Place) (xs : List StrandLine) (k : ℕ) → k ≡ position p (shown xs) → k < length xs → position p (shown xs) < length (shown xs)
there p xs k e h = let f : length (shown xs) ≡ length xs = length-map xs line in omega arith

missing : (p : Place) (xs : List StrandLine) → position p (shown xs) ≡ length xs → position p (shown xs) ≡ length (shown xs)
missing p xs e = e ∙ sym (length-map xs line)

pub set_state_at : (p : Place) (xs : List StrandLine) (k : ℕ) (d x : StrandLine) → k ≡ position p (shown xs) → k < length xs → x.place ≡ (get_or xs k d).place → shown (set xs k x) ≡ becomes (named_state x.state) (shown xs) p
set_state_at p xs k d x e h f =
    map-set line xs k x ∙ ap (λ q. set (shown xs) k (q, named_state x.state)) (ap (λ v. v.items) f ∙ ap (λ (l : Line). l.0) (sym (get_or-map line xs k d (line d) h)))
    ∙ ap (λ k. set (shown xs) k ((get_or (shown xs) k (line d)).0, named_state x.state)) e ∙ sym (becomes_set (named_state x.state) p (shown xs) (line d) (there p xs k e h))

pub set_state_missing : (s : State) (p : Place) (xs : List StrandLine) → position p (shown xs) ≡ length xs → shown xs ≡ becomes s (shown xs) p
set_state_missing s p xs e = sym (becomes_missing s p (shown xs) (missing p xs e))

pub add_one : (n : ℕ) → n + 1 ≡ suc n
add_one n = omega arith

pub put_behind_at : (v : Place) (xs : List StrandLine) (k w : ℕ) (x : StrandLine) → k ≡ position v (shown xs) → k < length xs → named_state x.state ≡ Held w → shown (insert xs (k + 1) x) ≡ splits (shown xs) v x.place.items w
put_behind_at v xs k w x e h f =
    map-append line (take (k + 1) xs) (x ∷ drop (k + 1) xs) ∙ rw (take-map line (k + 1) xs, drop-map line (k + 1) xs) refl
    ∙ ap (λ s. insert (shown xs) (k + 1) (x.place.items, s)) f ∙ ap (λ n. insert (shown xs) n (x.place.items, Held w)) (add_one k ∙ ap suc e) ∙ sym (splits_insert v x.place.items w (shown xs) (there v xs k e h))

pub put_behind_missing : (v n : Place) (w : ℕ) (xs : List StrandLine) → position v (shown xs) ≡ length xs → shown xs ≡ splits (shown xs) v n w
put_behind_missing v n w xs e = sym (splits_missing v n w (shown xs) (missing v xs e))

pub take_out_at : (p : Place) (xs : List StrandLine) (k : ℕ) → k ≡ position p (shown xs) → k < length xs → shown (remove xs k) ≡ removes (shown xs) p
take_out_at p xs k e h =
    map-append line (take k xs) (drop (suc k) xs) ∙ rw (take-map line k xs, drop-map line (suc k) xs) refl ∙ ap (remove (shown xs)) e ∙ sym (removes_at p (shown xs) (there p xs k e h))

pub take_out_missing : (p : Place) (xs : List StrandLine) → position p (shown xs) ≡ length xs → shown xs ≡ removes (shown xs) p
take_out_missing p xs e = sym (removes_missing p (shown xs) (missing p xs e))

-- ---- a fold, where places differ

at_same : (q r : Place) (ls : List Line) → bytes_eq q r ≡ true → NoneAt q ls → NoneAt r ls
at_same q r ls e h = subst (λ p. NoneAt p ls) ((bytes_eq-Decides q r).0 e) h

folds_none : (l r : Place) (w : ℕ) (ls : List Line) → NoneAt l ls → NoneAt r ls → folds ls l r w ≡ ls
folds_none l r w [] g h = refl
folds_none l r w ((q, t) ∷ ls) g h =
    ap (λ b. cond b (folds ls l r w) (cond (bytes_eq q l) ((q, Held w) ∷ folds ls l r w) ((q, t) ∷ folds ls l r w))) h.0
    ∙ ap (λ b. cond b ((q, Held w) ∷ folds ls l r w) ((q, t) ∷ folds ls l r w)) g.0 ∙ ap (λ x. (q, t) ∷ x) (folds_none l r w ls g.1 h.1)

folds_left : (l r : Place) (w : ℕ) (ls : List Line) → Apart ls → NoneAt r ls → folds ls l r w ≡ becomes (Held w) ls l
folds_left l r w [] a h = refl
folds_left l r w ((q, t) ∷ ls) a h =
    ap (λ b. cond b (folds ls l r w) (cond (bytes_eq q l) ((q, Held w) ∷ folds ls l r w) ((q, t) ∷ folds ls l r w))) h.0 ∙ by (bytes_eq q l) refl (folds_left l r w ls a.1 h.1)
  where
    by : (b : Bool) → bytes_eq q l ≡ b → folds ls l r w ≡ becomes (Held w) ls l → cond b ((q, Held w) ∷ folds ls l r w) ((q, t) ∷ folds ls l r w) ≡ cond b ((q, Held w) ∷ ls) ((q, t) ∷ becomes (Held w) ls l)
    by true e i = ap (λ x. (q, Held w) ∷ x) (folds_none l r w ls (at_same q l ls e a.0) h.1)
    by false e i = ap (λ x. (q, t) ∷ x) i

folds_right : (l r : Place) (w : ℕ) (ls : List Line) → Apart ls → NoneAt l ls → folds ls l r w ≡ removes ls r
folds_right l r w [] a h = refl
folds_right l r w ((q, t) ∷ ls) a h =
    ap (λ b. cond (bytes_eq q r) (folds ls l r w) (cond b ((q, Held w) ∷ folds ls l r w) ((q, t) ∷ folds ls l r w))) h.0 ∙ by (bytes_eq q r) refl (folds_right l r w ls a.1 h.1)
  where
    by : (b : Bool) → bytes_eq q r ≡ b → folds ls l r w ≡ removes ls r → cond b (folds ls l r w) ((q, t) ∷ folds ls l r w) ≡ cond b ls ((q, t) ∷ removes ls r)
    by true e i = folds_none l r w ls h.1 (at_same q r ls e a.0)
    by false e i = ap (λ x. (q, t) ∷ x) i

pub folds_apart : (l r : Place) (w : ℕ) (ls : List Line) → Apart ls → folds ls l r w ≡ becomes (Held w) (removes ls r) l
folds_apart l r w [] a = refl
folds_apart l r w ((q, t) ∷ ls) a = by (bytes_eq q r) refl (folds_apart l r w ls a.1)
  where
    on : (b : Bool) → bytes_eq q l ≡ b → folds ls l r w ≡ becomes (Held w) (removes ls r) l → cond b ((q, Held w) ∷ folds ls l r w) ((q, t) ∷ folds ls l r w) ≡ cond b ((q, Held w) ∷ removes ls r) ((q, t) ∷ becomes (Held w) (removes ls r) l)
    on true e i = ap (λ x. (q, Held w) ∷ x) (folds_right l r w ls a.1 (at_same q l ls e a.0))
    on false e i = ap (λ x. (q, t) ∷ x) i

    by : (b : Bool) → bytes_eq q r ≡ b → folds ls l r w ≡ becomes (Held w) (removes ls r) l
        → cond b (folds ls l r w) (cond (bytes_eq q l) ((q, Held w) ∷ folds ls l r w) ((q, t) ∷ folds ls l r w)) ≡ becomes (Held w) (cond b ls ((q, t) ∷ removes ls r)) l
    by true e i = folds_left l r w ls a.1 (at_same q r ls e a.0)
    by false e i = on (bytes_eq q l) refl i

-- ---- neighbours

pub rest_of : (xs : List StrandLine) (k : ℕ) → k < length xs → take (length xs - k) (drop k xs) ≡ drop k xs
rest_of [] k h = absurd (omega arith)
rest_of (x ∷ xs) zero h = let e : suc (length xs) - 0 ≡ suc (length xs) = omega arith in ap (λ n. take n (x ∷ xs)) e ∙ take-length (x ∷ xs)
rest_of (x ∷ xs) (suc k) h = let e : suc (length xs) - suc k ≡ length xs - k = omega arith in ap (λ n. take n (drop k xs)) e ∙ rest_of xs k (omega arith)

pub folds_here : (l r : Place) (ls : List Line) → begins_pair l r ls ≡ true → may_fold ls l r ≡ true
folds_here l r [] e = absurd cc
folds_here l r (x ∷ []) e = absurd cc
folds_here l r (x ∷ y ∷ ls) e = ap (λ b. b || may_fold (y ∷ ls) l r) e

pub folds_later : (l r : Place) (xs : List StrandLine) (k : ℕ) → k < length xs → begins_pair l r (shown (drop k xs)) ≡ false → may_fold (shown (drop k xs)) l r ≡ may_fold (shown (drop (suc k) xs)) l r
folds_later l r [] k h e = absurd (omega arith)
folds_later l r (x ∷ []) zero h e = refl
folds_later l r (x ∷ y ∷ xs) zero h e = ap (λ b. b || may_fold (shown (y ∷ xs)) l r) e
folds_later l r (x ∷ xs) (suc k) h e = folds_later l r xs k (omega arith) e

-- ---- neighbours in any states

pub next_here : (l r : Place) (ls : List Line) → begins_with l r ls ≡ true → are_neighbours l r ls ≡ true
next_here l r [] e = absurd cc
next_here l r (x ∷ ls) e = ap (λ b. b || are_neighbours l r ls) e

pub next_later : (l r : Place) (xs : List StrandLine) (k : ℕ) → k < length xs → begins_with l r (shown (drop k xs)) ≡ false → are_neighbours l r (shown (drop k xs)) ≡ are_neighbours l r (shown (drop (suc k) xs))
next_later l r [] k h e = absurd (omega arith)
next_later l r (x ∷ xs) zero h e = ap (λ b. b || are_neighbours l r (shown xs)) e
next_later l r (x ∷ xs) (suc k) h e = next_later l r xs k (omega arith) e
