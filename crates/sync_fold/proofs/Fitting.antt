-- What is kept of strands fits their lines, step by step.
use Rattle.std.proofs.Common.{◌≡◌, ℕ, zero, suc, ◌+◌, ◌<◌, Bool, true, false, cond, ◌&&◌, ◌||◌, List, [], ◌∷◌, length, get_or, drop, slice_set, Some, refl, sym, ap, ◌∙◌, subst, arith, bytes_eq}
use Rattle.std.specs.List.{insert, remove}
use Rattle.std.proofs.lemmas.Slice.Eq.{bytes_eq-Decides}
use Rattle.meaning.specs.Outcome.{Place}
use Rattle.meaning.specs.Strands.{State, Held, Ended, Stalled, Faulted, Finished, Line, BookStep, is_held, done, waits, becomes, splits, may_fold, replayed}
use Rattle.strand_theory.proofs.Names.{same_name_true, both_are}
use Rattle.strand_theory.proofs.Books.{NoneAt}
use Rattle.positions.specs.Simulation.{place_of}
use Rattle.positions.specs.Strands.{PlainStrand}
use Rattle.right_strands.specs.Laid.{PlainPiece, ends_as}
use Rattle.right_strands.specs.Pairs.{PlainPair, IsStill, is_over, is_waiting}
use Rattle.strand_list.specs.declared.laid_state.LaidState.{LaidState}
use Rattle.strand_list.specs.declared.laid_state.LaidState.TheVariants as laid_state
use Rattle.strand_list.specs.Laying.{state_as}
use Rattle.strand_list.specs.Pages.{position, removes, Apart, is_pair, begins_pair}
use Rattle.strand_lines.specs.Lines.{begins_with}
use Rattle.strand_list.specs.Replays.{LeavesRootAlone}
use Rattle.strand_list.specs.Chronicled.{PlainChronicle}
use Rattle.sync_fold.specs.Books.{PlainLaid, FitsLine, Fits, IsBook, may_be_one, may_touch, LiesAs, ArePair, BeginWithPair, IsPairOf, IsMadeOf, BeginAsPair, BeginAt, folded, halved, IsHalved, ends_alone}
use Rattle.sync_fold.specs.declared.laid.Laid.TheVariants.{Nothing, Whole, Half, Paired}

-- ---- lengths, and what is left behind a line

pub fits_long : (ls : List Line) (ds : List PlainLaid) → Fits ls ds → length ds ≡ length ls
fits_long [] [] h = refl
fits_long [] (d ∷ ds) h = absurd h
fits_long (l ∷ ls) [] h = absurd h
fits_long (l ∷ ls) (d ∷ ds) h = ap suc (fits_long ls ds h.1)

pub fits_drop : (k : ℕ) (ls : List Line) (ds : List PlainLaid) → Fits ls ds → Fits (drop k ls) (drop k ds)
fits_drop zero ls ds h = h
fits_drop (suc k) [] [] h = tt
fits_drop (suc k) [] (d ∷ ds) h = absurd h
fits_drop (suc k) (l ∷ ls) [] h = absurd h
fits_drop (suc k) (l ∷ ls) (d ∷ ds) h = fits_drop k ls ds h.1

-- ---- a split

pub fits_splits : (v n : Place) (w : ℕ) (ls : List Line) (ds : List PlainLaid) → position v ls < length ls → Fits ls ds → Fits (splits ls v n w) (insert ds (suc (position v ls)) Nothing)
fits_splits v n w [] ds i h = absurd (omega arith)
fits_splits v n w (l ∷ ls) [] i h = absurd h
fits_splits v n w ((q, t) ∷ ls) (d ∷ ds) i h = by (bytes_eq q v) i (λ j. fits_splits v n w ls ds j h.1)
  where
    by : (b : Bool) → cond b 0 (suc (position v ls)) < suc (length ls) → (position v ls < length ls → Fits (splits ls v n w) (insert ds (suc (position v ls)) Nothing))
        → Fits (cond b ((q, t) ∷ (n, Held w) ∷ ls) ((q, t) ∷ splits ls v n w)) (insert (d ∷ ds) (suc (cond b 0 (suc (position v ls)))) Nothing)
    by true j r = (h.0, (refl, h.1))
    by false j r = (h.0, r (omega arith))

-- ---- a strand that is laid down

pub fits_becomes : (p : Place) (s : State) (d : PlainLaid) (ls : List Line) (ds : List PlainLaid) → position p ls < length ls → FitsLine (p, s) d → Fits ls ds → Fits (becomes s ls p) (slice_set ds (position p ls) d)
fits_becomes p s d [] ds i f h = absurd (omega arith)
fits_becomes p s d (l ∷ ls) [] i f h = absurd h
fits_becomes p s d ((q, t) ∷ ls) (e ∷ ds) i f h = by (bytes_eq q p) refl i (λ j. fits_becomes p s d ls ds j f h.1)
  where
    by : (b : Bool) → bytes_eq q p ≡ b → cond b 0 (suc (position p ls)) < suc (length ls) → (position p ls < length ls → Fits (becomes s ls p) (slice_set ds (position p ls) d))
        → Fits (cond b ((q, s) ∷ ls) ((q, t) ∷ becomes s ls p)) (slice_set (e ∷ ds) (cond b 0 (suc (position p ls))) d)
    by true g j r = (subst (λ q. FitsLine (q, s) d) (sym ((bytes_eq-Decides q p).0 g)) f, h.1)
    by false g j r = (h.0, r (omega arith))

-- ---- a fold

pub or_false : (a b : Bool) → a ≡ false → (a || b) ≡ true → b ≡ true
or_false true b e f = absurd cc
or_false false b e f = f

none_fold : (l r : Place) (ls : List Line) → NoneAt l ls → may_fold ls l r ≡ true → ⊥
none_fold l r [] h e = cc
none_fold l r (x ∷ []) h e = cc
none_fold l r ((p, s) ∷ (q, t) ∷ ls) h e =
    none_fold l r ((q, t) ∷ ls) h.1 (or_false (is_pair l r (p, s) (q, t)) (may_fold ((q, t) ∷ ls) l r) (ap (λ b. b && bytes_eq q r && done s && waits t) h.0) e)

pub same_none : (p l : Place) (ls : List Line) → bytes_eq p l ≡ true → NoneAt p ls → NoneAt l ls
same_none p l ls e h = subst (λ q. NoneAt q ls) ((bytes_eq-Decides p l).0 e) h

-- the pair that may be folded begins at the left strand's line
pub pair_at : (l r : Place) (ls : List Line) → Apart ls → may_fold ls l r ≡ true → begins_pair l r (drop (position l ls) ls) ≡ true
pair_at l r [] a e = absurd cc
pair_at l r (x ∷ []) a e = absurd cc
pair_at l r ((p, s) ∷ (q, t) ∷ ls) a e = by (bytes_eq p l) refl (λ f. pair_at l r ((q, t) ∷ ls) a.1 f)
  where
    rest : Bool
    rest = may_fold ((q, t) ∷ ls) l r

    here : (b : Bool) → b ≡ is_pair l r (p, s) (q, t) → (rest ≡ true → ⊥) → b || rest ≡ true → b ≡ true
    here true f n g = refl
    here false f n g = absurd (n g)

    by : (b : Bool) → bytes_eq p l ≡ b → (rest ≡ true → begins_pair l r (drop (position l ((q, t) ∷ ls)) ((q, t) ∷ ls)) ≡ true)
        → begins_pair l r (drop (cond b 0 (suc (position l ((q, t) ∷ ls)))) ((p, s) ∷ (q, t) ∷ ls)) ≡ true
    by true f g = here (is_pair l r (p, s) (q, t)) refl (none_fold l r ((q, t) ∷ ls) (same_none p l ((q, t) ∷ ls) f a.0)) e
    by false f g = g (or_false (is_pair l r (p, s) (q, t)) rest (ap (λ b. b && bytes_eq q r && done s && waits t) f) e)

none_begins : (q l r : Place) (k : ℕ) (ls : List Line) → bytes_eq q r ≡ true → NoneAt q ls → begins_with l r (drop k ls) ≡ true → ⊥
none_begins q l r zero [] e h f = cc
none_begins q l r zero (x ∷ []) e h f = cc
none_begins q l r zero (x ∷ y ∷ ls) e h f =
    let g : bytes_eq y.0 r ≡ true = (both_are (bytes_eq x.0 l) (bytes_eq y.0 r) f).1 in
    let i : bytes_eq y.0 r ≡ false = ap (λ p. bytes_eq y.0 p) (sym ((bytes_eq-Decides q r).0 e)) ∙ h.1.0 in cc
none_begins q l r (suc k) [] e h f = cc
none_begins q l r (suc k) (x ∷ ls) e h f = none_begins q l r k ls e h.1 f

-- two strands become one
pub fits_folds : (l r : Place) (w : ℕ) (ls : List Line) (ds : List PlainLaid) → Apart ls → begins_with l r (drop (position l ls) ls) ≡ true → Fits ls ds
    → Fits (becomes (Held w) (removes ls r) l) (folded (position l ls) ds)
fits_folds l r w [] ds a e h = absurd cc
fits_folds l r w (x ∷ ls) [] a e h = absurd h
fits_folds l r w ((q, t) ∷ ls) (d ∷ ds) a e h = by (bytes_eq q l) refl e (λ i. fits_folds l r w ls ds a.1 i h.1)
  where
    apart_from : (b : Bool) → bytes_eq q r ≡ b → (b ≡ true → ⊥) → bytes_eq q r ≡ false
    apart_from true f n = absurd (n refl)
    apart_from false f n = f

    first : (ls : List Line) (ds : List PlainLaid) → NoneAt q ls → Fits ls ds → bytes_eq q l ≡ true → begins_with l r ((q, t) ∷ ls) ≡ true
        → Fits (becomes (Held w) (cond (bytes_eq q r) ls ((q, t) ∷ removes ls r)) l) (folded 0 (d ∷ ds))
    first [] ds n g f i = absurd cc
    first (y ∷ ls) [] n g f i = absurd g
    first (y ∷ ls) (c ∷ ds) n g f i =
        let j : bytes_eq y.0 r ≡ true = (both_are (bytes_eq q l) (bytes_eq y.0 r) i).1 in
        let m : bytes_eq q r ≡ false = apart_from (bytes_eq q r) refl (λ v. let z : bytes_eq y.0 r ≡ false = ap (λ p. bytes_eq y.0 p) (sym ((bytes_eq-Decides q r).0 v)) ∙ n.0 in cc) in
        subst (λ b. Fits (becomes (Held w) (cond b (y ∷ ls) ((q, t) ∷ cond (bytes_eq y.0 r) ls (y ∷ removes ls r))) l) (folded 0 (d ∷ c ∷ ds))) (sym m)
        (subst (λ b. Fits (becomes (Held w) ((q, t) ∷ cond b ls (y ∷ removes ls r)) l) (folded 0 (d ∷ c ∷ ds))) (sym j)
        (subst (λ b. Fits (cond b ((q, Held w) ∷ ls) ((q, t) ∷ becomes (Held w) ls l)) (Nothing ∷ ds)) (sym f) (refl, g.1)))

    by : (b : Bool) → bytes_eq q l ≡ b → begins_with l r (drop (cond b 0 (suc (position l ls))) ((q, t) ∷ ls)) ≡ true
        → (begins_with l r (drop (position l ls) ls) ≡ true → Fits (becomes (Held w) (removes ls r) l) (folded (position l ls) ds))
        → Fits (becomes (Held w) (cond (bytes_eq q r) ls ((q, t) ∷ removes ls r)) l) (folded (cond b 0 (suc (position l ls))) (d ∷ ds))
    by true f i g = first ls ds a.0 h.1 f i
    by false f i g =
        let m : bytes_eq q r ≡ false = apart_from (bytes_eq q r) refl (λ v. none_begins q l r (position l ls) ls v a.0 i) in
        subst (λ b. Fits (becomes (Held w) (cond b ls ((q, t) ∷ removes ls r)) l) (folded (suc (position l ls)) (d ∷ ds))) (sym m)
        (subst (λ b. Fits (cond b ((q, Held w) ∷ removes ls r) ((q, t) ∷ becomes (Held w) (removes ls r) l)) (folded (suc (position l ls)) (d ∷ ds))) (sym f) (h.0, g i))

-- ---- a pair

held_not_done : (s : State) → is_held s ≡ true → done s ≡ true → ⊥
held_not_done (Held w) e f = cc
held_not_done Ended e f = cc
held_not_done Stalled e f = cc
held_not_done Faulted e f = cc
held_not_done Finished e f = cc

held_not_waits : (s : State) → is_held s ≡ true → waits s ≡ true → ⊥
held_not_waits (Held w) e f = cc
held_not_waits Ended e f = cc
held_not_waits Stalled e f = cc
held_not_waits Faulted e f = cc
held_not_waits Finished e f = cc

over_done : (r : LaidState) → is_over r ≡ done (state_as r)
over_done laid_state.Ended = refl
over_done laid_state.Stalled = refl
over_done laid_state.Faulted = refl
over_done laid_state.Finished = refl

waiting_waits : (r : LaidState) → is_waiting r ≡ waits (state_as r)
waiting_waits laid_state.Ended = refl
waiting_waits laid_state.Stalled = refl
waiting_waits laid_state.Faulted = refl
waiting_waits laid_state.Finished = refl

-- two neighbours of which the list says that they may be folded
are_pair : (x y : Line) (d e : PlainLaid) → FitsLine x d → FitsLine y e → done x.1 ≡ true → waits y.1 ≡ true → may_be_one d e ≡ true → ArePair d e
are_pair x y Nothing e f g a b m = absurd (held_not_done x.1 f a)
are_pair x y (Whole p) Nothing f g a b m = absurd (held_not_waits y.1 g b)
are_pair x y (Whole p) (Whole q) f g a b m = (over_done p.state ∙ ap done (sym f.0) ∙ a, waiting_waits q.state ∙ ap waits (sym g.0) ∙ b, m)
are_pair x y (Whole p) (Half q r) f g a b m = absurd cc
are_pair x y (Whole p) (Paired r) f g a b m = absurd cc
are_pair x y (Half q r) Nothing f g a b m = absurd (held_not_waits y.1 g b)
are_pair x y (Half q r) (Whole p) f g a b m = absurd cc
are_pair x y (Half q r) (Half p t) f g a b m = absurd cc
are_pair x y (Half q r) (Paired t) f g a b m = tt
are_pair x y (Paired r) Nothing f g a b m = absurd (held_not_waits y.1 g b)
are_pair x y (Paired r) (Whole p) f g a b m = absurd cc
are_pair x y (Paired r) (Half p t) f g a b m = absurd cc
are_pair x y (Paired r) (Paired t) f g a b m = absurd cc

pub begins_pair_kept : (l r : Place) (ls : List Line) (ds : List PlainLaid) → begins_pair l r ls ≡ true → Fits ls ds → may_touch ds ≡ true → BeginWithPair ds
begins_pair_kept l r [] ds e h m = absurd cc
begins_pair_kept l r (x ∷ []) ds e h m = absurd cc
begins_pair_kept l r (x ∷ y ∷ ls) [] e h m = absurd h
begins_pair_kept l r (x ∷ y ∷ ls) (d ∷ []) e h m = absurd h.1
begins_pair_kept l r (x ∷ y ∷ ls) (d ∷ c ∷ ds) e h m =
    let f = both_are (bytes_eq x.0 l && bytes_eq y.0 r && done x.1) (waits y.1) e in
    let g = both_are (bytes_eq x.0 l && bytes_eq y.0 r) (done x.1) f.0 in
    are_pair x y d c h.0 h.1.0 g.1 f.1 m

pub begins_pair_with : (l r : Place) (ls : List Line) → begins_pair l r ls ≡ true → begins_with l r ls ≡ true
begins_pair_with l r [] e = absurd cc
begins_pair_with l r (x ∷ []) e = absurd cc
begins_pair_with l r (x ∷ y ∷ ls) e =
    let f = both_are (bytes_eq x.0 l && bytes_eq y.0 r && done x.1) (waits y.1) e in
    (both_are (bytes_eq x.0 l && bytes_eq y.0 r) (done x.1) f.0).0

-- such a pair has two lines
pub pair_within : (k : ℕ) (ds : List PlainLaid) → BeginWithPair (drop k ds) → suc k < length ds
pair_within zero [] h = absurd h
pair_within zero (d ∷ []) h = absurd h
pair_within zero (d ∷ e ∷ ds) h = omega arith
pair_within (suc k) [] h = absurd h
pair_within (suc k) (d ∷ ds) h = let i = pair_within k ds h in omega arith

lies_fitting : (p : Place) (s : State) (d : PlainLaid) (r : LaidState) → FitsLine (p, s) d → LiesAs d r → s ≡ state_as r
lies_fitting p s Nothing r f e = absurd e
lies_fitting p s (Whole q) r f e = f.0 ∙ ap state_as (sym e)
lies_fitting p s (Half q t) r f e = f.0 ∙ ap state_as (sym e)
lies_fitting p s (Paired t) r f e = f ∙ ap state_as (sym e)

-- a pair is at the place of its left strand
made_fits : (x : Line) (d e : PlainLaid) (pair : PlainPair) → FitsLine x d → IsMadeOf d e pair → place_of pair.left.start pair.left.path ≡ x.0
made_fits x Nothing e pair f m = absurd m
made_fits x (Whole p) Nothing pair f m = absurd m
made_fits x (Whole p) (Whole q) pair f m = ap (λ (s : PlainStrand). place_of s.start s.path) m.left ∙ f.1
made_fits x (Whole p) (Half q r) pair f m = absurd m
made_fits x (Whole p) (Paired r) pair f m = absurd m
made_fits x (Half q r) e pair f m = ap (λ (s : PlainStrand). place_of s.start s.path) m.left ∙ f.1
made_fits x (Paired r) e pair f m = absurd m

-- a fold that was refused
pub fits_halved : (k : ℕ) (pair : PlainPair) (over waiting : LaidState) (ls : List Line) (ds : List PlainLaid) → BeginAt (drop k ds) over waiting → BeginAsPair (drop k ds) pair → Fits ls ds → Fits ls (halved k pair over waiting ds)
fits_halved zero pair over waiting [] ds b m h = fits_none ds b h
  where
    fits_none : (ds : List PlainLaid) → BeginAt ds over waiting → Fits [] ds → Fits [] (halved 0 pair over waiting ds)
    fits_none [] b h = absurd b
    fits_none (d ∷ ds) b h = absurd h
fits_halved zero pair over waiting (x ∷ ls) [] b m h = absurd h
fits_halved zero pair over waiting (x ∷ ls) (d ∷ []) b m h = absurd b
fits_halved zero pair over waiting (x ∷ []) (d ∷ e ∷ ds) b m h = absurd h.1
fits_halved zero pair over waiting (x ∷ y ∷ ls) (d ∷ e ∷ ds) b m h = ((lies_fitting x.0 x.1 d over h.0 b.0, made_fits x d e pair h.0 m), (lies_fitting y.0 y.1 e waiting h.1.0 b.1, h.1.1))
fits_halved (suc k) pair over waiting ls [] b m h = absurd b
fits_halved (suc k) pair over waiting [] (d ∷ ds) b m h = absurd h
fits_halved (suc k) pair over waiting (x ∷ ls) (d ∷ ds) b m h = (h.0, fits_halved k pair over waiting ls ds b m h.1)

-- a pair that is still the one that these two are is made of them
pub made_of : (d e : PlainLaid) (pair new : PlainPair) → IsPairOf d e pair → IsStill pair new → IsMadeOf d e new
made_of Nothing e pair new p s = absurd p
made_of (Whole l) Nothing pair new p s = absurd p
made_of (Whole l) (Whole r) pair new p s = subst (λ (q : PlainPair). IsStill q new) p s
made_of (Whole l) (Half q r) pair new p s = absurd p
made_of (Whole l) (Paired r) pair new p s = absurd p
made_of (Half q r) e pair new p s = subst (λ (z : PlainPair). IsStill z new) p s
made_of (Paired r) e pair new p s = absurd p

-- ---- the end

root_named : (r : LaidState) (p : PlainPiece) (q : Place) → p.state ≡ r → ends_as r p.strand ≡ true → FitsLine (q, state_as r) (Whole p) → q ≡ []
root_named laid_state.Ended p q e f h = absurd cc
root_named laid_state.Stalled p q e f h = absurd cc
root_named laid_state.Faulted p q e f h = sym h.1 ∙ same_name_true (place_of p.strand.start p.strand.path) [] f
root_named laid_state.Finished p q e f h = h.2 refl

ended_alone : (steps : List BookStep) (lines : List Line) (used : List Place) (ds : List PlainLaid) → replayed steps ≡ Some (record { lines = lines; split_off = used }) → Fits lines ds → ends_alone ds ≡ true → LeavesRootAlone steps
ended_alone steps lines used [] e h f = absurd cc
ended_alone steps lines used (Nothing ∷ ds) e h f = absurd cc
ended_alone steps lines used (Half q r ∷ ds) e h f = absurd cc
ended_alone steps lines used (Paired r ∷ ds) e h f = absurd cc
ended_alone steps lines used (Whole p ∷ d ∷ ds) e h f = absurd cc
ended_alone steps [] used (Whole p ∷ []) e h f = absurd h
ended_alone steps (x ∷ y ∷ lines) used (Whole p ∷ []) e h f = absurd h.1
ended_alone steps ((q, s) ∷ []) used (Whole p ∷ []) e h f = record {
  book = record { lines = (q, s) ∷ []; split_off = used };
  state = s;
  legal = e;
  alone = ap (λ q. (q, s) ∷ []) (root_named p.state p q refl f (subst (λ t. FitsLine (q, t) (Whole p)) h.0.0 h.0));
}

pub leaves_root_alone : (b : PlainChronicle) (ds : List PlainLaid) → IsBook b ds → ends_alone ds ≡ true → LeavesRootAlone b.history
leaves_root_alone b ds h e = ended_alone b.history b.page.lines b.page.split_off ds h.legal h.fits e

-- ---- two that are taken out of a list

pub two_taken : {A : Type 0} (k : ℕ) (xs : List A) (x y : A) → k + 1 < length xs → x ≡ get_or xs k x → y ≡ get_or xs (k + 1) y → drop k xs ≡ x ∷ y ∷ drop (suc (suc k)) xs
two_taken k [] x y h e f = absurd (omega arith)
two_taken zero (a ∷ []) x y h e f = absurd (omega arith)
two_taken zero (a ∷ b ∷ xs) x y h e f = ap (λ a. a ∷ b ∷ xs) (sym e) ∙ ap (λ b. x ∷ b ∷ xs) (sym f)
two_taken (suc k) (a ∷ xs) x y h e f = let n : suc k + 1 ≡ suc (k + 1) = omega arith in two_taken k xs x y (omega arith) e (f ∙ ap (λ m. get_or (a ∷ xs) m y) n)

set_again : {A : Type 0} (k : ℕ) (xs : List A) (n h l : A) → slice_set (slice_set (slice_set (slice_set xs k n) (suc k) n) k h) (suc k) l ≡ slice_set (slice_set xs k h) (suc k) l
set_again zero [] n h l = refl
set_again zero (a ∷ []) n h l = refl
set_again zero (a ∷ b ∷ xs) n h l = refl
set_again (suc k) [] n h l = refl
set_again (suc k) (a ∷ xs) n h l = ap (λ xs. a ∷ xs) (set_again k xs n h l)

remove_again : {A : Type 0} (k : ℕ) (xs : List A) (n : A) → remove (slice_set (slice_set xs k n) (suc k) n) (suc k) ≡ remove (slice_set xs k n) (suc k)
remove_again zero [] n = refl
remove_again zero (a ∷ []) n = refl
remove_again zero (a ∷ b ∷ xs) n = refl
remove_again (suc k) [] n = refl
remove_again (suc k) (a ∷ xs) n = ap (λ xs. a ∷ xs) (remove_again k xs n)

next : (k : ℕ) → k + 1 ≡ suc k
next k = omega arith

pub folded_taken : (k : ℕ) (ds es : List PlainLaid) → es ≡ slice_set (slice_set ds k Nothing) (k + 1) Nothing → remove es (k + 1) ≡ folded k ds
folded_taken k ds es e =
    ap (λ xs. remove xs (k + 1)) e ∙ ap (λ n. remove (slice_set (slice_set ds k Nothing) n Nothing) n) (next k) ∙ remove_again k ds Nothing

pub halved_taken : (k : ℕ) (pair : PlainPair) (over waiting : LaidState) (ds es fs : List PlainLaid) (x y : PlainLaid) → drop k ds ≡ x ∷ y ∷ drop (suc (suc k)) ds → LiesAs x over → LiesAs y waiting → IsMadeOf x y pair
    → es ≡ slice_set (slice_set ds k Nothing) (k + 1) Nothing → fs ≡ slice_set (slice_set es k (Half pair over)) (k + 1) (Paired waiting) → IsHalved k ds fs
halved_taken k pair over waiting ds es fs x y t o w m e f = record {
  pair = pair;
  over = over;
  waiting = waiting;
  lies = subst (λ xs. BeginAt xs over waiting) (sym t) (o, w);
  made = subst (λ xs. BeginAsPair xs pair) (sym t) m;
  are = f ∙ ap (λ xs. slice_set (slice_set xs k (Half pair over)) (k + 1) (Paired waiting)) e ∙ ap (λ n. slice_set (slice_set (slice_set (slice_set ds k Nothing) n Nothing) k (Half pair over)) n (Paired waiting)) (next k)
      ∙ set_again k ds Nothing (Half pair over) (Paired waiting);
}
