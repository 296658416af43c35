-- Each step keeps what the book's type keeps.
use Rattle.std.proofs.Common.{◌≡◌, inl, Result, Ok, Err, IfOk, IfErr, ℕ, zero, suc, ◌+◌, ◌<◌, ◌≤◌, Bool, true, false, not, ◌&&◌, ◌||◌, List, [], ◌∷◌, ◌++◌, length, drop, slice_set, Some, refl, sym, ap, ◌∙◌, subst, arith, bytes_eq, cond}
use Rattle.std.specs.List.{insert, remove}
use Rattle.meaning.specs.Outcome.{Place}
use Rattle.meaning.specs.Strands.{Ended, Stalled, Faulted, Finished, Line, BookStep, Split, Fold, Book, is_free, is_held_at, is_root, is_alone, may_fold, becomes, splits, folds, if_allowed, stepped, first_book, replayed, replayed_on}
use Rattle.strand_theory.proofs.Names.{both_are}
use Rattle.strand_theory.proofs.Books.{replayed_append}
use Rattle.positions.specs.Simulation.{place_of}
use Rattle.positions.specs.Strands.{PlainStrand}
use Rattle.right_strands.specs.Laid.{PlainPiece}
use Rattle.strand_list.specs.declared.laid_state.LaidState.{LaidState}
use Rattle.strand_list.specs.declared.laid_state.LaidState.TheVariants as laid_state
use Rattle.strand_list.specs.Laying.{state_as, laying_step}
use Rattle.strand_list.specs.Pages.{position, are_neighbours, Apart}
use Rattle.strand_lines.specs.Lines.{has_strand, is_unused}
use Rattle.strand_list.specs.Chronicled.{PlainChronicle, Took, unless, unless_allowed, split_refusal, laying_refusal}
use Rattle.sync_fold.specs.Books.{PlainLaid, PlainBook, IsBook, Fits, BeginWithPair, IsHalved, may_touch, touch, folded, first_fold, fold_refusal, BecomeOne, FirstBecome, FirstStay, KeepsFrom, KeepsStrands, IsWhole, ends_alone}
use Rattle.strand_list.specs.declared.error.BookError.{BookError}
use Rattle.strand_list.specs.declared.error.BookError.TheVariants as error
use Rattle.sync_fold.specs.declared.laid.Laid.TheVariants.{Nothing, Whole, Half, Paired}
use Rattle.strand_list.proofs.Apart.{replayed_apart}
use Rattle.strand_list.proofs.Lists.{folds_apart, add_one}
use Rattle.sync_fold.proofs.Fitting.{fits_long, fits_drop, fits_splits, fits_becomes, fits_folds, fits_halved, pair_at, begins_pair_kept, begins_pair_with, pair_within}

-- a book by its parts
abbrev pub book_of : PlainChronicle → List PlainLaid → PlainBook
book_of c ds = record { chronicle = c; laid = ds }

pub apart_of : (b : PlainChronicle) (ds : List PlainLaid) → IsBook b ds → Apart b.page.lines
apart_of b ds h = replayed_apart b.history b.page h.legal

pub long_of : (b : PlainChronicle) (ds : List PlainLaid) → IsBook b ds → length ds ≡ length b.page.lines
long_of b ds h = fits_long b.page.lines ds h.fits

legal_next : (b c : PlainChronicle) (s : BookStep) → replayed b.history ≡ Some b.page → Took b s c → replayed c.history ≡ Some c.page
legal_next b c s e t =
    ap replayed t.noted ∙ replayed_append (Some first_book) b.history (s ∷ []) ∙ ap (λ o. replayed_on o (s ∷ [])) e ∙ ap (λ o. replayed_on o []) t.allowed

if_lines : (g : Bool) (ls : List Line) (used : List Place) (c : Book) → if_allowed g ls used ≡ Some c → (g ≡ true) × (c.lines ≡ ls)
if_lines true ls used c e = (refl, let q : record { lines = ls; split_off = used } ≡ c = cc in ap (λ (b : Book). b.lines) (sym q))
if_lines false ls used c e = absurd cc

pub same_keeps : (b c : PlainChronicle) (ds es : List PlainLaid) → IsBook b ds → c ≡ b → es ≡ ds → IsBook c es
same_keeps b c ds es h e f = subst (λ c. IsBook c es) (sym e) (subst (IsBook b) (sym f) h)

-- ---- a split

pub split_keeps : (b c : PlainChronicle) (ds es : List PlainLaid) (v n : Place) (w k : ℕ) → IsBook b ds → Took b (Split v n w) c → k ≡ position v b.page.lines → k < length b.page.lines → es ≡ insert ds (k + 1) Nothing → IsBook c es
split_keeps b c ds es v n w k h t at i e =
    let ls = b.page.lines in
    let l = if_lines (is_held_at ls v && not (is_root n) && is_unused n b.page.split_off && is_free ls w) (splits ls v n w) (n ∷ b.page.split_off) c.page t.allowed in
    let f : es ≡ insert ds (suc (position v ls)) Nothing = e ∙ ap (λ m. insert ds m Nothing) (add_one k ∙ ap suc at) in
    record {
      legal = legal_next b c (Split v n w) h.legal t;
      fits = subst (λ ls. Fits ls es) (sym l.1) (subst (Fits (splits ls v n w)) (sym f) (fits_splits v n w ls ds (subst (λ k. k < length ls) at i) h.fits));
    }

pub remove_insert : {A : Type 0} (k : ℕ) (xs : List A) (x : A) → k ≤ length xs → remove (insert xs k x) k ≡ xs
remove_insert zero xs x h = refl
remove_insert (suc k) [] x h = absurd (omega arith)
remove_insert (suc k) (y ∷ xs) x h = ap (λ xs. y ∷ xs) (remove_insert k xs x (omega arith))

-- what is put behind a strand and taken out again
pub put_long : {A : Type 0} (k : ℕ) (xs ys : List A) (x : A) → k < length xs → ys ≡ insert xs (k + 1) x → k + 1 < length ys
put_long k xs ys x h e = subst (λ ys. k + 1 < length ys) (sym (e ∙ ap (λ n. insert xs n x) (add_one k))) (longer k xs x h)
  where
    longer : {A : Type 0} (k : ℕ) (xs : List A) (x : A) → k < length xs → k + 1 < length (insert xs (suc k) x)
    longer k [] x h = absurd (omega arith)
    longer zero (y ∷ xs) x h = omega arith
    longer (suc k) (y ∷ xs) x h = let i = longer k xs x (omega arith) in omega arith

pub put_taken : {A : Type 0} (k : ℕ) (xs ys zs : List A) (x : A) → k < length xs → ys ≡ insert xs (k + 1) x → zs ≡ remove ys (k + 1) → zs ≡ xs
put_taken k xs ys zs x h e f = f ∙ ap (λ ys. remove ys (k + 1)) e ∙ remove_insert (k + 1) xs x (omega arith)

-- ---- a strand that is laid down

root_is : (p : Place) → is_root p ≡ true → p ≡ []
root_is [] e = refl
root_is (n ∷ p) e = absurd cc

laying_lines : (b c : Book) (r : LaidState) (p : Place) → stepped b (laying_step r p) ≡ Some c → (c.lines ≡ becomes (state_as r) b.lines p) × (state_as r ≡ Finished → p ≡ [])
laying_lines b c laid_state.Ended p e = ((if_lines (is_held_at b.lines p) (becomes Ended b.lines p) b.split_off c e).1, λ f. absurd cc)
laying_lines b c laid_state.Faulted p e = ((if_lines (is_held_at b.lines p) (becomes Faulted b.lines p) b.split_off c e).1, λ f. absurd cc)
laying_lines b c laid_state.Stalled p e = ((if_lines (is_held_at b.lines p && not (is_root p)) (becomes Stalled b.lines p) b.split_off c e).1, λ f. absurd cc)
laying_lines b c laid_state.Finished p e =
    let l = if_lines (is_held_at b.lines p && is_root p && is_alone b.lines) (becomes Finished b.lines p) b.split_off c e in
    (l.1, λ f. root_is p (both_are (is_held_at b.lines p) (is_root p) (both_are (is_held_at b.lines p && is_root p) (is_alone b.lines) l.0).0).1)

pub lay_keeps : (b c : PlainChronicle) (ds es : List PlainLaid) (r : LaidState) (p : Place) (q : PlainPiece) (k : ℕ) → IsBook b ds → Took b (laying_step r p) c → r ≡ q.state → p ≡ place_of q.strand.start q.strand.path
    → k ≡ position p b.page.lines → k < length b.page.lines → es ≡ slice_set ds k (Whole q) → IsBook c es
lay_keeps b c ds es r p q k h t e f at i g =
    let ls = b.page.lines in
    let l = laying_lines b.page c.page r p t.allowed in
    record {
      legal = legal_next b c (laying_step r p) h.legal t;
      fits = subst (λ ls. Fits ls es) (sym l.0) (subst (Fits (becomes (state_as r) ls p)) (sym (g ∙ ap (λ k. slice_set ds k (Whole q)) at))
          (fits_becomes p (state_as r) (Whole q) ls ds (subst (λ k. k < length ls) at i) (ap state_as e, sym f, l.1) h.fits));
    }

-- ---- a fold

pub pair_there : (b : PlainChronicle) (ds : List PlainLaid) (l r : Place) (w : ℕ) → IsBook b ds → (may_fold b.page.lines l r && is_free b.page.lines w) ≡ true → touch (book_of b ds) l r ≡ true → BeginWithPair (drop (position l b.page.lines) ds)
pair_there b ds l r w h m t =
    let ls = b.page.lines in
    let p = pair_at l r ls (apart_of b ds h) (both_are (may_fold ls l r) (is_free ls w) m).0 in
    begins_pair_kept l r (drop (position l ls) ls) (drop (position l ls) ds) p (fits_drop (position l ls) ls ds h.fits) (both_are (are_neighbours l r ls) (may_touch (drop (position l ls) ds)) t).1

pub pair_long : (k : ℕ) (ds : List PlainLaid) → BeginWithPair (drop k ds) → k + 1 < length ds
pair_long k ds h = let i = pair_within k ds h in omega arith

pub fold_keeps : (b c : PlainChronicle) (ds es : List PlainLaid) (l r : Place) (w k : ℕ) → IsBook b ds → Took b (Fold l r w) c → k ≡ position l b.page.lines → es ≡ folded k ds → IsBook c es
fold_keeps b c ds es l r w k h t at e =
    let ls = b.page.lines in
    let a = apart_of b ds h in
    let g = if_lines (may_fold ls l r && is_free ls w) (folds ls l r w) b.page.split_off c.page t.allowed in
    let p = begins_pair_with l r (drop (position l ls) ls) (pair_at l r ls a (both_are (may_fold ls l r) (is_free ls w) g.0).0) in
    record {
      legal = legal_next b c (Fold l r w) h.legal t;
      fits = subst (λ ls. Fits ls es) (sym (g.1 ∙ folds_apart l r w ls a)) (subst (Fits _) (sym (e ∙ ap (λ k. folded k ds) at)) (fits_folds l r w ls ds a p h.fits));
    }

pub halve_keeps : (b c : PlainChronicle) (ds es : List PlainLaid) (k : ℕ) → IsBook b ds → c ≡ b → IsHalved k ds es → IsBook c es
halve_keeps b c ds es k h e i = subst (λ c. IsBook c es) (sym e) (record {
  legal = h.legal;
  fits = subst (Fits b.page.lines) (sym i.are) (fits_halved k i.pair i.over i.waiting b.page.lines ds i.lies i.made h.fits);
})

-- ---- refusals

pub missing : (p : Place) (ls : List Line) → position p ls ≡ length ls → has_strand p ls ≡ false
missing p [] e = refl
missing p (l ∷ ls) e = by (bytes_eq l.0 p) e (λ f. missing p ls f)
  where
    by : (b : Bool) → cond b 0 (suc (position p ls)) ≡ suc (length ls) → (position p ls ≡ length ls → has_strand p ls ≡ false) → (b || has_strand p ls) ≡ false
    by true f r = absurd (omega arith)
    by false f r = r (omega arith)

pub lay_missing : (b : Book) (r : LaidState) (p : Place) → position p b.lines ≡ length b.lines → laying_refusal b r p ≡ Some error.NoStrand
lay_missing b r p e = ap (λ t. unless t error.NoStrand (unless (is_held_at b.lines p) error.AlreadyLaid (unless_allowed (stepped b (laying_step r p))))) (missing p b.lines e)

pub split_missing : (b : Book) (v n : Place) (w : ℕ) → position v b.lines ≡ length b.lines → split_refusal b v n w ≡ Some error.NoStrand
split_missing b v n w e = ap (λ t. unless t error.NoStrand (unless_allowed (stepped b (Split v n w)))) (missing v b.lines e)

-- ---- neighbours

missing_next : (l r : Place) (ls : List Line) → position l ls ≡ length ls → are_neighbours l r ls ≡ false
missing_next l r [] e = refl
missing_next l r (x ∷ []) e = refl
missing_next l r (x ∷ y ∷ ls) e = by (bytes_eq x.0 l) e (λ f. missing_next l r (y ∷ ls) f)
  where
    by : (b : Bool) → cond b 0 (suc (position l (y ∷ ls))) ≡ suc (suc (length ls)) → (position l (y ∷ ls) ≡ suc (length ls) → are_neighbours l r (y ∷ ls) ≡ false)
        → ((b && bytes_eq y.0 r) || are_neighbours l r (y ∷ ls)) ≡ false
    by true f h = absurd (omega arith)
    by false f h = h (omega arith)

pub touch_missing : (b : PlainBook) (l r : Place) → position l b.chronicle.page.lines ≡ length b.chronicle.page.lines → touch b l r ≡ false
touch_missing b l r e = ap (λ n. n && may_touch (drop (position l b.chronicle.page.lines) b.laid)) (missing_next l r b.chronicle.page.lines e)

pub touch_apart : (b : PlainBook) (l r : Place) (n : Bool) → n ≡ are_neighbours l r b.chronicle.page.lines → n ≡ false → touch b l r ≡ false
touch_apart b l r n e f = ap (λ n. n && may_touch (drop (position l b.chronicle.page.lines) b.laid)) (sym e ∙ f)

pub touch_here : (b : PlainBook) (l r : Place) (k : ℕ) (n m : Bool) → k ≡ position l b.chronicle.page.lines → n ≡ are_neighbours l r b.chronicle.page.lines → n ≡ true → m ≡ may_touch (drop k b.laid) → m ≡ touch b l r
touch_here b l r k n m at e f h =
    h ∙ ap (λ k. may_touch (drop k b.laid)) at ∙ ap (λ n. n && may_touch (drop (position l b.chronicle.page.lines) b.laid)) (sym (sym e ∙ f))

-- ---- what a refused fold keeps

pub kept_same : (k : ℕ) (e : BookError) (ds es : List PlainLaid) → es ≡ ds → KeepsFrom k e ds es
kept_same k error.NoMemory ds es h = inl h
kept_same k error.NotNeighbour ds es h = h
kept_same k error.AlreadyLaid ds es h = h
kept_same k error.NoStrand ds es h = h
kept_same k error.NotThere ds es h = h

-- ---- why a fold is refused

abbrev pub both_in : Place → Place → List Line → Bool
both_in l r ls = has_strand l ls && has_strand r ls

module _ (b : PlainBook) (l r : Place) (w : ℕ) (s : Bool) (same : s ≡ (has_strand l b.chronicle.page.lines && has_strand r b.chronicle.page.lines)) where
  pub fold_missing : s ≡ false → fold_refusal b l r w ≡ Some error.NoStrand
  fold_missing e = ap (λ s. unless s error.NoStrand (unless (touch b l r) error.NotNeighbour (unless_allowed (stepped b.chronicle.page (Fold l r w))))) (sym same ∙ e)

  pub fold_apart : (t : Bool) → s ≡ true → t ≡ touch b l r → t ≡ false → fold_refusal b l r w ≡ Some error.NotNeighbour
  fold_apart t e f g =
      ap (λ s. unless s error.NoStrand (unless (touch b l r) error.NotNeighbour (unless_allowed (stepped b.chronicle.page (Fold l r w))))) (sym same ∙ e)
      ∙ ap (λ t. unless t error.NotNeighbour (unless_allowed (stepped b.chronicle.page (Fold l r w)))) (sym f ∙ g)

  pub fold_passes : (t : Bool) → s ≡ true → t ≡ touch b l r → t ≡ true → fold_refusal b l r w ≡ unless_allowed (stepped b.chronicle.page (Fold l r w))
  fold_passes t e f g =
      ap (λ s. unless s error.NoStrand (unless (touch b l r) error.NotNeighbour (unless_allowed (stepped b.chronicle.page (Fold l r w))))) (sym same ∙ e)
      ∙ ap (λ t. unless t error.NotNeighbour (unless_allowed (stepped b.chronicle.page (Fold l r w)))) (sym f ∙ g)

-- ---- a fold of the first two that may be folded

-- what a fold of them gives is the strand that they are
pub first_become : {A : Type 0} (b : PlainBook) (l r n : Place) → first_fold b ≡ Some (l, r) → n ≡ l → (result : Result A BookError) (of : A → PlainStrand) → IfOk result (λ a. BecomeOne b n (of a)) → IfOk result (λ a. FirstBecome b (of a))
first_become b l r n e f (Ok a) of h = record { left = l; right = r; first = e; joined = subst (λ (p : Place). BecomeOne b p (of a)) f h }
first_become b l r n e f (Err x) of h = tt

-- and a refusal of it keeps strands as that of these two does
pub first_stay : {A : Type 0} (b c : PlainBook) (l r n : Place) → first_fold b ≡ Some (l, r) → n ≡ l → (result : Result A BookError) → IfErr result (λ e. KeepsStrands b n e c) → IfErr result (λ e. FirstStay b e c)
first_stay b c l r n e f (Ok a) h = tt
first_stay b c l r n e f (Err x) h = record { left = l; right = r; first = e; kept = subst (λ (p : Place). KeepsStrands b p x c) f h }

-- ---- the strand that is left

pub alone_popped : (ds es : List PlainLaid) (d : PlainLaid) → ds ≡ es ++ d ∷ [] → ends_alone ds ≡ true → ds ≡ d ∷ []
alone_popped ds es d e f = e ∙ alone es (subst (λ ds. ends_alone ds ≡ true) e f)
  where
    alone : (es : List PlainLaid) → ends_alone (es ++ d ∷ []) ≡ true → es ++ d ∷ [] ≡ d ∷ []
    alone [] g = refl
    alone (Nothing ∷ es) g = absurd cc
    alone (Whole p ∷ []) g = absurd cc
    alone (Whole p ∷ x ∷ es) g = absurd cc
    alone (Half q r ∷ es) g = absurd cc
    alone (Paired r ∷ es) g = absurd cc

pub alone_whole : (d : PlainLaid) → ends_alone (d ∷ []) ≡ true → IsWhole d
alone_whole Nothing e = absurd cc
alone_whole (Whole p) e = tt
alone_whole (Half q r) e = absurd cc
alone_whole (Paired r) e = absurd cc

pub whole_same : (p q : PlainPiece) (ds : List PlainLaid) → ds ≡ Whole p ∷ [] → ds ≡ Whole q ∷ [] → p ≡ q
whole_same p q ds e f = let same : Whole p ∷ [] ≡ Whole q ∷ [] = sym e ∙ f in cc
