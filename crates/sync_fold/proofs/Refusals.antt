-- Which refusals calls of a book give.
use Rattle.std.proofs.Common.{◌≡◌, ℕ, suc, Bool, true, false, cond, ◌&&◌, ◌||◌, List, [], ◌∷◌, drop, Option, Some, None, Result, Ok, Err, IfErr, OnOk, refl, ap, sym, ◌∙◌, subst, bytes_eq}
use Rattle.std.proofs.lemmas.Slice.Eq.{bytes_eq-Decides}
use Rattle.meaning.specs.Outcome.{Place}
use Rattle.meaning.specs.Strands.{Line, Book, Split, Fold, done, waits, is_held_at, stepped}
use Rattle.strand_theory.proofs.Names.{both_are}
use Rattle.strand_theory.proofs.Books.{NoneAt}
use Rattle.right_strands.specs.Laid.{PlainPiece}
use Rattle.strand_list.specs.declared.laid_state.LaidState.{LaidState}
use Rattle.strand_list.specs.Laying.{laying_step}
use Rattle.strand_list.specs.Pages.{position, held_place, are_neighbours, Apart}
use Rattle.strand_lines.specs.Lines.{has_strand, begins_with}
use Rattle.strand_list.specs.Chronicled.{PlainChronicle, Took, IsRefusedBy, unless, unless_allowed, split_refusal, laying_refusal}
use Rattle.strand_list.specs.declared.error.BookError.{BookError}
use Rattle.strand_list.specs.declared.error.BookError.TheVariants as error
use Rattle.sync_fold.specs.Books.{PlainLaid, PlainBook, IsBook, begins_at, lay_refusal, may_touch, touch, folds_here, fold_among, first_fold, fold_refusal}
use Rattle.sync_fold.specs.Refusals.{Call, TookHeld, refusal_of, refusal_from, HoldsNone, held_refusal, WasRefused, WasGiven, is_apart}
use Rattle.sync_fold.proofs.Fitting.{or_false, same_none}
use Rattle.sync_fold.proofs.Keeping.{apart_of}

-- a call that a book refuses shows that one was refused
pub given : (b : PlainBook) → IsBook b.chronicle b.laid → (call : Call) → (e : BookError) → IsRefusedBy (refusal_of b call) e → WasGiven e
given b h call error.NoMemory r = tt
given b h call error.NotNeighbour r = record { book = b; kept = h; call = call; refused = r }
given b h call error.AlreadyLaid r = record { book = b; kept = h; call = call; refused = r }
given b h call error.NoStrand r = record { book = b; kept = h; call = call; refused = r }
given b h call error.NotThere r = record { book = b; kept = h; call = call; refused = r }

pub refused_for : (e : BookError) → (e ≡ error.NoMemory → ⊥) → WasGiven e → WasRefused e
refused_for error.NoMemory n g = absurd (n refl)
refused_for error.NotNeighbour n g = g
refused_for error.AlreadyLaid n g = g
refused_for error.NoStrand n g = g
refused_for error.NotThere n g = g

-- a worker holds no strand that could be split
pub none_held : (b : Book) (v : ℕ) (n : Place) (w : ℕ) (e : BookError) → HoldsNone (held_place v b.lines) e → IsRefusedBy (held_refusal b v n w) e
none_held b v n w error.NoMemory h = tt
none_held b v n w error.NotNeighbour h = absurd cc
none_held b v n w error.AlreadyLaid h = absurd cc
none_held b v n w error.NoStrand h = ap (λ o. refusal_from o b n w) h.0
none_held b v n w error.NotThere h = absurd cc

-- a refused split of the place that it holds
pub held_refused : {A : Type 0} (b : Book) (v : ℕ) (from n : Place) (w : ℕ) (o : Result A BookError) → held_place v b.lines ≡ Some from → IfErr o (IsRefusedBy (split_refusal b from n w)) → IfErr o (IsRefusedBy (held_refusal b v n w))
held_refused b v from n w (Ok a) e h = tt
held_refused b v from n w (Err error.NoMemory) e h = tt
held_refused b v from n w (Err error.NotNeighbour) e h = ap (λ o. refusal_from o b n w) e ∙ h
held_refused b v from n w (Err error.AlreadyLaid) e h = ap (λ o. refusal_from o b n w) e ∙ h
held_refused b v from n w (Err error.NoStrand) e h = ap (λ o. refusal_from o b n w) e ∙ h
held_refused b v from n w (Err error.NotThere) e h = ap (λ o. refusal_from o b n w) e ∙ h

-- a split of the place that it holds
pub took_held : {A E : Type 0} (b c : PlainChronicle) (v : ℕ) (from n : Place) (w : ℕ) (o : Result A E) → held_place v b.page.lines ≡ Some from → OnOk o (Took b (Split from n w) c) → OnOk o (TookHeld b v n w c)
took_held b c v from n w (Ok a) e h = record { from = from; held = e; taken = h }
took_held b c v from n w (Err d) e h = tt

-- ---- only a fold is refused since two strands are apart

near : (e : BookError) (o : Option BookError) → (o ≡ Some error.NotNeighbour → ⊥) → IsRefusedBy o e → is_apart e ≡ false
near error.NoMemory o n r = refl
near error.NotNeighbour o n r = absurd (n r)
near error.AlreadyLaid o n r = refl
near error.NoStrand o n r = refl
near error.NotThere o n r = refl

allowed : (o : Option Book) → unless_allowed o ≡ Some error.NotNeighbour → ⊥
allowed (Some c) e = cc
allowed None e = cc

split_passes : (b : Book) (v n : Place) (w : ℕ) → split_refusal b v n w ≡ Some error.NotNeighbour → ⊥
split_passes b v n w e = by (has_strand v b.lines) e
  where
    by : (t : Bool) → unless t error.NoStrand (unless_allowed (stepped b (Split v n w))) ≡ Some error.NotNeighbour → ⊥
    by true f = allowed (stepped b (Split v n w)) f
    by false f = cc

held_passes : (b : Book) (v : ℕ) (n : Place) (w : ℕ) → held_refusal b v n w ≡ Some error.NotNeighbour → ⊥
held_passes b v n w e = by (held_place v b.lines) e
  where
    by : (o : Option Place) → refusal_from o b n w ≡ Some error.NotNeighbour → ⊥
    by None f = cc
    by (Some from) f = split_passes b from n w f

laying_passes : (b : Book) (r : LaidState) (p : Place) → laying_refusal b r p ≡ Some error.NotNeighbour → ⊥
laying_passes b r p e = by (has_strand p b.lines) (is_held_at b.lines p) e
  where
    by : (t u : Bool) → unless t error.NoStrand (unless u error.AlreadyLaid (unless_allowed (stepped b (laying_step r p)))) ≡ Some error.NotNeighbour → ⊥
    by true true f = allowed (stepped b (laying_step r p)) f
    by true false f = cc
    by false u f = cc

fold_passes : (b : PlainBook) (l r : Place) (w : ℕ) → touch b l r ≡ true → fold_refusal b l r w ≡ Some error.NotNeighbour → ⊥
fold_passes b l r w t e = by (has_strand l b.chronicle.page.lines && has_strand r b.chronicle.page.lines) (touch b l r) t e
  where
    by : (s t : Bool) → t ≡ true → unless s error.NoStrand (unless t error.NotNeighbour (unless_allowed (stepped b.chronicle.page (Fold l r w)))) ≡ Some error.NotNeighbour → ⊥
    by true true g f = allowed (stepped b.chronicle.page (Fold l r w)) f
    by true false g f = cc
    by false t g f = cc

pub held_near : (b : Book) (v : ℕ) (n : Place) (w : ℕ) (e : BookError) → IsRefusedBy (held_refusal b v n w) e → is_apart e ≡ false
held_near b v n w e r = near e (held_refusal b v n w) (held_passes b v n w) r

pub held_all_near : {A : Type 0} (b : Book) (v : ℕ) (n : Place) (w : ℕ) (o : Result A BookError) → IfErr o (IsRefusedBy (held_refusal b v n w)) → IfErr o (λ e. is_apart e ≡ false)
held_all_near b v n w (Ok a) h = tt
held_all_near b v n w (Err e) h = held_near b v n w e h

pub lay_near : (b : PlainBook) (p : PlainPiece) (e : BookError) → IsRefusedBy (lay_refusal b p) e → is_apart e ≡ false
lay_near b p e r = near e (lay_refusal b p) (laying_passes b.chronicle.page p.state (begins_at p)) r

-- ---- the first two that may be folded touch

none_next : (l r : Place) (ls : List Line) → NoneAt l ls → are_neighbours l r ls ≡ true → ⊥
none_next l r [] h e = cc
none_next l r (x ∷ []) h e = cc
none_next l r (x ∷ y ∷ ls) h e =
    none_next l r (y ∷ ls) h.1 (or_false (begins_with l r (x ∷ y ∷ ls)) (are_neighbours l r (y ∷ ls)) (ap (λ b. b && bytes_eq y.0 r) h.0) e)

abbrev left_of : Option (Place × Place) → Place
left_of None = []
left_of (Some p) = p.0

abbrev right_of : Option (Place × Place) → Place
right_of None = []
right_of (Some p) = p.1

same : (p q : Place) → p ≡ q → bytes_eq p q ≡ true
same p q e = (bytes_eq-Decides p q).1 e

here : (k : ℕ) (d : PlainLaid) (ds : List PlainLaid) (a b c : Bool) → a ≡ true → b ≡ true → may_touch (d ∷ ds) ≡ true → (((a && b) || c) && may_touch (drop (cond a 0 (suc k)) (d ∷ ds))) ≡ true
here k d ds true true c p q m = m
here k d ds true false c p q m = absurd cc
here k d ds false b c p q m = absurd cc

later : (k : ℕ) (d : PlainLaid) (ds : List PlainLaid) (a b c : Bool) → a ≡ false → (c && may_touch (drop k ds)) ≡ true → (((a && b) || c) && may_touch (drop (cond a 0 (suc k)) (d ∷ ds))) ≡ true
later k d ds true b c p h = absurd cc
later k d ds false b c p h = h

touches : (l r : Place) (ls : List Line) (ds : List PlainLaid) → Apart ls → fold_among ls ds ≡ Some (l, r) → (are_neighbours l r ls && may_touch (drop (position l ls) ds)) ≡ true
touches l r [] ds a e = absurd cc
touches l r (x ∷ []) [] a e = absurd cc
touches l r (x ∷ []) (d ∷ ds) a e = absurd cc
touches l r (x ∷ y ∷ ls) [] a e = absurd cc
touches l r (x ∷ y ∷ ls) (d ∷ ds) a e = by (folds_here (x ∷ y ∷ ls) (d ∷ ds)) refl e (λ f. touches l r (y ∷ ls) ds a.1 f)
  where
    next : Bool
    next = are_neighbours l r (y ∷ ls)

    away : (b : Bool) → bytes_eq x.0 l ≡ b → next ≡ true → b ≡ false
    away true f n = absurd (none_next l r (y ∷ ls) (same_none x.0 l (y ∷ ls) f a.0) n)
    away false f n = refl

    by : (b : Bool) → folds_here (x ∷ y ∷ ls) (d ∷ ds) ≡ b → cond b (Some (x.0, y.0)) (fold_among (y ∷ ls) ds) ≡ Some (l, r)
        → (fold_among (y ∷ ls) ds ≡ Some (l, r) → (next && may_touch (drop (position l (y ∷ ls)) ds)) ≡ true)
        → (are_neighbours l r (x ∷ y ∷ ls) && may_touch (drop (position l (x ∷ y ∷ ls)) (d ∷ ds))) ≡ true
    by true f g rest =
        here (position l (y ∷ ls)) d ds (bytes_eq x.0 l) (bytes_eq y.0 r) next (same x.0 l (ap left_of g)) (same y.0 r (ap right_of g)) (both_are (done x.1 && waits y.1) (may_touch (d ∷ ds)) f).1
    by false f g rest =
        let i = rest g in
        later (position l (y ∷ ls)) d ds (bytes_eq x.0 l) (bytes_eq y.0 r) next (away (bytes_eq x.0 l) refl (both_are next (may_touch (drop (position l (y ∷ ls)) ds)) i).0) i

pub first_touches : (b : PlainBook) (l r : Place) → IsBook b.chronicle b.laid → first_fold b ≡ Some (l, r) → touch b l r ≡ true
first_touches b l r h e = touches l r b.chronicle.page.lines b.laid (apart_of b.chronicle b.laid h) e

pub first_near : {A : Type 0} (b : PlainBook) (l r : Place) (w : ℕ) (o : Result A BookError) → IsBook b.chronicle b.laid → first_fold b ≡ Some (l, r) → IfErr o (IsRefusedBy (fold_refusal b l r w)) → IfErr o (λ e. is_apart e ≡ false)
first_near b l r w (Ok a) h e r' = tt
first_near b l r w (Err e') h e r' = near e' (fold_refusal b l r w) (fold_passes b l r w (first_touches b l r h e)) r'

-- ---- two that touch are in the list

or_right : (a b : Bool) → b ≡ true → (a || b) ≡ true
or_right true b e = refl
or_right false b e = e

and_true : (a b : Bool) → a ≡ true → b ≡ true → (a && b) ≡ true
and_true true b e f = f
and_true false b e f = absurd cc

both_later : (a b c p q : Bool) → (p && (b || q)) ≡ true → ((a || p) && (c || (b || q))) ≡ true
both_later a b c p q h = let two = both_are p (b || q) h in and_true (a || p) (c || (b || q)) (or_right a p two.0) (or_right c (b || q) two.1)

both_by : (a b c p q n : Bool) → ((a && b) || n) ≡ true → (n ≡ true → (p && (b || q)) ≡ true) → ((a || p) && (c || (b || q))) ≡ true
both_by true true c p q n e h = or_right c true refl
both_by true false c p q n e h = both_later true false c p q (h e)
both_by false b c p q n e h = both_later false b c p q (h e)

both_there : (l r : Place) (ls : List Line) → are_neighbours l r ls ≡ true → (has_strand l ls && has_strand r ls) ≡ true
both_there l r [] e = absurd cc
both_there l r (x ∷ []) e = absurd cc
both_there l r (x ∷ y ∷ ls) e =
    both_by (bytes_eq x.0 l) (bytes_eq y.0 r) (bytes_eq x.0 r) (has_strand l (y ∷ ls)) (has_strand r ls) (are_neighbours l r (y ∷ ls)) e (both_there l r (y ∷ ls))

-- so a fold of them is refused only where the list doesn't allow it, or for want of memory
pub refused_there : (b : PlainBook) (l r : Place) (w : ℕ) (e : BookError) → touch b l r ≡ true → IsRefusedBy (unless_allowed (stepped b.chronicle.page (Fold l r w))) e → IsRefusedBy (fold_refusal b l r w) e
refused_there b l r w e t h =
    let ls = b.chronicle.page.lines in
    let next = both_are (are_neighbours l r ls) (may_touch (drop (position l ls) b.laid)) t in
    let passes : fold_refusal b l r w ≡ unless_allowed (stepped b.chronicle.page (Fold l r w)) =
    ap (λ s. unless s error.NoStrand (unless (touch b l r) error.NotNeighbour (unless_allowed (stepped b.chronicle.page (Fold l r w))))) (both_there l r ls next.0)
    ∙ ap (λ s. unless s error.NotNeighbour (unless_allowed (stepped b.chronicle.page (Fold l r w)))) t in
    subst (λ (o : Option BookError). IsRefusedBy o e) (sym passes) h
