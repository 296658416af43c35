-- How many kits the strands in a list have that are laid down, and how many workers hold, step by step.
use Rattle.std.proofs.Common.{◌≡◌, ℕ, zero, suc, ◌+◌, ◌≤◌, Bool, true, false, cond, ◌&&◌, ℤ, not, List, [], ◌∷◌, length, drop, slice_set, Option, Some, None, refl, sym, ap, ◌∙◌, subst, arith, bytes_eq}
use Rattle.std.specs.List.{insert}
use Rattle.meaning.specs.Outcome.{Place}
use Rattle.meaning.specs.Strands.{State, Ended, Stalled, Faulted, Finished, Line, Book, is_held, is_held_at, is_root, is_alone, state_of, becomes, if_allowed, stepped}
use Rattle.strand_theory.proofs.Names.{both_are}
use Rattle.positions.specs.declared.phase.Phase.{Phase}
use Rattle.positions.specs.declared.phase.Phase.TheVariants.{Entering, Running, AtSpawn, Returning, Leaving, Broken}
use Rattle.positions.specs.Moves.{joined, joined_at, joined_after}
use Rattle.positions.specs.Strands.{PlainStrand}
use Rattle.right_strands.specs.Laid.{PlainPiece}
use Rattle.right_strands.specs.Pairs.{PlainPair}
use Rattle.strand_list.specs.declared.laid_state.LaidState.{LaidState}
use Rattle.strand_list.specs.declared.laid_state.LaidState.TheVariants as laid_state
use Rattle.strand_list.specs.Laying.{state_as, laying_step}
use Rattle.strand_list.specs.Pages.{position}
use Rattle.strand_list.specs.Chronicled.{PlainChronicle, Took}
use Rattle.sync_fold.specs.Books.{PlainLaid, FitsLine, Fits, IsBook, ArePair, IsPairOf, BeginWithPair, ends_alone, folded}
use Rattle.sync_fold.specs.Counts.{kits_of, kits_in, kits_laid, held_in, held_among, HoldsMore, LaysDown, TakesUp, HaveOneMore, BeginWithOneMore}
use Rattle.sync_fold.specs.declared.laid.Laid.TheVariants.{Nothing, Whole, Half, Paired}

-- ---- a split

held_inserted : (k : ℕ) (ds : List PlainLaid) → HoldsMore ds (insert ds k Nothing)
held_inserted zero ds = (let kits : 0 + kits_laid ds ≡ kits_laid ds = omega arith in kits, let held : 1 + held_among ds ≡ suc (held_among ds) = omega arith in held)
held_inserted (suc k) [] = (refl, refl)
held_inserted (suc k) (d ∷ ds) =
    let h = held_inserted k ds in
    (ap (λ n. kits_in d + n) h.0, let e : held_among (insert ds k Nothing) ≡ suc (held_among ds) = h.1 in omega arith)

pub split_counts : (k : ℕ) (ds es : List PlainLaid) → es ≡ insert ds k Nothing → HoldsMore ds es
split_counts k ds es e = subst (HoldsMore ds) (sym e) (held_inserted k ds)

-- ---- a strand that is laid down

never_held : (r : LaidState) (w : State) → w ≡ state_as r → is_held w ≡ true → ⊥
never_held laid_state.Ended w e h = cc
never_held laid_state.Stalled w e h = cc
never_held laid_state.Faulted w e h = cc
never_held laid_state.Finished w e h = cc

-- nothing is kept of the strand of a line that a worker holds
held_line : (p : Place) (s : State) (d : PlainLaid) → FitsLine (p, s) d → is_held s ≡ true → d ≡ Nothing
held_line p s Nothing f h = refl
held_line p s (Whole q) f h = absurd (never_held q.state s f.0 h)
held_line p s (Half q r) f h = absurd (never_held r s f.0 h)
held_line p s (Paired r) f h = absurd (never_held r s f h)

set_counts : (p : Place) (q : PlainPiece) (ls : List Line) (ds : List PlainLaid) → is_held_at ls p ≡ true → Fits ls ds → LaysDown q.strand ds (slice_set ds (position p ls) (Whole q))
set_counts p q [] ds h f = absurd cc
set_counts p q (l ∷ ls) [] h f = absurd f
set_counts p q ((n, s) ∷ ls) (d ∷ ds) h f = by (bytes_eq n p) h (λ i. set_counts p q ls ds i f.1)
  where
    after : Option State → Bool
    after o = elim o [ None ↦ false | Some s ↦ is_held s ]

    here : (d : PlainLaid) → d ≡ Nothing → LaysDown q.strand (d ∷ ds) (Whole q ∷ ds)
    here d e = subst (λ (d : PlainLaid). LaysDown q.strand (d ∷ ds) (Whole q ∷ ds)) (sym e) (omega arith, omega arith)

    next : LaysDown q.strand ds (slice_set ds (position p ls) (Whole q)) → LaysDown q.strand (d ∷ ds) (d ∷ slice_set ds (position p ls) (Whole q))
    next i =
        let k : kits_laid (slice_set ds (position p ls) (Whole q)) ≡ kits_of q.strand + kits_laid ds = i.0 in
        let n : suc (held_among (slice_set ds (position p ls) (Whole q))) ≡ held_among ds = i.1 in
        (omega arith, omega arith)

    by : (b : Bool) → after (cond b (Some s) (state_of ls p)) ≡ true → (is_held_at ls p ≡ true → LaysDown q.strand ds (slice_set ds (position p ls) (Whole q)))
        → LaysDown q.strand (d ∷ ds) (slice_set (d ∷ ds) (cond b 0 (suc (position p ls))) (Whole q))
    by true i r = here d (held_line n s d f.0 i)
    by false i r = next (r i)

if_held : (g : Bool) (ls : List Line) (used : List Place) (c : Book) → if_allowed g ls used ≡ Some c → g ≡ true
if_held true ls used c e = refl
if_held false ls used c e = absurd cc

laying_held : (b c : Book) (r : LaidState) (p : Place) → stepped b (laying_step r p) ≡ Some c → is_held_at b.lines p ≡ true
laying_held b c laid_state.Ended p e = if_held (is_held_at b.lines p) (becomes Ended b.lines p) b.split_off c e
laying_held b c laid_state.Faulted p e = if_held (is_held_at b.lines p) (becomes Faulted b.lines p) b.split_off c e
laying_held b c laid_state.Stalled p e =
    (both_are (is_held_at b.lines p) _ (if_held (is_held_at b.lines p && not (is_root p)) (becomes Stalled b.lines p) b.split_off c e)).0
laying_held b c laid_state.Finished p e =
    (both_are (is_held_at b.lines p) (is_root p) (both_are (is_held_at b.lines p && is_root p) (is_alone b.lines) (if_held (is_held_at b.lines p && is_root p && is_alone b.lines) (becomes Finished b.lines p) b.split_off c e)).0).0

pub lay_counts : (b c : PlainChronicle) (ds es : List PlainLaid) (r : LaidState) (p : Place) (q : PlainPiece) (k : ℕ) → IsBook b ds → Took b (laying_step r p) c → k ≡ position p b.page.lines → es ≡ slice_set ds k (Whole q)
    → LaysDown q.strand ds es
lay_counts b c ds es r p q k h t at e =
    subst (LaysDown q.strand ds) (sym (e ∙ ap (λ k. slice_set ds k (Whole q)) at)) (set_counts p q b.page.lines ds (laying_held b.page c.page r p t.allowed) h.fits)

-- ---- a fold

-- a strand of two has the layers of the left one
joined_lower : (l r : PlainStrand) → (joined l r).lower ≡ l.lower
joined_lower l r = by l.phase
  where
    after : (ph : Phase) (v : ℤ) → (joined_after ph l v r).lower ≡ l.lower
    after Entering v = refl
    after Running v = refl
    after AtSpawn v = refl
    after (Returning w) v = refl
    after (Leaving w) v = refl
    after (Broken f) v = refl

    by : (ph : Phase) → (joined_at ph l r).lower ≡ l.lower
    by Entering = refl
    by Running = refl
    by AtSpawn = refl
    by (Returning w) = refl
    by (Leaving v) = after r.phase v
    by (Broken f) = refl

one_more : (l r s : PlainStrand) → r.lower ≡ [] → s ≡ joined l r → kits_of l + kits_of r ≡ suc (kits_of s)
one_more l r s n e =
    let a : length s.lower ≡ length l.lower = ap (λ (t : PlainStrand). length t.lower) e ∙ ap length (joined_lower l r) in
    let b : length r.lower ≡ 0 = ap length n in
    omega arith

-- two that become one, of which the right one has one layer
pub have_one_more : (d e : PlainLaid) (pair : PlainPair) (s : PlainStrand) → ArePair d e → IsPairOf d e pair → pair.right.lower ≡ [] → s ≡ joined pair.left pair.right → HaveOneMore d e s
have_one_more (Whole p) (Whole q) pair s a is n e =
    subst (λ (x : PlainPair). kits_of x.left + kits_of x.right ≡ suc (kits_of s)) is (one_more pair.left pair.right s n e)
have_one_more (Half q r) (Paired t) pair s a is n e =
    let all : kits_of q.left + kits_of q.right ≡ suc (kits_of s) = subst (λ (x : PlainPair). kits_of x.left + kits_of x.right ≡ suc (kits_of s)) is (one_more pair.left pair.right s n e) in
    omega arith
have_one_more Nothing d pair s a is n e = absurd a
have_one_more (Whole p) Nothing pair s a is n e = absurd a
have_one_more (Whole p) (Half q r) pair s a is n e = absurd a
have_one_more (Whole p) (Paired r) pair s a is n e = absurd a
have_one_more (Half q r) Nothing pair s a is n e = absurd a
have_one_more (Half q r) (Whole p) pair s a is n e = absurd a
have_one_more (Half q r) (Half p t) pair s a is n e = absurd a
have_one_more (Paired r) d pair s a is n e = absurd a

-- no worker holds them
none_held : (d e : PlainLaid) → ArePair d e → held_in d + held_in e ≡ 0
none_held (Whole p) (Whole q) a = refl
none_held (Half q r) (Paired t) a = refl
none_held Nothing d a = absurd a
none_held (Whole p) Nothing a = absurd a
none_held (Whole p) (Half q r) a = absurd a
none_held (Whole p) (Paired r) a = absurd a
none_held (Half q r) Nothing a = absurd a
none_held (Half q r) (Whole p) a = absurd a
none_held (Half q r) (Half p t) a = absurd a
none_held (Paired r) d a = absurd a

folded_counts : (k : ℕ) (ds : List PlainLaid) (s : PlainStrand) → BeginWithPair (drop k ds) → BeginWithOneMore (drop k ds) s → TakesUp s ds (folded k ds)
folded_counts zero [] s a m = absurd a
folded_counts zero (d ∷ []) s a m = absurd a
folded_counts zero (d ∷ e ∷ ds) s a m =
    let more : kits_in d + kits_in e ≡ suc (kits_of s) = m in
    let none : held_in d + held_in e ≡ 0 = none_held d e a in
    (omega arith, omega arith)
folded_counts (suc k) [] s a m = absurd a
folded_counts (suc k) (d ∷ ds) s a m =
    let h = folded_counts k ds s a m in
    let kits : suc (kits_of s) + kits_laid (folded k ds) ≡ kits_laid ds = h.0 in
    let held : held_among (folded k ds) ≡ suc (held_among ds) = h.1 in
    (omega arith, omega arith)

pub fold_counts : (k : ℕ) (ds es : List PlainLaid) (s : PlainStrand) → BeginWithPair (drop k ds) → BeginWithOneMore (drop k ds) s → es ≡ folded k ds → TakesUp s ds es
fold_counts k ds es s a m e = subst (TakesUp s ds) (sym e) (folded_counts k ds s a m)

-- ---- in all

pub held_within : (ds : List PlainLaid) → held_among ds ≤ length ds
held_within [] = omega arith
held_within (d ∷ ds) =
    let rest : held_among ds ≤ length ds = held_within ds in
    let one : held_in d ≤ 1 = at_most d in
    omega arith
  where
    at_most : (d : PlainLaid) → held_in d ≤ 1
    at_most Nothing = omega arith
    at_most (Whole p) = omega arith
    at_most (Half q r) = omega arith
    at_most (Paired r) = omega arith

-- one strand is left, and ends the run
pub none_at_end : (ds : List PlainLaid) → ends_alone ds ≡ true → held_among ds ≡ 0
none_at_end [] e = absurd cc
none_at_end (Whole p ∷ []) e = refl
none_at_end (Whole p ∷ d ∷ ds) e = absurd cc
none_at_end (Nothing ∷ ds) e = absurd cc
none_at_end (Half q r ∷ ds) e = absurd cc
none_at_end (Paired r ∷ ds) e = absurd cc

pub kits_alone : (p : PlainPiece) (ds : List PlainLaid) → ds ≡ Whole p ∷ [] → kits_laid ds ≡ kits_of p.strand
kits_alone p ds e = let f : kits_laid ds ≡ kits_of p.strand + 0 = ap kits_laid e in omega arith
