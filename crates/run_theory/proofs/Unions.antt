-- What a fold tells the book.
use Rattle.std.proofs.Common.{◌⊎◌, ◌++◌, append_assoc, ℕ, ℤ, List, [], ◌∷◌, map, Option, Some, None, ◌≡◌, inl, inr, refl, sym, ap, ◌∙◌, subst, true, false, Bool, ◌&&◌, cond, bytes_eq}
use Rattle.meaning.specs.Tables.{Tables}
use Rattle.meaning.specs.Outcome.{Fault, Place}
use Rattle.meaning.specs.Records.{Revised}
use Rattle.meaning.specs.SmallStep.{Start, root, behind, same_name, Frame, Phase, entering, running, spawning, returning, leaving, broken}
use Rattle.meaning.specs.LayeredStrand.{joined}
use Rattle.meaning.specs.Strands.{Held, BookStep, Fold, done, waits, is_free, may_fold, folds, if_allowed}
use Rattle.meaning.specs.Schedules.{Memory, Piece, place_of, place_of_start, line_of, may_join, broken_pair, joined_pair, folded_by, folded, folded_among, folded_at}
use Rattle.trail_theory.specs.Order.{LeavesBefore, Every}
use Rattle.trail_theory.specs.TaskFits.{IsAbove, Spot, Fringe}
use Rattle.run_theory.specs.RightRuns.{front, Begins}
use Rattle.strand_theory.proofs.Names.{both_are, both_true, same_name_true}
use Rattle.run_theory.proofs.Pieces.{ForSome, either}
use Rattle.run_theory.proofs.Steps.{FitPiece, FitAll}
use Rattle.run_theory.proofs.Kits.{inner}
use Rattle.run_theory.proofs.Lefts.{LeftOf, point, left_on, before_trans}
use Rattle.strand_theory.proofs.Books.{NoneAt, folds_at, may_fold_at, map_append}
use Rattle.run_theory.proofs.Ascending.{Order, Gone, Since, Asc, Covered, none_before, none_later, asc_replaced, covered_replaced}
use Rattle.run_theory.proofs.Histories.{Told, Stepping, ToldOf, told_next, same_line}

pub record Unites (w : ℕ) (l r q : Piece) : Type 0 where
  pub start : q.strand.start ≡ l.strand.start
  pub held : q.state ≡ Held w
  pub left : (u : Place) → Gone l ⊎ LeftOf u (point l.strand.frame) → Gone q ⊎ LeftOf u (point q.strand.frame)
  pub right : (u : Place) → Gone r ⊎ LeftOf u (point r.strand.frame) → Gone q ⊎ LeftOf u (point q.strand.frame)

-- ---- what was left before a strand began is to the left of where it stands

above_on : (u n : Place) (c : ℕ) (y : Place) (fr : Frame) → IsAbove n c fr.instance → LeftOf u (n ++ c ∷ y) → LeftOf u (point fr)
above_on u n c y fr a l =
    let e : point fr ≡ n ++ a.child ∷ (a.path ++ fr.next ∷ []) = ap (λ w. w ++ fr.next ∷ []) a.is ∙ append_assoc n (a.child ∷ a.path) (fr.next ∷ []) in
    subst (LeftOf u) (sym e) (left_on u n c a.child y (a.path ++ fr.next ∷ []) a.later l)

spot_on : (u n : Place) (c : ℕ) (y : Place) (fr : Frame) → Spot (behind n c) fr.instance fr.next → LeftOf u (n ++ c ∷ y) → LeftOf u (point fr)
spot_on u n c y fr (inl h) l = subst (λ w. LeftOf u (w ++ fr.next ∷ [])) (sym h.0) (left_on u n c fr.next y [] h.1 l)
spot_on u n c y fr (inr a) l = above_on u n c y fr a l

fringe_on : (u n : Place) (c : ℕ) (y : Place) (fr : Frame) (ph : Phase) → ((k : Fault) → ph ≡ broken k → ⊥) → Fringe (behind n c) fr.instance fr.next ph → LeftOf u (n ++ c ∷ y) → LeftOf u (point fr)
fringe_on u n c y fr (entering child) s h l = above_on u n c y fr h l
fringe_on u n c y fr (running todo) s h l = spot_on u n c y fr h l
fringe_on u n c y fr (spawning d x child todo) s h l = spot_on u n c y fr h l
fringe_on u n c y fr (returning v) s h l = spot_on u n c y fr h l
fringe_on u n c y fr (leaving v) s h l = above_on u n c y fr h l
fringe_on u n c y fr (broken k) s h l = absurd (s k refl)

left_join : (u : Place) (fr : Frame) (rm : Start) (rfr : Frame) (rph : Phase) → Begins false rm → fr.instance ≡ place_of_start rm → ((k : Fault) → rph ≡ broken k → ⊥) → Fringe rm rfr.instance rfr.next rph → LeftOf u (point fr) → LeftOf u (point rfr)
left_join u fr root rfr rph b e s h l = absurd b
left_join u fr (behind n c) rfr rph b e s h l =
    let q : point fr ≡ n ++ c ∷ fr.next ∷ [] = ap (λ w. w ++ fr.next ∷ []) e ∙ append_assoc n (c ∷ []) (fr.next ∷ []) in
    fringe_on u n c (fr.next ∷ []) rfr rph s h (subst (LeftOf u) q l)

module _ (program : Revised) (tables : Tables) (memory : Memory) where
  -- one of the two has a fault
  gone_unites : (w : ℕ) (l r : Piece) (k : Fault) → ForSome (Unites w l r) (folded_by program tables memory w l r (Some (broken_pair program tables memory l.strand r.strand k)))
  gone_unites w l r k = record { start = refl; held = refl; left = λ u h. inl (refl, (k, refl)); right = λ u h. inl (refl, (k, refl)) }

  gone_where : (w : ℕ) (l r : Piece) (k : Fault) (b : Bool) → ForSome (Unites w l r) (folded_by program tables memory w l r (cond b (Some (broken_pair program tables memory l.strand r.strand k)) None))
  gone_where w l r k true = gone_unites w l r k
  gone_where w l r k false = tt

  join_unites : (w : ℕ) (l r : Piece) (v : ℤ) → l.strand.phase ≡ leaving v → ((k : Fault) → r.strand.phase ≡ broken k → ⊥) → Begins false r.strand.start → Fringe r.strand.start r.strand.frame.instance r.strand.frame.next r.strand.phase → (b : Bool) → same_name l.strand.frame.instance (place_of r) && may_join program tables memory l.strand (joined program.tree l.strand v r.strand) ≡ b
      → ForSome (Unites w l r) (folded_by program tables memory w l r (cond b (Some (joined program.tree l.strand v r.strand)) None))
  join_unites w l r v q s b f false e = tt
  join_unites w l r v q s b f true e =
      let named = same_name_true l.strand.frame.instance (place_of r) (both_are (same_name l.strand.frame.instance (place_of r)) (may_join program tables memory l.strand (joined program.tree l.strand v r.strand)) e).0 in
      record {
        start = refl;
        held = refl;
        left = λ u h. elim h [ inl g ↦ absurd (let z : leaving v ≡ broken g.1.0 = sym q ∙ g.1.1 in cc) | inr x ↦ inr (left_join u l.strand.frame r.strand.start r.strand.frame r.strand.phase b named s f x) ];
        right = λ u h. elim h [ inl g ↦ absurd (s g.1.0 g.1.1) | inr x ↦ inr x ];
      }

  join_fits : (w : ℕ) (mid later : List Bool) (e : Place) (l r : Piece) (v : ℤ) → l.strand.phase ≡ leaving v → ((k : Fault) → r.strand.phase ≡ broken k → ⊥) → FitPiece program tables memory false r mid later e
      → ForSome (Unites w l r) (folded_by program tables memory w l r (cond (same_name l.strand.frame.instance (place_of r) && may_join program tables memory l.strand (joined program.tree l.strand v r.strand)) (Some (joined program.tree l.strand v r.strand)) None))
  join_fits w mid later e l r v q s j =
      elim j.fits [
        | inl g ↦ join_unites w l r v q s j.begins g.right.task.fringe (same_name l.strand.frame.instance (place_of r) && may_join program tables memory l.strand (joined program.tree l.strand v r.strand)) refl
        | inr c ↦ absurd (s c.fault c.phase)
      ]

  pair_unites : (w : ℕ) (mid later : List Bool) (e : Place) (l r : Piece) (ph q : Phase) → l.strand.phase ≡ ph → r.strand.phase ≡ q → FitPiece program tables memory false r mid later e → ForSome (Unites w l r) (folded_by program tables memory w l r (joined_pair program tables memory l.strand ph r.strand q))
  pair_unites w mid later e l r (broken k) q a b j = gone_unites w l r k
  pair_unites w mid later e l r (leaving v) (broken k) a b j = gone_where w l r k (same_name l.strand.frame.instance (place_of r))
  pair_unites w mid later e l r (leaving v) (entering child) a b j = join_fits w mid later e l r v a (λ k z. let y : entering child ≡ broken k = sym b ∙ z in cc) j
  pair_unites w mid later e l r (leaving v) (running todo) a b j = join_fits w mid later e l r v a (λ k z. let y : running todo ≡ broken k = sym b ∙ z in cc) j
  pair_unites w mid later e l r (leaving v) (spawning d x child todo) a b j = join_fits w mid later e l r v a (λ k z. let y : spawning d x child todo ≡ broken k = sym b ∙ z in cc) j
  pair_unites w mid later e l r (leaving v) (returning i) a b j = join_fits w mid later e l r v a (λ k z. let y : returning i ≡ broken k = sym b ∙ z in cc) j
  pair_unites w mid later e l r (leaving v) (leaving i) a b j = join_fits w mid later e l r v a (λ k z. let y : leaving i ≡ broken k = sym b ∙ z in cc) j
  pair_unites w mid later e l r (entering child) q a b j = tt
  pair_unites w mid later e l r (running todo) q a b j = tt
  pair_unites w mid later e l r (spawning d x child todo) q a b j = tt
  pair_unites w mid later e l r (returning v) q a b j = tt

-- ---- the list

pub order_on : (first : Bool) (a b c : Place) → Order first a b → LeavesBefore b c → Order first a c
order_on true a b c h k = tt
order_on false a b c h k = before_trans a b c h k

pub since_on : (first : Bool) (a b u : Place) → Order first a b → (u ≡ b) ⊎ LeavesBefore b u → Since first a u
since_on true a b u h k = tt
since_on false a b u h (inl e) = inr (subst (LeavesBefore a) (sym e) h)
since_on false a b u h (inr k) = inr (before_trans a b u h k)

asc_union : (w : ℕ) (l r q : Piece) (ps : List Piece) → Unites w l r q → (first : Bool) → Asc first (l ∷ r ∷ ps) → Asc first (q ∷ ps)
asc_union w l r q ps h first a =
    (subst (Begins first) (sym h.start) a.0, subst (λ m. Order first (place_of_start m) (front ps)) (sym h.start) (order_on first (place_of l) (place_of r) (front ps) a.1 a.2.1), a.2.2)

covered_union : (w : ℕ) (l r q : Piece) (ps : List Piece) → Unites w l r q → (u : Place) (first : Bool) → Asc first (l ∷ r ∷ ps) → Covered first (l ∷ r ∷ ps) u → Covered first (q ∷ ps) u
covered_union w l r q ps h u first a (inl c) =
    inl (record { since = subst (λ m. Since first (place_of_start m) u) (sym h.start) c.since; until = before_trans u (place_of r) (front ps) c.until a.2.1; left = h.left u c.left })
covered_union w l r q ps h u first a (inr (inl c)) =
    inl (record { since = subst (λ m. Since first (place_of_start m) u) (sym h.start) (since_on first (place_of l) (place_of r) u a.1 c.since); until = c.until; left = h.right u c.left })
covered_union w l r q ps h u first a (inr (inr c)) = inr c

asc_inner : (before ps : List Piece) (first : Bool) → Asc first (before ++ ps) → (b : Bool) × Asc b ps
asc_inner [] ps first a = (first, a)
asc_inner (q ∷ before) ps first a = asc_inner before ps false a.2

every_parts : {A : Type 0} (P : A → Type 0) (a b : List A) → Every P (a ++ b) → Every P a × Every P b
every_parts P [] b h = (tt, h)
every_parts P (x ∷ a) b h = let r = every_parts P a b h.1 in ((h.0, r.0), r.1)

fold_step : (w : ℕ) (before : List Piece) (l r q : Piece) (ps : List Piece) (history : List BookStep) → Unites w l r q → done l.state ≡ true → waits r.state ≡ true → (h : Told (before ++ l ∷ r ∷ ps) history) → is_free (map line_of (before ++ l ∷ r ∷ ps)) w ≡ true → Stepping h.book (Fold (place_of l) (place_of r) w) (before ++ q ∷ ps)
fold_step w before l r q ps history u d wt h f =
    let a = place_of l in
    let b = place_of r in
    let bs = map line_of before in
    let ls = map line_of ps in
    let k = h.book in
    let are : k.lines ≡ bs ++ line_of l ∷ line_of r ∷ ls = h.lines ∙ map_append line_of before (l ∷ r ∷ ps) in
    let inside = asc_inner before (l ∷ r ∷ ps) true h.ascending in
    let moved : Asc true ((before ++ l ∷ []) ++ r ∷ ps) = subst (Asc true) (sym (append_assoc before (l ∷ []) (r ∷ ps))) h.ascending in
    let parts = every_parts (λ x. bytes_eq x.0 b ≡ false) bs (line_of l ∷ []) (subst (NoneAt b) (map_append line_of before (l ∷ [])) (none_before true (before ++ l ∷ []) r ps moved)) in
    let may : may_fold k.lines a b ≡ true = ap (λ x. may_fold x a b) are ∙ may_fold_at a b l.state r.state bs ls d wt in
    let free : is_free k.lines w ≡ true = ap (λ x. is_free x w) h.lines ∙ f in
    record {
      book = record { lines = folds k.lines a b w; split_off = k.split_off };
      steps = ap (λ c. if_allowed c (folds k.lines a b w) k.split_off) (both_true (may_fold k.lines a b) (is_free k.lines w) may free);
      lines = ap (λ x. folds x a b w) are ∙ folds_at a b w l.state r.state bs ls parts.1.0 (none_before true before l (r ∷ ps) h.ascending) parts.0 (none_later inside.0 l (r ∷ []) ps inside.1) (none_later false r [] ps inside.1.2)
          ∙ ap (λ x. bs ++ x ∷ ls) (sym (same_line l q u.start (Held w) u.held)) ∙ sym (map_append line_of before (q ∷ ps));
      used = λ x. x;
    }

told_union : (w : ℕ) (before : List Piece) (l r q : Piece) (ps : List Piece) (history : List BookStep) → Unites w l r q → done l.state ≡ true → waits r.state ≡ true → is_free (map line_of (before ++ l ∷ r ∷ ps)) w ≡ true → Told (before ++ l ∷ r ∷ ps) history → Told (before ++ q ∷ ps) (history ++ Fold (place_of l) (place_of r) w ∷ [])
told_union w before l r q ps history u d wt f h =
    told_next (before ++ l ∷ r ∷ ps) (before ++ q ∷ ps) history (Fold (place_of l) (place_of r) w) h
    (asc_replaced before (l ∷ r ∷ ps) (q ∷ ps) (ap place_of_start u.start) (asc_union w l r q ps u) true h.ascending)
    (λ n c. covered_replaced before (l ∷ r ∷ ps) (q ∷ ps) n (ap place_of_start u.start) (covered_union w l r q ps u n) true h.ascending c)
    (fold_step w before l r q ps history u d wt h f)

module _ (program : Revised) (tables : Tables) (memory : Memory) where
  among_union : (w kits : ℕ) (before : List Piece) (l r : Piece) (ps : List Piece) (history : List BookStep) (o : Option Piece) → ForSome (Unites w l r) o → done l.state ≡ true → waits r.state ≡ true → is_free (map line_of (before ++ l ∷ r ∷ ps)) w ≡ true → Told (before ++ l ∷ r ∷ ps) history
      → ForSome ToldOf (folded_among program tables memory w kits before ps history (Fold (place_of l) (place_of r) w) o)
  among_union w kits before l r ps history None u d wt f h = tt
  among_union w kits before l r ps history (Some q) u d wt f h = told_union w before l r q ps history u d wt f h

  pair_told : (w kits : ℕ) (before : List Piece) (l r : Piece) (ps : List Piece) (history : List BookStep) (mid later : List Bool) (e : Place) → FitPiece program tables memory false r mid later e → is_free (map line_of (before ++ l ∷ r ∷ ps)) w ≡ true → Told (before ++ l ∷ r ∷ ps) history → (b : Bool) → done l.state && waits r.state ≡ b
      → ForSome ToldOf (folded_among program tables memory w kits before ps history (Fold (place_of l) (place_of r) w) (cond b (folded_by program tables memory w l r (joined_pair program tables memory l.strand l.strand.phase r.strand r.strand.phase)) None))
  pair_told w kits before l r ps history mid later e j f h false q = tt
  pair_told w kits before l r ps history mid later e j f h true q =
      let x = both_are (done l.state) (waits r.state) q in
      among_union w kits before l r ps history (folded_by program tables memory w l r (joined_pair program tables memory l.strand l.strand.phase r.strand r.strand.phase)) (pair_unites program tables memory w mid later e l r l.strand.phase r.strand.phase refl refl j) x.0 x.1 f h

  pub folds_told : (w : ℕ) (q : Place) (kits : ℕ) (before ps : List Piece) (history : List BookStep) (first : Bool) (found : List Bool) → FitAll program tables memory first (before ++ ps) found → is_free (map line_of (before ++ ps)) w ≡ true → Told (before ++ ps) history → ForSome ToldOf (folded_at program tables memory w q kits before ps history)
  folds_told w q kits before [] history first found g f h = tt
  folds_told w q kits before (l ∷ []) history first found g f h = tt
  folds_told w q kits before (l ∷ r ∷ ps) history first found g f h =
      let moved = sym (append_assoc before (l ∷ []) (r ∷ ps)) in
      either ToldOf (same_name (place_of r) q)
      (folded_among program tables memory w kits before ps history (Fold (place_of l) (place_of r) w) (folded program tables memory w l r))
      (folded_at program tables memory w q kits (before ++ l ∷ []) (r ∷ ps) history)
      (λ e. let i = inner program tables memory before (l ∷ r ∷ ps) first found g in
      pair_told w kits before l r ps history i.1.1.0 i.1.1.2.0 (front ps) i.1.1.2.1 f h (done l.state && waits r.state) refl)
      (folds_told w q kits (before ++ l ∷ []) (r ∷ ps) history first found (subst (λ u. FitAll program tables memory first u found) moved g) (subst (λ u. is_free (map line_of u) w ≡ true) moved f) (subst (λ u. Told u history) moved h))
