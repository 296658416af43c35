-- A fold, in runs of numbers and in those of the definitions.
use Rattle.std.proofs.Common.{◌≡◌, inl, inr, ℕ, ◌+◌, Bool, true, false, cond, ◌&&◌, List, [], ◌∷◌, ◌++◌, append_assoc, Option, Some, None, Err, refl, sym, ◌∙◌, ap, subst}
use Rattle.std.specs.Prelude.{ℤ, ◌-◌, length, if◌then◌else◌, ◌==◌}
use Rattle.monoid_laws.specs.Worth.{Worth}
use Rattle.monoid_laws.specs.Kinds.{operate_all}
use Rattle.meaning.specs.Outcome.{Place}
use Rattle.meaning.specs.SmallStep.{Start as NamedStart, root, behind, Phase as NamedPhase, entering, running, spawning, returning, leaving, broken, same_name}
use Rattle.meaning.specs.LayeredStrand.{LayeredStrand}
use Rattle.meaning.specs.Strands.{State, Held, Ended, Stalled, BookStep, Fold, done, waits}
use Rattle.meaning.specs.Strands as strands
use Rattle.meaning.specs.Tallies.{tallies_joined}
use Rattle.meaning.specs.Schedules.{Piece, RunState, joined_pair}
use Rattle.meaning.specs.Schedules as schedules
use Rattle.run_theory.specs.RightRuns.{Begins}
use Rattle.linked_program.specs.declared.code.Code.{Code}
use Rattle.positions.specs.Setting.{Setting}
use Rattle.positions.specs.declared.phase.Phase.{Phase}
use Rattle.positions.specs.declared.phase.Phase.TheVariants as phase
use Rattle.positions.specs.declared.start.Start.{Start}
use Rattle.positions.specs.declared.start.Start.TheVariants.{Root, Behind}
use Rattle.positions.specs.Activations.{PlainActivation}
use Rattle.positions.specs.Strands.{PlainStrand, IsLayeredAt, IsLayered}
use Rattle.positions.specs.Tallies as tallies
use Rattle.positions.specs.Layers.{multiplied}
use Rattle.positions.specs.Nesting.{AreNested, NestAt}
use Rattle.positions.specs.Moves.{settled_by, joined, joined_at, joined_after, joined_ended}
use Rattle.positions.specs.Stands.{IsStart, StandsAt}
use Rattle.positions.specs.Simulation.{IsBehind, IsNotAtSpawn}
use Rattle.position_theory.proofs.Joins.{joined_is}
use Rattle.position_theory.proofs.Nested.{nest_any}
use Rattle.numbered_runs.specs.declared.refusal.Refusal.TheVariants.{NotThere}
use Rattle.stepped_runs.specs.Pieces.{PlainPiece, place_of, may_join_at, may_fold, folded}
use Rattle.stepped_runs.specs.Runs.{folded_if, folded_at}
use Rattle.stepped_runs.specs.Stands.{with_worths, valued, IsLaidAs, StandsForPiece, StandFolding, StandForPieces}
use Rattle.stepped_runs.proofs.Layered.{none_lower}
use Rattle.stepped_runs.proofs.Agreeing.{piece_place, none_there, waiting_first, with_first, in_front, either_agrees, RunAgrees}

-- a strand that waits isn't at a spawn
waiting_point : (st : State) (ph : Phase) (s : PlainStrand) → waits st ≡ true → IsLaidAs st ph s → IsNotAtSpawn ph
waiting_point (Held w) phase.AtSpawn s e l = absurd cc
waiting_point Ended phase.AtSpawn s e l = absurd l
waiting_point Stalled phase.AtSpawn s e l = absurd l
waiting_point strands.Faulted phase.AtSpawn s e l = absurd l
waiting_point strands.Finished phase.AtSpawn s e l = absurd l
waiting_point st phase.Entering s e l = tt
waiting_point st phase.Running s e l = tt
waiting_point st (phase.Returning v) s e l = tt
waiting_point st (phase.Leaving v) s e l = tt
waiting_point st (phase.Broken f) s e l = tt

-- the left strand's layers stay, and only it has open ones
layered_any : (ph : Phase) (s : PlainStrand) → length s.tally.opened ≡ length s.lower → IsLayeredAt ph s
layered_any phase.Entering s h = h
layered_any phase.Running s h = h
layered_any phase.AtSpawn s h = h
layered_any (phase.Returning u) s h = h
layered_any (phase.Leaving u) s h = h
layered_any (phase.Broken f) s h = tt

after_layered : (ph : Phase) (l r : PlainStrand) (v : ℤ) → length l.tally.opened ≡ length l.lower → IsLayered (joined_after ph l v r)
after_layered phase.Entering l r v h = layered_any _ (joined_ended l v r) h
after_layered phase.Running l r v h = layered_any _ (joined_ended l v r) h
after_layered phase.AtSpawn l r v h = layered_any _ (joined_ended l v r) h
after_layered (phase.Returning u) l r v h = layered_any _ (joined_ended l v r) h
after_layered (phase.Leaving u) l r v h = layered_any _ (joined_ended l v r) h
after_layered (phase.Broken f) l r v h = tt

joined_layered : (ph : Phase) (l r : PlainStrand) → IsLayeredAt ph l → IsLayered l → IsLayered (joined_at ph l r)
joined_layered phase.Entering l r h k = k
joined_layered phase.Running l r h k = k
joined_layered phase.AtSpawn l r h k = k
joined_layered (phase.Returning u) l r h k = k
joined_layered (phase.Leaving u) l r h k = after_layered r.phase l r u h
joined_layered (phase.Broken f) l r h k = tt

after_nests : (codes : List Code) (ph : Phase) (l r : PlainStrand) (v : ℤ) → AreNested codes l.tally.opened → NestAt codes (joined_after ph l v r).phase (joined_after ph l v r)
after_nests codes phase.Entering l r v h = nest_any codes _ (joined_ended l v r) h
after_nests codes phase.Running l r v h = nest_any codes _ (joined_ended l v r) h
after_nests codes phase.AtSpawn l r v h = nest_any codes _ (joined_ended l v r) h
after_nests codes (phase.Returning u) l r v h = nest_any codes _ (joined_ended l v r) h
after_nests codes (phase.Leaving u) l r v h = nest_any codes _ (joined_ended l v r) h
after_nests codes (phase.Broken f) l r v h = tt

joined_nests : (codes : List Code) (ph : Phase) (l r : PlainStrand) → NestAt codes ph l → NestAt codes l.phase l → NestAt codes (joined_at ph l r).phase (joined_at ph l r)
joined_nests codes phase.Entering l r h k = k
joined_nests codes phase.Running l r h k = k
joined_nests codes phase.AtSpawn l r h k = k
joined_nests codes (phase.Returning u) l r h k = k
joined_nests codes (phase.Leaving u) l r h k = after_nests codes r.phase l r u h
joined_nests codes (phase.Broken f) l r h k = tt

left_true : (a b : Bool) → a && b ≡ true → a ≡ true
left_true true b e = refl
left_true false b e = absurd cc

if_true : {A : Type 0} (b : Bool) (x y : A) → cond b (Some x) None ≡ Some y → b ≡ true
if_true true x y e = refl
if_true false x y e = absurd cc

-- all but the first piece's strands begin behind a child
begins_later : (st : Start) (ph : Phase) (path : Place) (m : NamedStart) → IsStart st ph path m → Begins false m → IsBehind st
begins_later Root ph path root h b = absurd b
begins_later Root ph path (behind m j) h b = absurd h
begins_later (Behind d k) ph path m h b = tt

module _ (setting : Setting) where
  abbrev pair_of : LayeredStrand → NamedPhase → LayeredStrand → NamedPhase → Option LayeredStrand
  pair_of = joined_pair setting.program setting.tables setting.memory

  -- ---- where the definitions fold, the numbers do

  right_named : (x y z : LayeredStrand) (v : ℤ) (q : NamedPhase) → pair_of x (leaving v) y q ≡ Some z → same_name x.frame.instance (schedules.place_of_start y.start) ≡ true
  right_named x y z v (broken k) e = if_true _ _ z e
  right_named x y z v (entering c) e = left_true _ _ (if_true _ _ z e)
  right_named x y z v (running c) e = left_true _ _ (if_true _ _ z e)
  right_named x y z v (spawning d i c u) e = left_true _ _ (if_true _ _ z e)
  right_named x y z v (returning c) e = left_true _ _ (if_true _ _ z e)
  right_named x y z v (leaving c) e = left_true _ _ (if_true _ _ z e)

  joins_by : (l r : PlainPiece) (x y : Piece) (z : LayeredStrand) (ph : Phase) (below : List PlainActivation) → StandsAt setting ph below l.strand x.strand → schedules.place_of y ≡ place_of r → pair_of x.strand x.strand.phase y.strand y.strand.phase ≡ Some z → may_join_at ph l r ≡ true
  joins_by l r x y z (phase.Broken f) below i q e = refl
  joins_by l r x y z (phase.Leaving v) below i q e =
      ap (same_name l.strand.path) (sym q) ∙ ap (λ fr. same_name fr.instance (schedules.place_of y)) (sym i.frame)
      ∙ right_named x.strand y.strand z v y.strand.phase (sym (ap (λ p. pair_of x.strand p y.strand y.strand.phase) i.phase) ∙ e)
  joins_by l r x y z phase.AtSpawn [] i q e = absurd i
  joins_by l r x y z phase.AtSpawn (a ∷ below) i q e = let none : None ≡ Some z = sym (ap (λ p. pair_of x.strand p y.strand y.strand.phase) i.phase) ∙ e in absurd cc
  joins_by l r x y z phase.Entering below i q e = let none : None ≡ Some z = sym (ap (λ p. pair_of x.strand p y.strand y.strand.phase) i.phase) ∙ e in absurd cc
  joins_by l r x y z phase.Running below i q e = let none : None ≡ Some z = sym (ap (λ p. pair_of x.strand p y.strand y.strand.phase) i.phase) ∙ e in absurd cc
  joins_by l r x y z (phase.Returning v) below i q e = let none : None ≡ Some z = sym (ap (λ p. pair_of x.strand p y.strand y.strand.phase) i.phase) ∙ e in absurd cc

  module _ (w : ℕ) where
    abbrev one_of : Piece → Piece → LayeredStrand → Piece
    one_of x y z = record { strand = z; deque = []; state = Held w; tally = tallies_joined x.tally y.tally }

    from_folded : (x y p : Piece) (b : Bool) (o : Option LayeredStrand) → cond b (schedules.folded_by setting.program setting.tables setting.memory w x y o) None ≡ Some p → (z : LayeredStrand) × (o ≡ Some z) × (one_of x y z ≡ p)
    from_folded x y p true (Some z) e = (z, refl, (let q : one_of x y z ≡ p = cc in q))
    from_folded x y p true None e = absurd cc
    from_folded x y p false o e = absurd cc

    -- the definitions fold the two, of which the right one has one layer
    pub record Foldable (x y : Piece) : Type 0 where
      pub whole : Piece
      pub is : schedules.folded setting.program setting.tables setting.memory w x y ≡ Some whole
      pub one_layer : length y.strand.layers ≡ 1
      pub later : Begins false y.strand.start

    -- what the definitions' fold gives is stood for
    record Folds (l r : PlainPiece) (p : Piece) : Type 0 where
      pub may : may_join_at l.strand.phase l r ≡ true
      pub one : StandsForPiece setting (folded w l r) p

    folds_exact : (l r : PlainPiece) (x y p : Piece) → StandsForPiece setting l x → StandsForPiece setting r y → waits r.state ≡ true → length y.strand.layers ≡ 1 → Begins false y.strand.start → schedules.folded setting.program setting.tables setting.memory w x y ≡ Some p → Folds l r p
    folds_exact l r x y p hl hr wt one later e =
        let f = from_folded x y p (schedules.may_fold setting.program setting.tables setting.memory x.state y.state) (pair_of x.strand x.strand.phase y.strand y.strand.phase) e in
        record {
          may = joins_by l r x y f.0 l.strand.phase l.strand.below hl.strand.now (piece_place setting r y hr) f.1;
          one = subst (StandsForPiece setting (folded w l r)) f.2 (record {
            strand = joined_is setting l.strand r.strand x.strand y.strand f.0 x.tally y.tally (waiting_point r.state r.strand.phase r.strand wt hr.laid)
                (none_lower setting r.strand.start r.strand.layer r.strand.lower y.strand.layers hr.strand.layers one) (begins_later r.strand.start r.strand.phase r.strand.path y.strand.start hr.strand.start later) hl.nests hl.layered hl.strand hr.strand f.1;
            layered = joined_layered l.strand.phase l.strand r.strand hl.layered hl.layered;
            nests = joined_nests setting.codes l.strand.phase l.strand r.strand hl.nests hl.nests;
            tasks = tt;
            state = refl;
            laid = tt;
          });
        }

    -- ---- where a fold was refused for memory before

    may_valued : (ph : Phase) (l r : PlainPiece) (us vs : List Worth) → may_join_at ph (valued us l) (valued vs r) ≡ may_join_at ph l r
    may_valued phase.Entering l r us vs = refl
    may_valued phase.Running l r us vs = refl
    may_valued phase.AtSpawn l r us vs = refl
    may_valued (phase.Returning v) l r us vs = refl
    may_valued (phase.Leaving v) l r us vs = refl
    may_valued (phase.Broken f) l r us vs = refl

    module _ (l r : PlainStrand) (us vs : List Worth) (product : operate_all l.layer.kinds l.layer.worths r.layer.worths ≡ operate_all l.layer.kinds us vs) (v : ℤ) where
      abbrev put : List Worth → PlainStrand → PlainStrand
      put ws s = record s { start = l.start; layer = record (multiplied l.layer r.layer) { worths = ws }; lower = l.lower; tally = tallies.tallies_joined l.tally r.tally }

      put_if : (ws : List Worth) (b : Bool) (a a' c c' : PlainStrand) → put ws a ≡ put ws a' → put ws c ≡ put ws c' → put ws (if b then a else c) ≡ put ws (if b then a' else c')
      put_if ws true a a' c c' h k = h
      put_if ws false a a' c c' h k = k

      put_settled : (ws : List Worth) (st : Start) → put ws (settled_by st v (with_worths vs r)) ≡ put ws (settled_by st v r)
      put_settled ws Root = refl
      put_settled ws (Behind d c) = put_if ws (length r.path - d == 0) _ _ _ _ refl refl

      ended_same : joined_ended (with_worths us l) v (with_worths vs r) ≡ joined_ended l v r
      ended_same = put_settled (operate_all l.layer.kinds us vs) r.start ∙ ap (λ ws. put ws (settled_by r.start v r)) (sym product)

      after_same : (ph : Phase) (s : PlainStrand) → IsLaidAs Stalled ph s → joined_after ph (with_worths us l) v (with_worths vs r) ≡ joined_after ph l v r
      after_same phase.Running s h = ended_same
      after_same (phase.Returning u) s h = ended_same
      after_same phase.Entering s h = absurd h
      after_same phase.AtSpawn s h = absurd h
      after_same (phase.Leaving u) s h = absurd h
      after_same (phase.Broken f) s h = absurd h

    at_same : (ph : Phase) (l r a b : PlainStrand) (us vs : List Worth) → operate_all l.layer.kinds l.layer.worths r.layer.worths ≡ operate_all l.layer.kinds us vs → IsLaidAs Ended ph a → IsLaidAs Stalled r.phase b → joined_at ph (with_worths us l) (with_worths vs r) ≡ joined_at ph l r
    at_same (phase.Leaving v) l r a b us vs e h k = after_same l r us vs e v r.phase b k
    at_same phase.Entering l r a b us vs e h k = absurd h
    at_same phase.Running l r a b us vs e h k = absurd h
    at_same phase.AtSpawn l r a b us vs e h k = absurd h
    at_same (phase.Returning u) l r a b us vs e h k = absurd h
    at_same (phase.Broken f) l r a b us vs e h k = absurd h

    folds_pair : (l r : PlainPiece) (x y p : Piece) → StandFolding setting l r x y → length y.strand.layers ≡ 1 → Begins false y.strand.start → schedules.folded setting.program setting.tables setting.memory w x y ≡ Some p → Folds l r p
    folds_pair l r x y p h one later e =
        let f = folds_exact (valued h.to_left l) (valued h.to_right r) x y p h.left h.right (ap waits h.stalled) one later e in
        let same : joined (with_worths h.to_left l.strand) (with_worths h.to_right r.strand) ≡ joined l.strand r.strand =
        at_same l.strand.phase l.strand r.strand _ _ h.to_left h.to_right h.product (subst (λ st. IsLaidAs st l.strand.phase (with_worths h.to_left l.strand)) h.ended h.left.laid)
        (subst (λ st. IsLaidAs st r.strand.phase (with_worths h.to_right r.strand)) h.stalled h.right.laid) in
        record {
          may = sym (may_valued l.strand.phase l r h.to_left h.to_right) ∙ f.may;
          one = subst (λ s. StandsForPiece setting (record { strand = s; deque = []; state = Held w }) p) same f.one;
        }

    -- ---- in the list

    first_is : (r : PlainPiece) (ps : List PlainPiece) (y : Piece) (xs : List Piece) → StandForPieces setting (r ∷ ps) (y ∷ xs) → (schedules.place_of y ≡ place_of r) × (y.state ≡ r.state)
    first_is r [] y [] h = (piece_place setting r y h, h.state)
    first_is r [] y (z ∷ xs) h = absurd h
    first_is r (q ∷ ps) y [] h = absurd h
    first_is r (q ∷ ps) y (z ∷ xs) (inl h) = (piece_place setting r y h.0, h.0.state)
    first_is r (q ∷ ps) y (z ∷ xs) (inr h) = (piece_place setting (valued h.0.to_left r) y h.0.left, h.0.left.state)

    all_three : (a b c : Bool) → a ≡ true → b ≡ true → c ≡ true → a && b && c ≡ true
    all_three true true true e f g = refl
    all_three false b c e f g = absurd cc
    all_three true false c e f g = absurd cc
    all_three true true false e f g = absurd cc

    not_both : (a b c : Bool) → a && b ≡ false → a && b && c ≡ false
    not_both true true c e = absurd cc
    not_both true false c e = refl
    not_both false b c e = refl

    both_are : (a b : Bool) → a && b ≡ true → (a ≡ true) × (b ≡ true)
    both_are true true e = (refl, refl)
    both_are true false e = absurd cc
    both_are false b e = absurd cc

    module _ (kits kits' : ℕ) (same : kits' ≡ kits) (history history' : List BookStep) (same_history : history' ≡ history) where
      abbrev FoldAgrees : PlainPiece → PlainPiece → Piece → Piece → List PlainPiece → List PlainPiece → List Piece → List Piece → Type 0
      FoldAgrees l r x y before later us xs =
          RunAgrees setting (folded_if (may_fold l r) w kits before l r later history)
          (schedules.folded_among setting.program setting.tables setting.memory w kits' us xs history' (Fold (schedules.place_of x) (schedules.place_of y) w) (schedules.folded setting.program setting.tables setting.memory w x y))

      fold_refused : (l r : PlainPiece) (x y : Piece) (before later : List PlainPiece) (us xs : List Piece) → x.state ≡ l.state → y.state ≡ r.state → done l.state && waits r.state ≡ false → FoldAgrees l r x y before later us xs
      fold_refused l r x y before later us xs a b e =
          subst (λ m. RunAgrees setting (folded_if m w kits before l r later history) (schedules.folded_among setting.program setting.tables setting.memory w kits' us xs history' (Fold (schedules.place_of x) (schedules.place_of y) w) (schedules.folded setting.program setting.tables setting.memory w x y)))
          (sym (not_both (done l.state) (waits r.state) (may_join_at l.strand.phase l r) e))
          (subst (λ m. RunAgrees setting (Err NotThere) (schedules.folded_among setting.program setting.tables setting.memory w kits' us xs history' (Fold (schedules.place_of x) (schedules.place_of y) w) (cond m (schedules.folded_by setting.program setting.tables setting.memory w x y (pair_of x.strand x.strand.phase y.strand y.strand.phase)) None)))
          (sym (ap (λ st. done st && waits y.state) a ∙ ap (λ st. done l.state && waits st) b ∙ e)) tt)

      fold_taken : (l r : PlainPiece) (x y p : Piece) (before later : List PlainPiece) (us xs : List Piece) → schedules.place_of x ≡ place_of l → schedules.place_of y ≡ place_of r → done l.state ≡ true → waits r.state ≡ true
          → StandForPieces setting before us → StandForPieces setting later xs → schedules.folded setting.program setting.tables setting.memory w x y ≡ Some p → Folds l r p → FoldAgrees l r x y before later us xs
      fold_taken l r x y p before later us xs a b d wt hb hl e f =
          subst (λ m. RunAgrees setting (folded_if m w kits before l r later history) (schedules.folded_among setting.program setting.tables setting.memory w kits' us xs history' (Fold (schedules.place_of x) (schedules.place_of y) w) (schedules.folded setting.program setting.tables setting.memory w x y)))
          (sym (all_three (done l.state) (waits r.state) (may_join_at l.strand.phase l r) d wt f.may))
          (subst (λ o. RunAgrees setting (folded_if true w kits before l r later history) (schedules.folded_among setting.program setting.tables setting.memory w kits' us xs history' (Fold (schedules.place_of x) (schedules.place_of y) w) o)) (sym e)
          (record {
            pieces = in_front setting before (folded w l r ∷ later) us (p ∷ xs) hb (with_first setting (folded w l r) later p xs f.one hl);
            kits = ap (λ n. n + 1) same;
            history = ap (λ n. n ++ Fold (schedules.place_of x) (schedules.place_of y) w ∷ []) same_history ∙ ap (λ m. history ++ Fold m (schedules.place_of y) w ∷ []) a ∙ ap (λ m. history ++ Fold (place_of l) m w ∷ []) b;
          }))

      module _ (q : Place) (all : List Piece)
          (joins : (us xs : List Piece) (x y : Piece) → all ≡ us ++ x ∷ y ∷ xs → done x.state ≡ true → waits y.state ≡ true → Foldable x y) where
        -- the left one has its own values
        fold_at : (l r : PlainPiece) (x y : Piece) (before later : List PlainPiece) (us xs : List Piece) → StandForPieces setting before us → StandsForPiece setting l x → StandForPieces setting (r ∷ later) (y ∷ xs) → all ≡ us ++ x ∷ y ∷ xs
            → (m : Bool) → done l.state && waits r.state ≡ m → FoldAgrees l r x y before later us xs
        fold_at l r x y before later us xs hb hl hr a false e = fold_refused l r x y before later us xs hl.state (first_is r later y xs hr).1 e
        fold_at l r x y before later us xs hb hl hr a true e =
            let both = both_are (done l.state) (waits r.state) e in
            let k = waiting_first setting r later y xs both.1 hr in
            let j = joins us xs x y a (ap done hl.state ∙ both.0) (ap waits k.0.state ∙ both.1) in
            fold_taken l r x y j.whole before later us xs (piece_place setting l x hl) (piece_place setting r y k.0) both.0 both.1 hb k.1 j.is (folds_exact l r x y j.whole hl k.0 both.1 j.one_layer j.later j.is)

        pub folded_agrees : (before ps : List PlainPiece) (us xs : List Piece) → StandForPieces setting before us → StandForPieces setting ps xs → all ≡ us ++ xs
            → RunAgrees setting (folded_at w q kits before ps history) (schedules.folded_at setting.program setting.tables setting.memory w q kits' us xs history')
        folded_agrees before [] us [] hb h a = tt
        folded_agrees before [] us (x ∷ xs) hb h a = absurd h
        folded_agrees before (l ∷ ps) us [] hb h a = absurd (none_there setting l ps h)
        folded_agrees before (l ∷ []) us (x ∷ []) hb h a = tt
        folded_agrees before (l ∷ []) us (x ∷ y ∷ xs) hb h a = absurd h
        folded_agrees before (l ∷ r ∷ ps) us (x ∷ []) hb h a = absurd h
        folded_agrees before (l ∷ r ∷ ps) us (x ∷ y ∷ xs) hb (inl h) a =
            either_agrees setting (same_name (place_of r) q) (same_name (schedules.place_of y) q) _ _ _ _ (ap (λ n. same_name n q) (first_is r ps y xs h.1).0)
            (λ b. fold_at l r x y before ps us xs hb h.0 h.1 a (done l.state && waits r.state) refl)
            (λ b. folded_agrees (before ++ l ∷ []) (r ∷ ps) (us ++ x ∷ []) (y ∷ xs) (in_front setting before (l ∷ []) us (x ∷ []) hb h.0) h.1 (a ∙ sym (append_assoc us (x ∷ []) (y ∷ xs))))
        folded_agrees before (l ∷ r ∷ ps) us (x ∷ y ∷ xs) hb (inr h) a =
            either_agrees setting (same_name (place_of r) q) (same_name (schedules.place_of y) q) _ _ _ _ (ap (λ n. same_name n q) (piece_place setting (valued h.0.to_right r) y h.0.right))
            (λ b. let j = joins us xs x y a (ap done (h.0.left.state ∙ h.0.ended)) (ap waits (h.0.right.state ∙ h.0.stalled)) in
            fold_taken l r x y j.whole before ps us xs (piece_place setting (valued h.0.to_left l) x h.0.left) (piece_place setting (valued h.0.to_right r) y h.0.right) (ap done h.0.ended) (ap waits h.0.stalled) hb h.1 j.is (folds_pair l r x y j.whole h.0 j.one_layer j.later j.is))
            (past ps xs h.1 a (λ e. folded_agrees ((before ++ l ∷ []) ++ r ∷ []) ps ((us ++ x ∷ []) ++ y ∷ []) xs
            (subst (λ bs. StandForPieces setting bs ((us ++ x ∷ []) ++ y ∷ [])) (sym (append_assoc before (l ∷ []) (r ∷ [])))
            (subst (λ zs. StandForPieces setting (before ++ l ∷ r ∷ []) zs) (sym (append_assoc us (x ∷ []) (y ∷ [])))
            (in_front setting before (l ∷ r ∷ []) us (x ∷ y ∷ []) hb (inr (h.0, tt))))) h.1
            (a ∙ sym (append_assoc us (x ∷ []) (y ∷ xs)) ∙ sym (append_assoc (us ++ x ∷ []) (y ∷ []) xs))))
          where
            -- the stalled one isn't a left one
            past : (ps : List PlainPiece) (xs : List Piece) → StandForPieces setting ps xs → all ≡ us ++ x ∷ y ∷ xs
                → ((e : Unit {0}) → RunAgrees setting (folded_at w q kits ((before ++ l ∷ []) ++ r ∷ []) ps history) (schedules.folded_at setting.program setting.tables setting.memory w q kits' ((us ++ x ∷ []) ++ y ∷ []) xs history'))
                → same_name (place_of r) q ≡ false → RunAgrees setting (folded_at w q kits (before ++ l ∷ []) (r ∷ ps) history) (schedules.folded_at setting.program setting.tables setting.memory w q kits' (us ++ x ∷ []) (y ∷ xs) history')
            past [] [] k a f b = tt
            past [] (z ∷ xs) k a f b = absurd k
            past (m ∷ ps) [] k a f b = absurd (none_there setting m ps k)
            past (m ∷ ps) (z ∷ xs) k a f b =
                either_agrees setting (same_name (place_of m) q) (same_name (schedules.place_of z) q) _ _ _ _ (ap (λ n. same_name n q) (first_is m ps z xs k).0)
                (λ c. fold_refused r m y z (before ++ l ∷ []) ps (us ++ x ∷ []) xs h.0.right.state (first_is m ps z xs k).1 (ap (λ st. done st && waits m.state) h.0.stalled))
                (λ c. f tt)
