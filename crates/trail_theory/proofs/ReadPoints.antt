-- A right strand that stands at a read begins at the trail's beginning, and has what the elision has in the end.
use Rattle.std.proofs.Common.{ℕ, ◌-◌, List, [], ◌∷◌, ◌++◌, None, Ok, Err, ℤ, pos, ◌≡◌, inl, inr, refl, sym, ap, ◌∙◌, subst, append_assoc, append-nil, true}
use Rattle.meaning.specs.Tree.{Name, bind, enter, read, sync, update, choose, loop, give, Body, end, step, Tree}
use Rattle.meaning.specs.Tables.{Tables}
use Rattle.meaning.specs.Outcome.{Log, Accumulators, Fault, Outcome, Place, Reads, Enters, Updates, Reuses, Begins, Syncs, Leaves, Faults, Marks, Spawns, Out, after}
use Rattle.meaning.specs.Statements.{identities, beginning, initial_values}
use Rattle.meaning.specs.Elision.{main, start, elide, depth_limit}
use Rattle.meaning.specs.Trail.{Trace, over, opening, inner, run_inside, runner, run, sight_of, trail_at}
use Rattle.meaning.specs.SmallStep.{Start, root, behind, Frame, blocks, halves, second, turns, Phase, entering, running, spawning, returning, leaving, broken, Parent, Lookup, look_of}
use Rattle.trail_theory.specs.SerialRest.{todo_walk}
use Rattle.meaning.specs.LayeredStrand.{LayeredStrand}
use Rattle.meaning.specs.Layers.{Notes, blank, notes, noted, noted_one, total, bottom}
use Rattle.trail_theory.specs.Order.{Every}
use Rattle.trail_theory.specs.TaskFits.{Spot, Stacked, SyncInside}
use Rattle.trail_theory.specs.ReadsAtEnd.{IsEnding, ReadsAtMainsEnd, KeepsRules}
use Rattle.trail_theory.specs.MainReads.{synced_after, IsSynced, TodoReads, of_other, of_main}
use Rattle.trail_theory.specs.Right.{IsRight, stretch, RightAt, IsOneLayer, ReadsByOneLayer, Sees, StretchesMultiply, RecordedAreSound}
use Rattle.trail_theory.specs.ElisionBeside.{forgotten, first_fault, before_fault, Fits}
use Rattle.trail_theory.specs.Theorems.{ReadsStandAtRoot, ReadsSeeTheEnd, AdvanceReadingStaysRight, AdvanceByProductStaysRight}
use Rattle.trail_theory.proofs.Places.{every_append, no_end, both_ways}
use Rattle.trail_theory.proofs.Order.{same_split}
use Rattle.trail_theory.proofs.Synced.{still_unsynced, inside_syncs, not_main}
use Rattle.trail_theory.proofs.FirstFaults.{inside_none, before_append, before_all}
use Rattle.trail_theory.proofs.Stepping.{noted_append}
use Rattle.trail_theory.proofs.Advances.{ordered_at, total_fits, advance_by, advance_right}
use Rattle.trail_theory.proofs.Joins.{one_layer}
use Rattle.trail_theory.proofs.Ends.{worth_of, main_regroup}
use Rattle.trail_theory.proofs.MainElides.{ChangesNothing, Still, begun, begun_after, trail_from_scratch}
use Rattle.trail_theory.proofs.AfterReads.{ending_block}

-- ---- where a read stands

record ReadPoint (done : Log) (n : Place) (b : Body) (bs : List Body) : Type 0 where
  in_main : n ≡ []
  outermost : bs ≡ []
  ending : IsEnding b
  synced : IsSynced done

main_point : (done : Log) (n : Place) (s x : ℕ) (r : Name) (b : Body) (bs : List Body) → TodoReads done n (blocks (step s (read x r) b ∷ bs)) → ReadPoint done n b bs
main_point done n s x r b bs (of_other m q) = absurd q.0.0.0
main_point done n s x r b [] (of_main e synced h f) = record { in_main = e; outermost = refl; ending = h.0.1; synced = f h.0.0 }
main_point done n s x r b (c ∷ bs) (of_main e synced h f) = absurd h.0.0.0

module _ (program : Tree) (tables : Tables) (sight : Accumulators) (lookup : Lookup) where
  -- a strand of main that begins behind a child of main has a spawn behind it without a sync
  from_root : (m : Start) (ls : List Notes) (fr : Frame) (ph : Phase) (t : List Parent) (h : RightAt program tables sight lookup m ls fr ph t) → fr.instance ≡ [] → IsSynced (h.before ++ stretch h.segments) → Spot m fr.instance fr.next → m ≡ root
  from_root root ls fr ph t h e s spot = refl
  from_root (behind m k) ls fr ph t h e s (inl q) =
      let z : m ≡ [] = sym q.0 ∙ e in
      let inside : Every (SyncInside (behind [] k)) (stretch h.segments) = subst (λ w. Every (SyncInside (behind w k)) (stretch h.segments)) z h.inside in
      absurd (both_ways (synced_after true (h.before ++ stretch h.segments)) s (still_unsynced h.before (stretch h.segments) (inside_syncs k (stretch h.segments) inside) (h.starts.unsynced z)))
  from_root (behind m k) ls fr ph t h e s (inr a) = absurd (no_end m a.child a.path (sym e ∙ a.is))

  nothing_below : (n : Place) (t : List Parent) → n ≡ [] → Stacked n t → t ≡ []
  nothing_below n [] e st = refl
  nothing_below n (p ∷ t) e st = absurd (not_main p.frame.instance st.0.number (sym st.0.is ∙ e))

  record AtRoot (m : Start) (fr : Frame) (b : Body) (bs : List Body) (t : List Parent) : Type 0 where
    starts : m ≡ root
    in_main : fr.instance ≡ []
    outermost : bs ≡ []
    ending : IsEnding b
    alone : t ≡ []

  at_root : ReadsAtMainsEnd program → (m : Start) (ls : List Notes) (fr : Frame) (s x : ℕ) (r : Name) (b : Body) (bs : List Body) (t : List Parent) → RightAt program tables sight lookup m ls fr (running (blocks (step s (read x r) b ∷ bs))) t → AtRoot m fr b bs t
  at_root ruled m ls fr s x r b bs t h =
      let p = main_point (h.before ++ stretch h.segments) fr.instance s x r b bs (h.reads ruled).0 in
      record {
        starts = from_root m ls fr (running (blocks (step s (read x r) b ∷ bs))) t h p.in_main p.synced h.task.fringe;
        in_main = p.in_main;
        outermost = p.outermost;
        ending = p.ending;
        alone = nothing_below fr.instance t p.in_main h.task.stacked;
      }

  pub reads_at_root : ReadsAtMainsEnd program → ReadsStandAtRoot program tables sight lookup
  reads_at_root ruled s n x r b bs e h =
      let p = at_root ruled s.start s.layers s.frame n x r b bs s.under (subst (λ w. RightAt program tables sight lookup s.start s.layers s.frame w s.under) e h) in
      (p.starts, p.in_main, p.alone)

-- ---- what updates nothing

pub still_before : (es : Log) → Still es → Still (before_fault es)
still_before [] h = tt
still_before (Updates n kind w ∷ es) h = absurd h.0
still_before (Reuses f args ws ∷ es) h = absurd h.0
still_before (Reads r ∷ es) h = (h.0, still_before es h.1)
still_before (Enters f args d ∷ es) h = (h.0, still_before es h.1)
still_before (Begins n d ∷ es) h = (h.0, still_before es h.1)
still_before (Syncs n ∷ es) h = (h.0, still_before es h.1)
still_before (Spawns n ∷ es) h = (h.0, still_before es h.1)
still_before (Leaves n v ∷ es) h = (h.0, still_before es h.1)
still_before (Faults k ∷ es) h = tt
still_before (Marks f args c ∷ es) h = (h.0, still_before es h.1)

worth_still : (l : Notes) (es : Log) → Still es → (noted l es).worth ≡ l.worth
worth_still l [] h = refl
worth_still l (Updates n kind w ∷ es) h = absurd h.0
worth_still l (Reuses f args ws ∷ es) h = absurd h.0
worth_still l (Reads r ∷ es) h = worth_still (noted_one l (Reads r)) es h.1
worth_still l (Enters f args d ∷ es) h = worth_still (noted_one l (Enters f args d)) es h.1
worth_still l (Begins n d ∷ es) h = worth_still l es h.1
worth_still l (Syncs n ∷ es) h = worth_still l es h.1
worth_still l (Spawns n ∷ es) h = worth_still l es h.1
worth_still l (Leaves n v ∷ es) h = worth_still l es h.1
worth_still l (Faults k ∷ es) h = worth_still l es h.1
worth_still l (Marks f args c ∷ es) h = worth_still l es h.1

-- the elision's events are the trail's up to the first fault
log_before : (o : Out Fault ℤ) (es : Log) (w : Outcome) → Fits o es w → o.log ≡ forgotten (before_fault es)
log_before o es (Ok v) h = ap (λ x. x.log) h.0 ∙ ap forgotten (sym (before_all es h.1))
log_before o es (Err k) h = h.1.0

-- what is said of a read alone
pub sees_when : (acc sight : Accumulators) (ph : Phase) → ((s x : ℕ) (r : Name) (b : Body) (bs : List Body) → ph ≡ running (blocks (step s (read x r) b ∷ bs)) → acc ≡ sight) → Sees acc sight ph
sees_when acc sight (entering child) here = tt
sees_when acc sight (running (blocks [])) here = tt
sees_when acc sight (running (blocks (end ∷ bs))) here = tt
sees_when acc sight (running (blocks (step s (bind x e) b ∷ bs))) here = tt
sees_when acc sight (running (blocks (step s (enter x w f es) b ∷ bs))) here = tt
sees_when acc sight (running (blocks (step s (read x r) b ∷ bs))) here = here s x r b bs refl
sees_when acc sight (running (blocks (step s sync b ∷ bs))) here = tt
sees_when acc sight (running (blocks (step s (update r es) b ∷ bs))) here = tt
sees_when acc sight (running (blocks (step s (choose e x y) b ∷ bs))) here = tt
sees_when acc sight (running (blocks (step s (loop x e f g c es) b ∷ bs))) here = tt
sees_when acc sight (running (blocks (step s (give e) b ∷ bs))) here = tt
sees_when acc sight (running (halves k job count i)) here = tt
sees_when acc sight (running (second k job count i)) here = tt
sees_when acc sight (running (turns job count i)) here = tt
sees_when acc sight (spawning d x child todo) here = tt
sees_when acc sight (returning v) here = tt
sees_when acc sight (leaving v) here = tt
sees_when acc sight (broken k) here = tt

-- ---- so the strand has there what the elision has in the end

module _ (program : Tree) (tables : Tables) (lookup : Lookup) (ruled : ReadsAtMainsEnd program) where
  abbrev S : Accumulators
  S = sight_of program tables

  abbrev T : Log
  T = trail_at program tables S (look_of lookup)

  abbrev within_main : Trace
  within_main = run_inside program tables S (runner program tables S (depth_limit - 1) (inner program (look_of lookup) (depth_limit - 1) main [])) (depth_limit - 1) main [] []

  -- the trail is what the strand has noted, and then what updates nothing
  worth_after : (here rest : Log) → here ++ rest ≡ T → first_fault here ≡ None → Still rest → (notes program here).worth ≡ S
  worth_after here rest e quiet still =
      let o = elide program tables depth_limit start main [] (initial_values program) in
      let w = run program tables S (depth_limit - 1) (look_of lookup) main [] [] in
      let a : beginning program ++ o.log ≡ forgotten (before_fault T) = log_before (begun program o) T w.outcome (trail_from_scratch program tables ruled (look_of lookup)) in
      let b : before_fault T ≡ here ++ before_fault rest = ap before_fault (sym e) ∙ before_append here rest quiet in
      let c : (notes program (here ++ before_fault rest)).worth ≡ (notes program here).worth = ap (λ l. l.worth) (noted_append (blank program) here (before_fault rest)) ∙ worth_still (notes program here) (before_fault rest) (still_before rest still) in
      sym (sym (begun_after program o) ∙ ap (λ l. after l (identities program)) (a ∙ ap forgotten b) ∙ worth_of (blank program) (here ++ before_fault rest) ∙ c)

  last_regroup : (here w b : Log) (n : Place) (o : Outcome) → [] ++ (here ++ (((w ++ Leaves n o ∷ []) ++ []) ++ b)) ≡ (here ++ w) ++ Leaves n o ∷ b
  last_regroup here w b n o = simp (append_assoc, append-nil)

  read_worth : (ls : List Notes) (fr : Frame) (s x : ℕ) (r : Name) (b : Body) (h : RightAt program tables S lookup root ls fr (running (blocks (step s (read x r) b ∷ []))) []) → fr.instance ≡ [] → IsEnding b → (notes program (stretch h.segments)).worth ≡ S
  read_worth ls fr s x r b h e ending =
      let here = stretch h.segments in
      let todo = blocks (step s (read x r) b ∷ []) in
      let W = todo_walk program tables S (look_of lookup) fr todo h.top.env fr.next h.top.doom in
      let ops = opening program (look_of lookup) (depth_limit - 1) main [] [] in
      let g : [] ++ (here ++ (((W.events ++ Leaves fr.instance W.outcome ∷ []) ++ []) ++ h.beyond)) ≡ T = subst (λ a. a ++ (here ++ (((W.events ++ Leaves fr.instance W.outcome ∷ []) ++ []) ++ h.beyond)) ≡ T) h.starts h.is_trail in
      let f : (here ++ W.events) ++ Leaves [] W.outcome ∷ h.beyond ≡ T = subst (λ n. (here ++ W.events) ++ Leaves n W.outcome ∷ h.beyond ≡ T) e (sym (last_regroup here W.events h.beyond fr.instance W.outcome) ∙ g) in
      let f' : (beginning program ++ (ops ++ within_main.events)) ++ Leaves [] within_main.outcome ∷ [] ≡ T = main_regroup (beginning program) ops within_main.events within_main.outcome in
      let q = same_split [] (here ++ W.events) h.beyond (beginning program ++ (ops ++ within_main.events)) [] W.outcome within_main.outcome (ordered_at program tables S lookup _ f) (ordered_at program tables S lookup _ f') (f ∙ sym f') in
      let z : here ++ (W.events ++ Leaves [] W.outcome ∷ []) ≡ T = sym (append_assoc here W.events (Leaves [] W.outcome ∷ [])) ∙ ap (λ b. (here ++ W.events) ++ Leaves [] W.outcome ∷ b) (sym q.later) ∙ f in
      let still : Still W.events = ending_block program tables S (runner program tables S fr.left (look_of lookup)) fr.left fr.instance fr.here (step s (read x r) b) ending h.top.env fr.next h.top.doom (λ env c doom. over fr.instance doom (pos 0)) (λ env c doom. (tt, tt)) in
      worth_after here (W.events ++ Leaves [] W.outcome ∷ []) z (inside_none root here h.inside) (every_append ChangesNothing W.events (Leaves [] W.outcome ∷ []) still (tt, tt))

  at_read : (m : Start) (ls : List Notes) (fr : Frame) (s x : ℕ) (r : Name) (b : Body) (bs : List Body) (t : List Parent) → RightAt program tables S lookup m ls fr (running (blocks (step s (read x r) b ∷ bs))) t → (P : Accumulators → Type 0)
      → ((h : RightAt program tables S lookup root ls fr (running (blocks (step s (read x r) b ∷ []))) []) → (notes program (stretch h.segments)).worth ≡ S → P S) → P S
  at_read m ls fr s x r b bs t h P then_so =
      let p = at_root program tables S lookup ruled m ls fr s x r b bs t h in
      let h1 = subst (λ w. RightAt program tables S lookup w ls fr (running (blocks (step s (read x r) b ∷ bs))) t) p.starts h in
      let h2 = subst (λ w. RightAt program tables S lookup root ls fr (running (blocks (step s (read x r) b ∷ w))) t) p.outermost h1 in
      let h3 = subst (λ w. RightAt program tables S lookup root ls fr (running (blocks (step s (read x r) b ∷ []))) w) p.alone h2 in
      then_so h3 (read_worth ls fr s x r b h3 p.in_main p.ending)

  bottom_at : (m : Start) (ls : List Notes) (fr : Frame) (s x : ℕ) (r : Name) (b : Body) (bs : List Body) (t : List Parent) → RightAt program tables S lookup m ls fr (running (blocks (step s (read x r) b ∷ bs))) t → IsOneLayer ls → bottom ls ≡ S
  bottom_at m [] fr s x r b bs t h one = absurd one
  bottom_at m (l ∷ []) fr s x r b bs t h one = at_read m (l ∷ []) fr s x r b bs t h (λ a. l.worth ≡ a) (λ k e. sym (one_layer program tables S lookup l k.segments k.logged).worth ∙ e)
  bottom_at m (l ∷ k ∷ ls) fr s x r b bs t h one = absurd one

  total_at : StretchesMultiply program tables S lookup → (m : Start) (ls : List Notes) (fr : Frame) (s x : ℕ) (r : Name) (b : Body) (bs : List Body) (t : List Parent) → RightAt program tables S lookup m ls fr (running (blocks (step s (read x r) b ∷ bs))) t → (total program ls).worth ≡ S
  total_at law m ls fr s x r b bs t h = at_read m ls fr s x r b bs t h (λ a. (total program ls).worth ≡ a) (λ k e. (total_fits program tables S lookup law k.before _ ls k.segments k.layered k.is_trail k.logged).worth ∙ e)

  pub reads_see : ReadsSeeTheEnd program tables S lookup
  reads_see s h one =
      sees_when (bottom s.layers) S s.phase (λ n x r b bs e. bottom_at s.start s.layers s.frame n x r b bs s.under (subst (λ w. RightAt program tables S lookup s.start s.layers s.frame w s.under) e h) (subst (ReadsByOneLayer s.layers) e one))

-- at a read the product of the layers is what the elision has in the end
pub sees_by_product : (program : Tree) (tables : Tables) (lookup : Lookup) → StretchesMultiply program tables (sight_of program tables) lookup → ReadsAtMainsEnd program → (s : LayeredStrand) → IsRight program tables (sight_of program tables) lookup s → Sees (total program s.layers).worth (sight_of program tables) s.phase
sees_by_product program tables lookup law ruled s h =
    sees_when (total program s.layers).worth (sight_of program tables) s.phase (λ n x r b bs e. total_at program tables lookup ruled law s.start s.layers s.frame n x r b bs s.under (subst (λ w. RightAt program tables (sight_of program tables) lookup s.start s.layers s.frame w s.under) e h))

-- a small step keeps right without a premise on what a read sees: where a read gives the product of the layers
pub advances_by_product : (program : Tree) (tables : Tables) (lookup : Lookup) → StretchesMultiply program tables (sight_of program tables) lookup → KeepsRules program → RecordedAreSound program tables (sight_of program tables) lookup → AdvanceByProductStaysRight program tables (sight_of program tables) lookup
advances_by_product program tables lookup law rules sound kit s h =
    advance_by program tables (sight_of program tables) lookup law rules.waiting sound kit (total program s.layers).worth s h (sees_by_product program tables lookup law rules.reads s h)

-- and where it gives the bottom layer's values, and there is no other
pub advances_reading : (program : Tree) (tables : Tables) (lookup : Lookup) → StretchesMultiply program tables (sight_of program tables) lookup → KeepsRules program → RecordedAreSound program tables (sight_of program tables) lookup → AdvanceReadingStaysRight program tables (sight_of program tables) lookup
advances_reading program tables lookup law rules sound kit s h one =
    advance_right program tables (sight_of program tables) lookup law rules.waiting sound kit s h (reads_see program tables lookup rules.reads s h one)
