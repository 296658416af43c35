-- A small step by numbers stands for the small step by names.
use Rattle.std.proofs.Common.{◌≡◌, ℕ, suc, ◌-◌, ◌≤◌, Bool, true, false, if◌then◌else◌, List, [], ◌∷◌, length, Option, Some, None, refl, sym, ◌∙◌, ap, subst, arith}
use Rattle.std.specs.Prelude.{ℤ, pos, nat_lt}
use Rattle.std.proofs.lemmas.List.{take-take, length-take-le}
use Rattle.std.proofs.lemmas.Bool.{eqb-false}
use Rattle.meaning.specs.Tree.{Body, end, step}
use Rattle.meaning.specs.Elision.{depth_limit}
use Rattle.meaning.specs.Outcome.{Place, Syncs, Leaves}
use Rattle.std.specs.Prelude.{Ok}
use Rattle.meaning.specs.Statements.{Job}
use Rattle.meaning.specs.SmallStep.{has, set_into, root, behind, Start as NamedStart, Frame, Todo, blocks, halves, second, turns, Child, instance, half, Phase as NamedPhase, entering, running, returning, leaving, Parent, Step, moved, unless, is_entry, leaving_layer, with_layer, with_env, with_value, todo_step, micro}
use Rattle.meaning.specs.Layers.{Notes, noted_top, bottom}
use Rattle.meaning.specs.LayeredStrand.{LayeredStrand}
use Rattle.meaning.specs.Tallies.{Tally, closed_by, tallied}
use Rattle.trail_theory.specs.OwnLayers.{frame_by, is_top_by_length}
use Rattle.trail_theory.specs.Unflagged.{unflagged_parent, unflagged_under, unflagged_step}
use Rattle.linked_program.specs.declared.code.Instruction.{Instruction}
use Rattle.linked_program.specs.TableNames.{columned_of}
use Rattle.linked_program.specs.Linked.{linked_body}
use Rattle.linked_program.specs.CodeView.{instruction_at}
use Rattle.evaluation.specs.declared.slot.Slot.{Slot}
use Rattle.evaluation.specs.declared.slot.Slot.TheVariants.{Has}
use Rattle.evaluation.specs.Slots.{meant}
use Rattle.evaluation.proofs.Slots.{set_meant}
use Rattle.positions.specs.declared.work.Position.{Position}
use Rattle.positions.specs.declared.work.Work.{Work}
use Rattle.positions.specs.declared.work.Work.TheVariants.{Block, Over, Halves, Second, Turns}
use Rattle.positions.specs.declared.phase.Phase.{Phase}
use Rattle.positions.specs.declared.phase.Phase.TheVariants as phase
use Rattle.positions.specs.declared.start.Start.{Start}
use Rattle.positions.specs.declared.start.Start.TheVariants.{Root, Behind}
use Rattle.positions.specs.Setting.{Setting, IsLinked, HasItsTables, HasItsRecords, by_own_names}
use Rattle.positions.specs.Activations.{PlainActivation, at, bound, with_slot, next_of, first_of, outside_by, outside}
use Rattle.positions.specs.Code.{blocks_at, instruction_inside, loop_in}
use Rattle.positions.specs.Layers.{PlainLayer}
use Rattle.positions.specs.Strands.{PlainStrand, shorter, entry_by, IsLayeredAt}
use Rattle.positions.specs.Tallies.{PlainTally, closing}
use Rattle.positions.specs.Advance as plain
use Rattle.positions.specs.Advance.{with_top, in_phase, giving, gone_by, gone, worked, started, started_by}
use Rattle.positions.specs.Stands.{IsStart, AreNotes, IsTally, AreBodies, acts_at, frame_of, slots_by, IsUnbound, IsTodoAt, IsTodo, IsParent, AreParents, IsNew, StandsAt}
use Rattle.positions.specs.Simulation.{HoldNow, IsSmallStep}
use Rattle.position_theory.proofs.Beginning.{lookup_of, top_begins, instance_begins}
use Rattle.position_theory.proofs.Evaluations.{strand_at, Comes}
use Rattle.position_theory.proofs.Layering.{top_none}
use Rattle.position_theory.proofs.Loops.{halved_is, second_is, turned_is}
use Rattle.position_theory.proofs.Places.{AtPlace, at_place}
use Rattle.position_theory.proofs.Products.{closed_layers}
use Rattle.position_theory.proofs.Recorded.{closed_tally, own_is}
use Rattle.position_theory.proofs.Starts.{start_moved, entry_is}
use Rattle.position_theory.proofs.Statements.{performed_is}

-- ---- what a running instance does

module _ (setting : Setting) (kit : Bool) (linked : IsLinked (by_own_names setting)) (records : HasItsRecords (by_own_names setting))
    (m : NamedStart) (under : List Parent) (st : Start) (lower : List PlainLayer) (path : Place) (a : PlainActivation) (below : List PlainActivation)
    (begins : IsStart st phase.Running path m) (here : AreParents (by_own_names setting) path below under) (hu : AreParents (by_own_names setting) path below (unflagged_under under)) (args : List ℤ) (pt : PlainTally) (t : Tally) (counts : IsTally (by_own_names setting) pt t) (l : PlainLayer) (ls : List Notes) (hl : AreNotes (by_own_names setting) st (l ∷ lower) ls) where
  abbrev plain_at : Work → PlainStrand
  plain_at w = record { start = st; layer = l; lower = lower; path = path; top = at w a; below = below; phase = phase.Running; arguments = args; tally = pt }

  abbrev frame_in : Work → Frame
  frame_in w = frame_of (by_own_names setting) path (at w a)

  -- what a strand stands for after a step of what the instance has left
  abbrev Works : PlainStrand → Work → Todo → Type 0
  Works s w todo = Comes (by_own_names setting) s (strand_at m ls (frame_in w) (running todo) under) t (todo_step setting.program.tree setting.tables (lookup_of setting) kit (bottom ls) m (frame_in w) todo under)

  unnoted : AreNotes (by_own_names setting) st (l ∷ lower) (noted_top ls [])
  unnoted = subst (AreNotes (by_own_names setting) st (l ∷ lower)) (sym (top_none ls)) hl

  -- the end of a block
  block_ends : (q : Position) (outs : List Position) (bs : List Body) → AreBodies (by_own_names setting) a.procedure outs bs → Works (with_top (outside_by outs (at (Block q) a)) (plain_at (Block q))) (Block q) (blocks (end ∷ bs))
  block_ends q [] [] h = record { start = begins; layers = unnoted; tally = counts; now = record { todo = blocks []; left = tt; phase = refl; frame = refl; under = hu } }
  block_ends q [] (b ∷ bs) h = absurd h
  block_ends q (p ∷ ps) bs h = record { start = begins; layers = unnoted; tally = counts; now = record { todo = blocks bs; left = h; phase = refl; frame = refl; under = hu } }

  instruction_there : (b : Bool) (i : Option Instruction) (j : Instruction) → (if b then i else None) ≡ Some j → i ≡ Some j
  instruction_there true i j e = e
  instruction_there false i j e = absurd cc

  -- the statement at a place
  gone_is : (q : Position) (b : Body) (bs : List Body) (i : Option Instruction) → instruction_inside setting.codes a.procedure (length a.outer) q ≡ i
      → linked_body (columned_of setting.tables) setting.program.tree b ≡ acts_at (by_own_names setting) a.procedure (length a.outer) q → AreBodies (by_own_names setting) a.procedure a.outer bs
      → AtPlace (by_own_names setting) (λ n. acts_at (by_own_names setting) a.procedure (suc (length a.outer)) (first_of n)) i b (acts_at (by_own_names setting) a.procedure (length a.outer) (next_of q))
      → Works (gone_by (by_own_names setting) kit q i (plain_at (Block q))) (Block q) (blocks (b ∷ bs))
  gone_is q b bs None found at_place hb next =
      subst (λ c. Works (with_top (outside (at (Block q) a)) (plain_at (Block q))) (Block q) (blocks (c ∷ bs))) (sym next) (block_ends q a.outer bs hb)
  gone_is q b bs (Some i) found at_place hb next =
      subst (λ c. Works (gone_by (by_own_names setting) kit q (Some i) (plain_at (Block q))) (Block q) (blocks (c ∷ bs))) (sym next.is_step)
      (performed_is setting kit linked records m under st lower path a q below args pt t next.rest bs begins hu counts next.follows hb (running (blocks (step i.number next.deed next.rest ∷ bs))) i.number l ls hl
      i.operation next.deed next.does
      (ap loop_in (instruction_there (nat_lt (length a.outer) (length (blocks_at setting.codes a.procedure))) (instruction_at setting.codes a.procedure q.block q.index) i found))
      (record {
        start = begins;
        layers = hl;
        tally = counts;
        now = record {
          todo = blocks (step i.number next.deed next.rest ∷ bs);
          left = (subst (λ c. linked_body (columned_of setting.tables) setting.program.tree c ≡ acts_at (by_own_names setting) a.procedure (length a.outer) q) next.is_step at_place, hb);
          phase = refl;
          frame = refl;
          under = here;
        };
      }))

  block_is : (q : Position) (bs : List Body) → AreBodies (by_own_names setting) a.procedure (q ∷ a.outer) bs → Works (gone (by_own_names setting) kit q (plain_at (Block q))) (Block q) (blocks bs)
  block_is q [] h = absurd h
  block_is q (b ∷ bs) h =
      gone_is q b bs (instruction_inside setting.codes a.procedure (length a.outer) q) refl h.0 h.1 (at_place (by_own_names setting) a.procedure (length a.outer) q b h.0)

  over_is : Works (giving (pos 0) (plain_at Over)) Over (blocks [])
  over_is = record { start = start_moved st phase.Running (phase.Returning (pos 0)) path path m (λ d w. (refl, w)) begins; layers = unnoted; tally = counts; now = record { phase = refl; frame = refl; under = hu } }

  pub running_is : (w : Work) (todo : Todo) → IsTodoAt (by_own_names setting) (at w a) w todo → Works (worked (by_own_names setting) kit w (plain_at w)) w todo
  running_is (Block q) (blocks bs) h = block_is q bs h
  running_is Over (blocks []) h = over_is
  running_is (Halves loop k s) (halves n job count i) h =
      subst (λ x. Works (worked (by_own_names setting) kit (Halves loop k s) (plain_at (Halves loop k s))) (Halves loop k s) (halves x job count i)) (sym h.1)
      (subst (λ x. Works (worked (by_own_names setting) kit (Halves loop k s) (plain_at (Halves loop k s))) (Halves loop k s) (halves k job x i)) (sym h.2)
      (subst (λ x. Works (worked (by_own_names setting) kit (Halves loop k s) (plain_at (Halves loop k s))) (Halves loop k s) (halves k job s.count x)) (sym h.3)
      (halved_is setting kit linked records m under st lower path a below args pt t counts begins hu (running (halves k job s.count s.first)) loop job h.0 l ls hl k s)))
  running_is (Second loop k s) (second n job count i) h =
      subst (λ x. Works (worked (by_own_names setting) kit (Second loop k s) (plain_at (Second loop k s))) (Second loop k s) (second x job count i)) (sym h.1)
      (subst (λ x. Works (worked (by_own_names setting) kit (Second loop k s) (plain_at (Second loop k s))) (Second loop k s) (second k job x i)) (sym h.2)
      (subst (λ x. Works (worked (by_own_names setting) kit (Second loop k s) (plain_at (Second loop k s))) (Second loop k s) (second k job s.count x)) (sym h.3)
      (second_is setting kit linked records m under st lower path a below args pt t counts begins hu (running (second k job s.count s.first)) loop job h.0 l ls hl k s)))
  running_is (Turns loop s) (turns job count i) h =
      subst (λ x. Works (worked (by_own_names setting) kit (Turns loop s) (plain_at (Turns loop s))) (Turns loop s) (turns job x i)) (sym h.1)
      (subst (λ x. Works (worked (by_own_names setting) kit (Turns loop s) (plain_at (Turns loop s))) (Turns loop s) (turns job s.count x)) (sym h.2)
      (turned_is setting kit linked records m under st lower path a below args pt t counts begins hu (running (turns job s.count s.first)) loop job h.0 l ls hl s))
  running_is w todo h = absurd h

-- ---- an instance that leaves

top_syncs : (ls : List Notes) (n : Place) → noted_top ls (Syncs n ∷ []) ≡ ls
top_syncs [] n = refl
top_syncs (l ∷ ls) n = refl

pub top_leaves : (ls : List Notes) (n : Place) (v : ℤ) → noted_top ls (Leaves n (Ok v) ∷ []) ≡ ls
top_leaves [] n v = refl
top_leaves (l ∷ ls) n v = refl

module _ (setting : Setting) where
  -- a loop's instance stays as it is
  pub todo_bound : (a : PlainActivation) (w : Work) (into : Option ℕ) (s : Slot) (todo : Todo) → IsUnbound setting w into → IsTodoAt setting a w todo → IsTodoAt setting (bound into s a) w todo
  todo_bound a (Block q) into s (blocks bs) u h = h
  todo_bound a Over into s (blocks []) u h = tt
  todo_bound a (Halves loop k p) into s (halves n job count i) u h = subst (λ x. IsTodoAt setting (bound x s a) (Halves loop k p) (halves n job count i)) (sym u) h
  todo_bound a (Second loop k p) into s (second n job count i) u h = subst (λ x. IsTodoAt setting (bound x s a) (Second loop k p) (second n job count i)) (sym u) h
  todo_bound a (Turns loop p) into s (turns job count i) u h = subst (λ x. IsTodoAt setting (bound x s a) (Turns loop p) (turns job count i)) (sym u) h
  todo_bound a w into s todo u h = absurd h

  pub into_slots : (w : Work) (slots : List Slot) (into : Option ℕ) (s : Slot) → slots_by setting w (with_slot into s slots) ≡ set_into (slots_by setting w slots) into (meant s)
  into_slots (Block q) slots None s = refl
  into_slots (Block q) slots (Some x) s = set_meant slots x s
  into_slots Over slots None s = refl
  into_slots Over slots (Some x) s = set_meant slots x s
  into_slots (Halves loop k p) slots None s = refl
  into_slots (Halves loop k p) slots (Some x) s = refl
  into_slots (Second loop k p) slots None s = refl
  into_slots (Second loop k p) slots (Some x) s = refl
  into_slots (Turns loop p) slots None s = refl
  into_slots (Turns loop p) slots (Some x) s = refl

  pub bound_frame : (n : Place) (a : PlainActivation) (into : Option ℕ) (s : Slot) → with_env (frame_of setting n a) (set_into (slots_by setting a.work a.slots) into (meant s)) ≡ frame_of setting n (bound into s a)
  bound_frame n a into s = ap (with_env (frame_of setting n a)) (sym (into_slots a.work a.slots into s))

  -- the one that waited goes on with the value
  pub with_value_is : (over : Place) (a : PlainActivation) (p : Parent) (v : ℤ) → IsParent setting over a p → with_value p v ≡ frame_of setting (shorter over) (bound a.into (Has v) a)
  with_value_is over a p v h =
      ap (λ fr. with_env fr (set_into fr.env p.into (has v))) h.frame
      ∙ ap (λ x. with_env (frame_of setting (shorter over) a) (set_into (slots_by setting a.work a.slots) x (has v))) h.into
      ∙ bound_frame (shorter over) a a.into (Has v)

  -- the beginning, seen from the one that goes on
  pub start_below : (st : Start) (v : ℤ) (path : Place) (m : NamedStart) → IsStart st (phase.Leaving v) path m → IsStart st phase.Running (shorter path) m
  start_below st v path m h =
      start_moved st (phase.Leaving v) phase.Running path (shorter path) m
      (λ d w. (sym (take-take d (length path - 1) path (let le : d ≤ length path - 1 = omega arith in le)), let e : length (shorter path) ≡ length path - 1 = length-take-le (length path - 1) path (omega arith) in omega arith)) h

  start_left : (st : Start) (v : ℤ) (path : Place) (m : NamedStart) → entry_by st path ≡ false → IsStart st (phase.Returning v) path m → IsStart st (phase.Leaving v) path m
  start_left Root v path root e h = tt
  start_left Root v path (behind m j) e h = absurd h
  start_left (Behind d k) v path root e h = absurd h
  start_left (Behind d k) v path (behind m j) e h =
      let other : length path ≡ d → ⊥ = eqb-false (length path) d e in
      let le : d ≤ length path = h.2 in
      (h.0, h.1, (omega arith))

-- ---- each phase

module _ (setting : Setting) where
  -- the instances that wait have no flags
  pub waits_unflagged : (over : Place) (a : PlainActivation) (p : Parent) → IsParent setting over a p → IsParent setting over a (unflagged_parent p)
  waits_unflagged over a p h = record { named = h.named; frame = ap (with_layer false) h.frame; spawned = h.spawned; into = h.into; unbound = h.unbound; todo = h.todo }

  pub parents_unflagged : (over : Place) (below : List PlainActivation) (under : List Parent) → AreParents setting over below under → AreParents setting over below (unflagged_under under)
  parents_unflagged over [] [] h = tt
  parents_unflagged over [] (p ∷ under) h = absurd h
  parents_unflagged over (a ∷ below) [] h = absurd h
  parents_unflagged over (a ∷ below) (p ∷ under) h = (waits_unflagged over a p h.0, parents_unflagged (shorter over) below under h.1)

module _ (setting : Setting) (kit : Bool) (linked : IsLinked (by_own_names setting)) (records : HasItsRecords (by_own_names setting))
    (m : NamedStart) (under : List Parent) (st : Start) (lower : List PlainLayer) (path : Place) (a : PlainActivation) (l : PlainLayer) (ls : List Notes) (hl : AreNotes (by_own_names setting) st (l ∷ lower) ls)
    (args : List ℤ) (pt : PlainTally) (t : Tally) (counts : IsTally (by_own_names setting) pt t) (below : List PlainActivation) (here : AreParents (by_own_names setting) path below under) where
  abbrev plain_in : Phase → PlainStrand
  plain_in ph = record { start = st; layer = l; lower = lower; path = path; top = a; below = below; phase = ph; arguments = args; tally = pt }

  abbrev fr : Frame
  fr = frame_of (by_own_names setting) path a

  hu : AreParents (by_own_names setting) path below (unflagged_under under)
  hu = parents_unflagged (by_own_names setting) path below under here

  abbrev ComesIn : PlainStrand → NamedPhase → Step → Type 0
  ComesIn s ph st' = Comes (by_own_names setting) s (strand_at m ls fr ph under) t st'

  -- the small step, where the instance has that flag
  abbrev stepped : Bool → NamedPhase → Step
  stepped flag ph = micro setting.program.tree setting.tables (lookup_of setting) kit (bottom ls) m (with_layer flag fr) ph under

  -- ---- an instance is entered

  started_half : (w : Work) (n : ℕ) (job : Job) (count i : ℕ) → IsTodoAt (by_own_names setting) a w (halves n job count i)
      → started_by (by_own_names setting) kit w (plain_in phase.Entering) ≡ plain_in phase.Running
  started_half (Block q) n job count i h = absurd h
  started_half w n job count i h = refl

  half_begins : (n : ℕ) (job : Job) (count i : ℕ) → IsStart st phase.Entering path m → IsTodo (by_own_names setting) a (halves n job count i)
      → ComesIn (started (by_own_names setting) kit (plain_in phase.Entering)) (entering (half n job count i)) (stepped false (entering (half n job count i)))
  half_begins n job count i begins h =
      subst (λ s. ComesIn s (entering (half n job count i)) (stepped false (entering (half n job count i)))) (sym (started_half a.work n job count i h))
      (record {
        start = start_moved st phase.Entering phase.Running path path m (λ d w. (refl, omega arith)) begins;
        layers = subst (AreNotes (by_own_names setting) st (l ∷ lower)) (sym (top_begins ls path (depth_limit - a.left))) hl;
        tally = counts;
        now = record { todo = halves n job count i; left = h; phase = refl; frame = refl; under = hu };
      })

  entered_is : (child : Child) → IsStart st phase.Entering path m → IsNew (by_own_names setting) args a child
      → ComesIn (started (by_own_names setting) kit (plain_in phase.Entering)) (entering child) (stepped false (entering child))
  entered_is (instance f vs) begins h =
      instance_begins (by_own_names setting) refl linked records kit (bottom ls) m under st lower path a l ls hl below phase.Entering args pt t counts fr (entering (instance f vs)) under f vs begins hu h.0 h.1
  entered_is (half n job count i) begins h = half_begins n job count i begins h.1

  -- ---- the implicit sync

  -- whether it has the topmost layer
  abbrev owns : Bool
  owns = is_top_by_length t.opened path

  -- the step in which it leaves
  abbrev leaving_step : Bool → ℤ → Step
  leaving_step flag v = moved (leaving_layer setting.program.tree setting.tables (lookup_of setting) kit (bottom ls) flag) (Syncs path ∷ []) fr (leaving v) under

  abbrev tally_by : Step → Tally
  tally_by st' = tallied setting.program ls (unflagged_step st') t

  top_closes : (v : ℤ) (ks : List Notes) → length pt.opened ≡ length lower → AreNotes (by_own_names setting) st (l ∷ lower) ks → HoldNow (by_own_names setting) (closed_by setting.program t.opened ks (leaving v) t)
      → IsTally (by_own_names setting) (closing setting.program.revisions l v pt) (closed_by setting.program t.opened ks (leaving v) t)
  top_closes v [] long h hold = absurd h
  top_closes v (n ∷ ks) long h hold = closed_tally (by_own_names setting) linked records l n v h.0 ks pt t long counts hold

  closed_is : (v : ℤ) → length pt.opened ≡ length lower → IsStart st (phase.Leaving v) path m → HoldNow (by_own_names setting) (tally_by (leaving_step true v)) → ComesIn (plain.closed (by_own_names setting) v (plain_in (phase.Returning v))) (returning v) (leaving_step true v)
  closed_is v long begins hold = record {
    start = begins;
    layers = closed_layers (by_own_names setting) st l lower (noted_top ls (Syncs path ∷ [])) (subst (AreNotes (by_own_names setting) st (l ∷ lower)) (sym (top_syncs ls path)) hl);
    tally = top_closes v (noted_top ls (Syncs path ∷ [])) long (subst (AreNotes (by_own_names setting) st (l ∷ lower)) (sym (top_syncs ls path)) hl) hold;
    now = record { phase = refl; frame = refl; under = hu };
  }

  leaves_is : (v : ℤ) → IsStart st (phase.Leaving v) path m → ComesIn (plain_in (phase.Leaving v)) (returning v) (leaving_step false v)
  leaves_is v begins = record {
    start = begins;
    layers = subst (AreNotes (by_own_names setting) st (l ∷ lower)) (sym (top_syncs ls path)) hl;
    tally = counts;
    now = record { phase = refl; frame = refl; under = hu };
  }

  owned_or_not : (b : Bool) (v : ℤ) → length pt.opened ≡ length lower → IsStart st (phase.Leaving v) path m → HoldNow (by_own_names setting) (tally_by (leaving_step b v))
      → ComesIn (if b then plain.closed (by_own_names setting) v (plain_in (phase.Returning v)) else plain_in (phase.Leaving v)) (returning v) (leaving_step b v)
  owned_or_not true v long begins hold = closed_is v long begins hold
  owned_or_not false v long begins hold = leaves_is v begins

  returned_by : (b : Bool) (v : ℤ) → length pt.opened ≡ length lower → entry_by st path ≡ b → IsStart st (phase.Returning v) path m → HoldNow (by_own_names setting) (tally_by (unless b (leaving_step owns v)))
      → ComesIn (if b then plain_in (phase.Returning v) else if owns then plain.closed (by_own_names setting) v (plain_in (phase.Returning v)) else plain_in (phase.Leaving v)) (returning v) (unless b (leaving_step owns v))
  returned_by true v long e begins hold = record { start = begins; layers = hl; tally = counts; now = record { phase = refl; frame = refl; under = here } }
  returned_by false v long e begins hold = owned_or_not owns v long (start_left (by_own_names setting) st v path m e begins) hold

  synced_is : (v : ℤ) → length pt.opened ≡ length lower → IsStart st (phase.Returning v) path m → HoldNow (by_own_names setting) (tally_by (stepped owns (returning v)))
      → ComesIn (plain.synced (by_own_names setting) v (plain_in (phase.Returning v))) (returning v) (stepped owns (returning v))
  synced_is v long begins hold =
      let entry : is_entry m path ≡ entry_by st path = entry_is st path m (start_moved st (phase.Returning v) phase.Running path path m (λ d w. (refl, w)) begins) in
      subst (λ b. HoldNow (by_own_names setting) (tally_by (unless b (leaving_step owns v))) → ComesIn (plain.synced (by_own_names setting) v (plain_in (phase.Returning v))) (returning v) (unless b (leaving_step owns v))) (sym entry)
      (λ hold'. subst (λ b. ComesIn (if entry_by st path then plain_in (phase.Returning v) else if b then plain.closed (by_own_names setting) v (plain_in (phase.Returning v)) else plain_in (phase.Leaving v)) (returning v) (unless (entry_by st path) (leaving_step owns v)))
      (sym (own_is (by_own_names setting) pt.opened t.opened path counts.opened))
      (returned_by (entry_by st path) v long refl begins hold')) hold
  -- ---- the parent of an instance that leaves goes on

module _ (setting : Setting) (kit : Bool) (m : NamedStart) (st : Start) (lower : List PlainLayer) (path : Place) (a : PlainActivation)
    (l : PlainLayer) (ls : List Notes) (hl : AreNotes (by_own_names setting) st (l ∷ lower) ls) (args : List ℤ) (pt : PlainTally) (t : Tally) (counts : IsTally (by_own_names setting) pt t) (v : ℤ) (begins : IsStart st (phase.Leaving v) path m) where
  abbrev leaves : List PlainActivation → PlainStrand
  leaves below = record { start = st; layer = l; lower = lower; path = path; top = a; below = below; phase = phase.Leaving v; arguments = args; tally = pt }

  left_is : (below : List PlainActivation) (under : List Parent) → AreParents (by_own_names setting) path below under
      → Comes (by_own_names setting) (plain.left_to below v (leaves below)) (strand_at m ls (frame_of (by_own_names setting) path a) (leaving v) under) t
      (micro setting.program.tree setting.tables (lookup_of setting) kit (bottom ls) m (frame_of (by_own_names setting) path a) (leaving v) under)
  left_is [] [] h = record { start = begins; layers = hl; tally = counts; now = record { phase = refl; frame = refl; under = h } }
  left_is [] (p ∷ under) h = absurd h
  left_is (b ∷ below) [] h = absurd h
  left_is (b ∷ below) (p ∷ under) h = record {
    start = start_below (by_own_names setting) st v path m begins;
    layers = subst (AreNotes (by_own_names setting) st (l ∷ lower)) (sym (top_leaves ls path v)) hl;
    tally = counts;
    now = record {
      todo = p.todo;
      left = todo_bound (by_own_names setting) b b.work b.into (Has v) p.todo h.0.unbound h.0.todo;
      phase = refl;
      frame = ap (with_layer false) (with_value_is (by_own_names setting) path b p v h.0);
      under = parents_unflagged (by_own_names setting) (shorter path) below under h.1;
    };
  }

-- ---- the step

pub rebuilt : (x : LayeredStrand) (fr : Frame) (ph : NamedPhase) → x.frame ≡ fr → x.phase ≡ ph → x ≡ strand_at x.start x.layers fr ph x.under
rebuilt x fr ph e f = ap (λ g. strand_at x.start x.layers g x.phase x.under) e ∙ ap (λ p. strand_at x.start x.layers fr p x.under) f

module _ (setting : Setting) (kit : Bool) (linked : IsLinked (by_own_names setting)) (records : HasItsRecords (by_own_names setting)) (s : PlainStrand) (x : LayeredStrand) (t : Tally)
    (hl : AreNotes (by_own_names setting) s.start (s.layer ∷ s.lower) x.layers) (counts : IsTally (by_own_names setting) s.tally t) where
  abbrev in_place : Phase → List PlainActivation → PlainStrand
  in_place ph below = record { start = s.start; layer = s.layer; lower = s.lower; path = s.path; top = s.top; below = below; phase = ph; arguments = s.arguments; tally = s.tally }

  -- the small step, before flags are forgotten
  abbrev pub step_in : LayeredStrand → NamedPhase → Step
  step_in y ph = micro setting.program.tree setting.tables (lookup_of setting) kit (bottom y.layers) y.start (frame_by is_top_by_length ph t.opened y.frame) ph y.under

  abbrev step_of : LayeredStrand → Step
  step_of y = step_in y y.phase

  abbrev ReachesFrom : Phase → List PlainActivation → LayeredStrand → Type 0
  ReachesFrom ph below y = Comes (by_own_names setting) (plain.advanced (by_own_names setting) kit (in_place ph below)) y t (step_of y)

  -- only an instance that returns makes a record, of the layer that is above as many as are open
  abbrev pub HoldsAt : Phase → LayeredStrand → Type 0
  HoldsAt (phase.Returning v) y = (length s.tally.opened ≡ length s.lower) × HoldNow (by_own_names setting) (tallied setting.program y.layers (unflagged_step (step_of y)) t)
  HoldsAt _ y = Unit {0}

  pub phase_is : (ph : Phase) (below : List PlainActivation) → IsStart s.start ph s.path x.start → StandsAt (by_own_names setting) ph below (in_place ph below) x → HoldsAt ph x → ReachesFrom ph below x
  phase_is phase.Entering below begins h hold =
      subst (ReachesFrom phase.Entering below) (sym (rebuilt x _ _ h.frame h.phase))
      (entered_is setting kit linked records x.start x.under s.start s.lower s.path s.top s.layer x.layers hl s.arguments s.tally t counts below h.under h.child begins h.new)
  phase_is phase.Running below begins h hold =
      subst (ReachesFrom phase.Running below) (sym (rebuilt x _ _ h.frame h.phase))
      (running_is setting kit linked records x.start x.under s.start s.lower s.path s.top below begins h.under (parents_unflagged (by_own_names setting) s.path below x.under h.under) s.arguments s.tally t counts s.layer x.layers hl
      s.top.work h.todo h.left)
  phase_is phase.AtSpawn [] begins h hold = absurd h
  phase_is phase.AtSpawn (p ∷ below) begins h hold =
      subst (λ ph. Comes (by_own_names setting) (in_place phase.AtSpawn (p ∷ below)) x t (step_in x ph)) (sym h.phase) (record { start = begins; layers = hl; tally = counts; now = h })
  phase_is (phase.Returning v) below begins h hold =
      subst (λ y. HoldsAt (phase.Returning v) y → ReachesFrom (phase.Returning v) below y) (sym (rebuilt x _ _ h.frame h.phase))
      (λ hold'. synced_is setting kit linked records x.start x.under s.start s.lower s.path s.top s.layer x.layers hl s.arguments s.tally t counts below h.under v hold'.0 begins hold'.1) hold
  phase_is (phase.Leaving v) below begins h hold =
      subst (ReachesFrom (phase.Leaving v) below) (sym (rebuilt x _ _ h.frame h.phase))
      (left_is setting kit x.start s.start s.lower s.path s.top s.layer x.layers hl s.arguments s.tally t counts v begins below x.under h.under)
  phase_is (phase.Broken f) below begins h hold =
      subst (λ ph. Comes (by_own_names setting) (in_place (phase.Broken f) below) x t (step_in x ph)) (sym h) (record { start = begins; layers = hl; tally = counts; now = h })

  holds_at : (ph : Phase) → IsLayeredAt ph s → HoldNow (by_own_names setting) (tallied setting.program x.layers (unflagged_step (step_of x)) t) → HoldsAt ph x
  holds_at phase.Entering layered h = tt
  holds_at phase.Running layered h = tt
  holds_at phase.AtSpawn layered h = tt
  holds_at (phase.Returning v) layered h = (layered, h)
  holds_at (phase.Leaving v) layered h = tt
  holds_at (phase.Broken f) layered h = tt

own_small_step : (setting : Setting) → IsLinked (by_own_names setting) → HasItsRecords (by_own_names setting) → (kit : Bool) (s : PlainStrand) → IsSmallStep (by_own_names setting) kit s (plain.advanced (by_own_names setting) kit s)
own_small_step setting linked records kit s x t h layered hold =
    phase_is setting kit linked records s x t h.layers h.tally s.phase s.below h.start h.now (holds_at setting kit linked records s x t h.layers h.tally s.phase layered hold)

-- a small step, over tables of the names that the codes were linked by
pub small_step_is : (setting : Setting) → HasItsTables setting → IsLinked setting → HasItsRecords setting → (kit : Bool) (s : PlainStrand) → IsSmallStep setting kit s (plain.advanced setting kit s)
small_step_is setting e linked records kit s =
    subst (λ us. IsLinked (record setting { names = us }) → HasItsRecords (record setting { names = us }) → IsSmallStep (record setting { names = us }) kit s (plain.advanced (record setting { names = us }) kit s)) (sym e)
    (λ l r. own_small_step setting l r kit s) linked records
