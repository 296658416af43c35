-- Where a strand of numbers is said to go on, the one that it stands for has a small step.
use Rattle.std.proofs.Common.{◌≡◌, ℕ, suc, Bool, true, false, ◌&&◌, List, [], ◌∷◌, length, Option, Some, None, refl, sym, ◌∙◌, ap, subst}
use Rattle.std.specs.Prelude.{ℤ}
use Rattle.meaning.specs.Tree.{sync, Body, step}
use Rattle.meaning.specs.Outcome.{Syncs}
use Rattle.meaning.specs.SmallStep.{leaving_layer, with_layer, Frame, blocks, Phase as NamedPhase, leaving, Parent, Step, moved, taken, paused as paused_step, unless, is_entry, micro}
use Rattle.meaning.specs.Layers.{bottom}
use Rattle.meaning.specs.LayeredStrand.{LayeredStrand}
use Rattle.meaning.specs.Tallies.{Tally}
use Rattle.trail_theory.specs.OwnLayers.{frame_by, is_top_by_length}
use Rattle.trail_theory.specs.Unflagged.{unflagged_step}
use Rattle.linked_program.specs.declared.code.Instruction.{Instruction}
use Rattle.linked_program.specs.declared.code.Operation.{Operation}
use Rattle.linked_program.specs.declared.code.Operation.TheVariants as o
use Rattle.linked_program.specs.Linked.{Acts, syncs, linked_deed}
use Rattle.linked_program.specs.CodeView.{act}
use Rattle.positions.specs.declared.work.Position.{Position}
use Rattle.positions.specs.declared.work.Work.{Work}
use Rattle.positions.specs.declared.work.Work.TheVariants.{Block}
use Rattle.positions.specs.declared.phase.Phase.{Phase}
use Rattle.positions.specs.declared.phase.Phase.TheVariants as phase
use Rattle.positions.specs.declared.phase.Paused.TheVariants as paused
use Rattle.positions.specs.Setting.{Setting}
use Rattle.positions.specs.Activations.{PlainActivation, next_of, first_of}
use Rattle.positions.specs.Code.{instruction_inside}
use Rattle.positions.specs.Strands.{PlainStrand, entry_by}
use Rattle.positions.specs.Advance.{statement_by, next_statement, sync_pause, is_sync_as, is_sync, bottom_pause, pause_at, pause_of}
use Rattle.positions.specs.Stands.{IsStart, acts_at, IsTodoAt, AreParents, StandsAt}
use Rattle.positions.specs.Simulation.{IsTaken, IsStepTaken}
use Rattle.position_theory.proofs.Beginning.{lookup_of}
use Rattle.position_theory.proofs.Claims.{enter_has, todo_has, is_taken}
use Rattle.position_theory.proofs.Places.{AtPlace, at_place}
use Rattle.position_theory.proofs.Starts.{start_moved, entry_is}

passed_taken : (b : Bool) (s : Step) → b ≡ false → IsTaken s → IsTaken (unless b s)
passed_taken true s e h = absurd cc
passed_taken false s e h = h

-- flags are of no matter
unflagged_taken : (st : Step) → IsTaken st → IsTaken (unflagged_step st)
unflagged_taken (moved l es fr ph t) h = tt
unflagged_taken (taken es k fr ph t) h = tt
unflagged_taken (paused_step p) h = h

module _ (setting : Setting) where
  op_of_sync : (inner : ℕ → Acts) (op : Operation) → syncs ≡ act inner op → is_sync_as op ≡ true
  op_of_sync inner o.Sync e = refl
  op_of_sync inner op e = absurd cc

  sync_place : (a : PlainActivation) (q : Position) (n : ℕ) (rest : Body) (i : Option Instruction)
      → AtPlace setting (λ n. acts_at setting a.procedure (suc (length a.outer)) (first_of n)) i (step n sync rest) (acts_at setting a.procedure (length a.outer) (next_of q)) → is_sync i ≡ true
  sync_place a q n rest None next = absurd cc
  sync_place a q n rest (Some i) next =
      let same : step n sync rest ≡ step i.number next.deed next.rest = next.is_step in
      let deed : sync ≡ next.deed = cc in
      op_of_sync (λ n. acts_at setting a.procedure (suc (length a.outer)) (first_of n)) i.operation (ap (linked_deed setting.names setting.program.tree) deed ∙ next.does)

  -- a sync of the tree is one of the code
  sync_back : (a : PlainActivation) (w : Work) (n : ℕ) (rest : Body) (bs : List Body) → IsTodoAt setting a w (blocks (step n sync rest ∷ bs)) → is_sync (statement_by setting.codes w a) ≡ true
  sync_back a (Block q) n rest bs h =
      sync_place a q n rest (instruction_inside setting.codes a.procedure (length a.outer) q) (at_place setting a.procedure (length a.outer) q (step n sync rest) h.0)
  sync_back a w n rest bs h = absurd h

  first_false : (b c : Bool) → sync_pause (b && c) ≡ paused.Working → c ≡ true → b ≡ false
  first_false true true e h = absurd cc
  first_false true false e h = absurd cc
  first_false false c e h = refl

  only_false : (b : Bool) → sync_pause b ≡ paused.Working → b ≡ false
  only_false true e = absurd cc
  only_false false e = refl

  at_bottom : (path : List ℕ) → bottom_pause path ≡ paused.Working → ⊥
  at_bottom [] e = cc
  at_bottom (k ∷ n) e = cc

  module _ (kit : Bool) (s : PlainStrand) (x : LayeredStrand) (t : Tally) where
    abbrev Steps : NamedPhase → Frame → List Parent → Type 0
    Steps ph fr under = IsTaken (micro setting.program.tree setting.tables (lookup_of setting) kit (bottom x.layers) x.start fr ph under)

    abbrev frame_then : NamedPhase → Frame
    frame_then ph = frame_by is_top_by_length ph t.opened x.frame

    abbrev StepsIn : NamedPhase → Type 0
    StepsIn ph = Steps ph (frame_then ph) x.under

    parents_there : (path : List ℕ) (v : ℤ) (a : PlainActivation) (below : List PlainActivation) (under : List Parent) → AreParents setting path (a ∷ below) under → Steps (leaving v) x.frame under
    parents_there path v a below [] h = absurd h
    parents_there path v a below (p ∷ under) h = tt

    -- an instance leaves, and may close a layer
    leaves_taken : (b : Bool) (v : ℤ) → b ≡ false
        → IsTaken (unless b (moved (leaving_layer setting.program.tree setting.tables (lookup_of setting) kit (bottom x.layers) (is_top_by_length t.opened x.frame.instance)) (Syncs x.frame.instance ∷ []) (with_layer false x.frame) (leaving v) x.under))
    leaves_taken b v e = passed_taken b _ e tt

    taken_at : (ph : Phase) (below : List PlainActivation) → IsStart s.start ph s.path x.start → StandsAt setting ph below s x → pause_at setting.codes ph (record s { below = below }) ≡ paused.Working → StepsIn x.phase
    taken_at phase.Entering below begins h e =
        subst StepsIn (sym h.phase) (enter_has IsTaken is_taken setting.program.tree setting.tables (lookup_of setting) kit (bottom x.layers) x.frame h.child x.under)
    taken_at phase.Running below begins h e =
        subst StepsIn (sym h.phase)
        (todo_has IsTaken is_taken setting.program.tree setting.tables (lookup_of setting) kit (bottom x.layers) x.start x.frame x.under h.todo (λ n rest bs is. passed_taken (is_entry x.start x.frame.instance) _
        (ap (λ fr. is_entry x.start fr.instance) h.frame
        ∙ entry_is s.start s.path x.start begins
        ∙ first_false (entry_by s.start s.path) (is_sync (next_statement setting.codes s)) e (sync_back s.top s.top.work n rest bs (subst (IsTodoAt setting s.top s.top.work) is h.left))) tt))
    taken_at phase.AtSpawn below begins h e = absurd cc
    taken_at (phase.Returning v) below begins h e =
        subst StepsIn (sym h.phase)
        (leaves_taken (is_entry x.start x.frame.instance) v
        (ap (λ fr. is_entry x.start fr.instance) h.frame
        ∙ entry_is s.start s.path x.start (start_moved s.start (phase.Returning v) phase.Running s.path s.path x.start (λ d w. (refl, w)) begins)
        ∙ only_false (entry_by s.start s.path) e))
    taken_at (phase.Leaving v) [] begins h e = absurd (at_bottom s.path e)
    taken_at (phase.Leaving v) (a ∷ below) begins h e = subst StepsIn (sym h.phase) (parents_there s.path v a below x.under h.under)
    taken_at (phase.Broken f) below begins h e = absurd cc

  -- where the strand is said to go on there is a small step
  pub working_is : (s : PlainStrand) → pause_of setting.codes s ≡ paused.Working → IsStepTaken setting s
  working_is s e kit x t h =
      unflagged_taken (micro setting.program.tree setting.tables (lookup_of setting) kit (bottom x.layers) x.start (frame_by is_top_by_length x.phase t.opened x.frame) x.phase x.under) (taken_at kit s x t s.phase s.below h.start h.now e)
