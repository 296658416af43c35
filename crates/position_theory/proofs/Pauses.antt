-- Where a strand of numbers has no step, the one that it stands for has none.
use Rattle.std.proofs.Common.{◌≡◌, ℕ, suc, Bool, true, false, ◌&&◌, List, [], ◌∷◌, length, Option, Some, None, refl, sym, ◌∙◌, ap}
use Rattle.meaning.specs.Tree.{Deed, bind, enter, read, sync, update, choose, loop, give, Body, step}
use Rattle.meaning.specs.Outcome.{Place}
use Rattle.meaning.specs.SmallStep.{Todo, blocks, halves, second, turns, Phase as NamedPhase, running, leaving, Parent, Pause, at_spawn, at_sync, returned, faulted, Step, paused as paused_step, unless, is_entry, micro, todo_step}
use Rattle.meaning.specs.Layers.{bottom}
use Rattle.meaning.specs.LayeredStrand.{LayeredStrand}
use Rattle.meaning.specs.Tallies.{Tally}
use Rattle.trail_theory.specs.OwnLayers.{frame_by, is_top_by_length}
use Rattle.trail_theory.specs.Unflagged.{unflagged_step}
use Rattle.linked_program.specs.declared.code.Instruction.{Instruction}
use Rattle.linked_program.specs.declared.code.Operation.{Operation}
use Rattle.linked_program.specs.declared.code.Operation.TheVariants as o
use Rattle.linked_program.specs.Linked.{Acts, syncs, linked_deed}
use Rattle.linked_program.specs.CodeView.{act}
use Rattle.positions.specs.declared.work.Position.{Position}
use Rattle.positions.specs.declared.work.Work.{Work}
use Rattle.positions.specs.declared.work.Work.TheVariants.{Block, Over, Halves, Second, Turns}
use Rattle.positions.specs.declared.phase.Phase.{Phase}
use Rattle.positions.specs.declared.phase.Phase.TheVariants as phase
use Rattle.positions.specs.declared.phase.Paused.{Paused}
use Rattle.positions.specs.Setting.{Setting}
use Rattle.positions.specs.Activations.{PlainActivation, next_of, first_of}
use Rattle.positions.specs.Code.{instruction_inside}
use Rattle.positions.specs.Strands.{PlainStrand, entry_by}
use Rattle.positions.specs.Advance.{statement_by, next_statement, sync_pause, is_sync_as, is_sync, bottom_pause, pause_at, pause_of}
use Rattle.positions.specs.Moves.{is_update, is_update_there, update_at, at_update}
use Rattle.positions.specs.Stands.{IsStart, acts_at, IsTodoAt, AreParents, StandsAt}
use Rattle.positions.specs.Simulation.{named_pause, updates_body, updates, IsPauseBy, IsPause, IsUpdateNext}
use Rattle.position_theory.proofs.Beginning.{lookup_of}
use Rattle.position_theory.proofs.Places.{AtPlace, at_place}
use Rattle.position_theory.proofs.Starts.{start_moved, entry_is}

not_passed : (b : Bool) (st : Step) → b ≡ true → unless b st ≡ paused_step at_sync
not_passed b st e = ap (λ c. unless c st) e

module _ (setting : Setting) where
  act_of_sync : (inner : ℕ → Acts) (op : Operation) → is_sync_as op ≡ true → act inner op ≡ syncs
  act_of_sync inner o.Sync e = refl
  act_of_sync inner op e = absurd cc

  deed_of_sync : (d : Deed) → linked_deed setting.names setting.program.tree d ≡ syncs → d ≡ sync
  deed_of_sync sync e = refl
  deed_of_sync d e = absurd cc

  -- the next statement is a sync
  record AtSync (todo : Todo) : Type 0 where
    pub number : ℕ
    pub rest : Body
    pub bs : List Body
    pub is_sync : todo ≡ blocks (step number sync rest ∷ bs)

  sync_there : (a : PlainActivation) (q : Position) (b : Body) (bs : List Body) (i : Option Instruction)
      → AtPlace setting (λ n. acts_at setting a.procedure (suc (length a.outer)) (first_of n)) i b (acts_at setting a.procedure (length a.outer) (next_of q)) → is_sync i ≡ true → AtSync (blocks (b ∷ bs))
  sync_there a q b bs None next e = absurd cc
  sync_there a q b bs (Some i) next e = record {
    number = i.number;
    rest = next.rest;
    bs = bs;
    is_sync =
        ap (λ c. blocks (c ∷ bs)) next.is_step
        ∙ ap (λ d. blocks (step i.number d next.rest ∷ bs)) (deed_of_sync next.deed (next.does ∙ act_of_sync (λ n. acts_at setting a.procedure (suc (length a.outer)) (first_of n)) i.operation e));
  }

  at_sync_is : (a : PlainActivation) (w : Work) (todo : Todo) → IsTodoAt setting a w todo → is_sync (statement_by setting.codes w a) ≡ true → AtSync todo
  at_sync_is a (Block q) (blocks []) h e = absurd h
  at_sync_is a (Block q) (blocks (b ∷ bs)) h e =
      sync_there a q b bs (instruction_inside setting.codes a.procedure (length a.outer) q) (at_place setting a.procedure (length a.outer) q b h.0) e
  at_sync_is a Over todo h e = absurd cc
  at_sync_is a (Halves lp k p) todo h e = absurd cc
  at_sync_is a (Second lp k p) todo h e = absurd cc
  at_sync_is a (Turns lp p) todo h e = absurd cc
  at_sync_is a w todo h e = absurd h

  module _ (kit : Bool) (s : PlainStrand) (x : LayeredStrand) (t : Tally) where
    -- the small step, where that is what its instance does next
    abbrev step_in : NamedPhase → Step
    step_in ph = micro setting.program.tree setting.tables (lookup_of setting) kit (bottom x.layers) x.start (frame_by is_top_by_length ph t.opened x.frame) ph x.under

    abbrev PausesAs : Paused → Type 0
    PausesAs p = IsPauseBy setting (named_pause p) kit x t

    stays : (p : Pause) → step_in x.phase ≡ paused_step p → unflagged_step (step_in x.phase) ≡ paused_step p
    stays p e = ap unflagged_step e

    where_both : (b c : Bool) → (b ≡ true → c ≡ true → step_in x.phase ≡ paused_step at_sync) → PausesAs (sync_pause (b && c))
    where_both true true f = stays at_sync (f refl refl)
    where_both true false f = tt
    where_both false c f = tt

    where_one : (b : Bool) → (b ≡ true → step_in x.phase ≡ paused_step at_sync) → PausesAs (sync_pause b)
    where_one true f = stays at_sync (f refl)
    where_one false f = tt

    at_bottom : (path : List ℕ) → step_in x.phase ≡ paused_step returned → PausesAs (bottom_pause path)
    at_bottom [] e = stays returned e
    at_bottom (k ∷ n) e = stays returned e

    no_parents : (path : Place) (under : List Parent) → AreParents setting path [] under → under ≡ []
    no_parents path [] h = refl
    no_parents path (p ∷ under) h = absurd h

    paused_at : (ph : Phase) (below : List PlainActivation) → IsStart s.start ph s.path x.start → StandsAt setting ph below s x → PausesAs (pause_at setting.codes ph (record s { below = below }))
    paused_at phase.Entering below begins h = tt
    paused_at phase.Running below begins h =
        where_both (entry_by s.start s.path) (is_sync (next_statement setting.codes s)) (λ e f.
        let there : AtSync h.todo = at_sync_is s.top s.top.work h.todo h.left f in
        ap step_in (h.phase ∙ ap running there.is_sync)
        ∙ ap (λ fr. todo_step setting.program.tree setting.tables (lookup_of setting) kit (bottom x.layers) x.start fr (blocks (step there.number sync there.rest ∷ there.bs)) x.under) h.frame
        ∙ not_passed (is_entry x.start s.path) _ (entry_is s.start s.path x.start begins ∙ e))
    paused_at phase.AtSpawn [] begins h = absurd h
    paused_at phase.AtSpawn (p ∷ below) begins h = stays at_spawn (ap step_in h.phase)
    paused_at (phase.Returning v) below begins h =
        where_one (entry_by s.start s.path) (λ e.
        ap step_in h.phase
        ∙ not_passed (is_entry x.start x.frame.instance) _
        (ap (λ fr. is_entry x.start fr.instance) h.frame ∙ entry_is s.start s.path x.start (start_moved s.start (phase.Returning v) phase.Running s.path s.path x.start (λ d w. (refl, w)) begins) ∙ e))
    paused_at (phase.Leaving v) [] begins h =
        at_bottom s.path (ap step_in h.phase
        ∙ ap (λ us. micro setting.program.tree setting.tables (lookup_of setting) kit (bottom x.layers) x.start x.frame (leaving v) us) (no_parents s.path x.under h.under))
    paused_at (phase.Leaving v) (p ∷ below) begins h = tt
    paused_at (phase.Broken f) below begins h = stays faulted (ap step_in h)

  -- at the point at which the strand is, what it stands for has no small step
  pub pause_is : (s : PlainStrand) → IsPause setting (pause_of setting.codes s) s
  pause_is s kit x t h = paused_at kit s x t s.phase s.below h.start h.now

  -- ---- updates

  same_update : (inner : ℕ → Acts) (op : Operation) (d : Deed) (n : ℕ) (rest : Body) (bs : List Body) → linked_deed setting.names setting.program.tree d ≡ act inner op → is_update op ≡ updates_body (step n d rest ∷ bs)
  same_update inner (o.Bind x e) (bind y f) n rest bs h = refl
  same_update inner (o.Enter x way f es) (enter y way' g fs) n rest bs h = refl
  same_update inner (o.Read x r) (read y q) n rest bs h = refl
  same_update inner o.Sync sync n rest bs h = refl
  same_update inner (o.Update r es) (update q fs) n rest bs h = refl
  same_update inner (o.If e b c) (choose f y z) n rest bs h = refl
  same_update inner (o.Loop x low high grain f es) (loop y l i g k fs) n rest bs h = refl
  same_update inner (o.Return e) (give f) n rest bs h = refl
  same_update inner op d n rest bs h = absurd cc

  update_there : (a : PlainActivation) (q : Position) (b : Body) (bs : List Body) (i : Option Instruction)
      → AtPlace setting (λ n. acts_at setting a.procedure (suc (length a.outer)) (first_of n)) i b (acts_at setting a.procedure (length a.outer) (next_of q)) → is_update_there i ≡ updates_body (b ∷ bs)
  update_there a q b bs None next = ap (λ c. updates_body (c ∷ bs)) (sym next)
  update_there a q b bs (Some i) next =
      same_update (λ n. acts_at setting a.procedure (suc (length a.outer)) (first_of n)) i.operation next.deed i.number next.rest bs next.does ∙ ap (λ c. updates_body (c ∷ bs)) (sym next.is_step)

  at_update_is : (a : PlainActivation) (w : Work) (todo : Todo) → IsTodoAt setting a w todo → is_update_there (statement_by setting.codes w a) ≡ updates (running todo)
  at_update_is a (Block q) (blocks []) h = absurd h
  at_update_is a (Block q) (blocks (b ∷ bs)) h = update_there a q b bs (instruction_inside setting.codes a.procedure (length a.outer) q) (at_place setting a.procedure (length a.outer) q b h.0)
  at_update_is a Over (blocks []) h = refl
  at_update_is a (Halves lp k p) (halves n job count i) h = refl
  at_update_is a (Second lp k p) (second n job count i) h = refl
  at_update_is a (Turns lp p) (turns job count i) h = refl
  at_update_is a w todo h = absurd h

  update_in : (s : PlainStrand) (x : LayeredStrand) (ph : Phase) (below : List PlainActivation) → StandsAt setting ph below s x → update_at setting.codes ph s ≡ updates x.phase
  update_in s x phase.Entering below h = ap updates (sym h.phase)
  update_in s x phase.Running below h = at_update_is s.top s.top.work h.todo h.left ∙ ap updates (sym h.phase)
  update_in s x phase.AtSpawn [] h = absurd h
  update_in s x phase.AtSpawn (p ∷ below) h = ap updates (sym h.phase)
  update_in s x (phase.Returning v) below h = ap updates (sym h.phase)
  update_in s x (phase.Leaving v) below h = ap updates (sym h.phase)
  update_in s x (phase.Broken f) below h = ap updates (sym h)

  pub update_next_is : (s : PlainStrand) → IsUpdateNext setting s (at_update setting.codes s)
  update_next_is s x t h = update_in s x s.phase s.below h.now
