-- What is taken out of a strand and put back, and the strands that begin, by numbers and by names.
use Rattle.std.proofs.Common.{◌≡◌, ℕ, suc, ◌+◌, ◌-◌, ◌≤◌, true, false, List, [], ◌∷◌, ◌++◌, map, length, Option, Some, refl, sym, ◌∙◌, ap, subst, arith}
use Rattle.std.specs.Prelude.{ℤ}
use Rattle.std.proofs.lemmas.List.{take-take, length-take-le, length-append}
use Rattle.meaning.specs.Elision.{main, depth_limit}
use Rattle.meaning.specs.Outcome.{Place}
use Rattle.meaning.specs.Statements.{proc_of, fresh, Job, beginning}
use Rattle.meaning.specs.SmallStep.{slot, waits, set_into, Todo, halves, Child, instance, half, entering, running, spawning, returning, leaving, broken, Parent, opened, awaiting, stepped_past, child_name, with_env, with_value}
use Rattle.meaning.specs.Layers.{Notes, blank as named_blank}
use Rattle.meaning.specs.Tallies.{no_tally}
use Rattle.meaning.specs.LayeredStrand as strands
use Rattle.meaning.specs.LayeredStrand.{LayeredStrand, first_layered, continuation}
use Rattle.meaning.specs.Schedules.{bottom_alone}
use Rattle.linked_program.specs.Linked.{main_number}
use Rattle.linked_program.specs.Initials.{PlainInitial, AreUpdatesBy}
use Rattle.linked_program.specs.CodeView.{slots_of}
use Rattle.evaluation.specs.declared.slot.Slot.TheVariants.{Waits, Has}
use Rattle.evaluation.specs.Slots.{meant, slots_for}
use Rattle.evaluation.proofs.Slots.{fresh_is}
use Rattle.positions.specs.declared.work.Work.{Work}
use Rattle.positions.specs.declared.work.Work.TheVariants.{Block, Halves}
use Rattle.positions.specs.declared.phase.Phase.{Phase}
use Rattle.positions.specs.declared.phase.Phase.TheVariants as phase
use Rattle.positions.specs.declared.start.Start.{Start}
use Rattle.positions.specs.Setting.{Setting, IsLinked}
use Rattle.positions.specs.Activations.{PlainActivation, bound, made, first_of}
use Rattle.positions.specs.Code.{may_nest}
use Rattle.positions.specs.Layers.{PlainLayer, blank, lowest}
use Rattle.positions.specs.Tallies.{no_tally as plain_no_tally}
use Rattle.positions.specs.Strands.{PlainStrand, PlainTask, shorter}
use Rattle.positions.specs.Moves.{inlined, detached, attached, returned_at, resumed_by, resumed, first_strand, stolen, lowest_alone}
use Rattle.positions.specs.Stands.{IsStart, AreNotes, IsTally, procedure_at, frame_of, frame_at, slots_by, IsTodoAt, IsTodo, IsParent, AreParents, IsNewInstance, IsNew, IsEntering, IsSpawning, StandsAt, StandsFor}
use Rattle.positions.specs.Simulation.{IsFirst, IsInlined, IsDetached, IsAttached, IsResumed, IsStolen, IsAlone}
use Rattle.position_theory.proofs.Places.{slots_at, found_at}
use Rattle.position_theory.proofs.Layering.{blank_is, begun_is}
use Rattle.position_theory.proofs.Starts.{start_moved}
use Rattle.position_theory.proofs.Stepping.{top_leaves, todo_bound, bound_frame, with_value_is, start_below}

module _ (setting : Setting) where
  -- ---- at a spawn

  -- a new instance is the one that the definitions open
  half_opened : (a : PlainActivation) (w : Work) (n : ℕ) (job : Job) (count i : ℕ) → IsTodoAt setting a w (halves n job count i)
      → (job.site.procedure ≡ (procedure_at setting a.procedure).called) × (slots_by setting w a.slots ≡ [])
  half_opened a (Halves lp k p) n job count i h = (ap (λ s. s.procedure) h.0.site, refl)
  half_opened a w n job count i h = absurd h

  pub opened_is : (name : Place) (args : List ℤ) (a : PlainActivation) (child : Child) → IsNew setting args a child → opened setting.program.tree a.left child name ≡ frame_of setting name a
  opened_is name args a (instance f vs) h =
      ap (λ env. record { left = a.left; instance = name; next = 1; here = (proc_of setting.program.tree f).called; env = env; recorded = false }) (sym h.0.slots ∙ ap (λ w. slots_by setting w a.slots) (sym h.0.work))
      ∙ ap (λ p. record { left = a.left; instance = name; next = 1; here = p.called; env = slots_by setting a.work a.slots; recorded = false }) (sym (found_at setting f a.procedure h.0.procedure))
      ∙ ap (λ k. frame_at setting name (suc k) a) (sym h.0.children)
  opened_is name args a (half n job count i) h =
      let o = half_opened a a.work n job count i h.1 in
      ap (λ env. record { left = a.left; instance = name; next = 1; here = job.site.procedure; env = env; recorded = false }) (sym o.1)
      ∙ ap (λ f. record { left = a.left; instance = name; next = 1; here = f; env = slots_by setting a.work a.slots; recorded = false }) o.0
      ∙ ap (λ k. frame_at setting name (suc k) a) (sym h.0)

  -- a strand that stands for one at a spawn is at a spawn
  pub record AtSpawn (s : PlainStrand) (ph : Phase) (below : List PlainActivation) (x : LayeredStrand) : Type 0 where
    pub parent : PlainActivation
    pub rest : List PlainActivation
    pub phase : ph ≡ phase.AtSpawn
    pub below_is : below ≡ parent ∷ rest
    pub is : IsSpawning setting s.path s.arguments s.top parent rest x

  pub at_spawn : (s : PlainStrand) (x : LayeredStrand) (d : ℕ) (into : Option ℕ) (child : Child) (todo : Todo) (ph : Phase) (below : List PlainActivation) → StandsAt setting ph below s x → x.phase ≡ spawning d into child todo → AtSpawn s ph below x
  at_spawn s x d into child todo phase.AtSpawn [] h e = absurd h
  at_spawn s x d into child todo phase.AtSpawn (p ∷ below) h e = record { parent = p; rest = below; phase = refl; below_is = refl; is = h }
  at_spawn s x d into child todo phase.Entering below h e = let c : entering h.child ≡ spawning d into child todo = sym h.phase ∙ e in absurd cc
  at_spawn s x d into child todo phase.Running below h e = let c : running h.todo ≡ spawning d into child todo = sym h.phase ∙ e in absurd cc
  at_spawn s x d into child todo (phase.Returning v) below h e = let c : returning v ≡ spawning d into child todo = sym h.phase ∙ e in absurd cc
  at_spawn s x d into child todo (phase.Leaving v) below h e = let c : leaving v ≡ spawning d into child todo = sym h.phase ∙ e in absurd cc
  at_spawn s x d into child todo (phase.Broken f) below h e = let c : broken _ ≡ spawning d into child todo = sym h ∙ e in absurd cc

  module _ (s : PlainStrand) (x : LayeredStrand) (d : ℕ) (into : Option ℕ) (child : Child) (todo : Todo) (e : x.phase ≡ spawning d into child todo)
      (p : PlainActivation) (rest : List PlainActivation) (h : IsSpawning setting s.path s.arguments s.top p rest x) where
    same : spawning d into child todo ≡ spawning s.top.left p.into h.child h.todo
    same = sym e ∙ h.phase

    new_child : IsNew setting s.arguments s.top child
    new_child = let c : child ≡ h.child = let q = same in cc in subst (IsNew setting s.arguments s.top) (sym c) h.new

    child_frame : opened setting.program.tree d child (child_name x.frame) ≡ frame_of setting s.path s.top
    child_frame =
        let c : d ≡ s.top.left = let q = same in cc in
        ap (λ n. opened setting.program.tree n child (child_name x.frame)) c
        ∙ ap (λ fr. opened setting.program.tree s.top.left child (child_name fr)) h.frame
        ∙ ap (opened setting.program.tree s.top.left child) (sym h.named)
        ∙ opened_is s.path s.arguments s.top child new_child

    waits_there : IsParent setting s.path p (awaiting x.frame true into todo)
    waits_there = record {
      named = h.named;
      frame = ap stepped_past h.frame;
      spawned = sym h.spawned;
      into = (let q = same in cc);
      unbound = h.unbound;
      todo = (let c : todo ≡ h.todo = let q = same in cc in subst (IsTodo setting p) (sym c) h.left);
    }

  pub inlined_is : (s : PlainStrand) → IsInlined setting s (inlined s)
  inlined_is s x t d into child todo h e =
      let at = at_spawn s x d into child todo s.phase s.below h.now e in
      record {
        start = start_moved s.start phase.AtSpawn phase.Entering s.path s.path x.start (λ k w. (refl, w)) (subst (λ ph. IsStart s.start ph s.path x.start) at.phase h.start);
        layers = h.layers;
        tally = h.tally;
        now = record {
          child = child;
          new = new_child s x d into child todo e at.parent at.rest at.is;
          phase = refl;
          frame = child_frame s x d into child todo e at.parent at.rest at.is;
          under = subst (λ below. AreParents setting s.path below (awaiting x.frame true into todo ∷ x.under)) (sym at.below_is) (waits_there s x d into child todo e at.parent at.rest at.is, at.is.under);
        };
      }

  pub detached_is : (s : PlainStrand) (task : PlainTask) → task.place ≡ s.path → s.below ≡ task.top ∷ task.below → IsDetached setting s (detached s) task
  detached_is s task place below x t d into child todo h e =
      let at = at_spawn s x d into child todo s.phase s.below h.now e in
      let both : task.top ∷ task.below ≡ at.parent ∷ at.rest = sym below ∙ at.below_is in
      let top : at.parent ≡ task.top = let q = both in cc in
      let rest : at.rest ≡ task.below = let q = both in cc in
      let waits : IsParent setting task.place task.top (awaiting x.frame true into todo) =
      subst (λ a. IsParent setting task.place a (awaiting x.frame true into todo)) top (subst (λ n. IsParent setting n at.parent (awaiting x.frame true into todo)) (sym place) (waits_there s x d into child todo e at.parent at.rest at.is)) in (
        record {
          start = start_moved s.start phase.AtSpawn phase.Entering s.path s.path x.start (λ k w. (refl, w)) (subst (λ ph. IsStart s.start ph s.path x.start) at.phase h.start);
          layers = h.layers;
          tally = h.tally;
          now = record {
            child = child;
            new = new_child s x d into child todo e at.parent at.rest at.is;
            phase = refl;
            frame = child_frame s x d into child todo e at.parent at.rest at.is;
            under = tt;
          };
        },
        record {
          child = ap (λ fr. fr.next) at.is.frame ∙ ap (λ a. a.children) top;
          parent = waits;
          under = subst (λ below. AreParents setting (shorter task.place) below x.under) rest (subst (λ n. AreParents setting (shorter n) at.rest x.under) (sym place) at.is.under);
        },
      )

  -- a strand that stands for one in which a child is to be entered enters it
  record EntersIt (s : PlainStrand) (ph : Phase) (below : List PlainActivation) (x : LayeredStrand) : Type 0 where
    phase : ph ≡ phase.Entering
    is : IsEntering setting s.path s.arguments s.top below x

  enters_it : (s : PlainStrand) (x : LayeredStrand) (child : Child) (ph : Phase) (below : List PlainActivation) → StandsAt setting ph below s x → x.phase ≡ entering child → EntersIt s ph below x
  enters_it s x child phase.Entering below h e = record { phase = refl; is = h }
  enters_it s x child phase.Running below h e = let c : running h.todo ≡ entering child = sym h.phase ∙ e in absurd cc
  enters_it s x child phase.AtSpawn [] h e = absurd h
  enters_it s x child phase.AtSpawn (p ∷ below) h e = let c : spawning s.top.left p.into h.child h.todo ≡ entering child = sym h.phase ∙ e in absurd cc
  enters_it s x child (phase.Returning v) below h e = let c : returning v ≡ entering child = sym h.phase ∙ e in absurd cc
  enters_it s x child (phase.Leaving v) below h e = let c : leaving v ≡ entering child = sym h.phase ∙ e in absurd cc
  enters_it s x child (phase.Broken f) below h e = let c : broken _ ≡ entering child = sym h ∙ e in absurd cc

  pub attached_is : (task : PlainTask) (s : PlainStrand) → IsAttached setting task s (attached task s)
  attached_is task s x t d into child todo place h task_is =
      let enters = enters_it s (strands.detached setting.program.tree x d child) child s.phase s.below h.now refl in
      let waits : IsParent setting s.path task.top (awaiting x.frame true into todo) = subst (λ n. IsParent setting n task.top (awaiting x.frame true into todo)) (sym place) task_is.parent in
      let under : AreParents setting (shorter s.path) task.below x.under = subst (λ n. AreParents setting (shorter n) task.below x.under) (sym place) task_is.under in
      let now : IsEntering setting s.path s.arguments s.top (task.top ∷ task.below) (strands.inlined setting.program.tree x d into child todo) =
      record { child = enters.is.child; new = enters.is.new; phase = enters.is.phase; frame = enters.is.frame; under = (waits, under) } in
      record {
        start = h.start;
        layers = h.layers;
        tally = h.tally;
        now = subst (λ ph. StandsAt setting ph (task.top ∷ task.below) (attached task s) (strands.inlined setting.program.tree x d into child todo)) (sym enters.phase) now;
      }

  -- ---- a spawned child has returned

  record HasLeft (s : PlainStrand) (ph : Phase) (below : List PlainActivation) (v : ℤ) : Type 0 where
    pub phase : ph ≡ phase.Leaving v
    pub alone : below ≡ []

  no_plain_parents : (path : Place) (below : List PlainActivation) (under : List Parent) → under ≡ [] → AreParents setting path below under → below ≡ []
  no_plain_parents path [] under e h = refl
  no_plain_parents path (a ∷ below) [] e h = absurd h
  no_plain_parents path (a ∷ below) (p ∷ under) e h = absurd cc

  has_left : (s : PlainStrand) (x : LayeredStrand) (v : ℤ) (ph : Phase) (below : List PlainActivation) → StandsAt setting ph below s x → x.phase ≡ leaving v → x.under ≡ [] → HasLeft s ph below v
  has_left s x v (phase.Leaving w) below h e u = record {
    phase = (let c : leaving w ≡ leaving v = sym h.phase ∙ e in cc);
    alone = no_plain_parents s.path below x.under u h.under;
  }
  has_left s x v phase.Entering below h e u = let c : entering h.child ≡ leaving v = sym h.phase ∙ e in absurd cc
  has_left s x v phase.Running below h e u = let c : running h.todo ≡ leaving v = sym h.phase ∙ e in absurd cc
  has_left s x v phase.AtSpawn [] h e u = absurd h
  has_left s x v phase.AtSpawn (p ∷ below) h e u = let c : spawning s.top.left p.into h.child h.todo ≡ leaving v = sym h.phase ∙ e in absurd cc
  has_left s x v (phase.Returning w) below h e u = let c : returning w ≡ leaving v = sym h.phase ∙ e in absurd cc
  has_left s x v (phase.Broken f) below h e u = let c : broken _ ≡ leaving v = sym h ∙ e in absurd cc

  -- the name of a child isn't empty
  named_child : (n m : Place) (k : ℕ) → n ≡ m ++ k ∷ [] → (v : ℤ) → returned_at (phase.Leaving v) [] n ≡ Some v
  named_child [] m k e v = let c : 0 ≡ length m + 1 = ap length e ∙ length-append m (k ∷ []) in absurd (omega arith)
  named_child (a ∷ n) m k e v = refl

  pub resumed_is : (task : PlainTask) (s : PlainStrand) → IsResumed setting task s (resumed task s)
  resumed_is task s x t k v place h task_is e u =
      let left = has_left s x v s.phase s.below h.now e u in
      let value : returned_at s.phase s.below s.path ≡ Some v =
      ap (λ ph. returned_at ph s.below s.path) left.phase ∙ ap (λ below. returned_at (phase.Leaving v) below s.path) left.alone ∙ named_child s.path (shorter task.place) task.top.children (place ∙ task_is.parent.named) v in
      subst (λ o. StandsFor setting (resumed_by o task s) (strands.resumed setting.program.tree x k v) t) (sym value)
      (subst (λ ks. StandsFor setting (resumed_by (Some v) task s) (record { start = x.start; layers = ks; frame = with_value k.parent v; phase = running k.parent.todo; under = k.under }) t) (sym (top_leaves x.layers x.frame.instance v))
      (record {
        start = start_below setting s.start v s.path x.start (subst (λ ph. IsStart s.start ph s.path x.start) left.phase h.start);
        layers = h.layers;
        tally = h.tally;
        now = record {
          todo = k.parent.todo;
          left = todo_bound setting task.top task.top.work task.top.into (Has v) k.parent.todo task_is.parent.unbound task_is.parent.todo;
          phase = refl;
          frame = with_value_is setting task.place task.top k.parent v task_is.parent ∙ ap (λ n. frame_of setting (shorter n) (bound task.top.into (Has v) task.top)) (sym place);
          under = subst (λ n. AreParents setting (shorter n) task.below k.under) (sym place) task_is.under;
        };
      }))

  -- ---- strands that begin

  -- a strand that begins has counted nothing
  nothing_counted : IsTally setting plain_no_tally no_tally
  nothing_counted = record { opened = tt; made = tt; executed = refl; reused = refl; unrecorded = refl }

  module _ (linked : IsLinked setting) where
    pub stolen_is : (task : PlainTask) → IsStolen setting task (stolen setting.codes setting.kinds task)
    stolen_is task k h = record {
      start = (ap (λ fr. fr.instance) h.parent.frame ∙ sym (take-take (length task.place - 1) (length task.place - 1) task.place (omega arith)), h.child, short);
      layers = (blank_is setting (may_nest setting.codes) refl linked, tt);
      tally = nothing_counted;
      now = record {
        todo = k.parent.todo;
        left = todo_bound setting task.top task.top.work task.top.into (Waits task.top.children) k.parent.todo h.parent.unbound h.parent.todo;
        phase = refl;
        frame =
            ap (λ fr. with_env fr (set_into fr.env k.parent.into (waits k.child))) h.parent.frame
            ∙ ap (λ i. with_env (frame_of setting (shorter task.place) task.top) (set_into (slots_by setting task.top.work task.top.slots) i (waits k.child))) h.parent.into
            ∙ ap (λ c. with_env (frame_of setting (shorter task.place) task.top) (set_into (slots_by setting task.top.work task.top.slots) task.top.into (waits c))) h.child
            ∙ bound_frame setting (shorter task.place) task.top task.top.into (Waits task.top.children);
        under = h.under;
      };
    } where
      short : length task.place - 1 ≤ length (shorter task.place)
      short = let e : length (shorter task.place) ≡ length task.place - 1 = length-take-le (length task.place - 1) task.place (omega arith) in omega arith

    pub first_is : (initials : List PlainInitial) → AreUpdatesBy setting.kinds initials (beginning setting.program.tree)
        → (entry : ℕ) → entry ≡ main_number setting.program.tree → IsFirst setting (first_strand setting.codes setting.kinds initials entry)
    first_is initials updates entry e = record {
      start = tt;
      layers = (
        begun_is setting initials (beginning setting.program.tree) (blank false setting.kinds (length setting.codes)) (named_blank setting.program.tree) updates
            (blank_is setting false refl linked),
        tt,
      );
      tally = nothing_counted;
      now = record {
        child = instance main [];
        new = new_child;
        phase = refl;
        frame = opened_is [] [] (made entry (slots_for (slots_of setting.codes entry) []) (Block (first_of 0)) (depth_limit - 1)) (instance main []) new_child;
        under = tt;
      };
    } where
      new_main : IsNewInstance setting (made entry (slots_for (slots_of setting.codes entry) []) (Block (first_of 0)) (depth_limit - 1)) main []
      new_main = record {
        procedure = sym e;
        children = refl;
        work = refl;
        outer = refl;
        slots =
            ap (λ n. map meant (slots_for n [])) (slots_at setting linked.codes entry)
            ∙ fresh_is (procedure_at setting entry).names []
            ∙ ap (λ p. map slot (fresh p.names [])) (found_at setting main entry (sym e));
      }

      new_child : IsNew setting [] (made entry (slots_for (slots_of setting.codes entry) []) (Block (first_of 0)) (depth_limit - 1)) (instance main [])
      new_child = (new_main, λ memo. refl)

  -- ---- the lowest layer alone

  bottom_notes : (st : Start) (l : PlainLayer) (lower : List PlainLayer) (ls : List Notes) → AreNotes setting st (l ∷ lower) ls
      → AreNotes setting st (lowest l lower ∷ []) (bottom_alone setting.program setting.tables setting.memory ls)
  bottom_notes st l [] [] h = absurd h
  bottom_notes st l [] (n ∷ []) h = h
  bottom_notes st l [] (n ∷ m ∷ ns) h = absurd h.1
  bottom_notes st l (k ∷ lower) [] h = absurd h
  bottom_notes st l (k ∷ lower) (n ∷ []) h = absurd h.1
  bottom_notes st l (k ∷ lower) (n ∷ m ∷ ns) h = bottom_notes st k lower (m ∷ ns) h.1

  alone_at : (s : PlainStrand) (x : LayeredStrand) (ls : List Notes) (l : PlainLayer) (ph : Phase) (below : List PlainActivation) → StandsAt setting ph below s x → StandsAt setting ph below (record s { layer = l; lower = [] }) (record x { layers = ls })
  alone_at s x ls l phase.Entering below h = record { child = h.child; new = h.new; phase = h.phase; frame = h.frame; under = h.under }
  alone_at s x ls l phase.Running below h = record { todo = h.todo; left = h.left; phase = h.phase; frame = h.frame; under = h.under }
  alone_at s x ls l phase.AtSpawn [] h = absurd h
  alone_at s x ls l phase.AtSpawn (p ∷ below) h = record { child = h.child; new = h.new; todo = h.todo; left = h.left; spawned = h.spawned; unbound = h.unbound; named = h.named; phase = h.phase; frame = h.frame; under = h.under }
  alone_at s x ls l (phase.Returning v) below h = record { phase = h.phase; frame = h.frame; under = h.under }
  alone_at s x ls l (phase.Leaving v) below h = record { phase = h.phase; frame = h.frame; under = h.under }
  alone_at s x ls l (phase.Broken f) below h = h

  pub alone_is : (s : PlainStrand) → IsAlone setting s (lowest_alone s)
  alone_is s x t h = record {
    start = h.start;
    layers = bottom_notes s.start s.layer s.lower x.layers h.layers;
    tally = h.tally;
    now = alone_at s x (bottom_alone setting.program setting.tables setting.memory x.layers) (lowest s.layer s.lower) s.phase s.below h.now;
  }
