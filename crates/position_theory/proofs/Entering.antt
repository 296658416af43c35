-- A child is entered or spawned, by numbers and by names.
use Rattle.std.proofs.Common.{◌≡◌, ℕ, zero, suc, ◌+◌, ◌-◌, ◌==◌, Bool, true, false, if◌then◌else◌, List, [], ◌∷◌, ◌++◌, map, Option, refl, sym, ◌∙◌, ap, subst, arith}
use Rattle.std.specs.Prelude.{ℤ}
use Rattle.std.proofs.Math.Dec.{eqb-suc-zero}
use Rattle.meaning.specs.Tree.{Name}
use Rattle.meaning.specs.declared.tree.Way.{Way}
use Rattle.meaning.specs.declared.tree.Way.TheVariants.{Call, Spawn}
use Rattle.meaning.specs.declared.FaultKind.{FaultKind}
use Rattle.meaning.specs.declared.FaultKind.TheVariants.{TooDeep}
use Rattle.meaning.specs.Elision.{depth_limit}
use Rattle.meaning.specs.Outcome.{Out, Site, Place, Accumulators}
use Rattle.meaning.specs.Statements.{proc_of, fresh, Job}
use Rattle.meaning.specs.Tallies.{Tally}
use Rattle.meaning.specs.Trail.{child_of}
use Rattle.meaning.specs.SmallStep.{slot, Slot as NamedSlot, Start as NamedStart, Frame, Todo, halves, Child, instance, half, Phase as NamedPhase, spawning, Parent, noting, Step, moved, Lookup, opened, awaiting, child_name, stepped_past, enter_step, enter_child, on_depth, on_value}
use Rattle.meaning.specs.Layers.{Notes}
use Rattle.trail_theory.specs.Unflagged.{unflagged_under}
use Rattle.linked_program.specs.Linked.{Linked, procedure_number}
use Rattle.linked_program.specs.Procedures.{procedures}
use Rattle.linked_program.specs.CodeView.{memo_of, slots_of}
use Rattle.evaluation.specs.declared.slot.Slot.{Slot}
use Rattle.evaluation.specs.Numbers.{by_number, OnlyReads}
use Rattle.evaluation.specs.Slots.{meant, slots_for}
use Rattle.evaluation.specs.Values.{values_at}
use Rattle.evaluation.proofs.Slots.{fresh_is}
use Rattle.positions.specs.declared.work.Loop.{Loop}
use Rattle.positions.specs.declared.work.Share.{Share}
use Rattle.positions.specs.declared.work.Work.{Work}
use Rattle.positions.specs.declared.work.Work.TheVariants.{Block, Halves}
use Rattle.positions.specs.declared.phase.Phase.{Phase}
use Rattle.positions.specs.declared.phase.Phase.TheVariants.{Entering, Running, AtSpawn}
use Rattle.positions.specs.declared.start.Start.{Start}
use Rattle.positions.specs.Activations.{PlainActivation, waiting, made, first_of}
use Rattle.positions.specs.Setting.{Setting, IsLinked, HasItsTables, HasItsRecords}
use Rattle.positions.specs.Layers.{PlainLayer}
use Rattle.positions.specs.Strands.{PlainStrand, shorter}
use Rattle.positions.specs.Tallies.{PlainTally}
use Rattle.positions.specs.Advance.{faulted, evaluated, pushed, entered, nested, nested_memo, called_as, called}
use Rattle.positions.specs.Stands.{procedure_at, AreNotes, IsTally, IsStart, slots_by, IsTodo, IsUnbound, IsParent, AreParents, IsNew, IsNewInstance, frame_at, frame_of}
use Rattle.positions.specs.Simulation.{IsTaken}
use Rattle.position_theory.proofs.Beginning.{lookup_of, top_begins, instance_begins}
use Rattle.position_theory.proofs.Claims.{way_step, way_has, is_taken}
use Rattle.position_theory.proofs.Evaluations.{strand_at, Comes, evaluated_is, faulted_is, mapped_is}
use Rattle.position_theory.proofs.Layering.{top_none}
use Rattle.position_theory.proofs.Places.{slots_at, found_at}
use Rattle.position_theory.proofs.Starts.{shorter_child, start_in_child}

-- ---- the one that waits under a child

module _ (setting : Setting) where
  -- the instance of that name whose names have those slots, and whose next child is the one behind those that it has entered
  abbrev pub frame_with : Place → PlainActivation → List NamedSlot → Frame
  frame_with path a env = record {
    left = a.left;
    instance = path;
    next = suc a.children;
    here = (procedure_at setting a.procedure).called;
    env = env;
    recorded = false;
  }

  -- the child's way
  abbrev pub is_spawn : Way → Bool
  is_spawn Call = false
  is_spawn Spawn = true

  module _ (path : Place) (a : PlainActivation) (env : List NamedSlot) (into : Option ℕ) (w : Work) (todo : Todo)
      (same : env ≡ slots_by setting w a.slots) (unbound : IsUnbound setting w into) (below : List PlainActivation) (under : List Parent) (hu : AreParents setting path below (unflagged_under under)) where
    pub name_is : path ++ (a.children + 1) ∷ [] ≡ child_of (shorter (path ++ (a.children + 1) ∷ [])) (a.children + 1)
    name_is = ap (λ n. n ++ (a.children + 1) ∷ []) (sym (shorter_child path (a.children + 1)))

    waits_over : (spawned : Bool) → IsTodo setting (waiting spawned into w a) todo → IsParent setting (path ++ (a.children + 1) ∷ []) (waiting spawned into w a) (awaiting (frame_with path a env) spawned into todo)
    waits_over spawned left = record {
      named = name_is;
      frame =
          ap (λ e. stepped_past (frame_with path a e)) same
          ∙ ap (λ n. frame_at setting path n (waiting spawned into w a)) (let e : suc (suc a.children) ≡ suc (a.children + 1) = omega arith in e)
          ∙ ap (λ n. frame_at setting n (suc (a.children + 1)) (waiting spawned into w a)) (sym (shorter_child path (a.children + 1)));
      spawned = refl;
      into = refl;
      unbound = unbound;
      todo = left;
    }

    under_child : AreParents setting (shorter (path ++ (a.children + 1) ∷ [])) below (unflagged_under under)
    under_child = subst (λ n. AreParents setting n below (unflagged_under under)) (sym (shorter_child path (a.children + 1))) hu

    waiting_under : (spawned : Bool) → IsTodo setting (waiting spawned into w a) todo
        → AreParents setting (path ++ (a.children + 1) ∷ []) (waiting spawned into w a ∷ below) (unflagged_under (awaiting (frame_with path a env) spawned into todo ∷ under))
    waiting_under spawned left = (waits_over spawned left, under_child)

    -- the name of the child
    child_is : child_name (frame_with path a env) ≡ path ++ (a.children + 1) ∷ []
    child_is = ap (λ k. path ++ k ∷ []) (let e : suc a.children ≡ a.children + 1 = omega arith in e)

    module _ (st : Start) (m : NamedStart) (begins : IsStart st Running path m) (l : PlainLayer) (lower : List PlainLayer) (ls : List Notes) (hl : AreNotes setting st (l ∷ lower) ls) (from : Phase) (ph : NamedPhase)
        (args : List ℤ) (pt : PlainTally) (t : Tally) (counts : IsTally setting pt t) where
      abbrev here : PlainStrand
      here = record { start = st; layer = l; lower = lower; path = path; top = a; below = below; phase = from; arguments = args; tally = pt }

      -- the child of a spawn
      pub spawned_is : (c : PlainActivation) (d : ℕ) (child : Child) → c.left ≡ d → IsNew setting args c child → IsTodo setting (waiting true into w a) todo
          → Comes setting (pushed c true into w AtSpawn here) (strand_at m ls (frame_with path a env) ph under) t (moved noting [] (frame_with path a env) (spawning d into child todo) under)
      spawned_is c d child e new left = record {
        start = start_in_child st Running AtSpawn path (a.children + 1) m (λ k h. (h, omega arith)) begins;
        layers = subst (AreNotes setting st (l ∷ lower)) (sym (top_none ls)) hl;
        tally = counts;
        now = record {
          child = child;
          new = new;
          todo = todo;
          left = left;
          spawned = refl;
          unbound = unbound;
          named = name_is;
          phase = ap (λ k. spawning k into child todo) (sym e);
          frame =
              ap (λ e. frame_with path a e) same
              ∙ ap (λ n. frame_at setting path n (waiting true into w a)) (let e : suc a.children ≡ a.children + 1 = omega arith in e)
              ∙ ap (λ n. frame_at setting n (a.children + 1) (waiting true into w a)) (sym (shorter_child path (a.children + 1)));
          under = under_child;
        };
      }

      -- a loop's instance, or a half's
      pub half_is : (p : ℕ) (slots : List Slot) (loop : Loop) (k : ℕ) (h : Share) (n : ℕ) (job : Job) (count i : ℕ)
          → job.site.procedure ≡ (procedure_at setting p).called → IsTodo setting (made p slots (Halves loop k h) a.left) (halves n job count i) → IsTodo setting (waiting false into w a) todo
          → (lookup : Lookup) (kit : Bool) (acc : Accumulators)
          → Comes setting (pushed (made p slots (Halves loop k h) a.left) false into w Running here)
          (strand_at m ls (frame_with path a env) ph under) t (enter_child setting.program.tree setting.tables lookup kit acc (frame_with path a env) a.left false into (half n job count i) todo under)
      half_is p slots loop k h n job count i named job_is left lookup kit acc = record {
        start = start_in_child st Running Running path (a.children + 1) m (λ k h. (h, omega arith)) begins;
        layers = subst (AreNotes setting st (l ∷ lower)) (sym (top_begins ls (child_name (frame_with path a env)) (depth_limit - a.left))) hl;
        tally = counts;
        now = record {
          todo = halves n job count i;
          left = job_is;
          phase = refl;
          frame =
              ap (λ f. record { left = a.left; instance = child_name (frame_with path a env); next = 1; here = f; env = []; recorded = false }) named
              ∙ ap (λ q. record { left = a.left; instance = q; next = 1; here = (procedure_at setting p).called; env = []; recorded = false }) child_is;
          under = waiting_under false left;
        };
      }

      -- an instance of a procedure that is called or spawned
      module _ (kit : Bool) (tables : HasItsTables setting) (linked : IsLinked setting) (records : HasItsRecords setting) (acc : Accumulators) (f' : Name) (f : ℕ) (vs : List ℤ) (slots : List Slot)
          (number : procedure_number (procedures setting.program.tree) f' ≡ f) (values : map meant slots ≡ map slot (fresh (proc_of setting.program.tree f').names vs))
          (asked : memo_of setting.codes f ≡ true → args ≡ vs) where
        abbrev child_at : ℕ → PlainActivation
        child_at d = made f slots (Block (first_of 0)) d

        new_is : (d : ℕ) → IsNewInstance setting (child_at d) f' vs
        new_is d = record { procedure = number; children = refl; work = refl; outer = refl; slots = values }

        abbrev child_frame : ℕ → Place → Name → List NamedSlot → Frame
        child_frame left name called slots' = record { left = left; instance = name; next = 1; here = called; env = slots'; recorded = false }

        child_frame_is : (d : ℕ) → a.left ≡ suc d
            → opened setting.program.tree d (instance f' vs) (child_name (frame_with path a env)) ≡ frame_of setting (path ++ (a.children + 1) ∷ []) (child_at (a.left - 1))
        child_frame_is d e =
            ap (λ k. child_frame k (child_name (frame_with path a env)) (proc_of setting.program.tree f').called (map slot (fresh (proc_of setting.program.tree f').names vs))) (let e' : d ≡ a.left - 1 = omega arith in e')
            ∙ ap (λ n. child_frame (a.left - 1) n (proc_of setting.program.tree f').called (map slot (fresh (proc_of setting.program.tree f').names vs))) child_is
            ∙ ap (λ p. child_frame (a.left - 1) (path ++ (a.children + 1) ∷ []) p.called (map slot (fresh (proc_of setting.program.tree f').names vs))) (sym (found_at setting f' f number))
            ∙ ap (λ ss. child_frame (a.left - 1) (path ++ (a.children + 1) ∷ []) (procedure_at setting f).called ss) (sym values)

        -- a child that is called or spawned
        abbrev enters : Way → ℕ → Step
        enters way d = way_step setting.program.tree setting.tables (lookup_of setting) kit acc (frame_with path a env) under into f' vs todo way d

        entered_is : (way : Way) (d : ℕ) → a.left ≡ suc d → IsTodo setting (waiting (is_spawn way) into w a) todo
            → Comes setting (entered setting kit way into w f slots here) (strand_at m ls (frame_with path a env) ph under) t (enters way d)
        entered_is Call d e left =
            subst (λ fr. Comes setting (entered setting kit Call into w f slots here) (strand_at m ls (frame_with path a env) ph under) t
            (enter_step setting.program.tree setting.tables (lookup_of setting) kit acc fr (instance f' vs) (awaiting (frame_with path a env) false into todo ∷ under))) (sym (child_frame_is d e))
            (instance_begins setting tables linked records kit acc m (awaiting (frame_with path a env) false into todo ∷ under) st lower (path ++ (a.children + 1) ∷ []) (child_at (a.left - 1)) l ls hl (waiting false into w a ∷ below) Entering args pt t counts
            (frame_with path a env) ph under f' vs (start_in_child st Running Entering path (a.children + 1) m (λ k h. (h, omega arith)) begins) (waiting_under false left) (new_is (a.left - 1)) asked)
        entered_is Spawn d e left = spawned_is (child_at (a.left - 1)) d (instance f' vs) (let e' : a.left - 1 ≡ d = omega arith in e') (new_is (a.left - 1), asked) left

        module _ (n : ℕ) (site : Site) (at_site : site ≡ record { procedure = (procedure_at setting a.procedure).called; statement = n }) (way : Way) (left : IsTodo setting (waiting (is_spawn way) into w a) todo) where
          at_depth : (k : ℕ) → a.left ≡ k
              → Comes setting (if k == 0 then faulted n TooDeep here else entered setting kit way into w f slots here)
              (strand_at m ls (frame_with path a env) ph under) t (on_depth (frame_with path a env) under site k (enters way))
          at_depth zero e = faulted_is setting m (frame_with path a env) ph under t here n site at_site begins counts TooDeep l ls hl
          at_depth (suc d) e =
              subst (λ b. Comes setting (if b then faulted n TooDeep here else entered setting kit way into w f slots here) (strand_at m ls (frame_with path a env) ph under) t (enters way d))
              (sym (eqb-suc-zero d)) (entered_is way d e left)

          -- where the depth allows it
          nested_is : Comes setting (nested setting kit n way into w f slots here) (strand_at m ls (frame_with path a env) ph under) t (on_depth (frame_with path a env) under site a.left (enters way))
          nested_is = at_depth a.left refl

-- ---- a procedure that is called or spawned

module _ (setting : Setting) (kit : Bool) (tables : HasItsTables setting) (linked : IsLinked setting) (records : HasItsRecords setting)
    (path : Place) (a : PlainActivation) (env : List NamedSlot) (into : Option ℕ) (w : Work) (todo : Todo)
    (same : env ≡ slots_by setting w a.slots) (unbound : IsUnbound setting w into) (below : List PlainActivation) (under : List Parent) (hu : AreParents setting path below (unflagged_under under))
    (st : Start) (m : NamedStart) (begins : IsStart st Running path m) (lower : List PlainLayer) (from : Phase) (ph : NamedPhase)
    (args : List ℤ) (pt : PlainTally) (t : Tally) (counts : IsTally setting pt t) (acc : Accumulators) (f' : Name) (f : ℕ) (number : procedure_number (procedures setting.program.tree) f' ≡ f)
    (n : ℕ) (site : Site) (at_site : site ≡ record { procedure = (procedure_at setting a.procedure).called; statement = n }) (way : Way) (left : IsTodo setting (waiting (is_spawn setting way) into w a) todo) where
  abbrev here_at : List ℤ → PlainLayer → PlainStrand
  here_at vs l = record { start = st; layer = l; lower = lower; path = path; top = a; below = below; phase = from; arguments = vs; tally = pt }

  entry_slots : (vs : List ℤ) → map meant (slots_for (slots_of setting.codes f) vs) ≡ map slot (fresh (proc_of setting.program.tree f').names vs)
  entry_slots vs =
      ap (λ k. map meant (slots_for k vs)) (slots_at setting linked.codes f)
      ∙ fresh_is (procedure_at setting f).names vs
      ∙ ap (λ p. map slot (fresh p.names vs)) (found_at setting f' f number)

  -- the definitions' step with these arguments
  abbrev pub enters_with : List ℤ → Step
  enters_with vs =
      on_depth (frame_with setting path a env) under site a.left
      (way_step setting.program.tree setting.tables (lookup_of setting) kit acc (frame_with setting path a env) under into f' vs todo way)

  goes_in : (args' vs : List ℤ) → (memo_of setting.codes f ≡ true → args' ≡ vs) → (l : PlainLayer) (ls : List Notes) → AreNotes setting st (l ∷ lower) ls
      → Comes setting (nested setting kit n way into w f (slots_for (slots_of setting.codes f) vs) (here_at args' l)) (strand_at m ls (frame_with setting path a env) ph under) t (enters_with vs)
  goes_in args' vs asked l ls hl =
      nested_is setting path a env into w todo same unbound below under hu st m begins l lower ls hl from ph args' pt t counts kit tables linked records acc f' f vs
      (slots_for (slots_of setting.codes f) vs) number (entry_slots vs) asked n site at_site way left

  no_memo : (b : Bool) → b ≡ false → b ≡ true → ⊥
  no_memo b e h = cc

  -- its arguments are evaluated over those slots
  module _ (slots : List Slot) (es : List Linked) (o : Out FaultKind (List ℤ)) (evaluates : values_at setting.tables slots es ≡ by_number setting.names o) (only : OnlyReads o.log)
      (l : PlainLayer) (ls : List Notes) (hl : AreNotes setting st (l ∷ lower) ls) where
    called_with : (next : List ℤ → PlainStrand → PlainStrand)
        → ((vs : List ℤ) (k : PlainLayer) (ks : List Notes) → AreNotes setting st (k ∷ lower) ks → Comes setting (next vs (here_at args k)) (strand_at m ks (frame_with setting path a env) ph under) t (enters_with vs))
        → Comes setting (evaluated n (values_at setting.tables slots es) next (here_at args l)) (strand_at m ls (frame_with setting path a env) ph under) t (on_value (frame_with setting path a env) under site o enters_with)
    called_with next goes =
        subst (λ out. Comes setting (evaluated n out next (here_at args l)) (strand_at m ls (frame_with setting path a env) ph under) t (on_value (frame_with setting path a env) under site o enters_with)) (sym evaluates)
        (evaluated_is setting m (frame_with setting path a env) ph under t (here_at args l) n site at_site begins counts o next enters_with ls only hl
        (λ vs. way_has IsTaken is_taken setting.program.tree setting.tables (lookup_of setting) kit acc (frame_with setting path a env) under site into f' vs todo way a.left) goes)

    called_by : (b : Bool) → memo_of setting.codes f ≡ b
        → Comes setting (called_as setting kit b n way into w f es slots (here_at args l)) (strand_at m ls (frame_with setting path a env) ph under) t (on_value (frame_with setting path a env) under site o enters_with)
    called_by true e = called_with (nested_memo setting kit n way into w f) (λ vs k ks hk. goes_in vs vs (λ h. refl) k ks hk)
    called_by false e =
        subst (λ s. Comes setting s (strand_at m ls (frame_with setting path a env) ph under) t (on_value (frame_with setting path a env) under site o enters_with))
        (sym (mapped_is n (slots_for (slots_of setting.codes f)) (values_at setting.tables slots es) (nested setting kit n way into w f) (here_at args l)))
        (called_with (λ vs. nested setting kit n way into w f (slots_for (slots_of setting.codes f) vs)) (λ vs k ks hk. goes_in args vs (λ h. absurd (no_memo (memo_of setting.codes f) e h)) k ks hk))

    pub called_is : Comes setting (called setting kit n way into w f es slots (here_at args l)) (strand_at m ls (frame_with setting path a env) ph under) t (on_value (frame_with setting path a env) under site o enters_with)
    called_is = called_by (memo_of setting.codes f) refl
