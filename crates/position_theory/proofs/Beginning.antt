-- An instance of a procedure is entered, by numbers and by names: a record answers it, or it is executed, with a layer of its own or without.
use Rattle.std.proofs.Common.{◌≡◌, ℕ, suc, ◌-◌, Bool, true, false, ◌&&◌, List, [], ◌∷◌, ◌++◌, length, Option, None, Some, refl, sym, ◌∙◌, ap, subst, arith}
use Rattle.std.specs.Prelude.{ℤ}
use Rattle.meaning.specs.Tree.{Name, Tree, Body, Proc}
use Rattle.meaning.specs.Tables.{Tables, is_there}
use Rattle.meaning.specs.Elision.{depth_limit}
use Rattle.meaning.specs.Outcome.{Place, Accumulators, Enters, Begins, Marks}
use Rattle.meaning.specs.Records.{Kept}
use Rattle.meaning.specs.Statements.{procedure_of, proc_of, found}
use Rattle.meaning.specs.Tallies.{Tally, valid_record}
use Rattle.meaning.specs.Trail.{mark}
use Rattle.meaning.specs.SmallStep.{Start as NamedStart, Frame, blocks, instance, Phase as NamedPhase, running, leaving, Parent, Step, moved, taken, Lookup, memo_answer, look_of, layer_of, with_layer, enter_by, enter_step}
use Rattle.meaning.specs.Layers as definitions
use Rattle.meaning.specs.Layers.{Notes, noted_one, noted_top, take_top, notes_of}
use Rattle.trail_theory.specs.Unflagged.{unflagged_under}
use Rattle.linked_program.specs.Linked.{linked_body}
use Rattle.linked_program.specs.CodeView.{memo_of}
use Rattle.record_theory.specs.Record.{PlainRecord}
use Rattle.record_theory.specs.Named.{IsRecord, IsAnswer}
use Rattle.positions.specs.declared.phase.Phase.{Phase}
use Rattle.positions.specs.declared.phase.Phase.TheVariants.{Entering, Running, Leaving}
use Rattle.positions.specs.declared.start.Start.{Start}
use Rattle.positions.specs.Activations.{PlainActivation, first_of}
use Rattle.positions.specs.Setting.{Setting, IsLinked, HasItsTables, HasItsRecords}
use Rattle.positions.specs.Layers.{PlainLayer, entering, absorbing, blank}
use Rattle.positions.specs.Strands.{PlainStrand}
use Rattle.positions.specs.Tallies.{PlainTally}
use Rattle.positions.specs.Advance.{begun, reused, passed, opened, opened_of, record_for, recalled, started_as, started_by, started}
use Rattle.positions.specs.Stands.{AreNotes, IsOpened, IsTally, IsStart, AreBodies, acts_at, IsTodo, IsTodoAt, AreParents, IsNewInstance, HasArguments, IsRunning, frame_of}
use Rattle.position_theory.proofs.Evaluations.{strand_at, Comes}
use Rattle.position_theory.proofs.Layering.{top_none, blank_is, notes_entered, top_noted}
use Rattle.position_theory.proofs.Places.{memo_at, body_at, found_at}
use Rattle.position_theory.proofs.Products.{absorbed}
use Rattle.position_theory.proofs.Recorded.{answered}
use Rattle.position_theory.proofs.Starts.{start_moved}

-- the record of a name, its arguments and a depth, where it is valid
abbrev pub lookup_of : Setting → Lookup
lookup_of setting = valid_record setting.program setting.tables setting.memory.records

-- a loop's beginning is noted in no layer
pub top_begins : (ls : List Notes) (n : Place) (depth : ℕ) → noted_top ls (Begins n depth ∷ []) ≡ ls
top_begins [] n depth = refl
top_begins (l ∷ ls) n depth = refl

-- ---- the step of the definitions

module _ (t : Tree) (tables : Tables) (lookup : Lookup) (acc : Accumulators) (fr : Frame) (f : Name) (vs : List ℤ) (under : List Parent) where
  abbrev depth : ℕ
  depth = depth_limit - fr.left

  -- by whether it is a memo instance, whether a kit is free, and the record
  abbrev pub entered_as : Bool → Bool → Option Kept → Step
  entered_as memo kit (Some k) = taken [] k fr (leaving k.value) under
  entered_as memo kit None =
      moved (layer_of t tables lookup kit acc (memo && kit)) (Begins fr.instance depth ∷ (mark (look_of lookup) f vs depth memo ++ Enters f vs depth ∷ [])) (with_layer (memo && kit) fr) (running (blocks ((proc_of t f).body ∷ []))) under

  by_answer : (kit : Bool) (o : Option Kept) → enter_by t tables lookup kit acc o fr f vs under ≡ entered_as (proc_of t f).memo kit o
  by_answer kit (Some k) = refl
  by_answer kit None = refl

  pub entered_by_memo : (kit memo : Bool) → (proc_of t f).memo ≡ memo → enter_step t tables lookup kit acc fr (instance f vs) under ≡ entered_as memo kit (memo_answer lookup memo f vs depth)
  entered_by_memo kit memo e = by_answer kit (memo_answer lookup (proc_of t f).memo f vs depth) ∙ ap (λ b. entered_as b kit (memo_answer lookup b f vs depth)) e

  -- no record answers
  pub unanswered : (kit : Bool) → lookup f vs depth ≡ None
      → entered_as true kit None ≡ moved (layer_of t tables lookup kit acc kit) (Begins fr.instance depth ∷ Marks f vs false ∷ Enters f vs depth ∷ []) (with_layer kit fr) (running (blocks ((proc_of t f).body ∷ []))) under
  unanswered kit e =
      ap (λ (o : Option Kept). moved (layer_of t tables lookup kit acc kit) (Begins fr.instance depth ∷ Marks f vs (is_there o) ∷ Enters f vs depth ∷ []) (with_layer kit fr) (running (blocks ((proc_of t f).body ∷ []))) under) e

-- ---- the step by numbers

module _ (setting : Setting) (tables : HasItsTables setting) (linked : IsLinked setting) (records : HasItsRecords setting) (kit : Bool) (acc : Accumulators)
    (m : NamedStart) (under : List Parent) (st : Start) (lower : List PlainLayer) (path : Place) (a : PlainActivation) (l : PlainLayer) (ls : List Notes) (hl : AreNotes setting st (l ∷ lower) ls)
    (below : List PlainActivation) (from : Phase) (args : List ℤ) (pt : PlainTally) (t : Tally) (counts : IsTally setting pt t) (fr' : Frame) (ph : NamedPhase) (under' : List Parent) (f : Name) (vs : List ℤ)
    (begins : IsStart st Entering path m) (hu : AreParents setting path below (unflagged_under under)) (new : IsNewInstance setting a f vs) (asked : HasArguments setting args a vs) where
  abbrev here : PlainStrand
  here = record { start = st; layer = l; lower = lower; path = path; top = a; below = below; phase = from; arguments = args; tally = pt }

  abbrev fr : Frame
  fr = frame_of setting path a

  abbrev level : ℕ
  level = depth_limit - a.left

  abbrev Reaches : PlainStrand → Step → Type 0
  Reaches s step = Comes setting s (strand_at m ls fr' ph under') t step

  abbrev body : Body
  body = (proc_of setting.program.tree f).body

  abbrev entered_so : Bool → Bool → Option Kept → Step
  entered_so memo k o = entered_as setting.program.tree setting.tables (lookup_of setting) acc fr f vs under memo k o

  body_is : linked_body setting.names setting.program.tree body ≡ acts_at setting a.procedure 0 (first_of 0)
  body_is = ap (λ p. linked_body setting.names setting.program.tree p.body) (sym (found_at setting f a.procedure new.procedure)) ∙ body_at setting linked.codes a.procedure

  bodies : AreBodies setting a.procedure (first_of 0 ∷ a.outer) (body ∷ [])
  bodies = subst (λ outer. AreBodies setting a.procedure (first_of 0 ∷ outer) (body ∷ [])) (sym new.outer) (body_is, tt)

  left_is : IsTodo setting a (blocks (body ∷ []))
  left_is = subst (λ w. IsTodoAt setting a w (blocks (body ∷ []))) (sym new.work) bodies

  runs_from : IsStart st Running path m
  runs_from = start_moved st Entering Running path path m (λ d w. (refl, omega arith)) begins

  -- its first statement is next
  runs : (ks : List Notes) → IsRunning setting path a below (strand_at m ks fr (running (blocks (body ∷ []))) (unflagged_under under))
  runs ks = record { todo = blocks (body ∷ []); left = left_is; phase = refl; frame = refl; under = hu }

  entered_notes : AreNotes setting st (entering a.procedure level l ∷ lower) (noted_top ls (Begins path level ∷ Enters f vs level ∷ []))
  entered_notes =
      top_noted setting st l (entering a.procedure level l) lower ls (Begins path level ∷ Enters f vs level ∷ []) (λ n i. notes_entered setting l n f vs a.procedure level new.procedure i) hl

  marked_notes : AreNotes setting st (entering a.procedure level l ∷ lower) (noted_top ls (Begins path level ∷ Marks f vs false ∷ Enters f vs level ∷ []))
  marked_notes =
      top_noted setting st l (entering a.procedure level l) lower ls (Begins path level ∷ Marks f vs false ∷ Enters f vs level ∷ []) (λ n i. notes_entered setting l n f vs a.procedure level new.procedure i) hl

  begun_is : Reaches (begun here) (entered_so false kit None)
  begun_is = record { start = runs_from; layers = entered_notes; tally = counts; now = runs _ }

  -- ---- a memo instance

  module _ (memo : (proc_of setting.program.tree f).memo ≡ true) (args_are : args ≡ vs) where
    passed_is : Reaches (passed here) (moved (layer_of setting.program.tree setting.tables (lookup_of setting) false acc false) (Begins path level ∷ Marks f vs false ∷ Enters f vs level ∷ []) (with_layer false fr) (running (blocks (body ∷ []))) under)
    passed_is = record {
      start = runs_from;
      layers = marked_notes;
      tally = record { opened = counts.opened; made = counts.made; executed = ap suc counts.executed; reused = counts.reused; unrecorded = ap suc counts.unrecorded };
      now = runs _;
    }

    is_procedure : (p : Option Proc) → (found p).memo ≡ true → is_there p ≡ true
    is_procedure None e = absurd cc
    is_procedure (Some p) e = refl

    opened_one : IsOpened setting (opened_of here) (record { of = f; args = vs; left = a.left; instance = path })
    opened_one = record {
      known = is_procedure (procedure_of setting.program.tree f) memo;
      procedure = sym new.procedure;
      arguments = args_are;
      left = refl;
      depth = refl;
    }

    opened_is : Reaches (opened setting here) (moved (layer_of setting.program.tree setting.tables (lookup_of setting) true acc true) (Begins path level ∷ Marks f vs false ∷ Enters f vs level ∷ []) (with_layer true fr) (running (blocks (body ∷ []))) under)
    opened_is = record {
      start = runs_from;
      layers = (
        notes_entered setting (blank true setting.kinds (length setting.codes)) (definitions.blank setting.program.tree) f vs a.procedure level new.procedure (blank_is setting true refl linked),
        subst (AreNotes setting st (l ∷ lower)) (sym (top_none ls)) hl,
      );
      tally = record { opened = (opened_one, counts.opened); made = counts.made; executed = ap suc counts.executed; reused = counts.reused; unrecorded = counts.unrecorded };
      now = runs _;
    }

    absorbed_notes : (k : Kept) (r : PlainRecord) → IsRecord setting.program.tree setting.names setting.kinds k r → (ks : List Notes) → AreNotes setting st (l ∷ lower) ks
        → AreNotes setting st (absorbing r level l ∷ lower) (take_top setting.program.tree (notes_of k level) ks)
    absorbed_notes k r h [] i = absurd i
    absorbed_notes k r h (n ∷ ks) i = (absorbed setting l n i.0 linked k r level h, i.1)

    reused_is : (k : Kept) (r : PlainRecord) → IsRecord setting.program.tree setting.names setting.kinds k r → Reaches (reused r here) (taken [] k fr (leaving k.value) under)
    reused_is k r h = record {
      start = start_moved st Entering (Leaving r.value) path path m (λ d w. (refl, w)) begins;
      layers = absorbed_notes k r h (noted_top ls []) (subst (AreNotes setting st (l ∷ lower)) (sym (top_none ls)) hl);
      tally = record { opened = counts.opened; made = counts.made; executed = counts.executed; reused = ap suc counts.reused; unrecorded = counts.unrecorded };
      now = record { phase = ap leaving (sym h.value); frame = refl; under = hu };
    }

    unanswered_is : (k : Bool) → lookup_of setting f vs level ≡ None → Reaches (recalled setting k None here) (entered_so true k None)
    unanswered_is true e = subst (Reaches (opened setting here)) (sym (unanswered setting.program.tree setting.tables (lookup_of setting) acc fr f vs under true e)) opened_is
    unanswered_is false e = subst (Reaches (passed here)) (sym (unanswered setting.program.tree setting.tables (lookup_of setting) acc fr f vs under false e)) passed_is

    recalled_by : (o : Option Kept) (r : Option PlainRecord) → lookup_of setting f vs level ≡ o → IsAnswer setting.program.tree setting.names setting.kinds o r → Reaches (recalled setting kit r here) (entered_so true kit o)
    recalled_by (Some k) (Some r) e h = reused_is k r h
    recalled_by (Some k) None e h = absurd h
    recalled_by None (Some r) e h = absurd h
    recalled_by None None e h = unanswered_is kit e

    answers : IsAnswer setting.program.tree setting.names setting.kinds (lookup_of setting f vs level) (record_for setting level a.procedure args)
    answers =
        subst (λ ws. IsAnswer setting.program.tree setting.names setting.kinds (lookup_of setting f vs level) (record_for setting level a.procedure ws)) (sym args_are)
        (subst (λ p. IsAnswer setting.program.tree setting.names setting.kinds (lookup_of setting f vs level) (record_for setting level p vs)) new.procedure
        (answered setting tables records f vs level))

    recalled_is : Reaches (recalled setting kit (record_for setting level a.procedure args) here) (entered_so true kit (lookup_of setting f vs level))
    recalled_is = recalled_by (lookup_of setting f vs level) (record_for setting level a.procedure args) refl answers

  -- ---- either

  abbrev by_names : Step
  by_names = enter_step setting.program.tree setting.tables (lookup_of setting) kit acc fr (instance f vs) under

  memo_is : (b : Bool) → memo_of setting.codes a.procedure ≡ b → (proc_of setting.program.tree f).memo ≡ b
  memo_is b e = ap (λ p. p.memo) (sym (found_at setting f a.procedure new.procedure)) ∙ sym (memo_at setting linked.codes a.procedure) ∙ e

  started_as_is : (b : Bool) → memo_of setting.codes a.procedure ≡ b → Reaches (started_as setting kit b here) by_names
  started_as_is true e =
      subst (Reaches (started_as setting kit true here)) (sym (entered_by_memo setting.program.tree setting.tables (lookup_of setting) acc fr f vs under kit true (memo_is true e)))
      (recalled_is (memo_is true e) (asked e))
  started_as_is false e =
      subst (Reaches (started_as setting kit false here)) (sym (entered_by_memo setting.program.tree setting.tables (lookup_of setting) acc fr f vs under kit false (memo_is false e))) begun_is

  pub instance_begins : Reaches (started setting kit here) by_names
  instance_begins = subst (λ w. Reaches (started_by setting kit w here) by_names) (sym new.work) (started_as_is (memo_of setting.codes a.procedure) refl)
