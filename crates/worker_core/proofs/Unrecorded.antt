-- A step leaves an instance without a record only where no kit is free.
use Rattle.std.proofs.Common.{arith, ◌≡◌, ℕ, zero, suc, ◌+◌, ◌-◌, ◌<◌, nat_lt, ◌==◌, ℤ, pos, Bool, true, false, cond, ◌&&◌, ◌||◌, if◌then◌else◌, List, [], ◌∷◌, ◌++◌, length, map, Option, Some, None, Result, Ok, Err, refl, sym, subst, lt-ltb}
use Rattle.std.specs.Prelude.{nat_le, slice_get, OnOk}
use Rattle.meaning.specs.Tree.{Name}
use Rattle.meaning.specs.declared.tree.Way.{Way}
use Rattle.meaning.specs.declared.tree.Way.TheVariants.{Call, Spawn}
use Rattle.monoid_laws.specs.declared.Kind.{Kind}
use Rattle.monoid_laws.specs.Kinds.{names_element}
use Rattle.meaning.specs.Outcome.{Place}
use Rattle.meaning.specs.SmallStep.{same_name}
use Rattle.meaning.specs.Strands as strands
use Rattle.meaning.specs.Strands.{BookStep}
use Rattle.meaning.specs.Schedules.{RunStep, work, push, inline, pop, stall, steal, fold}
use Rattle.meaning.specs.declared.FaultKind.{FaultKind}
use Rattle.linked_program.specs.declared.code.Operation.{Operation}
use Rattle.linked_program.specs.declared.code.Operation.TheVariants as o
use Rattle.linked_program.specs.declared.code.Instruction.{Instruction}
use Rattle.linked_program.specs.Linked.{Linked}
use Rattle.linked_program.specs.CodeView.{expression, slots_of, memo_of}
use Rattle.evaluation.specs.declared.slot.Slot.{Slot}
use Rattle.evaluation.specs.Slots.{slots_for}
use Rattle.evaluation.specs.Values.{NumberedOut, value_at, values_at, entry_at, bounds_at}
use Rattle.record_theory.specs.Record.{PlainRecord}
use Rattle.positions.specs.declared.work.Position.{Position}
use Rattle.positions.specs.declared.work.Loop.{Loop}
use Rattle.positions.specs.declared.work.Share.{Share}
use Rattle.positions.specs.declared.work.Work.{Work}
use Rattle.positions.specs.declared.work.Work.TheVariants.{Block, Over, Halves, Second, Turns}
use Rattle.positions.specs.declared.phase.Phase.{Phase}
use Rattle.positions.specs.declared.phase.Phase.TheVariants.{Entering, Running, AtSpawn, Returning, Leaving, Broken}
use Rattle.positions.specs.declared.phase.Paused.{Paused}
use Rattle.positions.specs.declared.phase.Paused.TheVariants as paused
use Rattle.positions.specs.Setting.{Setting}
use Rattle.positions.specs.Activations.{PlainActivation, next_of}
use Rattle.positions.specs.Code.{instruction_inside, PlainLoop, loop_at}
use Rattle.positions.specs.Layers.{PlainLayer}
use Rattle.positions.specs.Tallies.{PlainOpened, PlainTally, closing_by}
use Rattle.positions.specs.Strands.{PlainStrand, PlainTask, is_entry}
use Rattle.positions.specs.Advance.{noted, answered, evaluated, recalled, answer_for, started_as, started_by, pushed, child_of, with_arguments, entered, nested, nested_memo, called_as, binding, if_named, combining, choosing, looping, giving, split, turn_slots, rest_of, turn_by, left_to, closed, owns_top, synced, performed, gone_by, worked, advanced_at, advanced, pause_of}
use Rattle.positions.specs.Moves.{returned_of, resumed_by, resumed, joined_at, joined_after}
use Rattle.numbered_runs.specs.declared.refusal.Refusal.{Refusal}
use Rattle.numbered_runs.specs.declared.refusal.Refusal.TheVariants.{Nothing, NotThere}
use Rattle.stepped_runs.specs.Pieces as pieces
use Rattle.stepped_runs.specs.Pieces.{PlainPiece, Change, place_of, is_held_by, pushed_over, pushed_at, inlined_at, popped_of, popped_by, stalled_at, oldest, robbed_if, stolen_of, stolen_from, may_join_at, may_fold, folded, worked_at}
use Rattle.stepped_runs.specs.Runs.{PlainRun, among, changed, is_idle, if_idle, folded_if, folded_at, stepped}
use Rattle.worker_core.specs.Strands.{PlainStrands, run_of}
use Rattle.worker_core.specs.Cores.{unrecorded_in, PassesWithoutKit}

-- ---- a small step of a strand, where a kit is free

-- so many of the strand's instances have no record
abbrev Leaves : ℕ → PlainStrand → Type 0
Leaves n s = s.tally.unrecorded ≡ n

module _ (n : ℕ) where
  answered_leaves : {A : Type 0} (i : ℕ) (a : Result A FaultKind) (next : A → PlainStrand → PlainStrand) → ((v : A) (s : PlainStrand) → Leaves n s → Leaves n (next v s)) → (s : PlainStrand) → Leaves n s → Leaves n (answered i a next s)
  answered_leaves i (Ok v) next f s h = f v s h
  answered_leaves i (Err k) next f s h = h

  evaluated_leaves : {A : Type 0} (i : ℕ) (out : NumberedOut A) (next : A → PlainStrand → PlainStrand) → ((v : A) (s : PlainStrand) → Leaves n s → Leaves n (next v s)) → (s : PlainStrand) → Leaves n s → Leaves n (evaluated i out next s)
  evaluated_leaves i out next f s h = answered_leaves i out.answer next f (noted out.notes s) h

  closing_leaves : (revisions : List (Name × ℕ)) (os : List PlainOpened) (l : PlainLayer) (v : ℤ) (t : PlainTally) → t.unrecorded ≡ n → (closing_by revisions os l v t).unrecorded ≡ n
  closing_leaves revisions [] l v t h = h
  closing_leaves revisions (o ∷ os) l v t h = h

  either_leaves : (b : Bool) (s u : PlainStrand) → Leaves n s → Leaves n u → Leaves n (if b then s else u)
  either_leaves true s u h i = h
  either_leaves false s u h i = i

  left_leaves : (below : List PlainActivation) (v : ℤ) (s : PlainStrand) → Leaves n s → Leaves n (left_to below v s)
  left_leaves [] v s h = h
  left_leaves (p ∷ rest) v s h = h

  if_named_leaves : (b : Bool) (i : ℕ) (p : Position) (r : ℕ) (kind : Kind) (vs : List ℤ) (s : PlainStrand) → Leaves n s → Leaves n (if_named b i p r kind vs s)
  if_named_leaves true i p r kind vs s h = h
  if_named_leaves false i p r kind vs s h = h

  combining_leaves : (kind : Option Kind) (i : ℕ) (p : Position) (r : ℕ) (vs : List ℤ) (s : PlainStrand) → Leaves n s → Leaves n (combining kind i p r vs s)
  combining_leaves None i p r vs s h = h
  combining_leaves (Some kind) i p r vs s h = if_named_leaves (names_element kind vs) i p r kind vs s h

  module _ (setting : Setting) where
    recalled_leaves : (r : Option PlainRecord) (s : PlainStrand) → Leaves n s → Leaves n (recalled setting true r s)
    recalled_leaves (Some r) s h = h
    recalled_leaves None s h = h

    started_as_leaves : (memo : Bool) (s : PlainStrand) → Leaves n s → Leaves n (started_as setting true memo s)
    started_as_leaves true s h = recalled_leaves (answer_for setting s) s h
    started_as_leaves false s h = h

    started_leaves : (w : Work) (s : PlainStrand) → Leaves n s → Leaves n (started_by setting true w s)
    started_leaves (Block p) s h = started_as_leaves (memo_of setting.codes s.top.procedure) s h
    started_leaves Over s h = h
    started_leaves (Halves l k share) s h = h
    started_leaves (Second l k share) s h = h
    started_leaves (Turns l share) s h = h

    synced_leaves : (v : ℤ) (s : PlainStrand) → Leaves n s → Leaves n (synced setting v s)
    synced_leaves v s h =
        either_leaves (is_entry s) s _ h (either_leaves (owns_top s) (closed setting v s) _ (closing_leaves setting.program.revisions s.tally.opened s.layer v s.tally h) h)

    entered_leaves : (way : Way) (into : Option ℕ) (w : Work) (f : ℕ) (slots : List Slot) (s : PlainStrand) → Leaves n s → Leaves n (entered setting true way into w f slots s)
    entered_leaves Call into w f slots s h = started_leaves (child_of f slots s).work (pushed (child_of f slots s) false into w Entering s) h
    entered_leaves Spawn into w f slots s h = h

    nested_leaves : (i : ℕ) (way : Way) (into : Option ℕ) (w : Work) (f : ℕ) (slots : List Slot) (s : PlainStrand) → Leaves n s → Leaves n (nested setting true i way into w f slots s)
    nested_leaves i way into w f slots s h = either_leaves (s.top.left == 0) _ (entered setting true way into w f slots s) h (entered_leaves way into w f slots s h)

    called_as_leaves : (memo : Bool) (i : ℕ) (way : Way) (into : Option ℕ) (w : Work) (f : ℕ) (es : List Linked) (slots : List Slot) (s : PlainStrand) → Leaves n s → Leaves n (called_as setting true memo i way into w f es slots s)
    called_as_leaves true i way into w f es slots s h =
        evaluated_leaves i (values_at setting.tables slots es) (nested_memo setting true i way into w f) (λ vs u k. nested_leaves i way into w f (slots_for (slots_of setting.codes f) vs) (with_arguments vs u) k) s h
    called_as_leaves false i way into w f es slots s h =
        evaluated_leaves i (entry_at setting.tables slots (slots_of setting.codes f) es) (nested setting true i way into w f) (λ vs u k. nested_leaves i way into w f vs u k) s h

    performed_leaves : (p : Position) (i : ℕ) (op : Operation) (s : PlainStrand) → Leaves n s → Leaves n (performed setting true p i op s)
    performed_leaves p i (o.Bind x e) s h = evaluated_leaves i (value_at setting.tables s.top.slots (expression e)) (binding p x) (λ v u k. k) s h
    performed_leaves p i (o.Enter x way f es) s h = called_as_leaves (memo_of setting.codes f) i way x (Block (next_of p)) f (map expression es.items) s.top.slots s h
    performed_leaves p i (o.Read x r) s h = h
    performed_leaves p i o.Sync s h = either_leaves (is_entry s) s _ h h
    performed_leaves p i (o.Update r es) s h =
        evaluated_leaves i (values_at setting.tables s.top.slots (map expression es.items)) (combining (slice_get setting.kinds r) i p r) (λ vs u k. combining_leaves (slice_get setting.kinds r) i p r vs u k) s h
    performed_leaves p i (o.If e a b) s h = evaluated_leaves i (value_at setting.tables s.top.slots (expression e)) (choosing p a b) (λ v u k. k) s h
    performed_leaves p i (o.Loop x low high grain f es) s h = evaluated_leaves i (bounds_at setting.tables s.top.slots (expression low) (expression high)) (looping p) (λ r u k. k) s h
    performed_leaves p i (o.Return e) s h = evaluated_leaves i (value_at setting.tables s.top.slots (expression e)) giving (λ v u k. k) s h

    gone_leaves : (p : Position) (i : Option Instruction) (s : PlainStrand) → Leaves n s → Leaves n (gone_by setting true p i s)
    gone_leaves p None s h = h
    gone_leaves p (Some i) s h = performed_leaves p i.number i.operation s h

    turn_leaves : (j : PlainLoop) (l : Loop) (share : Share) (s : PlainStrand) → Leaves n s → Leaves n (turn_by setting true j l share s)
    turn_leaves j l share s h = called_as_leaves (memo_of setting.codes j.callee) j.number Call None (Turns l (rest_of share)) j.callee (map expression j.arguments) (turn_slots j l share s) s h

    worked_leaves : (w : Work) (s : PlainStrand) → Leaves n s → Leaves n (worked setting true w s)
    worked_leaves (Block p) s h = gone_leaves p (instruction_inside setting.codes s.top.procedure (length s.top.outer) p) s h
    worked_leaves Over s h = h
    worked_leaves (Halves l k share) s h = either_leaves (k == 0 || nat_le share.count (loop_at setting.codes s.top.procedure l).grain) _ (split l (k - 1) share s) h h
    worked_leaves (Second l k share) s h = h
    worked_leaves (Turns l share) s h = either_leaves (share.count == 0) (giving (pos 0) s) _ h (turn_leaves (loop_at setting.codes s.top.procedure l) l share s h)

    advanced_leaves : (ph : Phase) (s : PlainStrand) → Leaves n s → Leaves n (advanced_at setting true ph s)
    advanced_leaves Entering s h = started_leaves s.top.work s h
    advanced_leaves Running s h = worked_leaves s.top.work s h
    advanced_leaves AtSpawn s h = h
    advanced_leaves (Returning v) s h = synced_leaves v s h
    advanced_leaves (Leaving v) s h = left_leaves s.below v s h
    advanced_leaves (Broken f) s h = h

small_step : (setting : Setting) (kit : Bool) (s : PlainStrand) → kit ≡ true → (advanced setting kit s).tally.unrecorded ≡ s.tally.unrecorded
small_step setting true s e = advanced_leaves s.tally.unrecorded setting s.phase s refl
small_step setting false s e = absurd cc

-- ---- what a step makes of a piece

-- what holds of a result, where there is one
abbrev ForOk : {A : Type 0} → (A → Type 0) → Result A Refusal → Type 0
ForOk P (Ok a) = P a
ForOk P (Err e) = Unit {0}

either : {A : Type 0} (P : A → Type 0) (b : Bool) (x y : Result A Refusal) → ForOk P x → ForOk P y → ForOk P (cond b x y)
either P true x y h k = h
either P false x y h k = k

-- the strands in its place have as many
abbrev KeepsOf : PlainPiece → Change → Type 0
KeepsOf p c = unrecorded_in c.pieces ≡ p.strand.tally.unrecorded

one : (s : PlainStrand) (n : ℕ) → s.tally.unrecorded ≡ n → s.tally.unrecorded + 0 ≡ n
one s n e = omega arith

module _ (kits : ℕ) (p : PlainPiece) where
  alone_is : p.strand.tally.unrecorded + 0 ≡ p.strand.tally.unrecorded
  alone_is = omega arith

  pushes_over : (below : List PlainActivation) → ForOk (KeepsOf p) (pushed_over below kits p)
  pushes_over [] = tt
  pushes_over (a ∷ below) = alone_is

  pushes : (ph : Phase) → ForOk (KeepsOf p) (pushed_at ph kits p)
  pushes AtSpawn = pushes_over p.strand.below
  pushes Entering = tt
  pushes Running = tt
  pushes (Returning v) = tt
  pushes (Leaving v) = tt
  pushes (Broken f) = tt

  inlines : (ph : Phase) → ForOk (KeepsOf p) (inlined_at ph kits p)
  inlines AtSpawn = alone_is
  inlines Entering = tt
  inlines Running = tt
  inlines (Returning v) = tt
  inlines (Leaving v) = tt
  inlines (Broken f) = tt

  resumes : (v : Option ℤ) (task : PlainTask) (s : PlainStrand) → (resumed_by v task s).tally.unrecorded ≡ s.tally.unrecorded
  resumes None task s = refl
  resumes (Some v) task s = refl

  pops_of : (tasks : List PlainTask) → ForOk (KeepsOf p) (popped_of tasks kits p)
  pops_of [] = tt
  pops_of (task ∷ tasks) = one (resumed task p.strand) p.strand.tally.unrecorded (resumes (returned_of p.strand) task p.strand)

  pops : (v : Option ℤ) → ForOk (KeepsOf p) (popped_by v kits p)
  pops None = tt
  pops (Some v) = pops_of p.deque

  stalls : (c : Paused) (tasks : List PlainTask) → ForOk (KeepsOf p) (stalled_at c tasks kits p)
  stalls paused.Faulted tasks = alone_is
  stalls paused.AtSync [] = alone_is
  stalls paused.Returned [] = alone_is
  stalls paused.Finished [] = alone_is
  stalls paused.Working tasks = tt
  stalls paused.AtSpawn tasks = tt
  stalls paused.AtSync (k ∷ ks) = tt
  stalls paused.Returned (k ∷ ks) = tt
  stalls paused.Finished (k ∷ ks) = tt

module _ (setting : Setting) where
  works : (kits : ℕ) (p : PlainPiece) → 0 < kits → (c : Paused) → ForOk (KeepsOf p) (worked_at setting c kits p)
  works kits p free paused.Working =
      one (advanced setting (nat_lt 0 kits) p.strand) p.strand.tally.unrecorded (small_step setting (nat_lt 0 kits) p.strand (lt-ltb 0 kits free))
  works kits p free paused.AtSpawn = tt
  works kits p free paused.AtSync = tt
  works kits p free paused.Returned = tt
  works kits p free paused.Finished = tt
  works kits p free paused.Faulted = tt

  robs : (thief kits : ℕ) (p : PlainPiece) (taken : List PlainTask × PlainTask) → ForOk (KeepsOf p) (robbed_if setting thief kits p taken)
  robs thief zero p taken = tt
  robs thief (suc kits) p taken = omega arith

  steals : (thief kits : ℕ) (p : PlainPiece) (tasks : List PlainTask) → ForOk (KeepsOf p) (stolen_of setting thief kits p tasks)
  steals thief kits p [] = tt
  steals thief kits p (k ∷ ks) = robs thief kits p (oldest [] k ks)

-- ---- among the others

unrecorded_append : (xs ys : List PlainPiece) → unrecorded_in (xs ++ ys) ≡ unrecorded_in xs + unrecorded_in ys
unrecorded_append [] ys = omega arith
unrecorded_append (x ∷ xs) ys = let rest : unrecorded_in (xs ++ ys) ≡ unrecorded_in xs + unrecorded_in ys = unrecorded_append xs ys in omega arith

module _ (n : ℕ) where
  -- the run has so many
  abbrev HasAll : PlainRun → Type 0
  HasAll s = unrecorded_in s.pieces ≡ n

  among_keeps : (p : PlainPiece) (before later : List PlainPiece) (history : List BookStep) (r : Result Change Refusal) → unrecorded_in before + (p.strand.tally.unrecorded + unrecorded_in later) ≡ n → ForOk (KeepsOf p) r
      → ForOk HasAll (among before later history r)
  among_keeps p before later history (Err e) h k = tt
  among_keeps p before later history (Ok c) h k =
      let around : unrecorded_in (before ++ (c.pieces ++ later)) ≡ unrecorded_in before + unrecorded_in (c.pieces ++ later) = unrecorded_append before (c.pieces ++ later) in
      let inside : unrecorded_in (c.pieces ++ later) ≡ unrecorded_in c.pieces + unrecorded_in later = unrecorded_append c.pieces later in
      let same : unrecorded_in c.pieces ≡ p.strand.tally.unrecorded = k in
      omega arith

  -- one strand further on
  passed : (before later : List PlainPiece) (p : PlainPiece) → unrecorded_in before + (p.strand.tally.unrecorded + unrecorded_in later) ≡ n → unrecorded_in (before ++ p ∷ []) + unrecorded_in later ≡ n
  passed before later p h =
      let around : unrecorded_in (before ++ p ∷ []) ≡ unrecorded_in before + (p.strand.tally.unrecorded + 0) = unrecorded_append before (p ∷ []) in omega arith

  changed_keeps : (e : Refusal) (w : ℕ) (change : PlainPiece → Result Change Refusal) → ((p : PlainPiece) → ForOk (KeepsOf p) (change p)) → (before ps : List PlainPiece) (history : List BookStep) → unrecorded_in before + unrecorded_in ps ≡ n
      → ForOk HasAll (changed e w change before ps history)
  changed_keeps e w change k before [] history h = tt
  changed_keeps e w change k before (p ∷ ps) history h =
      either HasAll (is_held_by w p) (among before ps history (change p)) (changed e w change (before ++ p ∷ []) ps history)
      (among_keeps p before ps history (change p) h (k p)) (changed_keeps e w change k (before ++ p ∷ []) ps history (passed before ps p h))

  -- ---- folds

  third : (a b c : Bool) → a && b && c ≡ true → c ≡ true
  third true true c e = e
  third true false c e = absurd cc
  third false b c e = absurd cc

  after_ended : (ph : Phase) (v : ℤ) (l r : PlainStrand) → (joined_after ph l v r).tally.unrecorded ≡ l.tally.unrecorded + r.tally.unrecorded
  after_ended (Broken f) v l r = refl
  after_ended Entering v l r = refl
  after_ended Running v l r = refl
  after_ended AtSpawn v l r = refl
  after_ended (Returning w) v l r = refl
  after_ended (Leaving w) v l r = refl

  -- two strands that are folded have as many as the two had
  joins : (ph : Phase) (l r : PlainPiece) → may_join_at ph l r ≡ true → (joined_at ph l.strand r.strand).tally.unrecorded ≡ l.strand.tally.unrecorded + r.strand.tally.unrecorded
  joins (Broken f) l r e = refl
  joins (Leaving v) l r e = after_ended r.strand.phase v l.strand r.strand
  joins Entering l r e = absurd cc
  joins Running l r e = absurd cc
  joins AtSpawn l r e = absurd cc
  joins (Returning v) l r e = absurd cc

  folds_if : (m : Bool) (w kits : ℕ) (before : List PlainPiece) (l r : PlainPiece) (later : List PlainPiece) (history : List BookStep) → m ≡ may_fold l r
      → unrecorded_in before + (l.strand.tally.unrecorded + (r.strand.tally.unrecorded + unrecorded_in later)) ≡ n → ForOk HasAll (folded_if m w kits before l r later history)
  folds_if false w kits before l r later history e h = tt
  folds_if true w kits before l r later history e h =
      let around : unrecorded_in (before ++ folded w l r ∷ later) ≡ unrecorded_in before + ((folded w l r).strand.tally.unrecorded + unrecorded_in later) = unrecorded_append before (folded w l r ∷ later) in
      let both : (folded w l r).strand.tally.unrecorded ≡ l.strand.tally.unrecorded + r.strand.tally.unrecorded =
      joins l.strand.phase l r (third (strands.done l.state) (strands.waits r.state) (may_join_at l.strand.phase l r) (sym e)) in
      omega arith

  folds : (w : ℕ) (q : Place) (kits : ℕ) (before ps : List PlainPiece) (history : List BookStep) → unrecorded_in before + unrecorded_in ps ≡ n → ForOk HasAll (folded_at w q kits before ps history)
  folds w q kits before [] history h = tt
  folds w q kits before (l ∷ []) history h = tt
  folds w q kits before (l ∷ r ∷ ps) history h =
      either HasAll (same_name (place_of r) q) (folded_if (may_fold l r) w kits before l r ps history) (folded_at w q kits (before ++ l ∷ []) (r ∷ ps) history)
      (folds_if (may_fold l r) w kits before l r ps history refl h) (folds w q kits (before ++ l ∷ []) (r ∷ ps) history (passed before (r ∷ ps) l h))

  -- ---- steps

  idle : (b : Bool) (r : Result PlainRun Refusal) → ForOk HasAll r → ForOk HasAll (if_idle b r)
  idle true r h = h
  idle false r h = tt

  module _ (setting : Setting) where
    steps_keep : (s : PlainRun) (e : RunStep) → 0 < s.kits → unrecorded_in s.pieces ≡ n → ForOk HasAll (stepped setting s e)
    steps_keep s (work w) free h = changed_keeps NotThere w (pieces.worked setting s.kits) (λ p. works setting s.kits p free (pause_of setting.codes p.strand)) [] s.pieces s.history (omega arith)
    steps_keep s (push w) free h = changed_keeps NotThere w (pieces.pushed s.kits) (λ p. pushes s.kits p p.strand.phase) [] s.pieces s.history (omega arith)
    steps_keep s (inline w) free h = changed_keeps NotThere w (pieces.inlined s.kits) (λ p. inlines s.kits p p.strand.phase) [] s.pieces s.history (omega arith)
    steps_keep s (pop w) free h = changed_keeps NotThere w (pieces.popped s.kits) (λ p. pops s.kits p (returned_of p.strand)) [] s.pieces s.history (omega arith)
    steps_keep s (stall w) free h = changed_keeps NotThere w (pieces.stalled setting s.kits) (λ p. stalls s.kits p (pause_of setting.codes p.strand) p.deque) [] s.pieces s.history (omega arith)
    steps_keep s (steal thief v) free h =
        idle (is_idle thief s.pieces) (changed Nothing v (stolen_from setting thief s.kits) [] s.pieces s.history)
        (changed_keeps Nothing v (stolen_from setting thief s.kits) (λ p. steals setting thief s.kits p p.deque) [] s.pieces s.history (omega arith))
    steps_keep s (fold w q) free h = idle (is_idle w s.pieces) (folded_at w q s.kits [] s.pieces s.history) (folds w q s.kits [] s.pieces s.history (omega arith))

-- ---- of the strands with their kits

ok_is : {A : Type 0} (P : A → Type 0) (r : Result A Refusal) (a : A) → ForOk P r → r ≡ Ok a → P a
ok_is P r a h e = subst (ForOk P) e h

passes_by : (kits : List (List Kind)) (n m : ℕ) → (0 < length kits → m ≡ n) → n < m → kits ≡ []
passes_by [] n m h more = refl
passes_by (k ∷ kits) n m h more = let same : m ≡ n = h (omega arith) in absurd (omega arith)

passes : (setting : Setting) (s t : PlainStrands) (e : RunStep) → stepped setting (run_of s) e ≡ Ok (run_of t) → PassesWithoutKit s t
passes setting s t e is =
    passes_by s.kits (unrecorded_in s.pieces) (unrecorded_in t.pieces)
    (λ free. ok_is (HasAll (unrecorded_in s.pieces)) (stepped setting (run_of s) e) (run_of t) (steps_keep (unrecorded_in s.pieces) setting (run_of s) e free refl) is)

-- whatever came of it
pub step_passes : {A : Type 0} (r : Result A Refusal) (setting : Setting) (s t : PlainStrands) (e : RunStep) → OnOk r (stepped setting (run_of s) e ≡ Ok (run_of t)) → OnOk r (PassesWithoutKit s t)
step_passes (Ok a) setting s t e is = passes setting s t e is
step_passes (Err f) setting s t e is = tt
