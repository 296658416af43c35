-- What a loop's instance does next, by numbers, is what the definitions do.
use Rattle.std.proofs.Common.{◌≡◌, ℕ, zero, suc, ◌+◌, ◌-◌, ◌/◌, ◌==◌, Bool, true, false, ◌||◌, if◌then◌else◌, cond, List, [], ◌∷◌, map, None, refl, sym, ◌∙◌, ap, subst, arith}
use Rattle.std.specs.Prelude.{ℤ, pos, ◌+ℤ◌, slice_set, nat_le}
use Rattle.std.proofs.Math.Dec.{eqb-suc-zero}
use Rattle.meaning.specs.declared.tree.Way.TheVariants.{Call}
use Rattle.meaning.specs.Outcome.{Place}
use Rattle.meaning.specs.Values.{put, values}
use Rattle.meaning.specs.Statements.{Job, turn_values}
use Rattle.meaning.specs.SmallStep.{Start as NamedStart, Frame, blocks, halves, second, turns, half, Phase as NamedPhase, running, spawning, returning, Parent, noting, Step, moved, todo_step}
use Rattle.meaning.specs.Layers.{Notes, noted_top, bottom}
use Rattle.meaning.specs.Tallies.{Tally}
use Rattle.trail_theory.specs.Unflagged.{unflagged_under}
use Rattle.linked_program.specs.TableNames.{columned_of}
use Rattle.linked_program.specs.CodeView.{expression}
use Rattle.evaluation.specs.declared.slot.Slot.{Slot}
use Rattle.evaluation.specs.declared.slot.Slot.TheVariants.{Has}
use Rattle.evaluation.specs.Values.{values_at}
use Rattle.evaluation.specs.Numbers.{by_number}
use Rattle.evaluation.proofs.Meant.{values_are}
use Rattle.evaluation.proofs.Readings.{turn_reads}
use Rattle.evaluation.proofs.Slots.{put_is}
use Rattle.positions.specs.declared.work.Loop.{Loop}
use Rattle.positions.specs.declared.work.Share.{Share}
use Rattle.positions.specs.declared.work.Work.{Work}
use Rattle.positions.specs.declared.work.Work.TheVariants.{Over, Halves, Second, Turns}
use Rattle.positions.specs.declared.phase.Phase.TheVariants.{Running, Returning}
use Rattle.positions.specs.declared.start.Start.{Start}
use Rattle.positions.specs.Setting.{Setting, IsLinked, HasItsRecords, by_own_names}
use Rattle.positions.specs.Activations.{PlainActivation, at, made}
use Rattle.positions.specs.Code.{PlainLoop, loop_at}
use Rattle.positions.specs.Layers.{PlainLayer}
use Rattle.positions.specs.Strands.{PlainStrand}
use Rattle.positions.specs.Tallies.{PlainTally}
use Rattle.positions.specs.Advance.{with_top, giving, split, second_half, halved, turn_by, turned, left_of, right_of, rest_of}
use Rattle.positions.specs.Stands.{AreNotes, IsTally, IsStart, IsJob, AreParents}
use Rattle.position_theory.proofs.Beginning.{lookup_of}
use Rattle.position_theory.proofs.Entering.{frame_with, spawned_is, half_is, called_is}
use Rattle.position_theory.proofs.Evaluations.{strand_at, Comes}
use Rattle.position_theory.proofs.Layering.{top_none}
use Rattle.position_theory.proofs.Starts.{start_moved}

module _ (setting : Setting) (kit : Bool) (linked : IsLinked (by_own_names setting)) (records : HasItsRecords (by_own_names setting))
    (m : NamedStart) (under : List Parent) (st : Start) (lower : List PlainLayer) (path : Place) (a : PlainActivation) (below : List PlainActivation)
    (args : List ℤ) (pt : PlainTally) (t : Tally) (counts : IsTally (by_own_names setting) pt t)
    (begins : IsStart st Running path m) (hu : AreParents (by_own_names setting) path below (unflagged_under under)) (ph : NamedPhase) (loop : Loop) (job : Job) (is_job : IsJob (by_own_names setting) a.procedure a.slots loop job) where
  abbrev plain_at : Work → PlainLayer → PlainStrand
  plain_at w l = record { start = st; layer = l; lower = lower; path = path; top = at w a; below = below; phase = Running; arguments = args; tally = pt }

  abbrev fr : Frame
  fr = frame_with (by_own_names setting) path a []

  abbrev ByStep : PlainStrand → List Notes → Step → Type 0
  ByStep s ks st' = Comes (by_own_names setting) s (strand_at m ks fr ph under) t st'

  module _ (l : PlainLayer) (ls : List Notes) (hl : AreNotes (by_own_names setting) st (l ∷ lower) ls) where
    unnoted : AreNotes (by_own_names setting) st (l ∷ lower) (noted_top ls [])
    unnoted = subst (AreNotes (by_own_names setting) st (l ∷ lower)) (sym (top_none ls)) hl

    -- one by one from here on
    turns_next : (k : ℕ) (h : Share) → ByStep (with_top (at (Turns loop h) (at (Halves loop k h) a)) (plain_at (Halves loop k h) l)) ls (moved noting [] fr (running (turns job h.count h.first)) under)
    turns_next k h =
        record { start = begins; layers = unnoted; tally = counts; now = record { todo = turns job h.count h.first; left = (is_job, refl, refl); phase = refl; frame = refl; under = hu } }

    split_is : (k : ℕ) (h : Share) → ByStep (split loop k h (plain_at (Halves loop (suc k) h) l))
        ls (moved noting [] fr (spawning a.left None (half k job (h.count / 2) h.first) (second k job (h.count - h.count / 2) (h.first + h.count / 2))) under)
    split_is k h =
        spawned_is (by_own_names setting) path (at (Halves loop (suc k) h) a) [] None (Second loop k (right_of h)) (second k job (h.count - h.count / 2) (h.first + h.count / 2)) refl refl below under hu
        st m begins l lower ls hl Running ph args pt t counts (made a.procedure a.slots (Halves loop k (left_of h)) a.left) a.left (half k job (h.count / 2) h.first) refl (refl, (is_job, refl, refl, refl)) (is_job, refl, refl, refl)

    few_or_split : (k : ℕ) (h : Share) (b : Bool)
        → ByStep (if b then with_top (at (Turns loop h) (at (Halves loop (suc k) h) a)) (plain_at (Halves loop (suc k) h) l) else split loop k h (plain_at (Halves loop (suc k) h) l))
        ls (cond b (moved noting [] fr (running (turns job h.count h.first)) under)
        (moved noting [] fr (spawning a.left None (half k job (h.count / 2) h.first) (second k job (h.count - h.count / 2) (h.first + h.count / 2))) under))
    few_or_split k h true = turns_next (suc k) h
    few_or_split k h false = split_is k h

    pub halved_is : (k : ℕ) (h : Share) → ByStep (halved setting.codes loop k h (plain_at (Halves loop k h) l))
        ls (todo_step setting.program.tree setting.tables (lookup_of setting) kit (bottom ls) m fr (halves k job h.count h.first) under)
    halved_is zero h = turns_next 0 h
    halved_is (suc k) h =
        subst (λ b. ByStep (if b || nat_le h.count (loop_at setting.codes a.procedure loop).grain then with_top (at (Turns loop h) (at (Halves loop (suc k) h) a)) (plain_at (Halves loop (suc k) h) l) else split loop (suc k - 1) h (plain_at (Halves loop (suc k) h) l))
        ls (todo_step setting.program.tree setting.tables (lookup_of setting) kit (bottom ls) m fr (halves (suc k) job h.count h.first) under))
        (sym (eqb-suc-zero k))
        (subst (λ i. ByStep (if nat_le h.count (loop_at setting.codes a.procedure loop).grain then with_top (at (Turns loop h) (at (Halves loop (suc k) h) a)) (plain_at (Halves loop (suc k) h) l) else split loop i h (plain_at (Halves loop (suc k) h) l))
        ls (todo_step setting.program.tree setting.tables (lookup_of setting) kit (bottom ls) m fr (halves (suc k) job h.count h.first) under))
        (let e : k ≡ suc k - 1 = omega arith in e)
        (subst (λ g. ByStep (if nat_le h.count g then with_top (at (Turns loop h) (at (Halves loop (suc k) h) a)) (plain_at (Halves loop (suc k) h) l) else split loop k h (plain_at (Halves loop (suc k) h) l))
        ls (todo_step setting.program.tree setting.tables (lookup_of setting) kit (bottom ls) m fr (halves (suc k) job h.count h.first) under))
        is_job.grain
        (few_or_split k h (nat_le h.count job.grain))))

    pub second_is : (k : ℕ) (h : Share) → ByStep (second_half loop k h (plain_at (Second loop k h) l))
        ls (todo_step setting.program.tree setting.tables (lookup_of setting) kit (bottom ls) m fr (second k job h.count h.first) under)
    second_is k h =
        half_is (by_own_names setting) path (record (at (Second loop k h) a) { slots = [] }) [] None Over (blocks []) refl tt below under hu st m begins l lower ls hl Running ph args pt t counts
        a.procedure a.slots loop k h k job h.count h.first (ap (λ s. s.procedure) is_job.site) (is_job, refl, refl, refl) tt (lookup_of setting) kit (bottom ls)

    -- ---- iterations

    abbrev stmt : PlainLoop
    stmt = loop_at setting.codes a.procedure loop

    abbrev slots_then : ℕ → List Slot
    slots_then i = slice_set a.slots stmt.variable (Has (loop.low +ℤ pos i))

    turn_is : (i : ℕ) → values_at setting.tables (slots_then i) (map expression stmt.arguments) ≡ by_number (columned_of setting.tables) (turn_values setting.tables job i)
    turn_is i =
        ap (values_at setting.tables (slots_then i)) (sym is_job.args)
        ∙ values_are setting.tables (slots_then i) job.args
        ∙ ap (λ env. by_number (columned_of setting.tables) (values setting.tables env job.args)) (put_is a.slots stmt.variable (loop.low +ℤ pos i))
        ∙ ap (λ env. by_number (columned_of setting.tables) (values setting.tables (put env stmt.variable (loop.low +ℤ pos i)) job.args)) (sym is_job.env)
        ∙ ap (λ x. by_number (columned_of setting.tables) (values setting.tables (put job.env x (loop.low +ℤ pos i)) job.args)) (sym is_job.variable)
        ∙ ap (λ low. by_number (columned_of setting.tables) (values setting.tables (put job.env job.variable (low +ℤ pos i)) job.args)) (sym is_job.low)

    ends_turns : (h : Share) → ByStep (giving (pos 0) (plain_at (Turns loop h) l)) ls (moved noting [] fr (returning (pos 0)) under)
    ends_turns h = record { start = start_moved st Running (Returning (pos 0)) path path m (λ d w. (refl, w)) begins; layers = unnoted; tally = counts; now = record { phase = refl; frame = refl; under = hu } }

    one_turn : (h : Share) (count : ℕ) → h.count ≡ suc count
        → ByStep (turn_by (by_own_names setting) kit stmt loop h (plain_at (Turns loop h) l)) ls (todo_step setting.program.tree setting.tables (lookup_of setting) kit (bottom ls) m fr (turns job (suc count) h.first) under)
    one_turn h count e =
        called_is (by_own_names setting) kit refl linked records path (at (Turns loop h) a) [] None (Turns loop (rest_of h)) (turns job count (suc h.first)) refl refl below under hu st m begins lower Running ph args pt t counts
        (bottom ls) job.callee stmt.callee is_job.callee stmt.number job.site is_job.site Call
        (is_job, (let e' : count ≡ h.count - 1 = omega arith in e'), (let e' : suc h.first ≡ h.first + 1 = omega arith in e'))
        (slots_then h.first) (map expression stmt.arguments) (turn_values setting.tables job h.first) (turn_is h.first) (turn_reads setting.tables job h.first) l ls hl

    turn_or_end : (h : Share) (count : ℕ) → h.count ≡ count
        → ByStep (if count == 0 then giving (pos 0) (plain_at (Turns loop h) l) else turn_by (by_own_names setting) kit stmt loop h (plain_at (Turns loop h) l))
        ls (todo_step setting.program.tree setting.tables (lookup_of setting) kit (bottom ls) m fr (turns job count h.first) under)
    turn_or_end h zero e = ends_turns h
    turn_or_end h (suc count) e =
        subst (λ b. ByStep (if b then giving (pos 0) (plain_at (Turns loop h) l) else turn_by (by_own_names setting) kit stmt loop h (plain_at (Turns loop h) l))
        ls (todo_step setting.program.tree setting.tables (lookup_of setting) kit (bottom ls) m fr (turns job (suc count) h.first) under))
        (sym (eqb-suc-zero count)) (one_turn h count e)

    pub turned_is : (h : Share) → ByStep (turned (by_own_names setting) kit loop h (plain_at (Turns loop h) l))
        ls (todo_step setting.program.tree setting.tables (lookup_of setting) kit (bottom ls) m fr (turns job h.count h.first) under)
    turned_is h = turn_or_end h h.count refl
