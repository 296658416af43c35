-- A run that is not over has no answer yet, so one of its workers has a step.
use Rattle.std.proofs.Common.{◌≡◌, ◌⊎◌, inl, inr, ℕ, length, Bool, true, false, ◌||◌, List, [], ◌∷◌, Some, None, refl, sym, ap, subst}
use Rattle.monoid_laws.specs.declared.Kind.{Kind}
use Rattle.monoid_laws.specs.Worth.{Worth}
use Rattle.meaning.specs.Strands.{State, Held, Ended, Stalled, Faulted, Finished}
use Rattle.linked_program.specs.declared.code.Code.{Code}
use Rattle.linked_program.specs.Initials.{PlainInitial}
use Rattle.positions.specs.Setting.{Setting}
use Rattle.positions.specs.declared.phase.Phase.{Phase}
use Rattle.stepped_runs.specs.Pieces.{PlainPiece}
use Rattle.stepped_runs.specs.Ends.{answer_at, answer_in}
use Rattle.stepped_runs.specs.Runs.{PlainRun, first_run}
use Rattle.stepped_runs.specs.Progress.{AreByWorkers, HasAnswer, HasStep}
use Rattle.stepped_runs.proofs.Workers.{refused_by}
use Rattle.stepped_runs.proofs.Progress.{never_stuck}
use Rattle.worker_core.specs.Strands.{PlainStrands, run_of}
use Rattle.worker_core.specs.Folds.{KeepsProducts}
use Rattle.strand_lines.specs.Lines.{is_last}
use Rattle.worker_core.specs.Cores.{PlainCore, setting_in, are_over}
use Rattle.worker_core.specs.Keeps.{KeepsRun, StaysRun, HasSound, recalling}
use Rattle.worker_core.specs.Going.{AreHeldBy, GoesOn}

no_answer_at : (setting : Setting) (st : State) (ph : Phase) (worths : List Worth) → is_last st ≡ false → answer_at setting st ph worths ≡ None
no_answer_at setting (Held w) ph worths e = refl
no_answer_at setting Ended ph worths e = refl
no_answer_at setting Stalled ph worths e = refl
no_answer_at setting Faulted ph worths e = absurd cc
no_answer_at setting Finished ph worths e = absurd cc

no_answer : (setting : Setting) (ps : List PlainPiece) → are_over ps ≡ false → answer_in setting ps ≡ None
no_answer setting [] e = refl
no_answer setting (p ∷ []) e = no_answer_at setting p.state p.strand.phase p.strand.layer.worths e
no_answer setting (p ∷ q ∷ ps) e = refl

right_false : (a b : Bool) → a || b ≡ false → b ≡ false
right_false true b e = absurd cc
right_false false b e = e

module _ (c : PlainCore) (k : HasSound c) where
  step_or : answer_in (recalling c k) c.strands.pieces ≡ None → HasAnswer (recalling c k) (run_of c.strands) ⊎ HasStep (recalling c k) c.workers (run_of c.strands) → HasStep (setting_in c) c.workers (run_of c.strands)
  step_or e (inl a) = let q : answer_in (recalling c k) c.strands.pieces ≡ Some a.0 = a.1 in absurd cc
  step_or e (inr s) = record { step = s.step; workers = s.workers; next = s.next; taken = s.taken }

pub goes_on : (c : PlainCore) → KeepsRun c.program c.tables c.records c.strands → AreHeldBy c.workers c.strands → GoesOn c
goes_on c h held over some =
    step_or c h.sound (no_answer (recalling c h.sound) c.strands.pieces (right_false c.failed (are_over c.strands.pieces) over))
    (never_stuck (recalling c h.sound) (h.prepared h.sound) c.workers some (run_of c.strands) (h.path h.sound).run (h.path h.sound).reached (h.path h.sound).stands (held some))

-- ---- the strands stay with the workers

pub held_first : (codes : List Code) (kinds : List Kind) (initials : List PlainInitial) (main kits n : ℕ) (s : PlainStrands) → run_of s ≡ first_run codes kinds initials main kits → AreHeldBy n s
held_first codes kinds initials main kits n s is some = subst (λ (r : PlainRun). AreByWorkers n r.pieces) (sym is) (some, tt)

pub held_products : (n : ℕ) (s t : PlainStrands) → AreHeldBy n s → KeepsProducts s t → AreHeldBy n t
held_products n s t h (inl e) some = subst (λ (x : PlainStrands). AreByWorkers n x.pieces) (sym e) (h some)
held_products n s t h (inr u) some =
    refused_by n (run_of s) (run_of t) (record { pieces = u.1; kits = ap (λ (x : PlainStrands). length x.kits) u.0; history = ap (λ (x : PlainStrands). x.history) u.0 }) (h some)

-- until it has failed
stays_by : (failed : Bool) (c : PlainCore) → c.failed ≡ failed → StaysRun failed c.program c.tables c.records c.workers c.strands → GoesOn c
stays_by false c e h = goes_on c h.0 h.1
stays_by true c e h = λ over. absurd cc

pub stays_on : (c : PlainCore) → StaysRun c.failed c.program c.tables c.records c.workers c.strands → GoesOn c
stays_on c h = stays_by c.failed c refl h
