-- Where the definitions have a step, a run of numbers has it.
use Rattle.std.proofs.Common.{◌≡◌, ◌⊎◌, inl, inr, ℕ, ◌<◌, Bool, true, false, not, ◌&&◌, List, [], ◌∷◌, map, Some, None, Result, Ok, Err, refl, sym, ◌∙◌, ap, subst, lt-ltb, eqb-true}
use Rattle.meaning.specs.Strands.{State, Held, Ended, Stalled, holds_by}
use Rattle.meaning.specs.Strands as strands
use Rattle.meaning.specs.Schedules.{RunState, RunStep, fold}
use Rattle.run_theory.specs.Progress.{IsOwnStep, HasEnded, IsTaken, SomeHolderGoesOn, Folds}
use Rattle.run_theory.specs.UnflaggedRuns.{unflagged_piece}
use Rattle.run_theory.proofs.Progress.{some_step_is_there}
use Rattle.run_theory.proofs.UnflaggedRuns.{idle_same}
use Rattle.positions.specs.Setting.{Setting}
use Rattle.numbered_runs.specs.declared.refusal.Refusal.{Refusal}
use Rattle.stepped_runs.specs.Pieces.{PlainPiece}
use Rattle.stepped_runs.specs.Runs.{PlainRun, is_idle, stepped, are_workers}
use Rattle.stepped_runs.specs.Stands.{StandsForUnflagged}
use Rattle.stepped_runs.specs.Simulation.{IsPrepared, IsReached}
use Rattle.stepped_runs.specs.Progress.{IsByWorker, AreByWorkers, HasAnswer, HasStep}
use Rattle.stepped_runs.proofs.Steps.{idle_is, refusals_agree}
use Rattle.stepped_runs.proofs.Ends.{same_answer}

-- a worker that holds a strand is one of them
holder_is : (n v : ℕ) (st : State) → IsByWorker n st → holds_by v st ≡ true → v < n
holder_is n v (Held w) h e = subst (λ u. u < n) (sym (eqb-true v w e)) h
holder_is n v Ended h e = absurd cc
holder_is n v Stalled h e = absurd cc
holder_is n v strands.Faulted h e = absurd cc
holder_is n v strands.Finished h e = absurd cc

some_holder : (n v : ℕ) (b c : Bool) → not b && c ≡ false → (b ≡ true → v < n) → (c ≡ false → v < n) → v < n
some_holder n v true c e h k = h refl
some_holder n v false c e h k = k e

busy_is : (n v : ℕ) (ps : List PlainPiece) → AreByWorkers n ps → is_idle v ps ≡ false → v < n
busy_is n v [] h e = absurd cc
busy_is n v (p ∷ ps) h e = some_holder n v (holds_by v p.state) (is_idle v ps) e (holder_is n v p.state h.0) (busy_is n v ps h.1)

-- a worker's own step is by workers that there are
own_by : (n v : ℕ) (e : RunStep) → v < n → IsOwnStep v e → are_workers n e ≡ true
own_by n v e l (inl q) = ap (are_workers n) q ∙ lt-ltb v n l
own_by n v e l (inr (inl q)) = ap (are_workers n) q ∙ lt-ltb v n l
own_by n v e l (inr (inr (inl q))) = ap (are_workers n) q ∙ lt-ltb v n l
own_by n v e l (inr (inr (inr q))) = ap (are_workers n) q ∙ lt-ltb v n l

module _ (setting : Setting) (prepared : IsPrepared setting) where
  module _ (n : ℕ) (some : 0 < n) (s : PlainRun) (x : RunState) (r : IsReached setting x) (h : StandsForUnflagged setting s x) (by_workers : AreByWorkers n s.pieces) where
    taken_by : (e : RunStep) → are_workers n e ≡ true → IsTaken setting.program setting.tables setting.memory x e → (o : Result PlainRun Refusal) → stepped setting s e ≡ o → HasStep setting n s
    taken_by e a t (Ok next) is = record { step = e; workers = a; next = next; taken = is }
    taken_by e a t (Err f) is =
        let none = refusals_agree setting prepared s e f is x r h in
        let q : None ≡ Some t.0 = sym none ∙ t.1 in
        absurd cc

    takes : (e : RunStep) → are_workers n e ≡ true → IsTaken setting.program setting.tables setting.memory x e → HasStep setting n s
    takes e a t = taken_by e a t (stepped setting s e) refl

    goes : HasEnded x ⊎ SomeHolderGoesOn setting.program setting.tables setting.memory x ⊎ Folds setting.program setting.tables setting.memory 0 x → HasAnswer setting s ⊎ HasStep setting n s
    goes (inl a) = inl (a.0, sym (same_answer setting prepared s x r h) ∙ a.1)
    goes (inr (inl g)) =
        let same = idle_same setting.program setting.tables setting.memory g.0 x.pieces in
        let busy : is_idle g.0 s.pieces ≡ false = sym (idle_is setting g.0 s.pieces (map unflagged_piece x.pieces) h.pieces) ∙ same ∙ g.1 in
        inr (takes g.2.step (own_by n g.0 g.2.step (busy_is n g.0 s.pieces by_workers busy) g.2.own) g.2.taken)
    goes (inr (inr f)) = inr (takes (fold 0 f.place) (lt-ltb 0 n some) f.taken)

    pub never_stuck : HasAnswer setting s ⊎ HasStep setting n s
    never_stuck =
        goes (subst (λ x. HasEnded x ⊎ SomeHolderGoesOn setting.program setting.tables setting.memory x ⊎ Folds setting.program setting.tables setting.memory 0 x) r.is (some_step_is_there setting.program setting.tables setting.memory prepared.ready r.kits r.steps 0))
