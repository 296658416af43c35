-- A spawned child that a record answers.
use Rattle.std.proofs.Common.{◌≡◌, Bool, true, false, Result, Ok, Err, IfOk, OnOk, refl, ap}
use Rattle.positions.specs.declared.phase.Phase.TheVariants.{AtSpawn}
use Rattle.positions.specs.Setting.{Setting}
use Rattle.positions.specs.Strands.{PlainStrand}
use Rattle.positions.specs.Moves.{inlined}
use Rattle.small_steps.specs.Steps.{IsAnsweredCall}
use Rattle.answered_loops.specs.Ways.{here, on, as_call}
use Rattle.loop_answers.specs.Ahead.{IsAnsweredAhead}
use Rattle.loop_answers.proofs.Replays.{answered_same}

module _ (setting : Setting) where
  answered_ahead : (s t : PlainStrand) → s.phase ≡ AtSpawn → IsAnsweredCall setting s t → IsAnsweredAhead setting s t
  answered_ahead s t spawn h = record {
    way = on (inlined s) t (as_call s (inlined s) here spawn refl) h.next;
    lower = ap (λ (z : PlainStrand). z.lower) h.is;
    kinds = ap (λ (z : PlainStrand). z.layer.kinds) h.is;
    made = ap (λ (z : PlainStrand). z.tally.made) h.is;
  }

  pub spawn_over : {E : Type 0} (r : Result Bool E) (s t : PlainStrand) → s.phase ≡ AtSpawn → IfOk r (λ answered. answered ≡ true → IsAnsweredCall setting s t) → IfOk r (λ answered. answered ≡ false → t ≡ s)
      → OnOk r (IsAnsweredAhead setting s t)
  spawn_over (Ok true) s t spawn h same = answered_ahead s t spawn (h refl)
  spawn_over (Ok false) s t spawn h same = answered_same setting s t (same refl)
  spawn_over (Err e) s t spawn h same = tt
