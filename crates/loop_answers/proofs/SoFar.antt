-- What a search has found so far answers the iterations of its loop.
use Rattle.std.proofs.Common.{◌≡◌, ℕ, ◌==◌, Bool, false, true, ℤ, List, [], sym, subst}
use Rattle.evaluation.specs.declared.slot.Slot.{Slot}
use Rattle.linked_program.specs.CodeView.{memo_of}
use Rattle.rerun_records.specs.declared.batch.Batch.{Batch}
use Rattle.positions.specs.declared.work.Loop.{Loop}
use Rattle.positions.specs.Setting.{Setting}
use Rattle.positions.specs.Activations.{PlainActivation}
use Rattle.positions.specs.Code.{PlainLoop, loop_at}
use Rattle.answered_loops.specs.Answered.{IsOfMemo}
use Rattle.loop_answers.specs.Batches.{AreBatches, HasBatches}

pub none_so_far : (S : Setting) (keeps : Bool) (j : PlainLoop) (slots : List Slot) (left : ℕ) (low : ℤ) (i : ℕ) → AreBatches S keeps j slots left low i []
none_so_far S keeps j slots left low i = record { parts = []; sums = tt; answers = tt }

pub has_so_far : (S : Setting) (keeps : Bool) (l : Loop) (a : PlainActivation) (j : PlainLoop) (i : ℕ) (bs qs : List Batch)
    → j ≡ loop_at S.codes a.procedure l → memo_of S.codes j.callee ≡ true → (a.left == 0) ≡ false
    → qs ≡ bs → AreBatches S keeps j a.slots a.left l.low i bs → HasBatches S keeps l a i qs
has_so_far S keeps l a j i bs qs at memo room is found =
    subst (λ (xs : List Batch). HasBatches S keeps l a i xs) (sym is) (record {
      of_memo = subst (λ (k : PlainLoop). IsOfMemo S k a.left) at (record { memo = memo; room = room });
      batches = subst (λ (k : PlainLoop). AreBatches S keeps k a.slots a.left l.low i bs) at found;
    })
