-- What lies in a strand's box is held as the strand is.
use Rattle.std.proofs.Common.{◌≡◌, Bool, true, false, Result, Ok, Err, OnOk, OnErr, refl, sym, ap, subst, ◌∙◌}
use Rattle.meaning.specs.Schedules.{recording_from}
use Rattle.trail_theory.specs.OpenLayers.{IsNumbered}
use Rattle.strand_theory.specs.Ready.{IsReady}
use Rattle.positions.specs.declared.start.Start.{Start}
use Rattle.positions.specs.Moves.{joined}
use Rattle.positions.specs.Setting.{Setting}
use Rattle.positions.specs.Strands.{PlainStrand}
use Rattle.strand_moves.specs.Joins.{with_worths}
use Rattle.right_strands.specs.Remembering.{Remembers}
use Rattle.right_strands.specs.Rightness.{IsHeld}
use Rattle.right_strands.specs.Pairs.{IsPairFrom}
use Rattle.right_strands.proofs.Joins.{joined_kept}

pub held_there : (setting : Setting) (start start' : Start) (failed failed' : Bool) (s s' : PlainStrand) → start' ≡ start → failed' ≡ failed → s' ≡ s → IsHeld setting start failed s → IsHeld setting start' failed' s'
held_there setting start start' failed failed' s s' a b c h =
    subst (λ st. IsHeld setting st failed' s') (sym a) (subst (λ f. IsHeld setting start f s') (sym b) (subst (λ z. IsHeld setting start failed z) (sym c) h))

-- one behind which its right neighbour was put, or that has failed
pub joined_or_failed : {A E : Type 0} (setting : Setting) (l r s : PlainStrand) (start given now : Start) (old failed : Bool) (res : Result A E)
    → Remembers setting → ((k : Remembers setting) → IsReady setting.program setting.tables (recording_from k.kept)) → IsNumbered setting.program
    → OnOk res (s ≡ joined l r) → OnOk res (now ≡ start) → OnOk res (failed ≡ false) → OnErr res (failed ≡ true) → OnErr res (s ≡ with_worths s.layer.worths l) → IsPairFrom setting start l r → IsHeld setting given old l
    → IsHeld setting now failed s
joined_or_failed setting l r s start given now old failed (Ok a) sound ready numbered is begins going fails kept pair h =
    held_there setting start now false failed s s begins going refl (joined_kept setting l r s start sound ready numbered is pair)
joined_or_failed setting l r s start given now old failed (Err e) sound ready numbered is begins going fails kept pair h = record {
  kinds = ap (λ (z : PlainStrand). z.layer.kinds) kept ∙ h.kinds;
  right = λ n. absurd cc;
  begins = λ n. absurd cc;
}
