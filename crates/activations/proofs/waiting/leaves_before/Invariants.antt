use Rattle.std.proofs.Common.{◌≡◌, ◌≤◌, length, drop}
use Rattle.meaning.specs.Trail.{child_of}
use Rattle.activations.specs.Waiting.{leaves_before}
use Rattle.activations.proofs.waiting.leaves_before.Given as goal

abbrev pub invariant-loop-depth : goal.invariant-loop-depth
invariant-loop-depth l =
    (leaves_before (child_of (drop l.depth l.left) l.child) (child_of (drop l.depth l.right) l.other) ≡ leaves_before (child_of l.left l.child) (child_of l.right l.other)) × (l.depth ≤ length l.right)
