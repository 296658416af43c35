-- Down through the halves of a loop: a strand at one of them, and the strand at its first half and at its second.
use Rattle.std.specs.Prelude.{◌≡◌, ◌≤◌, ℕ, ◌-◌, List, length, drop}
use Rattle.rerun_records.specs.declared.batch.Batch.{Batch}
use Rattle.positions.specs.declared.work.Loop.{Loop}
use Rattle.positions.specs.declared.work.Share.{Share}
use Rattle.positions.specs.declared.work.Work.TheVariants.{Halves}
use Rattle.positions.specs.declared.phase.Phase.TheVariants.{Running}
use Rattle.positions.specs.Setting.{Setting}
use Rattle.positions.specs.Activations.{ShareFits}
use Rattle.positions.specs.Strands.{PlainStrand}
use Rattle.positions.specs.Advance.{split, second_half, right_of}
use Rattle.answered_loops.specs.Answered.{IsInside}
use Rattle.loop_answers.specs.Batches.{HasBatches, first_left}

-- the topmost instance is a loop's that has a half left, which may be halved so many times, and these batches answer its first
-- iterations
pub record IsAtHalf (setting : Setting) (l : Loop) (k : ℕ) (h : Share) (bs : List Batch) (s : PlainStrand) : Type 0 where
  pub running : s.phase ≡ Running
  pub work : s.top.work ≡ Halves l k h
  pub fits : ShareFits l h
  pub inside : IsInside s
  pub answers : HasBatches setting s.layer.keeps l s.top h.first bs

-- its first half is called
abbrev pub left_entered : Loop → ℕ → Share → PlainStrand → PlainStrand
left_entered l k h s = record (split l (k - 1) h s) { phase = Running }

-- its first half is answered, and its second one called
abbrev pub right_entered : Loop → ℕ → Share → List Batch → PlainStrand → PlainStrand
right_entered l k h bs s = second_half l (k - 1) (right_of h) (first_left l (k - 1) h bs s)

-- it is at a half of that share, behind the first n of these batches, from one that may be halved so many times
pub record IsBelow (setting : Setting) (l : Loop) (k : ℕ) (h : Share) (bs : List Batch) (n : ℕ) (s : PlainStrand) : Type 0 where
  pub within : n ≤ length bs
  pub there : IsAtHalf setting l (k - 1) h (drop n bs) s
