-- What records that answer a loop's iterations leave of a strand.
use Rattle.std.specs.Prelude.{◌≡◌, Bool, true, false}
use Rattle.positions.specs.Setting.{Setting}
use Rattle.positions.specs.Strands.{PlainStrand}
use Rattle.answered_loops.specs.Ways.{IsWay}

-- many steps lead from the one to the other, and the layers below the topmost one, the kinds and the records made stay
pub record IsAnsweredAhead (setting : Setting) (s t : PlainStrand) : Type 0 where
  pub way : IsWay setting s t
  pub lower : t.lower ≡ s.lower
  pub kinds : t.layer.kinds ≡ s.layer.kinds
  pub made : t.tally.made ≡ s.tally.made

-- all is as it was but for the topmost layer, whose kinds stay, the arguments and the count of instances that records answered
pub record IsSameButAnswers (s t : PlainStrand) : Type 0 where
  pub is : t ≡ record s { layer = t.layer; arguments = t.arguments; tally = record s.tally { reused = t.tally.reused } }
  pub kinds : t.layer.kinds ≡ s.layer.kinds

-- memory is refused behind some of these steps
pub record IsRefusedAhead (setting : Setting) (s t : PlainStrand) : Type 0 where
  pub between : PlainStrand
  pub ahead : IsAnsweredAhead setting s between
  pub same : IsSameButAnswers between t

-- where that was done, and else
abbrev pub DoneBy : Bool → Type 0 → Type 0 → Type 0
DoneBy true done same = done
DoneBy false done same = same
