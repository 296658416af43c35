-- The steps of a run on several workers, by numbers.
use Rattle.std.specs.Prelude.{ℕ, ◌+◌, ◌-◌, nat_lt, Bool, true, false, cond, not, ◌&&◌, List, [], ◌∷◌, ◌++◌, Result, Ok, Err}
use Rattle.monoid_laws.specs.declared.Kind.{Kind}
use Rattle.meaning.specs.Every.{every}
use Rattle.meaning.specs.Outcome.{Place}
use Rattle.meaning.specs.SmallStep.{same_name}
use Rattle.meaning.specs.Strands.{Held, BookStep, Fold, Line}
use Rattle.meaning.specs.Schedules.{RunStep, work, push, inline, pop, stall, steal, fold}
use Rattle.linked_program.specs.declared.code.Code.{Code}
use Rattle.linked_program.specs.Initials.{PlainInitial}
use Rattle.positions.specs.Setting.{Setting}
use Rattle.positions.specs.Moves.{first_strand}
use Rattle.stepped_runs.specs.Pieces.{PlainPiece, Change, place_of, is_held_by, pushed, inlined, popped, may_fold, folded, worked, stalled, stolen_from}
use Rattle.numbered_runs.specs.declared.refusal.Refusal.{Refusal}
use Rattle.numbered_runs.specs.declared.refusal.Refusal.TheVariants.{Busy, Nothing, NotThere}

-- the pieces in serial order, the number of free kits, the history
pub record PlainRun : Type 0 where
  pub pieces : List PlainPiece
  pub kits : ℕ
  pub history : List BookStep

abbrev pub line_of : PlainPiece → Line
line_of p = (place_of p, p.state)

-- main's strand is held by worker 0, and its kit is taken
abbrev pub first_run : List Code → List Kind → List PlainInitial → ℕ → ℕ → PlainRun
first_run codes kinds initials main kits = record {
  pieces = record { strand = first_strand codes kinds initials main; deque = []; state = Held 0 } ∷ [];
  kits = kits - 1;
  history = [];
}

-- the worker holds nothing
abbrev pub is_idle : ℕ → List PlainPiece → Bool
is_idle w ps = every (λ p. not (is_held_by w p)) ps

abbrev pub among : List PlainPiece → List PlainPiece → List BookStep → Result Change Refusal
    → Result PlainRun Refusal
among before later history (Err e) = Err e
among before later history (Ok c) =
    Ok (record {
      pieces = before ++ (c.pieces ++ later);
      kits = c.kits;
      history = history ++ c.noted;
    })

-- the change, where the worker's strand stands; else that refusal
abbrev pub changed : Refusal → ℕ → (PlainPiece → Result Change Refusal)
    → List PlainPiece → List PlainPiece → List BookStep → Result PlainRun Refusal
changed e w change before [] history = Err e
changed e w change before (p ∷ ps) history =
    cond (is_held_by w p) (among before ps history (change p))
    (changed e w change (before ++ p ∷ []) ps history)

abbrev pub if_idle : Bool → Result PlainRun Refusal → Result PlainRun Refusal
if_idle true s = s
if_idle false s = Err Busy

abbrev pub folded_if : Bool → ℕ → ℕ → List PlainPiece → PlainPiece → PlainPiece → List PlainPiece
    → List BookStep → Result PlainRun Refusal
folded_if false w kits before l r later history = Err NotThere
folded_if true w kits before l r later history =
    Ok (record {
      pieces = before ++ folded w l r ∷ later;
      kits = kits + 1;
      history = history ++ Fold (place_of l) (place_of r) w ∷ [];
    })

-- the right strand begins at that place
abbrev pub folded_at : ℕ → Place → ℕ → List PlainPiece → List PlainPiece → List BookStep
    → Result PlainRun Refusal
folded_at w q kits before (l ∷ r ∷ ps) history =
    cond (same_name (place_of r) q) (folded_if (may_fold l r) w kits before l r ps history)
    (folded_at w q kits (before ++ l ∷ []) (r ∷ ps) history)
folded_at w q kits before _ history = Err NotThere

module _ (setting : Setting) where
  -- a step by workers that there are, or why it is refused
  abbrev pub stepped : PlainRun → RunStep → Result PlainRun Refusal
  stepped s (work w) = changed NotThere w (worked setting s.kits) [] s.pieces s.history
  stepped s (push w) = changed NotThere w (pushed s.kits) [] s.pieces s.history
  stepped s (inline w) = changed NotThere w (inlined s.kits) [] s.pieces s.history
  stepped s (pop w) = changed NotThere w (popped s.kits) [] s.pieces s.history
  stepped s (stall w) = changed NotThere w (stalled setting s.kits) [] s.pieces s.history
  stepped s (steal t v) =
      if_idle (is_idle t s.pieces)
      (changed Nothing v (stolen_from setting t s.kits) [] s.pieces s.history)
  stepped s (fold w q) = if_idle (is_idle w s.pieces) (folded_at w q s.kits [] s.pieces s.history)

-- there are so many workers
abbrev pub are_workers : ℕ → RunStep → Bool
are_workers n (work w) = nat_lt w n
are_workers n (push w) = nat_lt w n
are_workers n (inline w) = nat_lt w n
are_workers n (pop w) = nat_lt w n
are_workers n (stall w) = nat_lt w n
are_workers n (steal t v) = nat_lt t n && nat_lt v n
are_workers n (fold w q) = nat_lt w n

-- ---- refused memory

-- after these the run goes on and the step may be taken again
abbrev pub may_be_tried_again : RunStep → Bool
may_be_tried_again (push w) = true
may_be_tried_again (fold w q) = true
may_be_tried_again _ = false
