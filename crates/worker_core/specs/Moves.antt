-- What a worker does with the strand that it holds, and how it is laid down.
use Rattle.std.specs.Prelude.{◌≡◌, ℕ, Bool, true, false, List, [], ◌∷◌, length, Option, Some, None, Result, Ok, Err}
use Rattle.monoid_laws.specs.declared.Kind.{Kind}
use Rattle.view_pool.specs.Stock.{Stock}
use Rattle.meaning.specs.Outcome.{Place}
use Rattle.meaning.specs.Strands as strands
use Rattle.positions.specs.Setting.{Setting}
use Rattle.positions.specs.declared.phase.Phase.{Phase}
use Rattle.positions.specs.declared.phase.Paused.{Paused}
use Rattle.positions.specs.declared.phase.Paused.TheVariants as paused
use Rattle.positions.specs.Strands.{PlainTask}
use Rattle.strand_moves.specs.Joins.{HasFault}
use Rattle.small_steps.specs.Steps.{IsValued}
use Rattle.stepped_runs.specs.Pieces.{PlainPiece, Change, worked, pushed, inlined, popped}
use Rattle.numbered_runs.specs.declared.refusal.Refusal.{Refusal}
use Rattle.numbered_runs.specs.declared.refusal.Refusal.TheVariants.{NoMemory}
use Rattle.numbered_runs.specs.declared.step.State.{State}
use Rattle.numbered_runs.specs.declared.step.State.TheVariants as state
use Rattle.worker_core.specs.declared.piece.Move.{Move}
use Rattle.worker_core.specs.declared.piece.Move.TheVariants.{Work, Push, Inline, Pop}

-- what a move makes of the piece
abbrev pub moved : Setting → Move → ℕ → PlainPiece → Result Change Refusal
moved setting Work kits p = worked setting kits p
moved setting Push kits p = pushed kits p
moved setting Inline kits p = inlined kits p
moved setting Pop kits p = popped kits p

-- the moves that take memory
abbrev pub takes_memory : Move → Bool
takes_memory Work = true
takes_memory Push = true
takes_memory Inline = false
takes_memory Pop = false

-- the refusal's cause: that of the definition, or no memory where the step takes some and was to be taken
abbrev pub RefusedAs : {A : Type 0} → Bool → Result A Refusal → Refusal → Type 0
RefusedAs lacks (Err f) e = e ≡ f
RefusedAs true (Ok p) e = e ≡ NoMemory
RefusedAs false (Ok p) e = ⊥

-- a strand that has views of those kinds
abbrev pub IsFit : List Kind → PlainPiece → Type 0
IsFit kinds p = p.strand.layer.kinds ≡ kinds

-- what a refused move leaves of the strand: where memory is refused in a small step its two topmost layers may have other values
abbrev pub LeavesPiece : Move → Refusal → PlainPiece → PlainPiece → Type 0
LeavesPiece Work NoMemory p q = (q ≡ record p { strand = q.strand }) × IsValued p.strand q.strand
LeavesPiece _ _ p q = q ≡ p

-- and of the pool: where memory is refused in a small step there are as many free kits
abbrev pub LeavesPool : Move → Refusal → Stock (List Kind) → Stock (List Kind) → Type 0
LeavesPool Work NoMemory k l = length l.kits ≡ length k.kits
LeavesPool _ _ k l = l ≡ k

-- as what a strand is laid down at a point, with those continuations on the deque
abbrev pub laid_at : Paused → List PlainTask → Option State
laid_at paused.Faulted ks = Some state.Faulted
laid_at paused.AtSync [] = Some state.Stalled
laid_at paused.Returned [] = Some state.Ended
laid_at paused.Finished [] = Some state.Finished
laid_at _ ks = None

-- only a strand with a fault is laid down as faulted
abbrev pub MayLay : State → Phase → Type 0
MayLay state.Faulted ph = HasFault ph
MayLay _ ph = Unit {0}

-- what the history notes where a strand is laid down so
abbrev pub laying_noted : State → Place → strands.BookStep
laying_noted (state.Held w) p = strands.Stall p
laying_noted state.Stalled p = strands.Stall p
laying_noted state.Ended p = strands.End p
laying_noted state.Faulted p = strands.Fault p
laying_noted state.Finished p = strands.Finish p

-- there is a continuation to take
abbrev pub has_tasks : List PlainTask → Bool
has_tasks [] = false
has_tasks (k ∷ ks) = true
