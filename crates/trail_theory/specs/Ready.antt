-- The names that a strand's next statement uses: none of them waits for a spawned child.
use Rattle.std.specs.Prelude.{List, [], ◌∷◌, Option, Some, slice_get}
use Rattle.meaning.specs.Tree.{Term, number, name, cell, has as has_row, limit, sum, negate, binary, Deed, bind, enter, read, sync}
use Rattle.meaning.specs.Tree.{update, choose, loop, give, step, Tree}
use Rattle.meaning.specs.Tables.{Tables}
use Rattle.meaning.specs.Outcome.{Accumulators}
use Rattle.meaning.specs.SmallStep.{Slot, waits, Todo, blocks, Phase, running, Lookup}
use Rattle.meaning.specs.LayeredStrand.{LayeredStrand}
use Rattle.trail_theory.specs.Right.{IsRight}

abbrev pub NotWaiting : Option Slot → Type 0
NotWaiting (Some (waits j)) = ⊥
NotWaiting _ = Unit {0}

-- no name that the expression uses waits
abbrev pub IsReadyTerm : List Slot → Term → Type 0
IsReadyTerm env (number n) = Unit {0}
IsReadyTerm env (name x) = NotWaiting (slice_get env x)
IsReadyTerm env (cell t e c) = IsReadyTerm env e
IsReadyTerm env (has_row t e) = IsReadyTerm env e
IsReadyTerm env (limit t) = Unit {0}
IsReadyTerm env (sum t c) = Unit {0}
IsReadyTerm env (negate e) = IsReadyTerm env e
IsReadyTerm env (binary op e f) = IsReadyTerm env e × IsReadyTerm env f

abbrev pub AreReadyTerms : List Slot → List Term → Type 0
AreReadyTerms env [] = Unit {0}
AreReadyTerms env (e ∷ es) = IsReadyTerm env e × AreReadyTerms env es

abbrev pub IsReadyDeed : List Slot → Deed → Type 0
IsReadyDeed env (bind x e) = IsReadyTerm env e
IsReadyDeed env (enter x way f es) = AreReadyTerms env es
IsReadyDeed env (read x r) = Unit {0}
IsReadyDeed env sync = Unit {0}
IsReadyDeed env (update r es) = AreReadyTerms env es
IsReadyDeed env (choose e a b) = IsReadyTerm env e
IsReadyDeed env (loop x e f grain g es) = IsReadyTerm env e × (IsReadyTerm env f × AreReadyTerms env es)
IsReadyDeed env (give e) = IsReadyTerm env e

abbrev pub IsReadyTodo : List Slot → Todo → Type 0
IsReadyTodo env (blocks (step n d b ∷ bs)) = IsReadyDeed env d
IsReadyTodo env _ = Unit {0}

abbrev pub IsReadyPhase : List Slot → Phase → Type 0
IsReadyPhase env (running todo) = IsReadyTodo env todo
IsReadyPhase env _ = Unit {0}

-- a right strand's next statement uses no name that waits
abbrev pub StepsReady : Tree → Tables → Accumulators → Lookup → Type 0
StepsReady program tables sight lookup = (s : LayeredStrand) → IsRight program tables sight lookup s → IsReadyPhase s.frame.env s.phase
