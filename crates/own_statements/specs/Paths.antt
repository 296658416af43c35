-- Many small steps of a strand for which it doesn't matter whether a kit is free.
use Rattle.std.specs.Prelude.{◌≡◌, ◌≤◌, ◌++◌, ◌∷◌, [], ℕ, zero, suc, ℤ, Bool, true, false, List, Option, Some, None, length, slice_get}
use Rattle.monoid_laws.specs.declared.Kind.{Kind}
use Rattle.monoid_laws.specs.Kinds.{names_element, arity}
use Rattle.positions.specs.declared.phase.Phase.{Phase}
use Rattle.positions.specs.declared.phase.Phase.TheVariants.{Running, Returning}
use Rattle.positions.specs.Setting.{Setting}
use Rattle.positions.specs.declared.work.Position.{Position}
use Rattle.positions.specs.declared.work.Work.TheVariants.{Block}
use Rattle.positions.specs.Activations.{PlainActivation, at, next_of, inside}
use Rattle.positions.specs.Layers.{PlainLayer, updating}
use Rattle.positions.specs.Strands.{PlainStrand, is_entry, entry_by}
use Rattle.positions.specs.Tallies.{is_own}
use Rattle.positions.specs.Advance.{advanced}
use Rattle.own_statements.specs.declared.statements.Did.{Did}
use Rattle.own_statements.specs.declared.statements.Did.TheVariants.{Nothing, Next, Moved, Gave}
use Rattle.own_statements.specs.declared.statements.Chosen.{Chosen}
use Rattle.own_statements.specs.declared.statements.Chosen.TheVariants as chosen

-- one small step, with a free kit as without one
abbrev pub IsNext : Setting → PlainStrand → PlainStrand → Type 0
IsNext setting s t = (kit : Bool) → t ≡ advanced setting kit s

-- such small steps lead from the one to the other
pub data IsPath (setting : Setting) (s : PlainStrand) : PlainStrand → Type 0 where
  here : IsPath setting s s
  on : (t u : PlainStrand) → IsPath setting s t → IsNext setting t u → IsPath setting s u

-- ---- an instance that runs over a layer, in whatever strand

-- a strand with that topmost instance and that topmost layer, at a phase
abbrev pub topped : Phase → PlainActivation → PlainLayer → PlainStrand → PlainStrand
topped phase a l s = record s { top = a; layer = l; phase = phase }

-- it goes on, or gives a value back
abbrev pub phase_by : Option ℤ → Phase
phase_by None = Running
phase_by (Some v) = Returning v

-- no instance above the topmost one begins the strand or owns the topmost layer
pub record HasRoomAbove (s : PlainStrand) : Type 0 where
  pub entry : (n : ℕ) (ns : List ℕ) → entry_by s.start (s.path ++ n ∷ ns) ≡ false
  pub own : (n : ℕ) (ns : List ℕ) → is_own s.tally.opened (length (s.path ++ n ∷ ns)) ≡ false

-- syncs may be passed, and others called: the strand begins neither in the topmost instance nor above it
abbrev pub MayPass : Bool → PlainStrand → Type 0
MayPass passes s = passes ≡ true → (is_entry s ≡ false) × HasRoomAbove s

-- the instance comes so far in any strand, where syncs may be passed so
abbrev pub ComesTo : Setting → Bool → PlainActivation → PlainLayer → Option ℤ → PlainActivation → PlainLayer → Type 0
ComesTo setting passes a l given b m = (s : PlainStrand) → MayPass passes s → IsPath setting (topped Running a l s) (topped (phase_by given) b m s)

-- so many instances stand above one, each of which has called the next one and waits for it
abbrev pub stacked : ℕ → PlainActivation → List PlainActivation → PlainLayer → PlainStrand → PlainStrand
stacked zero b xs m s = topped Running b m s
stacked (suc n) b [] m s = topped Running b m s
stacked (suc n) b (x ∷ xs) m s = stacked n x xs m (record s { path = s.path ++ b.children ∷ []; below = b ∷ s.below })

-- the instance comes so far that it waits under so many others, where syncs may be passed so
abbrev pub StopsBy : Setting → Bool → PlainActivation → PlainLayer → ℕ → PlainActivation → List PlainActivation → PlainLayer → Type 0
StopsBy setting passes a l n b xs m = (n ≤ length xs) × ((s : PlainStrand) → MayPass passes s → IsPath setting (topped Running a l s) (stacked n b xs m s))

-- the same procedure, and as many blocks around
abbrev pub IsInBlock : PlainActivation → PlainActivation → Type 0
IsInBlock a b = (b.procedure ≡ a.procedure) × (b.outer ≡ a.outer)

-- where the next statement of the block is next
abbrev pub OnNext : Did → Type 0 → Type 0
OnNext Next P = P
OnNext _ P = Unit {0}

-- what was done of the statement at a place, with that meaning: nothing, or all of it. What the instance has left isn't looked at: it stands at
-- that position, or at the next one
abbrev pub Does : Bool → Position → (Bool → PlainStrand → PlainStrand) → PlainActivation → PlainLayer → Did → PlainActivation → PlainLayer → Type 0
Does passes p meaning a l Nothing b m = (b ≡ a) × (m ≡ l)
Does passes p meaning a l Next b m = (s : PlainStrand) → MayPass passes s → (kit : Bool)
    → topped Running (at (Block (next_of p)) b) m s ≡ meaning kit (topped Running (at (Block p) a) l s)
Does passes p meaning a l Moved b m = (s : PlainStrand) → MayPass passes s → (kit : Bool)
    → topped Running b m s ≡ meaning kit (topped Running (at (Block p) a) l s)
Does passes p meaning a l (Gave v) b m = (s : PlainStrand) → MayPass passes s → (kit : Bool)
    → topped (Returning v) (at (Block p) b) m s ≡ meaning kit (topped Running (at (Block p) a) l s)

-- where the second block is passed by
abbrev pub OnPassed : Chosen → Type 0 → Type 0
OnPassed chosen.Passed P = P
OnPassed _ P = Unit {0}

-- what was done of a choice at a place, with that meaning: nothing; the instance is at the beginning of the second block, which is passed by;
-- or it has gone inside
abbrev pub Chooses : Bool → Position → ℕ → (Bool → PlainStrand → PlainStrand) → PlainActivation → PlainLayer → Chosen → PlainActivation → PlainLayer → Type 0
Chooses passes p second meaning a l chosen.Nothing b m = (b ≡ a) × (m ≡ l)
Chooses passes p second meaning a l chosen.Passed b m = (s : PlainStrand) → MayPass passes s → (kit : Bool)
    → topped Running (inside second p b) m s ≡ meaning kit (topped Running (at (Block p) a) l s)
Chooses passes p second meaning a l chosen.Inside b m = (s : PlainStrand) → MayPass passes s → (kit : Bool)
    → topped Running b m s ≡ meaning kit (topped Running (at (Block p) a) l s)

-- a reducer takes so many numbers
abbrev pub TakesBy : ℕ → Option Kind → Type 0
TakesBy count None = Unit {0}
TakesBy count (Some kind) = count ≡ arity kind

abbrev pub Takes : List Kind → ℕ → ℕ → Type 0
Takes kinds r count = TakesBy count (slice_get kinds r)

-- the element that numbers name is combined with a reducer's value, where there is such a reducer
abbrev pub Combines : Option Kind → ℕ → List ℤ → PlainLayer → PlainLayer → Type 0
Combines None r vs l m = m ≡ l
Combines (Some kind) r vs l m = (names_element kind vs ≡ true) × (m ≡ updating r kind vs l)
