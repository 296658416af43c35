-- What a small step is for who asks for it: with a free kit, or with none.
use Rattle.std.specs.Prelude.{◌≡◌, ℕ, suc, ◌+◌, ◌-◌, ◌≤◌, ◌==◌, if◌then◌else◌, Bool, true, false, List, [], ◌∷◌, length, Option, All}
use Rattle.meaning.specs.declared.tree.Way.{Way}
use Rattle.meaning.specs.declared.tree.Way.TheVariants.{Call, Spawn}
use Rattle.monoid_laws.specs.declared.Kind.{Kind}
use Rattle.monoid_laws.specs.Kinds.{IsMonoid}
use Rattle.record_theory.specs.Record.{PlainRecord}
use Rattle.record_theory.specs.Named.{HaveValues}
use Rattle.meaning.specs.declared.FaultKind.TheVariants.{TooDeep}
use Rattle.evaluation.specs.declared.slot.Slot.{Slot}
use Rattle.positions.specs.declared.work.Work.{Work}
use Rattle.positions.specs.declared.phase.Phase.TheVariants.{Entering, Running, AtSpawn}
use Rattle.positions.specs.Setting.{Setting}
use Rattle.positions.specs.Activations.{PlainActivation}
use Rattle.positions.specs.Layers.{PlainLayer, blank}
use Rattle.positions.specs.Tallies.{opening}
use Rattle.positions.specs.Strands.{PlainStrand, shorter, IsLayered}
use Rattle.positions.specs.Advance.{begun, child_of, pushed, faulted, opened_of, reused, started}
use Rattle.positions.specs.Moves.{inlined}
use Rattle.positions.specs.Simulation.{IsSmallStep, KitsFollow}
use Rattle.view_pool.specs.declared.pool.KitSource.{Ghosts as Source}
use Rattle.activations.specs.declared.setting.Setting.{Setting as Lent}

-- a source has no kit to give
abbrev pub GivesNone : {S : Type 0} → (List Kind → S → Type 0) → S → Type 0
GivesNone gives kits = (k : List Kind) → gives k kits → ⊥

-- it holds of a step with a free kit or of one without: of one with a free kit where the source doesn't lack any, and of one without where it has none
pub record HoldsBy (lacks none : Type 0) (P : Bool → Type 0) : Type 0 where
  pub kit : Bool
  pub done : P kit
  pub with_kit : (lacks → ⊥) → P true
  pub without_kit : none → P false

-- the step of the definitions, and as many kits
pub record IsStepOf (setting : Setting) (kit : Bool) (old new : PlainStrand) : Type 0 where
  pub step : IsSmallStep setting kit old new
  pub kits : KitsFollow setting kit old new

-- ---- pieces of steps

-- the topmost instance with a layer of its own, whose reducers are of these kinds, for a program of so many procedures
abbrev pub opened_in : List Kind → ℕ → PlainStrand → PlainStrand
opened_in kinds procedures s = begun (record s { layer = blank true kinds procedures; lower = s.layer ∷ s.lower; tally = opening (opened_of s) s.tally })

-- a child of a procedure that isn't marked memo is called or spawned
abbrev pub entered_plain : Way → Option ℕ → Work → ℕ → List Slot → PlainStrand → PlainStrand
entered_plain Call into w f slots s = begun (pushed (child_of f slots s) false into w Entering s)
entered_plain Spawn into w f slots s = pushed (child_of f slots s) true into w AtSpawn s

abbrev pub nested_plain : ℕ → Way → Option ℕ → Work → ℕ → List Slot → PlainStrand → PlainStrand
nested_plain n way into w f slots s = (if s.top.left == 0 then faulted n TooDeep s else entered_plain way into w f slots s)

-- a called child taken away again: the instance under it is as it was, with that left, and with that of the child before
abbrev pub took_back : List PlainActivation → Bool → Option ℕ → Work → PlainStrand → PlainStrand
took_back [] spawned into w s = s
took_back (p ∷ rest) spawned into w s =
    record s { path = shorter s.path; top = record p { children = p.children - 1; work = w; spawned = spawned; into = into }; below = rest; phase = Running }

-- a record answers a spawned child, as if that were called
pub record IsAnsweredCall (setting : Setting) (s t : PlainStrand) : Type 0 where
  pub by : PlainRecord
  pub is : t ≡ reused by s
  pub next : (kit : Bool) → t ≡ started setting kit (inlined s)

-- ---- what a strand keeps

-- each layer has the kinds of the topmost one, which the records made fit, and without a fault there is one more than there are open instances
pub record IsWhole (s : PlainStrand) : Type 0 where
  pub layered : IsLayered s
  pub kinds : All (λ l. l.kinds ≡ s.layer.kinds) s.lower
  pub made : HaveValues s.layer.kinds s.tally.made

-- ---- where memory is refused

abbrev pub revalued : PlainLayer → PlainLayer → PlainLayer
revalued old new = record old { worths = new.worths }

abbrev pub revalued_first : List PlainLayer → List PlainLayer → List PlainLayer
revalued_first [] ms = []
revalued_first (l ∷ ls) [] = l ∷ ls
revalued_first (l ∷ ls) (m ∷ ms) = revalued l m ∷ ls

-- all is as it was but for the values of the two topmost layers
abbrev pub IsValued : PlainStrand → PlainStrand → Type 0
IsValued old new = new ≡ record old { layer = revalued old.layer new.layer; lower = revalued_first old.lower new.lower }

-- ---- kits

module _ {S : Type 0} (fits gives : List Kind → S → Type 0) (free total : S → ℕ) (kinds : List Kind) where
  -- what a step needs of a strand whose layers have these kinds and are these, and of the source of kits
  pub record IsSupplied (kits : S) (records : List PlainRecord) (topmost : List Kind) (lower : List PlainLayer) : Type 0 where
    pub kinds_are : topmost ≡ kinds
    pub below : All (λ l. l.kinds ≡ kinds) lower
    pub monoids : All IsMonoid kinds
    pub values : HaveValues kinds records
    pub given : (k : List Kind) → gives k kits → k ≡ kinds
    pub home : fits kinds kits

  -- no kit is lost, where there is room for all of them: it is in a layer, or free
  pub record KeepsKits (old new : S) (before after : List PlainLayer) : Type 0 where
    pub count : suc (length before) + free old ≤ total old → length after + free new ≡ length before + free old
    pub all : total new ≡ total old
    pub fitting : (k : List Kind) → fits k old → fits k new
    pub given : (k : List Kind) → gives k new → k ≡ kinds

-- the source has what a step of the strand needs, in that setting
abbrev pub IsSuppliedBy : {S : Type 0} → Source S (List Kind) → Lent → S → PlainStrand → Type 0
IsSuppliedBy source setting kits s =
    IsSupplied source.fits source.gives source.free source.total setting.program.now.kinds kits setting.records.now s.layer.kinds s.lower

-- it holds of a step with a free kit of that source or of one without, by what the source says of itself
abbrev pub HoldsFor : {S : Type 0} → Source S (List Kind) → S → (Bool → Type 0) → Type 0
HoldsFor source kits P = HoldsBy (source.lacks kits) (GivesNone source.gives kits) P

-- from the strand before a step to that after it no kit is lost
abbrev pub KeepsAllKits : {S : Type 0} → Source S (List Kind) → List Kind → S → S → PlainStrand → PlainStrand → Type 0
KeepsAllKits source kinds old new s t = KeepsKits source.fits source.gives source.free source.total kinds old new s.lower t.lower
