-- Instances of a procedure that calls itself, in whatever strand: what is found of them with nothing noted but that they were entered.
use Rattle.std.specs.Prelude.{◌≡◌, ◌++◌, ◌∷◌, [], ◌-◌, ◌<◌, ◌==◌, ℕ, ℤ, pos, Bool, true, false, List, Option, Some, None, length, min, if◌then◌else◌}
use Rattle.meaning.specs.declared.tree.Way.{Way}
use Rattle.meaning.specs.declared.tree.Way.TheVariants.{Call}
use Rattle.meaning.specs.Elision.{depth_limit}
use Rattle.meaning.specs.Tables.{Tables}
use Rattle.linked_program.specs.declared.code.Code.{Code}
use Rattle.linked_program.specs.declared.code.Instruction.{Instruction}
use Rattle.linked_program.specs.declared.code.Operation.{Operation}
use Rattle.linked_program.specs.declared.code.Operation.TheVariants as o
use Rattle.linked_program.specs.Checked.{PlainChecked}
use Rattle.linked_program.specs.CodeView.{expression}
use Rattle.linked_program.specs.Linked.{Linked}
use Rattle.evaluation.specs.declared.slot.Slot.{Slot}
use Rattle.evaluation.specs.declared.slot.Slot.TheVariants.{Has}
use Rattle.evaluation.specs.Slots.{slots_for}
use Rattle.evaluation.specs.Values.{value_at, values_at, pure}
use Rattle.record_theory.specs.Record.{PlainRecord}
use Rattle.positions.specs.declared.phase.Phase.TheVariants.{Running, Returning}
use Rattle.positions.specs.declared.work.Position.{Position}
use Rattle.positions.specs.declared.work.Work.TheVariants.{Block}
use Rattle.positions.specs.Activations.{PlainActivation, next_of, first_of, made}
use Rattle.positions.specs.Code.{instruction_inside}
use Rattle.positions.specs.Layers.{PlainLayer, entering}
use Rattle.positions.specs.Setting.{Setting, setting_with}
use Rattle.positions.specs.Strands.{PlainStrand}
use Rattle.own_statements.specs.Paths.{IsPath, MayPass, topped}
use Rattle.own_statements.specs.declared.recursion.Found.{Found}
use Rattle.own_statements.specs.declared.recursion.Found.TheVariants.{Nothing, Next, Gave}

-- instances of a procedure were entered, one of them with so many levels below it and none with fewer
abbrev pub deep : ℕ → ℕ → PlainLayer → PlainLayer
deep f least l = entering f (depth_limit - least) l

-- an instance of a procedure in its body
abbrev pub standing : ℕ → ℕ → List Slot → Position → ℕ → Bool → Option ℕ → PlainActivation
standing f left slots p children spawned into =
    record { left = left; children = children; procedure = f; slots = slots; outer = []; work = Block p; spawned = spawned; into = into }

-- an instance of a procedure that begins
abbrev pub begun : ℕ → ℕ → List Slot → PlainActivation
begun f left slots = made f slots (Block (first_of 0)) left

-- from that instance over that layer small steps lead to that value over another layer
pub record Gives (setting : Setting) (a : PlainActivation) (l : PlainLayer) (v : ℤ) (m : PlainLayer) : Type 0 where
  pub last : PlainActivation
  pub way : (s : PlainStrand) → MayPass true s → IsPath setting (topped Running a l s) (topped (Returning v) last m s)

-- and to that position of the body, with those slots
pub record Comes (setting : Setting) (a : PlainActivation) (l : PlainLayer) (f : ℕ) (slots : List Slot) (p : Position) (m : PlainLayer) : Type 0 where
  pub children : ℕ
  pub spawned : Bool
  pub into : Option ℕ
  pub way : (s : PlainStrand) → MayPass true s
      → IsPath setting (topped Running a l s) (topped Running (standing f a.left slots p children spawned into) m s)

-- ---- statements

-- an operation gives that value back, over whatever is read
abbrev pub GivesOf : Tables → Operation → List Slot → ℤ → Type 0
GivesOf ts (o.Return e) slots v = value_at ts slots (expression e) ≡ pure v
GivesOf ts _ slots v = true ≡ false

abbrev pub ReturnsBy : Tables → Operation → List Slot → Found → Type 0
ReturnsBy ts i slots Nothing = Unit {0}
ReturnsBy ts i slots Next = true ≡ false
ReturnsBy ts i slots (Gave v) = GivesOf ts i slots v

-- the first statement of a block within the body gives that value back
pub record GivesInside (codes : List Code) (ts : Tables) (f block : ℕ) (slots : List Slot) (v : ℤ) : Type 0 where
  pub first : Instruction
  pub found : Some first ≡ instruction_inside codes f 1 (first_of block)
  pub gives : GivesOf ts first.operation slots v

abbrev pub InsideBy : List Code → Tables → ℕ → ℕ → List Slot → Found → Type 0
InsideBy codes ts f block slots Nothing = Unit {0}
InsideBy codes ts f block slots Next = None ≡ instruction_inside codes f 1 (first_of block)
InsideBy codes ts f block slots (Gave v) = GivesInside codes ts f block slots v

-- what is found of the statement of the body at a place
abbrev pub FoundBy : Setting → ℕ → Position → Instruction → List Slot → Found → List Slot → Type 0
FoundBy setting f p i slots Nothing new = Unit {0}
FoundBy setting f p i slots Next new = (left children : ℕ) (spawned : Bool) (into : Option ℕ) (m : PlainLayer) (s : PlainStrand) → MayPass true s
    → Some i ≡ instruction_inside setting.codes f 0 p
    → IsPath setting (topped Running (standing f left slots p children spawned into) m s)
    (topped Running (standing f left new (next_of p) children spawned into) m s)
FoundBy setting f p i slots (Gave v) new = (left children : ℕ) (spawned : Bool) (into : Option ℕ) (m : PlainLayer)
    → Some i ≡ instruction_inside setting.codes f 0 p → Gives setting (standing f left slots p children spawned into) m v m

-- expressions that read nothing have these values
abbrev pub AreValues : List Slot → List Linked → List ℤ → Type 0
AreValues slots [] [] = Unit {0}
AreValues slots [] (v ∷ vs) = true ≡ false
AreValues slots (e ∷ es) [] = true ≡ false
AreValues slots (e ∷ es) (v ∷ vs) = ((all : Tables) → value_at all slots e ≡ pure v) × AreValues slots es vs

-- numbers in the first slots
abbrev pub laid_over : List ℤ → List Slot → List Slot
laid_over [] xs = xs
laid_over (v ∷ vs) [] = []
laid_over (v ∷ vs) (x ∷ xs) = Has v ∷ laid_over vs xs

-- the first slots of an instance that begins have the values of its arguments
pub record IsBegun (slots : List Slot) (es : List Linked) (old new : List Slot) : Type 0 where
  pub numbers : List ℤ
  pub values : AreValues slots es numbers
  pub laid : new ≡ laid_over numbers old

-- an instance with those slots calls one of its own procedure, and that value is found of it
pub record IsCalled (c : PlainChecked) (f left least : ℕ) (slots : List Slot) (way : Way) (callee : ℕ) (es : List Linked) (v : ℤ)
    (after : ℕ) : Type 0 where
  pub call : way ≡ Call
  pub own : callee ≡ f
  pub room : (left == 0) ≡ false
  pub numbers : List ℤ
  pub values : (all : Tables) → values_at all slots es ≡ pure numbers
  pub gives : (tables : Tables) (records : List PlainRecord) (l : PlainLayer)
      → Gives (setting_with c tables [] records) (begun f (left - 1) (slots_for (length slots) numbers))
      (deep f (min least (left - 1)) l) v (deep f after l)
