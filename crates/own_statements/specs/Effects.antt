-- What a statement comes to by its short form, or by what it does.
use Rattle.std.specs.Prelude.{◌≡◌, ◌⊎◌, ℕ, ℤ, Bool, List, [], ◌∷◌, Option, None, length, slice_get}
use Rattle.monoid_laws.specs.declared.Kind.{Kind}
use Rattle.meaning.specs.Tables.{Tables}
use Rattle.linked_program.specs.declared.code.Target.{Target}
use Rattle.linked_program.specs.declared.code.Target.TheVariants as target
use Rattle.linked_program.specs.CodeView.{HasArity, TakesOne, act_for, chain, expression, instruction_at}
use Rattle.linked_program.specs.Linked.{Linked, Act, Acts, syncs, updates}
use Rattle.evaluation.specs.declared.slot.Slot.{Slot}
use Rattle.evaluation.specs.Values.{applied, pure, value_at, values_at}
use Rattle.positions.specs.declared.work.Position.{Position}
use Rattle.positions.specs.Setting.{Setting}
use Rattle.positions.specs.Activations.{PlainActivation}
use Rattle.positions.specs.Advance.{binding, choosing, combining, giving}
use Rattle.positions.specs.Layers.{PlainLayer}
use Rattle.positions.specs.Strands.{PlainStrand}
use Rattle.own_statements.specs.declared.short_forms.Effect.{Effect}
use Rattle.own_statements.specs.declared.short_forms.Effect.TheVariants as effect
use Rattle.own_statements.specs.declared.short_forms.Value.{Value}
use Rattle.own_statements.specs.declared.short_forms.Value.TheVariants as value
use Rattle.own_statements.specs.declared.statements.Did.{Did}
use Rattle.own_statements.specs.declared.statements.Did.TheVariants as did
use Rattle.own_statements.specs.declared.statements.Chosen.TheVariants as chosen
use Rattle.own_statements.specs.Fills.{Fills, Reads}
use Rattle.own_statements.specs.Paths.{Chooses, Does}

-- ---- values

-- a statement's value, as far as it is known, comes to that number
abbrev pub HasValue : Tables → List Slot → PlainLayer → Value → ℤ → Type 0
HasValue ts slots l value.Later v = ⊥
HasValue ts slots l (value.Found w) v = v ≡ w
HasValue ts slots l (value.Joined x y op) v = applied op x y ≡ pure v
HasValue ts slots l (value.Chained c) v = Fills (value_at ts slots (chain c.now)) v l l
HasValue ts slots l (value.Of x) v = Fills (value_at ts slots (expression x.now)) v l l

-- where it comes to a number, that is the value of the expression, and nothing is to be noted for it
abbrev pub Finds : Tables → List Slot → PlainLayer → Value → Linked → Type 0
Finds ts slots l w e = (v : ℤ) → HasValue ts slots l w v → Fills (value_at ts slots e) v l l

-- the same of a part of an expression, where readings are kept and where they are not
abbrev pub IsPart : Bool → Tables → List Slot → Value → Linked → Type 0
IsPart keeps ts slots value.Later e = Unit {0}
IsPart keeps ts slots (value.Found v) e = Reads keeps (value_at ts slots e) v
IsPart keeps ts slots (value.Joined x y op) e = (v : ℤ) → applied op x y ≡ pure v → Reads keeps (value_at ts slots e) v
IsPart keeps ts slots (value.Chained c) e = Unit {0}
IsPart keeps ts slots (value.Of x) e = Unit {0}

-- ---- what is done

-- one number is combined with a reducer's value
abbrev pub combining_one : Option Kind → ℕ → Position → ℕ → ℤ → PlainStrand → PlainStrand
combining_one kind n p r v = combining kind n p r (v ∷ [])

-- what is done with a value by what it means, for the statement of a number at a position
abbrev pub goes_on : List Kind → ℕ → Position → Target → ℤ → PlainStrand → PlainStrand
goes_on kinds n p (target.Slot x) = binding p x
goes_on kinds n p (target.Blocks b c) = choosing p b c
goes_on kinds n p target.Back = giving
goes_on kinds n p (target.Update r) = combining_one (slice_get kinds r) n p r

-- it updates a reducer by as many values as that takes, which are these numbers and read nothing
abbrev pub UpdatesBy : List Kind → Tables → List Slot → Act → ℕ → List ℤ → Type 0
UpdatesBy kinds ts slots act r vs = (es : List Linked) × (act ≡ updates r es) × (values_at ts slots es ≡ pure vs) × HasArity (length vs) (slice_get kinds r)

-- something is done with a value; a reducer that is updated by it takes one
abbrev pub HasTarget : List Kind → (ℕ → Acts) → Tables → List Slot → PlainLayer → Act → Value → Target → Type 0
HasTarget kinds inner ts slots l act w t = (e : Linked) × (act ≡ act_for inner e t) × Finds ts slots l w e × TakesOne kinds t

abbrev pub IsEffect : List Kind → (ℕ → Acts) → Tables → List Slot → PlainLayer → Act → Effect → Type 0
IsEffect kinds inner ts slots l act effect.Other = Unit {0}
IsEffect kinds inner ts slots l act effect.Sync = act ≡ syncs
IsEffect kinds inner ts slots l act effect.Later = Unit {0}
IsEffect kinds inner ts slots l act (effect.One r v) = HasTarget kinds inner ts slots l act (value.Found v) (target.Update r)
IsEffect kinds inner ts slots l act (effect.Two r v w) = UpdatesBy kinds ts slots act r (v ∷ w ∷ [])
IsEffect kinds inner ts slots l act (effect.Value w t) = HasTarget kinds inner ts slots l act w t

-- the second block of a choice, in which there is nothing, is passed by
abbrev pub PassesBy : Setting → Bool → Position → (Bool → PlainStrand → PlainStrand) → PlainActivation → PlainLayer → PlainActivation → PlainLayer → Type 0
PassesBy setting passes p meaning a l b m =
    (second : ℕ) × (instruction_at setting.codes a.procedure second 0 ≡ None)
    × Chooses passes p second meaning a l chosen.Passed b m

-- what was done of the statement at a place, with that meaning; where the next one of the block is next, its second block may have been passed by
abbrev pub Comes : Setting → Bool → Position → (Bool → PlainStrand → PlainStrand) → PlainActivation → PlainLayer → Did → PlainActivation → PlainLayer → Type 0
Comes setting passes p meaning a l did.Nothing b m = Does passes p meaning a l did.Nothing b m
Comes setting passes p meaning a l did.Next b m = Does passes p meaning a l did.Next b m ⊎ PassesBy setting passes p meaning a l b m
Comes setting passes p meaning a l did.Moved b m = Does passes p meaning a l did.Moved b m
Comes setting passes p meaning a l (did.Gave v) b m = Does passes p meaning a l (did.Gave v) b m
