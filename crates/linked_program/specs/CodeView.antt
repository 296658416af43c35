-- The plain form of code, and that it is the linked form of a program.
use Rattle.std.specs.Prelude.{◌≡◌, ℕ, zero, suc, Bool, false, List, [], ◌∷◌, Option, Some, None, All, IfSome, map, slice_get, length}
use Rattle.monoid_laws.specs.declared.Kind.{Kind}
use Rattle.monoid_laws.specs.Kinds.{arity}
use Rattle.meaning.specs.Tree.{Body, Proc, Tree}
use Rattle.meaning.specs.declared.tree.Block.{Block}
use Rattle.meaning.specs.declared.tree.Operator.{Operator}
use Rattle.meaning.specs.declared.tree.Operator.TheVariants.{Add, Subtract, Multiply, Divide, Remainder}
use Rattle.meaning.specs.TreeView.{statements}
use Rattle.linked_program.specs.TableNames.{Columned}
use Rattle.linked_program.specs.declared.code.Expression.{Expression}
use Rattle.linked_program.specs.declared.code.Expression.TheVariants as e
use Rattle.linked_program.specs.declared.code.RowCells.{RowCells}
use Rattle.linked_program.specs.declared.code.Operation.{Operation}
use Rattle.linked_program.specs.declared.code.Operation.TheVariants as o
use Rattle.linked_program.specs.declared.code.Target.{Target}
use Rattle.linked_program.specs.declared.code.Target.TheVariants as target
use Rattle.linked_program.specs.declared.code.Start.{Start}
use Rattle.linked_program.specs.declared.code.Start.TheVariants as start
use Rattle.linked_program.specs.declared.code.Link.{Link}
use Rattle.linked_program.specs.declared.code.Link.TheVariants as link
use Rattle.linked_program.specs.declared.code.Chain.{Chain}
use Rattle.linked_program.specs.declared.code.ShortForm.{ShortForm}
use Rattle.linked_program.specs.declared.code.ShortForm.TheVariants as short
use Rattle.linked_program.specs.declared.code.Instruction.{Instruction}
use Rattle.linked_program.specs.declared.code.CodeBlock.{CodeBlock}
use Rattle.linked_program.specs.declared.code.Code.{Code}
use Rattle.linked_program.specs.Linked.{Linked, constant, slot, cell_at, has_at, limit_at, sum_at, minus, joined, Act, binds, enters}
use Rattle.linked_program.specs.Linked.{reads, syncs, updates, chooses, loops, gives, Acts, ends, steps, linked_body, kinds_of}

-- an operator on two cells of one row
abbrev pub on_row : Operator → RowCells → Linked
on_row op c = joined op (cell_at c.table (slot c.slot) c.first) (cell_at c.table (slot c.slot) c.second)

abbrev pub expression : Expression → Linked
expression (e.Number n) = constant n
expression (e.Slot n) = slot n
expression (e.Cell' t p row c) = cell_at t (expression row) c
expression (e.Has' t p row) = has_at t (expression row)
expression (e.Limit t) = limit_at t
expression (e.Sum t c) = sum_at t c
expression (e.Negate' p x) = minus (expression x)
expression (e.Binary' op p x q y) = joined op (expression x) (expression y)
expression (e.SlotCell t x c) = cell_at t (slot x) c
expression (e.Slots op x y) = joined op (slot x) (slot y)
expression (e.SlotAndNumber op x n) = joined op (slot x) (constant n)
expression (e.NumberAndSlot op n x) = joined op (constant n) (slot x)
expression (e.OnRow op cells) = on_row op cells

-- what an operation does, where `inner` is the plain block of a number
abbrev pub act : (ℕ → Acts) → Operation → Act
act inner (o.Bind n x) = binds n (expression x)
act inner (o.Enter n way f xs) = enters n way f (map expression xs.items)
act inner (o.Read n r) = reads n r
act inner o.Sync = syncs
act inner (o.Update r xs) = updates r (map expression xs.items)
act inner (o.If x b c) = chooses (expression x) (inner b) (inner c)
act inner (o.Loop n low high grain f xs) = loops n (expression low) (expression high) grain f (map expression xs.items)
act inner (o.Return x) = gives (expression x)

abbrev pub acts : (ℕ → Acts) → List Instruction → Acts
acts inner [] = ends
acts inner (i ∷ is) = steps i.number (act inner i.operation) (acts inner is)

abbrev pub acts_of : (ℕ → Acts) → Option CodeBlock → Acts
acts_of inner None = ends
acts_of inner (Some b) = acts inner b.instructions.items

-- the plain block of a number, where blocks nest at most so many levels
abbrev pub code_block : List CodeBlock → ℕ → ℕ → Acts
code_block blocks zero n = ends
code_block blocks (suc levels) n = acts_of (code_block blocks levels) (slice_get blocks n)

-- ---- short forms

-- what a chain begins with
abbrev pub beginning : Start → Linked
beginning (start.Slot x) = slot x
beginning (start.Cell t x c) = cell_at t (slot x) c
beginning (start.OnRow op cells) = on_row op cells

-- an operator more, on an expression and a slot or a number
abbrev pub linked_by : Linked → Link → Linked
linked_by e (link.Plus n) = joined Add e (constant n)
linked_by e (link.Minus n) = joined Subtract e (constant n)
linked_by e (link.Times n) = joined Multiply e (constant n)
linked_by e (link.Over n) = joined Divide e (constant n)
linked_by e (link.Modulo n) = joined Remainder e (constant n)
linked_by e (link.NumberRight op n) = joined op e (constant n)
linked_by e (link.NumberLeft op n) = joined op (constant n) e
linked_by e (link.SlotRight op x) = joined op e (slot x)
linked_by e (link.SlotLeft op x) = joined op (slot x) e

-- so many operators more, the first of which is the innermost
abbrev pub chained : Linked → List Link → Linked
chained e [] = e
chained e (k ∷ ks) = chained (linked_by e k) ks

abbrev pub chain : Chain → Linked
chain c = chained (beginning c.start) c.links.items

-- what is done with a value, where `inner` is the plain block of a number
abbrev pub act_for : (ℕ → Acts) → Linked → Target → Act
act_for inner e (target.Slot x) = binds x e
act_for inner e (target.Blocks b c) = chooses e (inner b) (inner c)
act_for inner e target.Back = gives e
act_for inner e (target.Update r) = updates r (e ∷ [])

-- what a statement of that short form does, where `inner` is the plain block of a number
abbrev pub act_by : (ℕ → Acts) → ShortForm → Option Act
act_by inner short.Other = None
act_by inner (short.UpdateSlot r x) = Some (updates r (slot x ∷ []))
act_by inner (short.UpdateNumber r v) = Some (updates r (constant v ∷ []))
act_by inner (short.UpdateSlots r x y) = Some (updates r (slot x ∷ slot y ∷ []))
act_by inner (short.UpdateSlotAndNumber r x v) = Some (updates r (slot x ∷ constant v ∷ []))
act_by inner (short.ReturnSlot x) = Some (gives (slot x))
act_by inner (short.ReturnNumber v) = Some (gives (constant v))
act_by inner (short.Slots t op x y) = Some (act_for inner (joined op (slot x) (slot y)) t)
act_by inner (short.SlotAndNumber t op x v) = Some (act_for inner (joined op (slot x) (constant v)) t)
act_by inner (short.NumberAndSlot t op v x) = Some (act_for inner (joined op (constant v) (slot x)) t)
act_by inner (short.OnRow t op cells) = Some (act_for inner (on_row op cells) t)
act_by inner (short.Cell t table x c) = Some (act_for inner (cell_at table (slot x) c) t)
act_by inner (short.Chain t c) = Some (act_for inner (chain c) t)

-- a reducer that there is takes so many numbers
abbrev pub HasArity : ℕ → Option Kind → Type 0
HasArity count None = ⊥
HasArity count (Some kind) = count ≡ arity kind

-- a reducer that is updated by a value takes one number
abbrev pub TakesOne : List Kind → Target → Type 0
TakesOne kinds (target.Update r) = HasArity 1 (slice_get kinds r)
TakesOne kinds _ = Unit {0}

-- the reducer of a short form takes as many numbers as it has
abbrev pub HasCount : List Kind → ShortForm → Type 0
HasCount kinds (short.UpdateSlot r x) = HasArity 1 (slice_get kinds r)
HasCount kinds (short.UpdateNumber r v) = HasArity 1 (slice_get kinds r)
HasCount kinds (short.UpdateSlots r x y) = HasArity 2 (slice_get kinds r)
HasCount kinds (short.UpdateSlotAndNumber r x v) = HasArity 2 (slice_get kinds r)
HasCount kinds (short.Slots t op x y) = TakesOne kinds t
HasCount kinds (short.SlotAndNumber t op x v) = TakesOne kinds t
HasCount kinds (short.NumberAndSlot t op v x) = TakesOne kinds t
HasCount kinds (short.OnRow t op cells) = TakesOne kinds t
HasCount kinds (short.Cell t table x c) = TakesOne kinds t
HasCount kinds (short.Chain t c) = TakesOne kinds t
HasCount kinds _ = Unit {0}

-- what a short form says of what is done
abbrev pub IsFormOf : List Kind → (ℕ → Acts) → ShortForm → Act → Type 0
IsFormOf kinds inner f a = IfSome (act_by inner f) (λ b. a ≡ b) × HasCount kinds f

-- the short form of a statement says what that does
abbrev pub HasShort : List Kind → Instruction → Type 0
HasShort kinds i = (inner : ℕ → Acts) → IsFormOf kinds inner i.short (act inner i.operation)

abbrev pub AreShort : List Kind → List Instruction → Type 0
AreShort kinds is = All (HasShort kinds) is

abbrev pub AreShortBlocks : List Kind → List CodeBlock → Type 0
AreShortBlocks kinds bs = All (λ b. AreShort kinds b.instructions.items) bs

-- ---- the code of a tree

-- block by block
abbrev pub AreBlocksOf : List Columned → Tree → List CodeBlock → List Block → Type 0
AreBlocksOf ts t [] [] = Unit {0}
AreBlocksOf ts t (c ∷ cs) (b ∷ bs) =
    ((inner : ℕ → Body) → acts (λ n. linked_body ts t (inner n)) c.instructions.items
    ≡ linked_body ts t (statements inner b.statements.items)) × AreBlocksOf ts t cs bs
AreBlocksOf _ _ _ _ = ⊥

-- the code is that of the procedure: each number is that of the name, and each short form says what its statement does
pub record IsCodeOf (ts : List Columned) (t : Tree) (c : Code) (p : Proc) : Type 0 where
  pub memo : c.memo ≡ p.memo
  pub slots : c.slots ≡ length p.names
  pub short : AreShortBlocks (kinds_of t) c.blocks.items
  pub body : code_block c.blocks.items (length c.blocks.items) 0 ≡ linked_body ts t p.body

-- the codes are those of the procedures, in their order
abbrev pub AreCodesOf : List Columned → Tree → List Code → List Proc → Type 0
AreCodesOf ts t [] [] = Unit {0}
AreCodesOf ts t (c ∷ cs) (p ∷ ps) = IsCodeOf ts t c p × AreCodesOf ts t cs ps
AreCodesOf _ _ _ _ = ⊥

-- ---- places in the codes of a program

abbrev pub slots_in : Option Code → ℕ
slots_in None = 0
slots_in (Some c) = c.slots

-- how many slots the procedure of a number has; none where there is no such procedure
abbrev pub slots_of : List Code → ℕ → ℕ
slots_of codes p = slots_in (slice_get codes p)

abbrev pub memo_in : Option Code → Bool
memo_in None = false
memo_in (Some c) = c.memo

-- whether the instances of the procedure of a number are recorded
abbrev pub memo_of : List Code → ℕ → Bool
memo_of codes p = memo_in (slice_get codes p)

abbrev pub blocks_in : Option Code → List CodeBlock
blocks_in None = []
blocks_in (Some c) = c.blocks.items

abbrev pub instructions_in : Option CodeBlock → List Instruction
instructions_in None = []
instructions_in (Some b) = b.instructions.items

-- the statement at a place of a block of a procedure, each counted from 0
abbrev pub instruction_at : List Code → ℕ → ℕ → ℕ → Option Instruction
instruction_at codes p b i = slice_get (instructions_in (slice_get (blocks_in (slice_get codes p)) b)) i
