-- The statement at a place of the code is that at the place of the tree.
use Rattle.std.proofs.Common.{◌≡◌, ℕ, zero, suc, ◌+◌, ◌-◌, ◌<◌, ◌≤◌, Bool, true, false, if◌then◌else◌, List, [], ◌∷◌, length, Option, Some, None, refl, sym, ◌∙◌, ap, subst, arith}
use Rattle.std.specs.Prelude.{nat_lt, slice_get}
use Rattle.std.proofs.lemmas.Bool.Decides.{nat_tests}
use Rattle.meaning.specs.Tree.{Deed, Body, end, step, Proc}
use Rattle.meaning.specs.Statements.{found, proc_of}
use Rattle.linked_program.specs.declared.code.Instruction.{Instruction}
use Rattle.linked_program.specs.declared.code.CodeBlock.{CodeBlock}
use Rattle.linked_program.specs.declared.code.Code.{Code}
use Rattle.linked_program.specs.Procedures.{procedures}
use Rattle.linked_program.specs.Linked.{Acts, ends, steps, procedure_number, linked_deed, linked_body}
use Rattle.linked_program.specs.CodeView.{act, acts, acts_of, code_block, AreCodesOf, instructions_in, blocks_in, memo_in, memo_of, slots_in, slots_of}
use Rattle.linked_program.proofs.Numbers.{procedure_is}
use Rattle.positions.specs.declared.work.Position.{Position}
use Rattle.positions.specs.Activations.{next_of, first_of}
use Rattle.positions.specs.Setting.{Setting}
use Rattle.positions.specs.Code.{blocks_at, instruction_inside}
use Rattle.positions.specs.Stands.{acts_from, acts_at, procedure_at}

-- an instruction and what follows it, or nothing
abbrev pub before : (ℕ → Acts) → Option Instruction → Acts → Acts
before inner None later = ends
before inner (Some i) later = steps i.number (act inner i.operation) later

nothing_from : (k : ℕ) → acts_from k ends ≡ ends
nothing_from zero = refl
nothing_from (suc k) = refl

acts_next : (inner : ℕ → Acts) (is : List Instruction) (k : ℕ) → acts_from k (acts inner is) ≡ before inner (slice_get is k) (acts_from (suc k) (acts inner is))
acts_next inner [] zero = refl
acts_next inner [] (suc k) = refl
acts_next inner (i ∷ is) zero = refl
acts_next inner (i ∷ is) (suc k) = acts_next inner is k

block_next : (inner : ℕ → Acts) (b : Option CodeBlock) (k : ℕ) → acts_from k (acts_of inner b) ≡ before inner (slice_get (instructions_in b) k) (acts_from (suc k) (acts_of inner b))
block_next inner None k = acts_next inner [] k
block_next inner (Some b) k = acts_next inner b.instructions.items k

at_level : (blocks : List CodeBlock) (depth b k : ℕ) (c : Bool) → nat_lt depth (length blocks) ≡ c
    → acts_from k (code_block blocks (length blocks - depth) b)
    ≡ before (code_block blocks (length blocks - suc depth)) (if c then slice_get (instructions_in (slice_get blocks b)) k else None) (acts_from (suc k) (code_block blocks (length blocks - depth) b))
at_level blocks depth b k true e =
    let less : depth < length blocks = grind (arith, nat_tests) in
    let one : length blocks - depth ≡ suc (length blocks - suc depth) = omega arith in
    subst (λ n. acts_from k (code_block blocks n b) ≡ before (code_block blocks (length blocks - suc depth)) (slice_get (instructions_in (slice_get blocks b)) k) (acts_from (suc k) (code_block blocks n b))) (sym one)
    (block_next (code_block blocks (length blocks - suc depth)) (slice_get blocks b) k)
at_level blocks depth b k false e =
    let more : length blocks ≤ depth = grind (arith, nat_tests) in
    let none : length blocks - depth ≡ 0 = omega arith in
    subst (λ n. acts_from k (code_block blocks n b) ≡ ends) (sym none) (nothing_from k)

module _ (setting : Setting) where
  -- a statement and what follows it
  pub record Next (inner : ℕ → Acts) (i : Instruction) (here : Body) (later : Acts) : Type 0 where
    pub deed : Deed
    pub rest : Body
    pub is_step : here ≡ step i.number deed rest
    pub does : linked_deed setting.names setting.program.tree deed ≡ act inner i.operation
    pub follows : linked_body setting.names setting.program.tree rest ≡ later

  abbrev pub AtPlace : (ℕ → Acts) → Option Instruction → Body → Acts → Type 0
  AtPlace inner None here later = here ≡ end
  AtPlace inner (Some i) here later = Next inner i here later

  linked_before : (inner : ℕ → Acts) (i : Option Instruction) (here : Body) (later : Acts) → linked_body setting.names setting.program.tree here ≡ before inner i later → AtPlace inner i here later
  linked_before inner None end later e = refl
  linked_before inner None (step n d b) later e = absurd cc
  linked_before inner (Some i) end later e = absurd cc
  linked_before inner (Some i) (step n d b) later e =
      let number : n ≡ i.number = cc in
      record { deed = d; rest = b; is_step = ap (λ m. step m d b) number; does = cc; follows = cc }

  -- the statement at a place with so many blocks around it; an `if` leads to the beginning of a block one deeper
  pub at_place : (p depth : ℕ) (q : Position) (here : Body) → linked_body setting.names setting.program.tree here ≡ acts_at setting p depth q
      → AtPlace (λ n. acts_at setting p (suc depth) (first_of n)) (instruction_inside setting.codes p depth q) here (acts_at setting p depth (next_of q))
  at_place p depth q here e =
      linked_before (λ n. acts_at setting p (suc depth) (first_of n)) (instruction_inside setting.codes p depth q) here (acts_at setting p depth (next_of q))
      (e ∙ at_level (blocks_at setting.codes p) depth q.block q.index (nat_lt depth (length (blocks_at setting.codes p))) refl
      ∙ ap (λ k. before (code_block (blocks_at setting.codes p) (length (blocks_at setting.codes p) - suc depth)) (instruction_inside setting.codes p depth q) (acts_from k (code_block (blocks_at setting.codes p) (length (blocks_at setting.codes p) - depth) q.block))) (let e : suc q.index ≡ q.index + 1 = omega arith in e))

  -- ---- procedures

  -- the code of the procedure of a number
  pub record IsCoded (c : Option Code) (p : Option Proc) : Type 0 where
    pub memo : memo_in c ≡ (found p).memo
    pub slots : slots_in c ≡ length (found p).names
    pub body : linked_body setting.names setting.program.tree (found p).body ≡ code_block (blocks_in c) (length (blocks_in c)) 0

  coded : (cs : List Code) (ps : List Proc) (q : ℕ) → AreCodesOf setting.names setting.program.tree cs ps → IsCoded (slice_get cs q) (slice_get ps q)
  coded [] [] zero h = record { memo = refl; slots = refl; body = refl }
  coded [] [] (suc q) h = record { memo = refl; slots = refl; body = refl }
  coded [] (p ∷ ps) q h = absurd h
  coded (c ∷ cs) [] q h = absurd h
  coded (c ∷ cs) (p ∷ ps) zero h = record { memo = h.0.memo; slots = h.0.slots; body = sym h.0.body }
  coded (c ∷ cs) (p ∷ ps) (suc q) h = coded cs ps q h.1

  module _ (linked : AreCodesOf setting.names setting.program.tree setting.codes (procedures setting.program.tree)) where
    pub memo_at : (q : ℕ) → memo_of setting.codes q ≡ (procedure_at setting q).memo
    memo_at q = (coded setting.codes (procedures setting.program.tree) q linked).memo

    pub slots_at : (q : ℕ) → slots_of setting.codes q ≡ length (procedure_at setting q).names
    slots_at q = (coded setting.codes (procedures setting.program.tree) q linked).slots

    pub body_at : (q : ℕ) → linked_body setting.names setting.program.tree (procedure_at setting q).body ≡ acts_at setting q 0 (first_of 0)
    body_at q =
        (coded setting.codes (procedures setting.program.tree) q linked).body
        ∙ ap (λ n. code_block (blocks_at setting.codes q) n 0) (let e : length (blocks_at setting.codes q) ≡ length (blocks_at setting.codes q) - 0 = omega arith in e)

-- the number of a name leads to the procedure of that name
pub found_at : (setting : Setting) (f : List ℕ) (q : ℕ) → procedure_number (procedures setting.program.tree) f ≡ q → procedure_at setting q ≡ proc_of setting.program.tree f
found_at setting f q e = ap (procedure_at setting) (sym e) ∙ ap found (procedure_is setting.program.tree f)
