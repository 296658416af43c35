-- The short form beside a statement that was found at a place.
use Rattle.std.proofs.Common.{◌≡◌, ℕ, Bool, true, false, List, Option, Some, None, IfSome, if◌then◌else◌, length, nat_lt, sym, subst}
use Rattle.monoid_laws.specs.declared.Kind.{Kind}
use Rattle.linked_program.specs.declared.code.Code.{Code}
use Rattle.linked_program.specs.declared.code.Instruction.{Instruction}
use Rattle.linked_program.specs.CodeView.{HasShort, instruction_at}
use Rattle.positions.specs.declared.work.Position.{Position}
use Rattle.positions.specs.Code.{instruction_inside, blocks_at}

found_where : (kinds : List Kind) (b : Bool) (o : Option Instruction) (i : Instruction) → Some i ≡ (if b then o else None) → IfSome o (HasShort kinds) → HasShort kinds i
found_where kinds true o i e h = subst (λ (x : Option Instruction). IfSome x (HasShort kinds)) (sym e) h
found_where kinds false o i e h = absurd cc

pub short_beside : (kinds : List Kind) (codes : List Code) (f depth : ℕ) (p : Position) (i : Instruction) → ((g b n : ℕ) → IfSome (instruction_at codes g b n) (HasShort kinds))
    → Some i ≡ instruction_inside codes f depth p → HasShort kinds i
short_beside kinds codes f depth p i all found =
    found_where kinds (nat_lt depth (length (blocks_at codes f))) (instruction_at codes f p.block p.index) i found (all f p.block p.index)
