use Rattle.std.proofs.Common.{rules, ◌≡◌, false, refl, reverse, subst}
use Rattle.linked_program.specs.CodeView.{memo_of}
use Rattle.positions.specs.declared.work.Work.TheVariants.{Block, Halves}
use Rattle.positions.specs.declared.phase.Phase.TheVariants.{Entering, Running}
use Rattle.positions.specs.Strands.{PlainStrand}
use Rattle.positions.specs.Advance.{in_phase}
use Rattle.activations.specs.Given.{lent}
use Rattle.running_ahead.specs.Ahead.{IsAhead}
use Rattle.running_ahead.proofs.Paths.{begin_ahead, half_ahead}
use Rattle.running_ahead.proofs.ahead.enter_alone.Goals as goal

pub returns-else-is_memo : goal.returns-else-is_memo
returns-else-is_memo g c =
    let work : c.args.machine.now.top.work ≡ Block c.in-Block.field-0 = search rules in
    let memo : memo_of c.args.setting.program.now.codes c.args.machine.now.top.procedure ≡ false = search rules in
    record { ahead = begin_ahead (lent c.args.setting) c.in-Block.field-0 c.args.machine.now c.begin.new.self c.requires.entering work memo c.begin.ensures.begun }

pub returns-in-Halves : goal.returns-in-Halves
returns-in-Halves g c =
    let s : PlainStrand = record { start = c.machine.inside.start; layer = c.machine.inside.layer; lower = reverse c.machine.inside.lower.items; path = c.machine.inside.path.items; top = c.machine.inside.top; below = reverse c.machine.inside.below.items; phase = c.machine.inside.phase; arguments = c.machine.inside.arguments.items; tally = c.machine.inside.tally } in
    let phase : s.phase ≡ Entering = search rules in
    let work : s.top.work ≡ Halves c.in-Halves.field-0 c.in-Halves.field-1 c.in-Halves.field-2 = search rules in
    let half : IsAhead (lent c.args.setting) s (in_phase Running s) = half_ahead (lent c.args.setting) c.in-Halves.field-0 c.in-Halves.field-1 c.in-Halves.field-2 s (in_phase Running s) phase work refl in
    record { ahead = subst (λ (z : PlainStrand). IsAhead (lent c.args.setting) z (in_phase Running s)) c.machine.view_is half }
