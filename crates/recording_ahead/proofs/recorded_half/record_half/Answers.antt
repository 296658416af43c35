use Rattle.std.proofs.Common.{◌≡◌, ◌∙◌, ◌+◌, ◌<◌, ◌≤◌, ◌^◌, ◌==◌, false, All, ℕ, map, sym, ap, subst}
use Rattle.linked_program.specs.CodeView.{expression as plain}
use Rattle.positions.specs.Strands.{PlainStrand}
use Rattle.answered_loops.specs.Answered.{is_by_turns}
use Rattle.own_statements.specs.Fills.{IsCounted}
use Rattle.small_steps.specs.Steps.{IsSupplied}
use Rattle.running_ahead.specs.Chains.{IsClear, reach}
use Rattle.recording_ahead.proofs.recorded_half.record_half.Goals as goal

pub record_part-requires-clause-there : goal.record_part-requires-clause-there
record_part-requires-clause-there g c κs within = ap (λ (s : PlainStrand). s.top.work) c.make_parts.ensures.same ∙ c.requires.there

pub record_part-requires-clause-running : goal.record_part-requires-clause-running
record_part-requires-clause-running g c κs within = ap (λ (s : PlainStrand). s.phase) c.make_parts.ensures.same ∙ c.requires.running

pub record_part-requires-clause-by_halves : goal.record_part-requires-clause-by_halves
record_part-requires-clause-by_halves g c κs within =
    subst (λ (s : PlainStrand). is_by_turns c.args.setting.program.now.codes s.top c.args.half.site c.args.half.halvings c.args.half.share.count ≡ false)
    (sym c.make_parts.ensures.same) c.in-Some.ensures.by_halves

pub record_part-requires-clause-counted : goal.record_part-requires-clause-counted
record_part-requires-clause-counted g c κs within =
    subst (λ (s : PlainStrand). IsCounted s.top.slots c.loop_code-code.result.variable (map plain c.loop_code-code.result.arguments.now))
    (sym c.make_parts.ensures.same) c.in-Some.ensures.counted

pub record_part-requires-clause-deep : goal.record_part-requires-clause-deep
record_part-requires-clause-deep g c κs within =
    subst (λ (s : PlainStrand). (s.top.left == 0) ≡ false) (sym c.make_parts.ensures.same) c.in-Some.ensures.deep

pub record_part-requires-clause-children : goal.record_part-requires-clause-children
record_part-requires-clause-children g c κs within =
    subst (λ (s : PlainStrand). s.top.children + 1024 < 2 ^ 64) (sym c.make_parts.ensures.same) c.in-Some.ensures.children

pub record_part-requires-clause-clear : goal.record_part-requires-clause-clear
record_part-requires-clause-clear g c κs within = subst (λ (s : PlainStrand). IsClear s) (sym c.make_parts.ensures.same) c.in-Some.ensures.clear

pub record_part-requires-clause-copies : goal.record_part-requires-clause-copies
record_part-requires-clause-copies g c κs within =
    subst (λ (s : PlainStrand). All (λ v. v.items ≡ s.top.slots) c.in-Some-make_parts.copies.items) (sym c.make_parts.ensures.same) c.in-Some-make_parts.ensures.copies

pub record_part-requires-clause-supplied : goal.record_part-requires-clause-supplied
record_part-requires-clause-supplied g c κs within =
    subst (λ (s : PlainStrand). IsSupplied g.K.KitSource.fits g.K.KitSource.gives g.K.KitSource.free g.K.KitSource.total
    c.args.setting.program.now.kinds c.args.kits.now c.args.setting.records.now s.layer.kinds s.lower)
    (sym c.make_parts.ensures.same) c.requires.supplied

pub record_part-requires-clause-reached : goal.record_part-requires-clause-reached
record_part-requires-clause-reached g c κs within =
    subst (λ (n : ℕ). c.args.half.share.count ≤ reach n c.loop_code-code.result.grain) (sym c.in-Some-make_parts.ensures.many) c.in-Some.ensures.reached

pub record_part-requires-clause-halved : goal.record_part-requires-clause-halved
record_part-requires-clause-halved g c κs within =
    subst (λ (n : ℕ). n ≤ c.args.half.halvings) (sym c.in-Some-make_parts.ensures.many) c.in-Some.ensures.halved

pub record_part-requires-clause-levels : goal.record_part-requires-clause-levels
record_part-requires-clause-levels g c κs within = subst (λ (n : ℕ). n ≤ 8) (sym c.in-Some-make_parts.ensures.many) c.in-Some.ensures.few
