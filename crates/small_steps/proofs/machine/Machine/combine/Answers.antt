use Rattle.std.proofs.Common.{◌≡◌, ◌∙◌, List, Some, slice_get, reverse, refl, sym, ap}
use Rattle.std.proofs.lemmas.Option.{slice_get_read}
use Rattle.monoid_laws.specs.declared.Kind.{Kind}
use Rattle.positions.specs.Layers.{PlainLayer}
use Rattle.positions.specs.Strands.{PlainStrand}
use Rattle.positions.specs.Advance.{combining}
use Rattle.small_steps.proofs.Combining.{is_combined, is_refused}
use Rattle.small_steps.proofs.Tops.{err_given}
use Rattle.small_steps.proofs.machine.Machine.combine.Goals as goal

pub returns-then-branch-clause-combined : goal.returns-then-branch-clause-combined
returns-then-branch-clause-combined g c =
    let m : PlainStrand = record { start = c.self.inside.start; layer = c.self.inside.layer; lower = reverse c.self.inside.lower.items; path = c.self.inside.path.items; top = c.self.inside.top; below = reverse c.self.inside.below.items; phase = c.self.inside.phase; arguments = c.self.inside.arguments.items; tally = c.self.inside.tally } in
    let there : slice_get c.args.program.now.kinds c.args.reducer ≡ Some c.in-Some.kind.now =
    sym (ap (λ (ks : List Kind). slice_get ks c.args.reducer) c.kinds.ensures.kinds)
    ∙ slice_get_read c.kinds.result.now _ c.args.reducer c.in-Some.kind.now refl c.in-Some.ensures.lookup.3.0 c.in-Some.ensures.lookup.1 in
    c.pass-then-branch.ensures.passed
    ∙ is_combined c.args.program.now.kinds c.args.statement c.args.position c.args.reducer c.in-Some.kind.now c.args.numbers.now.items m c.update.new.self c.in_ok-update-in-Some.field-0 there
    c.in_ok-update-in-Some.ensures.named c.in_ok-update-in-Some.ensures.updated c.if-branch.true
    ∙ ap (combining (slice_get c.args.program.now.kinds c.args.reducer) c.args.statement c.args.position c.args.reducer c.args.numbers.now.items) c.self.view_is

pub returns-else-branch-clause-combined : goal.returns-else-branch-clause-combined
returns-else-branch-clause-combined g c =
    let m : PlainStrand = record { start = c.self.inside.start; layer = c.self.inside.layer; lower = reverse c.self.inside.lower.items; path = c.self.inside.path.items; top = c.self.inside.top; below = reverse c.self.inside.below.items; phase = c.self.inside.phase; arguments = c.self.inside.arguments.items; tally = c.self.inside.tally } in
    let there : slice_get c.args.program.now.kinds c.args.reducer ≡ Some c.in-Some.kind.now =
    sym (ap (λ (ks : List Kind). slice_get ks c.args.reducer) c.kinds.ensures.kinds)
    ∙ slice_get_read c.kinds.result.now _ c.args.reducer c.in-Some.kind.now refl c.in-Some.ensures.lookup.3.0 c.in-Some.ensures.lookup.1 in
    c.fault.ensures.faulted
    ∙ is_refused c.args.program.now.kinds c.args.statement c.args.position c.args.reducer c.in-Some.kind.now c.args.numbers.now.items m c.update.new.self c.in_ok-update-in-Some.field-0 there
    c.in_ok-update-in-Some.ensures.named c.in_ok-update-in-Some.ensures.updated c.if-branch.false
    ∙ ap (combining (slice_get c.args.program.now.kinds c.args.reducer) c.args.statement c.args.position c.args.reducer c.args.numbers.now.items) c.self.view_is

pub returns-in_err-update-in-Some-clause-unchanged : goal.returns-in_err-update-in-Some-clause-unchanged
returns-in_err-update-in-Some-clause-unchanged g c =
    let m : PlainStrand = record { start = c.self.inside.start; layer = c.self.inside.layer; lower = reverse c.self.inside.lower.items; path = c.self.inside.path.items; top = c.self.inside.top; below = reverse c.self.inside.below.items; phase = c.self.inside.phase; arguments = c.self.inside.arguments.items; tally = c.self.inside.tally } in
    err_given _ (ap (λ (l : PlainLayer). record m { layer = l }) c.in_err-update-in-Some.ensures.unchanged ∙ c.self.view_is) c.from_residual.result
