use Rattle.std.proofs.Common.{◌≡◌, ◌∙◌, ℕ, ◌+◌, ◌<◌, ◌^◌, ◌==◌, false, map, sym, ap, subst}
use Rattle.linked_program.specs.CodeView.{expression as plain}
use Rattle.positions.specs.declared.work.Loop.{Loop}
use Rattle.positions.specs.declared.work.Share.{Share}
use Rattle.positions.specs.declared.work.Work.TheVariants.{Turns}
use Rattle.positions.specs.Code.{loop_at}
use Rattle.positions.specs.Strands.{PlainStrand}
use Rattle.activations.specs.Given.{lent}
use Rattle.own_statements.specs.Fills.{IsCounted}
use Rattle.small_steps.specs.Steps.{IsSupplied, IsWhole, KeepsKits}
use Rattle.running_ahead.specs.Leaves.{IsAmid, IsRecordedAhead}
use Rattle.recording_ahead.proofs.Kept.{recorded_here, kits_same}
use Rattle.recording_ahead.proofs.recording.record_turns.Goals as goal

pub record_stretch-requires-clause-there : goal.record_stretch-requires-clause-there
record_stretch-requires-clause-there g c κs within =
    ap (λ (s : PlainStrand). s.top.work) c.make_ready.ensures.same ∙ c.requires.there
    ∙ ap (λ (l : Loop). Turns l c.args.share) (sym c.in-Some.ensures.site) ∙ ap (λ (h : Share). Turns c.in-Some.stretch.site h) (sym c.in-Some.ensures.share)

pub record_stretch-requires-clause-running : goal.record_stretch-requires-clause-running
record_stretch-requires-clause-running g c κs within = ap (λ (s : PlainStrand). s.phase) c.make_ready.ensures.same ∙ c.requires.running

pub record_stretch-requires-clause-room : goal.record_stretch-requires-clause-room
record_stretch-requires-clause-room g c κs within =
    subst (λ (s : PlainStrand). s.top.children + c.in-Some.stretch.most < 2 ^ 64) (sym c.make_ready.ensures.same) c.in-Some.ensures.room

pub record_stretch-requires-clause-deep : goal.record_stretch-requires-clause-deep
record_stretch-requires-clause-deep g c κs within =
    subst (λ (s : PlainStrand). (s.top.left == 0) ≡ false) (sym c.make_ready.ensures.same) c.in-Some.ensures.deep

pub record_stretch-requires-clause-counted : goal.record_stretch-requires-clause-counted
record_stretch-requires-clause-counted g c κs within =
    subst (λ (s : PlainStrand). IsCounted s.top.slots c.loop_code-code.result.variable (map plain c.loop_code-code.result.arguments.now))
    (sym c.make_ready.ensures.same) c.in-Some.ensures.counted

pub record_stretch-requires-clause-amid : goal.record_stretch-requires-clause-amid
record_stretch-requires-clause-amid g c κs within = subst (λ (s : PlainStrand). IsAmid s) (sym c.make_ready.ensures.same) c.in-Some.ensures.amid

pub record_stretch-requires-clause-supplied : goal.record_stretch-requires-clause-supplied
record_stretch-requires-clause-supplied g c κs within =
    subst (λ (s : PlainStrand). IsSupplied g.K.KitSource.fits g.K.KitSource.gives g.K.KitSource.free g.K.KitSource.total
    c.args.setting.program.now.kinds c.args.kits.now c.args.setting.records.now s.layer.kinds s.lower)
    (sym c.make_ready.ensures.same) c.requires.supplied

pub record_stretch-requires-clause-found : goal.record_stretch-requires-clause-found
record_stretch-requires-clause-found g c κs within =
    let codes = c.args.setting.program.now.codes in
    let procedure : c.procedure.result ≡ c.make_ready.new.machine.top.procedure =
    c.procedure.ensures.procedure ∙ ap (λ (s : PlainStrand). s.top.procedure) (c.machine.view_is ∙ sym c.make_ready.ensures.same) in
    c.loop_code-code.ensures.found ∙ ap (λ (p : ℕ). loop_at codes p c.args.site) procedure
    ∙ ap (λ (l : Loop). loop_at codes c.make_ready.new.machine.top.procedure l) (sym c.in-Some.ensures.site)

pub returns-then-not-make_ready-clause-ahead : goal.returns-then-not-make_ready-clause-ahead
returns-then-not-make_ready-clause-ahead g c =
    let S = lent c.args.setting in
    subst (λ (s : PlainStrand). IsRecordedAhead S c.args.machine.now s) (sym c.make_ready.ensures.same) (recorded_here S c.args.machine.now)

pub returns-then-not-make_ready-clause-whole : goal.returns-then-not-make_ready-clause-whole
returns-then-not-make_ready-clause-whole g c whole = subst (λ (s : PlainStrand). IsWhole s) (sym c.make_ready.ensures.same) whole

pub returns-then-not-make_ready-clause-kits : goal.returns-then-not-make_ready-clause-kits
returns-then-not-make_ready-clause-kits g c =
    let k = g.K.KitSource in
    let m : PlainStrand = c.args.machine.now in
    let kinds = c.args.setting.program.now.kinds in
    subst (λ (s : PlainStrand). KeepsKits k.fits k.gives k.free k.total kinds c.args.kits.now c.args.kits.now m.lower s.lower) (sym c.make_ready.ensures.same)
    (kits_same k.fits k.gives k.free k.total kinds c.args.kits.now c.args.setting.records.now m.layer.kinds m.lower c.requires.supplied)
