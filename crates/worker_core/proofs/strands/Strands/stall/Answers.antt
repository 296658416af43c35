use Rattle.std.proofs.Common.{List, ◌≡◌, ◌<◌, true, [], Some, None, length, sym, ap, subst, ◌∙◌}
use Rattle.input_tables.specs.Edited.{Edited}
use Rattle.record_theory.specs.Record.{PlainRecord}
use Rattle.activations.specs.Given.{setting_over}
use Rattle.stepped_runs.specs.Pieces.{stalled}
use Rattle.stepped_runs.specs.Runs.{changed}
use Rattle.numbered_runs.specs.declared.refusal.Refusal.TheVariants.{NotThere}
use Rattle.worker_core.specs.Moves.{RefusedAs}
use Rattle.worker_core.specs.Strands.{PlainStrands, held_at}
use Rattle.worker_core.proofs.Finding.{held_within, none_refused}
use Rattle.worker_core.proofs.Layings.{stall_taken, stall_refused}
use Rattle.worker_core.proofs.strands.Strands.stall.Goals as goal

pub returns-in-None-clause-refused : goal.returns-in-None-clause-refused
returns-in-None-clause-refused g c =
    let none : held_at c.args.worker c.self.inside.pieces.items ≡ None = sym (c.in-None.ensures.held ∙ ap (held_at c.args.worker) c.deref.ensures.value) in
    subst (λ (s : PlainStrands). (tables : Edited) (records : List PlainRecord) → RefusedAs true (changed NotThere c.args.worker (stalled (setting_over c.args.program.now tables records) (length s.kits)) [] s.pieces s.history) NotThere) c.self.view_is
    (λ tables records. none_refused true c.args.worker c.self.inside.pieces.items NotThere (stalled (setting_over c.args.program.now tables records) (length c.self.inside.pool.kits)) _ none)

pub stall_at-requires-clause-number : goal.stall_at-requires-clause-number
stall_at-requires-clause-number g c κs within =
    let here : held_at c.args.worker c.self.inside.pieces.items ≡ Some c.in-Some.number = sym (c.in-Some.ensures.held ∙ ap (held_at c.args.worker) c.deref.ensures.value) in
    subst (λ (s : PlainStrands). c.in-Some.number < length s.pieces) c.self.view_is (held_within c.args.worker c.in-Some.number c.self.inside.pieces.items here)

pub returns-in-Some-clause-taken : goal.returns-in-Some-clause-taken
returns-in-Some-clause-taken g c =
    let here : held_at c.args.worker c.self.inside.pieces.items ≡ Some c.in-Some.number = sym (c.in-Some.ensures.held ∙ ap (held_at c.args.worker) c.deref.ensures.value) in
    stall_taken c.args.program.now c.args.worker c.in-Some.number c.args.self.now (subst (λ (s : PlainStrands). held_at c.args.worker s.pieces ≡ Some c.in-Some.number) c.self.view_is here) c.stall_at.result c.stall_at.new.self c.stall_at.ensures.taken

pub returns-in-Some-clause-refused : goal.returns-in-Some-clause-refused
returns-in-Some-clause-refused g c =
    let here : held_at c.args.worker c.self.inside.pieces.items ≡ Some c.in-Some.number = sym (c.in-Some.ensures.held ∙ ap (held_at c.args.worker) c.deref.ensures.value) in
    stall_refused c.args.program.now c.args.worker c.in-Some.number c.args.self.now (subst (λ (s : PlainStrands). held_at c.args.worker s.pieces ≡ Some c.in-Some.number) c.self.view_is here) c.stall_at.result c.stall_at.ensures.refused

pub returns-in-Some-clause-fit : goal.returns-in-Some-clause-fit
returns-in-Some-clause-fit g c = c.stall_at.ensures.fit c.args.program.now.kinds c.requires.fit
