use Rattle.std.proofs.Common.{List, rules, ◌≡◌, ◌<◌, true, false, Ok, Some, None, All, [], length, map, get_or, refl, sym, ap, subst, ◌∙◌}
use Rattle.std.specs.Option.{is_some}
use Rattle.input_tables.specs.Edited.{Edited}
use Rattle.record_theory.specs.Record.{PlainRecord}
use Rattle.activations.specs.Given.{setting_over}
use Rattle.numbered_runs.specs.Named.{book_step}
use Rattle.stepped_runs.specs.Pieces.{stolen_from}
use Rattle.stepped_runs.specs.Runs.{changed, is_idle, if_idle}
use Rattle.numbered_runs.specs.declared.refusal.Refusal.TheVariants.{Nothing}
use Rattle.worker_core.specs.Moves.{IsFit, has_tasks}
use Rattle.worker_core.specs.Strands.{PlainStrands, run_of, held_at}
use Rattle.worker_core.proofs.Finding.{held_within, none_held}
use Rattle.numbered_runs.proofs.Kits.{taken_kit, left_kits}
use Rattle.worker_core.proofs.Thefts.{theft_busy, theft_alone, theft_nothing, theft_bare, theft_lacks, theft_taken}
use Rattle.worker_core.proofs.strands.Strands.steal.Goals as goal

pub returns-then-is_some-clause-refused : goal.returns-then-is_some-clause-refused
returns-then-is_some-clause-refused g c =
    let pieces : c.self.inside.pieces.items ≡ c.args.self.now.pieces = ap (λ (s : PlainStrands). s.pieces) c.self.view_is in
    let busy : is_some (held_at c.args.thief c.args.self.now.pieces) ≡ true =
    ap is_some (sym (c.held_at.ensures.held ∙ ap (held_at c.args.thief) (c.deref.ensures.value ∙ pieces))) ∙ sym c.is_some.ensures ∙ c.if-is_some.true in
    λ tables records. theft_busy (setting_over c.args.program.now tables records) c.args.thief c.args.victim c.args.self.now busy

pub returns-in_default-clause-refused : goal.returns-in_default-clause-refused
returns-in_default-clause-refused g c =
    let pieces : c.self.inside.pieces.items ≡ c.args.self.now.pieces = ap (λ (s : PlainStrands). s.pieces) c.self.view_is in
    let idle : held_at c.args.thief c.args.self.now.pieces ≡ None =
    none_held _ (ap is_some (sym (c.held_at.ensures.held ∙ ap (held_at c.args.thief) (c.deref.ensures.value ∙ pieces))) ∙ sym c.is_some.ensures ∙ c.if-is_some.false) in
    let none : held_at c.args.victim c.args.self.now.pieces ≡ None = sym (c.in_default.ensures.held ∙ ap (held_at c.args.victim) (c.deref-2.ensures.value ∙ pieces)) in
    λ tables records. theft_alone (setting_over c.args.program.now tables records) c.args.thief c.args.victim c.args.self.now idle none

pub index-requires : goal.index-requires
index-requires g c =
    let here : held_at c.args.victim c.self.inside.pieces.items ≡ Some c.in-Some.number = sym (c.in-Some.ensures.held ∙ ap (held_at c.args.victim) c.deref-2.ensures.value) in
    let less : c.in-Some.number < length c.self.inside.pieces.items = held_within c.args.victim c.in-Some.number c.self.inside.pieces.items here in
    search rules

pub returns-then-not-has_tasks-clause-refused : goal.returns-then-not-has_tasks-clause-refused
returns-then-not-has_tasks-clause-refused g c =
    let pieces : c.self.inside.pieces.items ≡ c.args.self.now.pieces = ap (λ (s : PlainStrands). s.pieces) c.self.view_is in
    let idle : held_at c.args.thief c.args.self.now.pieces ≡ None =
    none_held _ (ap is_some (sym (c.held_at.ensures.held ∙ ap (held_at c.args.thief) (c.deref.ensures.value ∙ pieces))) ∙ sym c.is_some.ensures ∙ c.if-is_some.false) in
    let here : held_at c.args.victim c.args.self.now.pieces ≡ Some c.in-Some.number = sym (c.in-Some.ensures.held ∙ ap (held_at c.args.victim) (c.deref-2.ensures.value ∙ pieces)) in
    let at : c.index.result.now ≡ get_or c.args.self.now.pieces c.in-Some.number c.index.result.now = c.index.ensures ∙ ap (λ xs. get_or xs c.in-Some.number c.index.result.now) pieces in
    let bare : has_tasks c.index.result.now.deque ≡ false = sym c.has_tasks.ensures.tasks ∙ c.if-not-has_tasks.true in
    λ tables records. theft_nothing (setting_over c.args.program.now tables records) c.args.thief c.args.victim c.args.self.now c.in-Some.number c.index.result.now idle here at bare

pub returns-in_default-take-clause-refused : goal.returns-in_default-take-clause-refused
returns-in_default-take-clause-refused g c =
    let pieces : c.self.inside.pieces.items ≡ c.args.self.now.pieces = ap (λ (s : PlainStrands). s.pieces) c.self.view_is in
    let idle : held_at c.args.thief c.args.self.now.pieces ≡ None =
    none_held _ (ap is_some (sym (c.held_at.ensures.held ∙ ap (held_at c.args.thief) (c.deref.ensures.value ∙ pieces))) ∙ sym c.is_some.ensures ∙ c.if-is_some.false) in
    let here : held_at c.args.victim c.args.self.now.pieces ≡ Some c.in-Some.number = sym (c.in-Some.ensures.held ∙ ap (held_at c.args.victim) (c.deref-2.ensures.value ∙ pieces)) in
    let at : c.index.result.now ≡ get_or c.args.self.now.pieces c.in-Some.number c.index.result.now = c.index.ensures ∙ ap (λ xs. get_or xs c.in-Some.number c.index.result.now) pieces in
    let some : has_tasks c.index.result.now.deque ≡ true = sym c.has_tasks.ensures.tasks ∙ c.if-not-has_tasks.false in
    let none : c.args.self.now.kits ≡ [] = sym (ap (λ (s : PlainStrands). s.kits) c.self.view_is) ∙ c.in_default-take.ensures.none refl in
    λ tables records. theft_bare (setting_over c.args.program.now tables records) c.args.thief c.args.victim c.args.self.now c.in-Some.number c.index.result.now idle here at some none

pub split-requires-clause-number : goal.split-requires-clause-number
split-requires-clause-number g c κs within =
    held_within c.args.victim c.in-Some.number c.self.inside.pieces.items (sym (c.in-Some.ensures.held ∙ ap (held_at c.args.victim) c.deref-2.ensures.value))

pub split-requires-clause-fit : goal.split-requires-clause-fit
split-requires-clause-fit g c κs within =
    let kits : c.self.inside.pool.kits ≡ c.args.self.now.kits = ap (λ (s : PlainStrands). s.kits) c.self.view_is in
    record {
      pieces = subst (λ (s : PlainStrands). All (IsFit c.args.program.now.kinds) s.pieces) (sym c.self.view_is) c.requires.fit.pieces;
      kits = left_kits c.args.program.now.kinds c.args.self.now.kits c.take.new.self.kits c.in-Some-take.kit (sym kits ∙ c.in-Some-take.ensures.one) c.requires.fit.kits;
    }

pub split-requires-clause-kinds : goal.split-requires-clause-kinds
split-requires-clause-kinds g c κs within =
    let kits : c.self.inside.pool.kits ≡ c.args.self.now.kits = ap (λ (s : PlainStrands). s.kits) c.self.view_is in
    taken_kit c.args.program.now.kinds c.args.self.now.kits c.take.new.self.kits c.in-Some-take.kit (sym kits ∙ c.in-Some-take.ensures.one) c.requires.fit.kits

pub returns-in-Ok-clause-taken : goal.returns-in-Ok-clause-taken
returns-in-Ok-clause-taken g c =
    let idle : held_at c.args.thief c.self.inside.pieces.items ≡ None =
    none_held _ (ap is_some (sym (c.held_at.ensures.held ∙ ap (held_at c.args.thief) c.deref.ensures.value)) ∙ sym c.is_some.ensures ∙ c.if-is_some.false) in
    let here : held_at c.args.victim c.self.inside.pieces.items ≡ Some c.in-Some.number = sym (c.in-Some.ensures.held ∙ ap (held_at c.args.victim) c.deref-2.ensures.value) in
    subst (λ (s : PlainStrands). (tables : Edited) (records : List PlainRecord) → if_idle (is_idle c.args.thief s.pieces) (changed Nothing c.args.victim (stolen_from (setting_over c.args.program.now tables records) c.args.thief (length s.kits)) [] s.pieces s.history) ≡ Ok (run_of c.split.new.self)) c.self.view_is
    (λ tables records. theft_taken (setting_over c.args.program.now tables records) c.args.thief c.args.victim
    (record { pieces = c.self.inside.pieces.items; kits = c.self.inside.pool.kits; total = c.self.inside.pool.total; history = map book_step c.self.inside.history.items }) c.in-Some.number c.index.result.now c.take.new.self.kits c.in-Some-take.kit c.split.new.self idle here c.in-Some-take.ensures.one (c.in-Ok.ensures.taken tables records) c.in-Ok.ensures.free)

pub returns-in-Err-clause-refused : goal.returns-in-Err-clause-refused
returns-in-Err-clause-refused g c =
    let pieces : c.self.inside.pieces.items ≡ c.args.self.now.pieces = ap (λ (s : PlainStrands). s.pieces) c.self.view_is in
    let idle : held_at c.args.thief c.args.self.now.pieces ≡ None =
    none_held _ (ap is_some (sym (c.held_at.ensures.held ∙ ap (held_at c.args.thief) (c.deref.ensures.value ∙ pieces))) ∙ sym c.is_some.ensures ∙ c.if-is_some.false) in
    let here : held_at c.args.victim c.args.self.now.pieces ≡ Some c.in-Some.number = sym (c.in-Some.ensures.held ∙ ap (held_at c.args.victim) (c.deref-2.ensures.value ∙ pieces)) in
    let at : c.index.result.now ≡ get_or c.args.self.now.pieces c.in-Some.number c.index.result.now = c.index.ensures ∙ ap (λ xs. get_or xs c.in-Some.number c.index.result.now) pieces in
    let some : has_tasks c.index.result.now.deque ≡ true = sym c.has_tasks.ensures.tasks ∙ c.if-not-has_tasks.false in
    let kits : c.self.inside.pool.kits ≡ c.args.self.now.kits = ap (λ (s : PlainStrands). s.kits) c.self.view_is in
    λ tables records. theft_lacks (setting_over c.args.program.now tables records) c.args.thief c.args.victim c.args.self.now c.in-Some.number c.index.result.now c.take.new.self.kits c.in-Some-take.kit idle here at some (sym kits ∙ c.in-Some-take.ensures.one)
