use Rattle.std.proofs.Common.{◌≡◌, ◌∙◌, ℕ, List, ap, sym, subst, map, length}
use Rattle.std.specs.Vec.{with_items}
use Rattle.std.proofs.lemmas.List.{with_items_is}
use Rattle.record_theory.specs.InStep.{IsInStep}
use Rattle.record_theory.specs.Record.{PlainRecord, as_made}
use Rattle.record_theory.specs.Numbers.{numbers_then, with_numbers}
use Rattle.rerun_records.proofs.WithNumbers.{told_so, same_without_numbers}
use Rattle.rerun_records.proofs.records.Records.tell.Goals as goal

pub returns-clause-told : goal.returns-clause-told
returns-clause-told c = λ before step known.
    let numbers = c.self.inside.numbers in
    let long : length c.tell.new.numbers ≡ numbers.len = c.tell.ensures.places ∙ ap length c.deref-2.ensures.value ∙ sym c.self.invariant.0.places ∙ sym numbers.ok.0 in
    let there : IsInStep before (with_numbers c.deref_mut.result.now c.deref-2.result.now) =
    subst (λ (ns : List ℕ). IsInStep before (with_numbers ns c.deref-2.result.now)) (sym c.deref_mut.ensures.value)
    (subst (λ (rs : List PlainRecord). IsInStep before (with_numbers numbers.items rs)) (sym c.deref-2.ensures.value) (subst (IsInStep before) (sym c.self.view_is) step)) in
    told_so c.args.lost.now c.args.won.now numbers.items (with_items numbers c.tell.new.numbers).items c.self.inside.list.items c.args.self.now c.self.invariant.0.places
    (with_items_is numbers c.tell.new.numbers long ∙ c.tell.ensures.told before there known ∙ ap (λ ns. numbers_then c.args.lost.now c.args.won.now ns c.deref-2.result.now) c.deref_mut.ensures.value
    ∙ ap (numbers_then c.args.lost.now c.args.won.now numbers.items) c.deref-2.ensures.value)
    c.self.view_is

pub returns-clause-same : goal.returns-clause-same
returns-clause-same c =
    same_without_numbers (with_items c.self.inside.numbers c.tell.new.numbers).items c.self.inside.list.items ∙ sym (same_without_numbers c.self.inside.numbers.items c.self.inside.list.items)
    ∙ ap (map as_made) c.self.view_is
