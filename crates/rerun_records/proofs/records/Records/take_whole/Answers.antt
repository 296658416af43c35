use Rattle.std.proofs.Common.{◌≡◌, ◌≤◌, ◌∙◌, List, [], ap, arith, length, map, subst, sym}
use Rattle.std.proofs.lemmas.List.Elements.{All-nil}
use Rattle.meaning.specs.Tables.{Tables}
use Rattle.record_theory.specs.Commits.{AreSingle, put_records}
use Rattle.rerun_records.specs.Covers.{AreKept}
use Rattle.record_theory.specs.InStep.{IsInStep, ReadNow}
use Rattle.record_theory.specs.Numbers.{with_numbers}
use Rattle.record_theory.specs.OneTime.{IsOfOneTime}
use Rattle.record_theory.specs.Record.{PlainRecord, as_made, instance_number}
use Rattle.rerun_records.proofs.Leaves.{none_fit}
use Rattle.rerun_records.proofs.OneTime.{first_once}
use Rattle.rerun_records.proofs.Passing.{appended_kept}
use Rattle.rerun_records.proofs.WithNumbers.{none_counted, none_in_view, first_put, zeros_numbers, zeros_view}
use Rattle.rerun_records.proofs.records.Records.take_whole.Goals as goal

pub keep_last-requires-clause-no_places : goal.keep_last-requires-clause-no_places
keep_last-requires-clause-no_places c =
    c.reserve-2.ensures.same ∙ c.self.invariant.2 ∙ ap (map instance_number) (none_in_view c.self.inside.numbers.items c.self.inside.list.items c.args.self.now c.self.view_is c.requires.none)

pub put_zeros-requires : goal.put_zeros-requires
put_zeros-requires c = record {
  none =
      none_counted c.self.inside.numbers.items c.self.inside.list.items c.self.invariant.0.places
      (none_in_view c.self.inside.numbers.items c.self.inside.list.items c.args.self.now c.self.view_is c.requires.none);
}

pub returns-clause-put : goal.returns-clause-put
returns-clause-put c =
    let list = c.give_back.new.list.items in
    let same = c.give_back.ensures.same in
    let made = subst (λ (rs : List PlainRecord). map as_made rs ≡ rs) (sym same) c.keep_last.ensures.as_made in
    let given = c.reserve.ensures.items in
    first_put c.cut.new.numbers.items c.put_zeros.new.numbers.items (length c.deref-4.result.now) (length c.deref-2.result.now) list c.cut.ensures.cut c.in_ok-put_zeros.ensures.zeros (ap length c.deref-4.ensures.value) made
    c.args.self.now c.args.records.items c.requires.none (same ∙ c.keep_last.ensures.put ∙ ap (put_records []) given)
    (λ (tables : Tables) read. subst (IsInStep tables) (sym same) (c.keep_last.ensures.in_step tables (subst (ReadNow tables) (sym given) read)))

pub invariant_of-self-2 : goal.invariant_of-self-2
invariant_of-self-2 c =
    let list = c.give_back.new.list.items in
    let same = c.give_back.ensures.same in
    let numbers = c.cut.new.numbers.items in
    let made = subst (λ (rs : List PlainRecord). map as_made rs ≡ rs) (sym same) c.keep_last.ensures.as_made in
    let few : length list ≤ length c.deref-2.result.now =
    (let fewer = c.keep_last.ensures.fewer in let before = ap length c.deref-2.ensures.value in let after = ap length same in omega (arith, fewer, before, after)) in
    let none = c.begin_anew.ensures.none in
    let view = zeros_view numbers c.put_zeros.new.numbers.items (length c.deref-4.result.now) (length c.deref-2.result.now) list c.cut.ensures.cut c.in_ok-put_zeros.ensures.zeros (ap length c.deref-4.ensures.value) made in (
      zeros_numbers numbers c.put_zeros.new.numbers.items (length c.deref-4.result.now) (length c.deref-2.result.now) list c.cut.ensures.cut c.in_ok-put_zeros.ensures.zeros (ap length c.deref-4.ensures.value) made few
          (subst AreSingle (sym same) c.keep_last.ensures.single),
      none_fit (with_numbers numbers list) c.begin_anew.new.self none.0 none.1 none.2 none.3,
      c.keep_last.ensures.numbered ∙ ap (map instance_number) (sym same),
      appended_kept [] list c.self.inside.covers
          (subst (λ (rs : List PlainRecord). AreKept rs c.self.inside.covers)
          (none_in_view c.self.inside.numbers.items c.self.inside.list.items c.args.self.now c.self.view_is c.requires.none) c.self.invariant.3),
      first_once numbers list c.args.records.items (view ∙ same ∙ c.keep_last.ensures.put ∙ ap (put_records []) c.reserve.ensures.items) (All-nil (λ (r : PlainRecord). IsOfOneTime r.reads)) c.requires.once,
    )
