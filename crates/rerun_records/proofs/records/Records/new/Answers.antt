use Rattle.std.proofs.Common.{◌∙◌, ap, sym, map, subst, List}
use Rattle.std.proofs.lemmas.List.Elements.{All-nil}
use Rattle.record_theory.specs.Record.{PlainRecord, instance_number}
use Rattle.record_theory.specs.Numbers.{with_numbers}
use Rattle.rerun_records.specs.Blocks.{PlainBlocks}
use Rattle.record_theory.specs.OneTime.{IsOfOneTime, AreOfOneTime}
use Rattle.rerun_records.proofs.WithNumbers.{none_numbers}
use Rattle.rerun_records.proofs.Leaves.{none_fit}
use Rattle.rerun_records.proofs.records.Records.new.Goals as goal

pub invariant_of-result : goal.invariant_of-result
invariant_of-result c =
    let blocks = c.new-4.result in
    let none = c.new-4.ensures.none in (
      none_numbers c.new-3.result.items c.new.result.items c.new-3.ensures.items c.new.ensures.items,
      none_fit (with_numbers c.new-3.result.items c.new.result.items) blocks (ap (λ (b : PlainBlocks). b.fine) none) (ap (λ (b : PlainBlocks). b.middle) none) (ap (λ (b : PlainBlocks). b.wide) none)
          (ap (λ (b : PlainBlocks). b.vast) none),
      c.new-2.ensures.none ∙ sym (ap (λ (rs : List PlainRecord). map instance_number rs) c.new.ensures.items),
      c.new-5.ensures.none c.new.result.items,
      subst AreOfOneTime (sym c.new.ensures.items) (All-nil (λ (r : PlainRecord). IsOfOneTime r.reads)),
    )
