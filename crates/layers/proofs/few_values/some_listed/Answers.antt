use Rattle.std.specs.Prelude.{option_to_list}
use Rattle.instance_records.specs.ShortLists.{items_in}
use Rattle.layers.proofs.Few.{both_kept}
use Rattle.layers.proofs.few_values.some_listed.Goals as goal

pub returns : goal.returns
returns c = record {
  touched =
      both_kept (option_to_list c.in_ok-one.one) (option_to_list c.in_ok-two.two) (items_in c.both_listed.result) c.both_listed.ensures.listed
      c.in_ok-one.ensures.touched c.in_ok-two.ensures.touched;
}
