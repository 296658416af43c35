use Rattle.std.proofs.Common.{map, sym}
use Rattle.monoid_laws.specs.Kinds.{meaning}
use Rattle.serial_oracle.proofs.Noted.{worths_at, at_map, on_ok, added_after, added_kept}
use Rattle.serial_oracle.proofs.updates.add_at.Goals as goal

pub add-requires-clause-value_of_kind : goal.add-requires-clause-value_of_kind
add-requires-clause-value_of_kind c =
    worths_at c.args.kinds.now (map meaning c.args.values.now.items) c.args.n c.args.kind (meaning c.in-Some.value.now) c.requires.of_kinds c.requires.the_kind
    (at_map meaning c.args.values.now.items c.args.n c.in-Some.value.now c.in-Some.ensures.item.3.0 c.in-Some.ensures.value)

pub returns-in-Some-clause-after : goal.returns-in-Some-clause-after
returns-in-Some-clause-after c =
    on_ok c.add.result _ _ (added_after c.args.values.now.items c.args.n c.args.kind c.args.numbers.now c.in-Some.value.now c.add.new.value c.in-Some.ensures.item.3.0 c.in-Some.ensures.value (sym c.if-not-is_element.ensures)) c.add.ensures.combined

pub returns-in-Some-clause-worths : goal.returns-in-Some-clause-worths
returns-in-Some-clause-worths c =
    on_ok c.add.result _ _ (added_kept c.args.kinds.now c.args.values.now.items c.args.n c.args.kind c.add.new.value c.requires.of_kinds c.requires.the_kind) c.add.ensures.of_kind
