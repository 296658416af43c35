use Rattle.std.proofs.Common.{◌≡◌, ◌∙◌, ap, subst, sym}
use Rattle.record_theory.specs.Named.{HaveValues, AreValuesFrom}
use Rattle.record_theory.specs.Record.{PlainRecord}
use Rattle.positions.specs.Tallies.{PlainTally, touched_from}
use Rattle.list_pieces.specs.Pieces.{items_in}
use Rattle.layers.proofs.Touches.{one_more_values, touched_values}
use Rattle.layers.proofs.tally.Tally.record_lone.Goals as goal

pub returns-clause-values : goal.returns-clause-values
returns-clause-values g c = λ h.
    let ks = c.args.top.now.kinds in
    let before : HaveValues ks (items_in c.make_room.new.self) =
    subst (HaveValues ks) (sym c.make_room.ensures.items) (subst (λ (t : PlainTally). HaveValues ks t.made) (sym c.self.view_is) h) in
    let same : c.record_of_one.result.contribution ≡ touched_from 0 ks c.args.top.now.worths = ap (λ (r : PlainRecord). r.contribution) c.record_of_one.ensures.record ∙ sym c.requires.touched in
    one_more_values ks (items_in c.make_room.new.self) (items_in c.push.new.self) c.record_of_one.result c.push.ensures.items
    (subst (AreValuesFrom 0 ks) (sym same) (touched_values ks c.args.top.now.worths c.of_kinds.ensures.worths)) before
