use Rattle.std.proofs.Common.{rules, ◌≡◌, ◌∙◌, ◌+ℤ◌, ℤ, pos, length, ap, to_z, of_z, w64}
use Rattle.std.proofs.lemmas.List.{nil_from_length}
use Rattle.positions.specs.Code.{PlainLoop}
use Rattle.positions.specs.Strands.{PlainStrand}
use Rattle.activations.specs.Given.{lent, loop_of}
use Rattle.own_statements.specs.Leaves.{AreLeaves}
use Rattle.own_statements.proofs.LeavesOpened.{leaves_opened}
use Rattle.recording_ahead.proofs.LeafChains.{leaf_of, leaves_at, leaves_recorded}
use Rattle.recording_ahead.proofs.LeafSteps.{no_record}
use Rattle.recording_ahead.proofs.Own.{none_kept, leaf_refused}
use Rattle.recording_ahead.proofs.answered_chain.chain_in.Goals as goal

pub record_chain-requires-clause-unknown : goal.record_chain-requires-clause-unknown
record_chain-requires-clause-unknown g c κs within =
    let none : length c.args.setting.records.now ≡ 0 = c.is_empty.ensures.empty.0 c.if-not-is_empty.false in
    λ i below. no_record (lent c.args.setting) _ _ _ (nil_from_length c.args.setting.records.now none)

pub returns-in-Ok-clause-records : goal.returns-in-Ok-clause-records
returns-in-Ok-clause-records g c =
    let S = lent c.args.setting in
    let x = c.args.stretch in
    let m : PlainStrand = c.args.machine.now in
    let j : PlainLoop = loop_of c.args.code in
    let k = c.in-Ok.count in
    let after = c.record_chain.new.machine in
    let n : ℤ = to_z w64 (of_z w64 c.number_of.result) in
    let number : n ≡ x.site.low +ℤ pos x.share.first = search rules in
    let left : c.left-left.result ≡ m.top.left = c.left-left.ensures.left ∙ ap (λ (s : PlainStrand). s.top.left) c.machine.view_is in
    let leaves : AreLeaves S (leaf_of S x.site j m.top.left x.share.first) m.layer m.tally k after.layer after.tally =
    leaves_at S x.site j m.top.left x.share.first c.slots-size.result c.left-left.result n k m.layer after.layer m.tally after.tally c.slots-size.ensures.slots left number c.in-Ok.ensures.leaves in
    leaves_recorded S x.site j m.top.procedure m.top.slots m.top.left c.requires.found c.requires.memo c.requires.deep c.requires.counted
    x.share m.arguments k m.layer after.layer m.tally after.tally leaves

pub returns-in-Ok-clause-opened : goal.returns-in-Ok-clause-opened
returns-in-Ok-clause-opened g c =
    let m : PlainStrand = c.args.machine.now in
    let after = c.record_chain.new.machine in
    leaves_opened (lent c.args.setting) _ c.in-Ok.count m.layer after.layer m.tally after.tally c.in-Ok.ensures.leaves

pub returns-in-Err-clause-kept : goal.returns-in-Err-clause-kept
returns-in-Err-clause-kept g c = none_kept c.args.setting.program.now.kinds _ c.in-Err.ensures.taken

pub returns-in-Err-clause-refused : goal.returns-in-Err-clause-refused
returns-in-Err-clause-refused g c = leaf_refused _ _ _ c.in-Err.ensures.taken c.in-Err.ensures.refused
