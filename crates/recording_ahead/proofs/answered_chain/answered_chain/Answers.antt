use Rattle.std.proofs.Common.{rules, length, ◌≡◌, ◌+◌, ◌-◌, ◌≤◌, ◌+ℤ◌, ℤ, pos, refl, ap, ◌∙◌, arith, to_z, of_z, w64}
use Rattle.positions.specs.Code.{PlainLoop}
use Rattle.positions.specs.Strands.{PlainStrand}
use Rattle.activations.specs.Given.{lent, loop_of}
use Rattle.activations.specs.Turned.{behind}
use Rattle.recording_ahead.specs.AnsweredChains.{ArePassed}
use Rattle.running_ahead.specs.Leaves.{none, gathered_of}
use Rattle.recording_ahead.proofs.AnsweredChains.{passed_at, passed_on, passed_opened}
use Rattle.recording_ahead.proofs.LeafChains.{leaf_of}
use Rattle.recording_ahead.proofs.Outcomes.{refused_before}
use Rattle.recording_ahead.proofs.Own.{own_there}
use Rattle.recording_ahead.proofs.answered_chain.answered_chain.Goals as goal

pub loop-init : goal.loop-init
loop-init g c = record {
  records = none;
  few = (let least : 0 ≤ c.args.stretch.most = omega arith in least);
  others = refl;
  opened = refl;
  blank = c.requires.blank;
  kinds = refl;
  values = λ h. h;
}

pub loop-preserved : goal.loop-preserved
loop-preserved g c =
    let S = lent c.args.setting in
    let x = c.args.stretch in
    let m : PlainStrand = c.args.machine.now in
    let j : PlainLoop = loop_of c.args.code in
    let d = c.loop.done in
    let k = c.in-Ok.passed.count in
    let before = c.loop.machine in
    let after = c.go_on.new.machine in
    let n : ℤ = to_z w64 (of_z w64 c.number_of.result) in
    let share : c.behind.result ≡ behind d x.share = c.behind.ensures.rest in
    let number : n ≡ x.site.low +ℤ pos (x.share.first + d) = search rules in
    let left : c.left-left.result ≡ m.top.left = c.left-left.ensures.left ∙ ap (λ (s : PlainStrand). s.top.left) c.machine.view_is in
    let passed : ArePassed S (leaf_of S x.site j m.top.left (x.share.first + d)) k before.layer before.tally after.layer after.tally =
    passed_at S x.site j m.top.left (x.share.first + d) c.slots-size.result c.left-left.result n k before.layer after.layer before.tally after.tally c.slots-size.ensures.slots left number c.in-Ok.ensures.passed in
    let fits : k ≤ x.most - d = c.in-Ok.ensures.few in
    let room : d ≤ x.most = c.loop.invariant.few in
    record {
      records = passed_on S x.site j m.top.procedure m.top.slots m.top.left c.requires.found c.requires.memo c.requires.deep c.requires.counted
          x.share m.arguments (gathered_of m m.arguments) d k before.layer after.layer before.tally after.tally c.loop.invariant.records passed;
      few = omega (arith, fits, room);
      others = c.in-Ok.ensures.others ∙ ap (λ (z : PlainStrand). record z { layer = after.layer; tally = after.tally }) c.loop.invariant.others;
      opened = passed_opened S (leaf_of S x.site j m.top.left (x.share.first + d)) k before.layer after.layer before.tally after.tally passed ∙ c.loop.invariant.opened;
      blank = c.in-Ok.ensures.blank (c.stops.ensures.blank c.if-stops.false);
      kinds = c.go_on.ensures.kinds ∙ c.loop.invariant.kinds;
      values = λ h. c.go_on.ensures.values (c.loop.invariant.values h);
    }

pub returns-then-stops-clause-records : goal.returns-then-stops-clause-records
returns-then-stops-clause-records g c =
    let S = lent c.args.setting in
    let x = c.args.stretch in
    let m : PlainStrand = c.args.machine.now in
    let j : PlainLoop = loop_of c.args.code in
    let d = c.loop.done in
    let k = c.in-Ok.passed.count in
    let before = c.loop.machine in
    let after = c.go_on.new.machine in
    let n : ℤ = to_z w64 (of_z w64 c.number_of.result) in
    let share : c.behind.result ≡ behind d x.share = c.behind.ensures.rest in
    let number : n ≡ x.site.low +ℤ pos (x.share.first + d) = search rules in
    let left : c.left-left.result ≡ m.top.left = c.left-left.ensures.left ∙ ap (λ (s : PlainStrand). s.top.left) c.machine.view_is in
    let passed : ArePassed S (leaf_of S x.site j m.top.left (x.share.first + d)) k before.layer before.tally after.layer after.tally =
    passed_at S x.site j m.top.left (x.share.first + d) c.slots-size.result c.left-left.result n k before.layer after.layer before.tally after.tally c.slots-size.ensures.slots left number c.in-Ok.ensures.passed in
    passed_on S x.site j m.top.procedure m.top.slots m.top.left c.requires.found c.requires.memo c.requires.deep c.requires.counted
    x.share m.arguments (gathered_of m m.arguments) d k before.layer after.layer before.tally after.tally c.loop.invariant.records passed

pub returns-then-stops-clause-opened : goal.returns-then-stops-clause-opened
returns-then-stops-clause-opened g c =
    let S = lent c.args.setting in
    let x = c.args.stretch in
    let m : PlainStrand = c.args.machine.now in
    let j : PlainLoop = loop_of c.args.code in
    let d = c.loop.done in
    let k = c.in-Ok.passed.count in
    let before = c.loop.machine in
    let after = c.go_on.new.machine in
    let n : ℤ = to_z w64 (of_z w64 c.number_of.result) in
    let share : c.behind.result ≡ behind d x.share = c.behind.ensures.rest in
    let number : n ≡ x.site.low +ℤ pos (x.share.first + d) = search rules in
    let left : c.left-left.result ≡ m.top.left = c.left-left.ensures.left ∙ ap (λ (s : PlainStrand). s.top.left) c.machine.view_is in
    let passed : ArePassed S (leaf_of S x.site j m.top.left (x.share.first + d)) k before.layer before.tally after.layer after.tally =
    passed_at S x.site j m.top.left (x.share.first + d) c.slots-size.result c.left-left.result n k before.layer after.layer before.tally after.tally c.slots-size.ensures.slots left number c.in-Ok.ensures.passed in
    passed_opened S (leaf_of S x.site j m.top.left (x.share.first + d)) k before.layer after.layer before.tally after.tally passed ∙ c.loop.invariant.opened

pub returns-then-stops-clause-some : goal.returns-then-stops-clause-some
returns-then-stops-clause-some g c =
    let fits : c.in-Ok.passed.count ≤ c.args.stretch.most - c.loop.done = c.in-Ok.ensures.few in
    let room : c.loop.done ≤ c.args.stretch.most = c.loop.invariant.few in
    omega (arith, fits, room)

pub returns-then-stops-clause-values : goal.returns-then-stops-clause-values
returns-then-stops-clause-values g c = λ h. c.go_on.ensures.values (c.loop.invariant.values h)

pub returns-in-Err-clause-refused : goal.returns-in-Err-clause-refused
returns-in-Err-clause-refused g c =
    refused_before c.args.machine.now c.loop.machine c.go_on.new.machine c.loop.invariant.others c.loop.invariant.kinds c.loop.invariant.opened c.go_on.new.own c.in-Err.ensures.refused

pub returns-in-Err-clause-kept : goal.returns-in-Err-clause-kept
returns-in-Err-clause-kept g c = c.in-Err.ensures.kept

pub returns-then-stops-clause-own : goal.returns-then-stops-clause-own
returns-then-stops-clause-own g c = c.in-Ok.ensures.own

pub returns-then-done-stretch-clause-own : goal.returns-then-done-stretch-clause-own
returns-then-done-stretch-clause-own g c =
    own_there c.args.setting.program.now.kinds (length c.args.setting.program.now.codes) c.loop.own c.loop.invariant.blank

pub returns-clause-own : goal.returns-clause-own
returns-clause-own g c = own_there c.args.setting.program.now.kinds (length c.args.setting.program.now.codes) c.loop.own c.loop.invariant.blank
