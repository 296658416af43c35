use Rattle.std.proofs.Common.{◌+◌, ◌-◌, ◌∙◌, arith}
use Rattle.rerun_records.proofs.Covering.{none_between, apart_then, apart_later, one_apart}
use Rattle.rerun_records.proofs.covers.Covers.next_touched.Goals as goal

pub loop-last-init : goal.loop-last-init
loop-last-init c = record {
  within = omega arith;
  apart = none_between c.args.list.now c.args.change.now c.args.end;
}

pub loop-last-preserved-then-first-last : goal.loop-last-preserved-then-first-last
loop-last-preserved-then-first-last c =
    let l = c.loop-last in
    let first = c.apart_to-first.result in
    let within = c.apart_to-first.ensures.within in
    let until = l.invariant.within in
    record {
      within = omega (arith, within, until);
      apart = apart_then c.args.list.now c.args.change.now first l.last c.args.end (c.apart_to-first.ensures.apart c.args.list.now c.requires.covered) l.invariant.apart;
    }

pub loop-last-preserved : goal.loop-last-preserved
loop-last-preserved c =
    let l = c.loop-last in
    let until = l.invariant.within in
    record {
      within = omega (arith, until);
      apart = one_apart c.args.list.now c.args.change.now (l.last - 1) l.last c.args.end (omega arith) (λ r there. c.is_touched.ensures.apart c.if-is_touched.false r (c.record_at.ensures.at ∙ there)) l.invariant.apart;
    }

pub returns-then-is_touched-clause-before : goal.returns-then-is_touched-clause-before
returns-then-is_touched-clause-before c =
    let until = c.loop-last.invariant.within in
    let some = c.loop-last-test.true in
    omega (arith, until, some)

pub returns-then-is_touched-clause-apart : goal.returns-then-is_touched-clause-apart
returns-then-is_touched-clause-apart c =
    let l = c.loop-last in
    apart_later c.args.list.now c.args.change.now l.last (l.last - 1 + 1) c.args.end (omega arith) l.invariant.apart

pub returns-clause-none : goal.returns-clause-none
returns-clause-none c =
    let l = c.loop-last in
    apart_later c.args.list.now c.args.change.now l.last 0 c.args.end (omega (arith, c.loop-last-test.false)) l.invariant.apart
