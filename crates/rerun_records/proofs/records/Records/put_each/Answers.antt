use Rattle.std.proofs.Common.{sym, subst}
use Rattle.record_theory.specs.InStep.{IsInStep}
use Rattle.record_theory.specs.OneTime.{AreOfOneTime}
use Rattle.rerun_records.proofs.OneTime.{put_once}
use Rattle.rerun_records.proofs.WithNumbers.{put_into, as_made_put_into, same_view}
use Rattle.rerun_records.proofs.records.Records.put_each.Goals as goal

pub returns-clause-put : goal.returns-clause-put
returns-clause-put c = record {
  put =
      put_into c.self.inside.numbers.items _ c.put_all.new.numbers.items c.self.inside.list.items _ c.put_all.new.list.items c.args.self.now c.args.records.items
      c.reserve-3.ensures.items c.reserve.ensures.items c.self.view_is c.put_all.ensures.put;
  put_as_made =
      as_made_put_into c.self.inside.numbers.items _ c.put_all.new.numbers.items c.self.inside.list.items _ c.put_all.new.list.items c.args.self.now c.args.records.items
      c.reserve-3.ensures.items c.reserve.ensures.items c.self.view_is c.put_all.ensures.as_made;
  in_step = λ tables h n.
      c.put_all.ensures.in_step tables
      (subst (IsInStep tables) (sym (same_view c.self.inside.numbers.items _ c.self.inside.list.items _ c.args.self.now c.reserve-3.ensures.items c.reserve.ensures.items c.self.view_is)) h)
      n;
}

pub invariant_of-self-2 : goal.invariant_of-self-2
invariant_of-self-2 c = (
  c.put_all.ensures.numbers,
  c.put_all.ensures.fit,
  c.put_all.ensures.numbered,
  c.put_all.ensures.covered,
  put_once _ c.put_all.new.numbers.items _ c.put_all.new.list.items c.args.records.items c.put_all.ensures.put (subst AreOfOneTime (sym c.reserve.ensures.items) c.self.invariant.4) c.requires.once,
)
