use Rattle.std.proofs.Common.{◌≡◌}
use Rattle.std.specs.Vec.Iter.{into_iter_items}
use Rattle.rerun_reasons.specs.Unanswered.{AreExplained, AreUnanswered}
use Rattle.rerun_reasons.proofs.finding.with_reasons.Given as goal

abbrev pub invariant-loop-executed : goal.invariant-loop-executed
invariant-loop-executed l = record {
  can_next : (goal.iterator-loop-executed).can_next l.executed-iterator;
  is_finite : (goal.iterator-loop-executed).is_finite l.executed-iterator;
  rest : AreUnanswered l.fn.setting (into_iter_items l.executed-iterator);
  explained : AreExplained l.fn.setting.checked.now.revisions l.fn.setting.tables.now.tables l.fn.setting.records.now l.explained.items;
}
