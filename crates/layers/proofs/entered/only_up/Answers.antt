use Rattle.std.proofs.Common.{rules, ◌≡◌, ◌++◌, ◌+◌, [], None, ap, ◌∙◌, drop, refl, slice_get, subst}
use Rattle.positions.specs.Tallies.{entries_from}
use Rattle.layers.specs.Recordings.{entry_of, found_entry}
use Rattle.layers.proofs.Touches.{entries_all, entry_next, entry_passed, only_entry}
use Rattle.layers.proofs.entered.only_up.Goals as goal
use Rattle.layers.proofs.entered.only_up.Goals.{then-flags-i+else-is_some, else-flags-i}

pub loop-i-preserved : goal.loop-i-preserved
loop-i-preserved c = elim c.if-flags-i.branch [
  | then-flags-i+else-is_some w ↦ λ es.
      let none : c.loop-i.found ≡ None = search rules in
      let i = c.loop-i.i in
      ap (λ o. found_entry es o ++ entries_from (i + 1) (drop (i + 1) es) (drop (i + 1) c.args.flags.now)) w.found-is
      ∙ entry_next [] i es c.args.flags.now
      (subst (λ o. found_entry es o ++ entries_from i (drop i es) (drop i c.args.flags.now) ≡ entries_from 0 es c.args.flags.now) none (c.loop-i.invariant es))
      (entry_of i (slice_get es i)) c.loop-i-test.true w.if-flags-i.true refl
  | else-flags-i w ↦ λ es.
      let i = c.loop-i.i in
      ap (λ o. found_entry es o ++ entries_from (i + 1) (drop (i + 1) es) (drop (i + 1) c.args.flags.now)) w.found-is
      ∙ entry_passed (found_entry es c.loop-i.found) i es c.args.flags.now (c.loop-i.invariant es) c.loop-i-test.true w.if-flags-i.false
]

pub returns : goal.returns
returns c = record {
  only = λ es. only_entry es c.args.flags.now c.loop-i.found
      (entries_all (found_entry es c.loop-i.found) c.loop-i.i es c.args.flags.now (c.loop-i.invariant es) (search rules));
}
