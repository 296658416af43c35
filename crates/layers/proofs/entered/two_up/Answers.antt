use Rattle.std.proofs.Common.{rules, ◌≡◌, ◌++◌, ◌+◌, [], None, Some, ap, ◌∙◌, drop, refl, slice_get, subst}
use Rattle.positions.specs.Tallies.{entries_from}
use Rattle.layers.specs.Recordings.{entry_of, found_entry}
use Rattle.layers.proofs.Touches.{entries_all, entry_next, entry_passed, two_entries}
use Rattle.layers.proofs.entered.two_up.Goals as goal
use Rattle.layers.proofs.entered.two_up.Goals.{then-flags-i+else-is_some, else-flags-i}

pub loop-i-preserved : goal.loop-i-preserved
loop-i-preserved c = elim c.if-flags-i.branch [
  | then-flags-i+else-is_some w ↦ λ es.
      let none : c.loop-i.older ≡ None = search rules in
      let i = c.loop-i.i in
      let fs = c.args.flags.now in
      ap (λ o. (found_entry es o ++ found_entry es c.if-flags-i.newer) ++ entries_from (i + 1) (drop (i + 1) es) (drop (i + 1) fs)) w.older-is
      ∙ ap (λ o. (found_entry es c.loop-i.newer ++ found_entry es o) ++ entries_from (i + 1) (drop (i + 1) es) (drop (i + 1) fs)) w.newer-is
      ∙ entry_next (found_entry es c.loop-i.newer) i es fs
      (subst (λ o. (found_entry es o ++ found_entry es c.loop-i.newer) ++ entries_from i (drop i es) (drop i fs) ≡ entries_from 0 es fs) none (c.loop-i.invariant es))
      (found_entry es c.loop-i.newer ++ entry_of i (slice_get es i)) c.loop-i-test.true w.if-flags-i.true refl
  | else-flags-i w ↦ λ es.
      let i = c.loop-i.i in
      let fs = c.args.flags.now in
      ap (λ o. (found_entry es o ++ found_entry es c.if-flags-i.newer) ++ entries_from (i + 1) (drop (i + 1) es) (drop (i + 1) fs)) w.older-is
      ∙ ap (λ o. (found_entry es c.loop-i.older ++ found_entry es o) ++ entries_from (i + 1) (drop (i + 1) es) (drop (i + 1) fs)) w.newer-is
      ∙ entry_passed (found_entry es c.loop-i.older ++ found_entry es c.loop-i.newer) i es fs (c.loop-i.invariant es) c.loop-i-test.true w.if-flags-i.false
]

pub returns : goal.returns
returns c = record {
  two = λ es.
      let i = c.loop-i.i in
      let fs = c.args.flags.now in
      two_entries es fs c.loop-i.older c.loop-i.newer c.both.result c.both.ensures.older c.both.ensures.newer
      (entries_all (found_entry es c.loop-i.older ++ found_entry es c.loop-i.newer) i es fs (c.loop-i.invariant es) (search rules));
}
