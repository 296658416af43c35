use Rattle.std.proofs.Common.{◌<◌, ◌≤◌, subst, arith}
use Rattle.std.proofs.lemmas.Option.{slice_get_within}
use Rattle.rerun_records.specs.Skips.{PlainSkip}
use Rattle.rerun_records.proofs.Passing.{there_skip, one_more_skip}
use Rattle.rerun_records.proofs.skips.around.Goals as goal

pub loop-number-preserved : goal.loop-number-preserved
loop-number-preserved c = λ places records done h.
    one_more_skip (λ s. s.first ≤ c.args.place → c.args.place < s.until → ⊥) c.args.skips.now c.loop-number.number c.index-skips-number.result c.index-skips-number.is (c.is_around.ensures.apart c.if-is_around.false)
    (c.loop-number.invariant places records done h)

pub returns-then-is_around-clause-around : goal.returns-then-is_around-clause-around
returns-then-is_around-clause-around c = λ s at.
    subst (λ (x : PlainSkip). (x.first ≤ c.args.place) × (c.args.place < x.until)) (there_skip c.args.skips.now c.loop-number.number c.index-skips-number.result s c.index-skips-number.is at) (c.is_around.ensures.around c.if-is_around.true)

pub returns-clause-around : goal.returns-clause-around
returns-clause-around c = λ s at. (let within = slice_get_within c.args.skips.now c.loop-number.number s at in absurd (omega (arith, within, c.loop-number-test.false)))

pub loop-number-init : goal.loop-number-init
loop-number-init c = λ places records done h i s l at from until. (let ends = c.first_behind-number.ensures.before places records done h i s l at in omega (arith, ends, until))
