use Rattle.std.proofs.Common.{rules, ◌≡◌, ◌+◌, ◌-◌, ◌≤◌, List, length, drop, Some, IfSome, refl, sym, ap, ◌∙◌, subst, arith}
use Rattle.std.proofs.lemmas.List.{length-drop}
use Rattle.rerun_records.specs.declared.batch.Batch.{Batch}
use Rattle.activations.specs.Given.{lent}
use Rattle.loop_answers.specs.Levels.{IsAtHalf, IsBelow}
use Rattle.loop_answers.proofs.Levels.{ahead_join, passed}
use Rattle.loop_answers.proofs.Replays.{answered_same}
use Rattle.loop_answers.proofs.descending.descend.Goals as goal

pub loop-init : goal.loop-init
loop-init g c = record {
  within = (let some : 0 ≤ length c.args.found.now = omega arith in some);
  ahead = answered_same (lent c.args.setting) c.args.machine.now c.args.machine.now refl;
  there = c.requires.there;
}

pub returns-then-not-is_known-clause-ahead : goal.returns-then-not-is_known-clause-ahead
returns-then-not-is_known-clause-ahead g c =
    ahead_join (lent c.args.setting) c.args.machine.now c.loop.machine c.go_down.new.machine c.loop.invariant.ahead c.in-Ok-Some.ensures.ahead

pub returns-in-Ok-None-clause-ahead : goal.returns-in-Ok-None-clause-ahead
returns-in-Ok-None-clause-ahead g c =
    ahead_join (lent c.args.setting) c.args.machine.now c.loop.machine c.go_down.new.machine c.loop.invariant.ahead c.in-Ok-None.ensures.ahead

pub loop-preserved : goal.loop-preserved
loop-preserved g c =
    let S = lent c.args.setting in
    let l = c.args.turns.site in
    let all : List Batch = c.args.found.now in
    let rest : List Batch = c.behind-rest.result.now in
    let level = c.in-Ok-Some.level in
    let t = c.go_down.new.machine in
    let before : c.loop.passed ≤ length all = c.loop.invariant.within in
    let some : c.in-Ok-Some.field-0 ≡ Some level = search rules in
    let below : IsBelow S l c.loop.descent.halvings level.share rest level.passed t = subst (λ o. IfSome o (λ b. IsBelow S l c.loop.descent.halvings b.share rest b.passed t)) some c.in-Ok-Some.ensures.below in
    let is : rest ≡ drop c.loop.passed all = c.behind-rest.ensures.rest in
    let long : length rest ≡ length all - c.loop.passed = ap length is ∙ length-drop c.loop.passed all in
    let few : level.passed ≤ length rest = below.within in
    let less : c.saturating_sub.result ≡ c.loop.descent.halvings - 1 = search rules in
    let there : IsAtHalf S l c.saturating_sub.result level.share (drop level.passed rest) t =
    subst (λ n. IsAtHalf S l n level.share (drop level.passed rest) t) (sym less) below.there in
    record {
      within = (let fits : c.loop.passed + level.passed ≤ length all = omega arith in fits);
      ahead = ahead_join S c.args.machine.now c.loop.machine t c.loop.invariant.ahead c.in-Ok-Some.ensures.ahead;
      there = passed S l c.saturating_sub.result level.share all rest c.loop.passed level.passed t is there;
    }
