use Rattle.std.proofs.Common.{rules, ◌≡◌, ◌≤◌, true, List, Ok, refl, sym, ◌∙◌, subst}
use Rattle.monoid_laws.specs.Kinds.{AreWorths}
use Rattle.rerun_records.specs.declared.batch.Batch.{Batch}
use Rattle.positions.specs.Strands.{PlainStrand}
use Rattle.activations.specs.Given.{lent}
use Rattle.answered_loops.specs.Answered.{IsInside}
use Rattle.loop_answers.specs.Batches.{instances_in, HasBatches}
use Rattle.loop_answers.proofs.Replays.{values_ready, last_over, begun_over}
use Rattle.loop_answers.proofs.answering.answer_last.Goals as goal

pub end_last-requires-clause-values : goal.end_last-requires-clause-values
end_last-requires-clause-values g c κs within =
    let S = lent c.args.setting in
    let bs : List Batch = c.in-Some.found.batches.items in
    let kinds : c.answers.new.machine.layer.kinds ≡ c.args.setting.program.now.kinds = search rules in
    values_ready S c.answers.new.machine.layer.kinds c.args.machine.now.layer.keeps c.args.site c.args.machine.now.top c.args.share.first bs bs c.in-Some.ensures.answers refl kinds

pub begin_turns-requires-clause-values : goal.begin_turns-requires-clause-values
begin_turns-requires-clause-values g c κs within =
    let S = lent c.args.setting in
    let bs : List Batch = c.in-Some.found.batches.items in
    let kinds : c.answers.new.machine.layer.kinds ≡ c.args.setting.program.now.kinds = search rules in
    values_ready S c.answers.new.machine.layer.kinds c.args.machine.now.layer.keeps c.args.site c.args.machine.now.top c.args.share.first bs bs c.in-Some.ensures.answers refl kinds

pub returns-then-ends-clause-ahead : goal.returns-then-ends-clause-ahead
returns-then-ends-clause-ahead g c =
    let S = lent c.args.setting in
    let s = c.args.machine.now in
    let bs : List Batch = c.in-Some.found.batches.items in
    let back : c.answers.new.machine ≡ s = c.answers.ensures.unchanged in
    let are : AreWorths s.layer.kinds s.layer.worths = subst (λ (z : PlainStrand). AreWorths z.layer.kinds z.layer.worths) back c.of_kinds.ensures.worths in
    let has : HasBatches S s.layer.keeps c.args.site s.top c.args.share.first bs = c.in-Some.ensures.answers in
    let known : c.ends_with-ends.result ≡ true = c.if-ends.true in
    let inside : IsInside s = subst IsInside back (c.ends_with-ends.ensures.inside known) in
    let all : instances_in bs ≡ c.args.share.count = sym c.in-Some.ensures.count ∙ c.ends_with-ends.ensures.all known in
    last_over S {E = ⊥} (Ok c.in_ok-end_last.field-0) s c.answers.new.machine c.end_last.new.machine c.args.site c.args.share bs c.args.halvings
    back c.requires.running c.requires.kinds are has c.requires.there inside all c.requires.turns c.in_ok-end_last.ensures.ended

pub returns-clause-ahead : goal.returns-clause-ahead
returns-clause-ahead g c =
    let S = lent c.args.setting in
    let s = c.args.machine.now in
    let bs : List Batch = c.in-Some.found.batches.items in
    let back : c.answers.new.machine ≡ s = c.answers.ensures.unchanged in
    let are : AreWorths s.layer.kinds s.layer.worths = subst (λ (z : PlainStrand). AreWorths z.layer.kinds z.layer.worths) back c.of_kinds.ensures.worths in
    let has : HasBatches S s.layer.keeps c.args.site s.top c.args.share.first bs = c.in-Some.ensures.answers in
    let few : instances_in bs ≤ c.args.share.count = subst (λ n. n ≤ c.args.share.count) c.in-Some.ensures.count c.in-Some.ensures.few in
    begun_over S {E = ⊥} (Ok c.in_ok-begin_turns.field-0) s c.answers.new.machine c.begin_turns.new.machine c.args.site c.args.share bs c.args.halvings
    back c.requires.running c.requires.kinds are has c.requires.there few c.requires.turns c.in_ok-begin_turns.ensures.ended
