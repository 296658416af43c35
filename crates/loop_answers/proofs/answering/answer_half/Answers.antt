use Rattle.std.proofs.Common.{rules, ◌≡◌, ◌==◌, ◌||◌, nat_le, true, false, List, Ok, OnOk, OnErr, refl, sym, ap, ◌∙◌, subst}
use Rattle.monoid_laws.specs.Kinds.{AreWorths}
use Rattle.rerun_records.specs.declared.batch.Batch.{Batch}
use Rattle.positions.specs.Code.{PlainLoop, loop_at}
use Rattle.positions.specs.Strands.{PlainStrand}
use Rattle.activations.specs.Given.{lent, loop_of}
use Rattle.answered_loops.specs.Answered.{IsInside, is_by_turns}
use Rattle.loop_answers.specs.Ahead.{IsAnsweredAhead, IsRefusedAhead}
use Rattle.loop_answers.specs.Batches.{instances_in, HasBatches}
use Rattle.loop_answers.specs.Levels.{IsAtHalf}
use Rattle.loop_answers.proofs.Replays.{answered_same, refused_same, values_ready, half_over}
use Rattle.loop_answers.proofs.answering.answer_half.Goals as goal

pub answer_last-requires-clause-turns : goal.answer_last-requires-clause-turns
answer_last-requires-clause-turns g c κs within =
    let S = lent c.args.setting in
    let s = c.args.machine.now in
    let j : PlainLoop = loop_of c.loop_code-code.result in
    let found : j ≡ loop_at S.codes s.top.procedure c.args.turns.site = c.loop_code-code.ensures.found ∙ ap (λ f. loop_at S.codes f c.args.turns.site) (c.procedure.ensures.procedure ∙ ap (λ (z : PlainStrand). z.top.procedure) c.machine.view_is) in
    sym (c.goes_by_turns-by_turns.ensures.turns ∙ ap (λ (i : PlainLoop). (c.args.halvings == 0) || nat_le c.args.turns.share.count i.grain) found) ∙ c.if-by_turns.true

pub end_halves-requires-clause-values : goal.end_halves-requires-clause-values
end_halves-requires-clause-values g c κs within =
    let S = lent c.args.setting in
    let kinds : c.answers.new.machine.layer.kinds ≡ c.args.setting.program.now.kinds = search rules in
    values_ready S c.answers.new.machine.layer.kinds c.args.machine.now.layer.keeps c.args.turns.site c.args.machine.now.top c.args.turns.share.first c.in-Some.found.batches.items c.deref.result.now c.in-Some.ensures.answers c.deref.ensures.value kinds

pub returns-then-found-turns-clause-ahead : goal.returns-then-found-turns-clause-ahead
returns-then-found-turns-clause-ahead g c =
    let S = lent c.args.setting in
    let l = c.args.turns.site in
    let h = c.args.turns.share in
    let s = c.args.machine.now in
    let bs : List Batch = c.in-Some.found.batches.items in
    let same : c.deref.result.now ≡ bs = c.deref.ensures.value in
    let back : c.answers.new.machine ≡ s = c.answers.ensures.unchanged in
    let known : c.is_inside.result ≡ true = search rules in
    let inside : IsInside s = subst IsInside back (c.is_inside.ensures.inside known) in
    let all : c.in-Some.found.count ≡ h.count = search rules in
    let count : instances_in bs ≡ h.count = sym c.in-Some.ensures.count ∙ all in
    let are : AreWorths s.layer.kinds s.layer.worths = subst (λ (z : PlainStrand). AreWorths z.layer.kinds z.layer.worths) back c.of_kinds.ensures.worths in
    let has : HasBatches S s.layer.keeps l s.top h.first bs = c.in-Some.ensures.answers in
    let j : PlainLoop = loop_of c.loop_code-code.result in
    let found : j ≡ loop_at S.codes s.top.procedure l = c.loop_code-code.ensures.found ∙ ap (λ f. loop_at S.codes f l) (c.procedure.ensures.procedure ∙ ap (λ (z : PlainStrand). z.top.procedure) c.machine.view_is) in
    let halved : is_by_turns S.codes s.top l c.args.halvings h.count ≡ false =
    sym (c.goes_by_turns-by_turns.ensures.turns ∙ ap (λ (i : PlainLoop). (c.args.halvings == 0) || nat_le h.count i.grain) found) ∙ c.if-by_turns.false in
    half_over S {E = ⊥} (Ok c.in_ok-end_halves.field-0) s c.answers.new.machine c.end_halves.new.machine l h bs c.deref.result.now c.args.halvings
    back c.requires.running c.requires.kinds are has c.requires.there inside count halved same c.in_ok-end_halves.ensures.ended

-- where the machine is as it was

pub returns-in_default-clause-ahead : goal.returns-in_default-clause-ahead
returns-in_default-clause-ahead g c = answered_same (lent c.args.setting) c.args.machine.now c.answers.new.machine c.answers.ensures.unchanged

pub returns-then-not-is_inside-clause-ahead : goal.returns-then-not-is_inside-clause-ahead
returns-then-not-is_inside-clause-ahead g c = answered_same (lent c.args.setting) c.args.machine.now c.answers.new.machine c.answers.ensures.unchanged

pub returns-in_err-answer_last-clause-refused : goal.returns-in_err-answer_last-clause-refused
returns-in_err-answer_last-clause-refused g c =
    refused_same (lent c.args.setting) c.from_residual.result c.args.machine.now c.args.machine.now c.answer_last.new.machine refl c.in_err-answer_last.ensures.refused

pub returns-in_err-end_halves-clause-refused : goal.returns-in_err-end_halves-clause-refused
returns-in_err-end_halves-clause-refused g c =
    refused_same (lent c.args.setting) c.from_residual-in_err-end_halves.result c.args.machine.now c.answers.new.machine c.end_halves.new.machine c.answers.ensures.unchanged c.in_err-end_halves.ensures.refused

-- what it goes down from

pub descend-requires-clause-there : goal.descend-requires-clause-there
descend-requires-clause-there g c κs within =
    let S = lent c.args.setting in
    let l = c.args.turns.site in
    let h = c.args.turns.share in
    let s = c.args.machine.now in
    let back : c.answers.new.machine ≡ s = c.answers.ensures.unchanged in
    let known : c.is_inside.result ≡ true = search rules in
    let inside : IsInside s = subst IsInside back (c.is_inside.ensures.inside known) in
    let has : HasBatches S s.layer.keeps l s.top h.first c.deref-2.result.now =
    subst (HasBatches S s.layer.keeps l s.top h.first) (sym c.deref-2.ensures.value) c.in-Some.ensures.answers in
    subst (IsAtHalf S l c.args.halvings h c.deref-2.result.now) (sym back)
    (record { running = c.requires.running; work = c.requires.there; fits = c.requires.fits; inside = inside; answers = has })

pub descend-requires-clause-kinds : goal.descend-requires-clause-kinds
descend-requires-clause-kinds g c κs within = ap (λ (z : PlainStrand). z.layer.kinds) c.answers.ensures.unchanged ∙ c.requires.kinds

pub returns-clause-ahead : goal.returns-clause-ahead
returns-clause-ahead g c =
    subst (λ (z : PlainStrand). OnOk c.descend.result (IsAnsweredAhead (lent c.args.setting) z c.descend.new.machine)) c.answers.ensures.unchanged c.descend.ensures.ahead

pub returns-clause-refused : goal.returns-clause-refused
returns-clause-refused g c =
    subst (λ (z : PlainStrand). OnErr c.descend.result (IsRefusedAhead (lent c.args.setting) z c.descend.new.machine)) c.answers.ensures.unchanged c.descend.ensures.refused
