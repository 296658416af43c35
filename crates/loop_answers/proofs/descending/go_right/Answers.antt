use Rattle.std.proofs.Common.{rules, ◌≡◌, ◌-◌, true, take, drop, refl, sym, ap, ◌∙◌, subst}
use Rattle.rerun_records.specs.declared.batch.Batch.{Batch}
use Rattle.positions.specs.declared.work.Share.{Share}
use Rattle.positions.specs.Activations.{ShareFits}
use Rattle.positions.specs.Strands.{PlainStrand}
use Rattle.positions.specs.Advance.{second_half, right_of}
use Rattle.activations.specs.Given.{lent}
use Rattle.loop_answers.specs.Ahead.{IsAnsweredAhead, DoneBy}
use Rattle.loop_answers.specs.Batches.{HasBatches, first_left}
use Rattle.loop_answers.specs.Levels.{IsAtHalf, right_entered}
use Rattle.loop_answers.proofs.Batches.{has_first}
use Rattle.loop_answers.proofs.Replays.{values_ready, first_ends}
use Rattle.loop_answers.proofs.Levels.{right_ahead, right_there}
use Rattle.loop_answers.proofs.descending.go_right.Goals as goal

pub end_first-requires-clause-values : goal.end_first-requires-clause-values
end_first-requires-clause-values g c κs within =
    let S = lent c.args.setting in
    let bs = take c.args.count c.args.found.now in
    values_ready S c.args.machine.now.layer.kinds c.args.machine.now.layer.keeps c.args.turns.site c.args.machine.now.top c.args.turns.share.first bs bs
    (has_first S c.args.machine.now.layer.keeps c.args.turns.site c.args.machine.now.top c.args.turns.share.first c.args.count c.args.found.now c.requires.there.answers) refl c.requires.kinds

pub returns-in-Ok-clause-ahead : goal.returns-in-Ok-clause-ahead
returns-in-Ok-clause-ahead g c =
    let S = lent c.args.setting in
    let l = c.args.turns.site in
    let k = c.args.halvings in
    let h = c.args.turns.share in
    let s = c.args.machine.now in
    let m = c.end_first.new.machine in
    let at = c.requires.there in
    let bs = take c.args.count c.args.found.now in
    let has : HasBatches S s.layer.keeps l s.top h.first bs = has_first S s.layer.keeps l s.top h.first c.args.count c.args.found.now at.answers in
    let done : c.in_ok-end_first.field-0 ≡ true = search rules in
    let first : m ≡ first_left l (k - 1) h bs s = subst (λ d. DoneBy d (m ≡ first_left l (k - 1) h bs s) (m ≡ s)) done c.in_ok-end_first.ensures.ended in
    let less : c.saturating_sub.result ≡ k - 1 = search rules in
    let second : c.second_half.new.self ≡ right_entered l k h bs s =
    c.in-Ok.ensures.second ∙ ap (λ n. second_half l n c.right_of-share.result m) less ∙ ap (λ (j : Share). second_half l (k - 1) j m) c.right_of-share.ensures.half ∙ ap (second_half l (k - 1) (right_of h)) first in
    let ahead : IsAnsweredAhead S s (first_left l (k - 1) h bs s) =
    first_ends S s s (first_left l (k - 1) h bs s) l h bs refl at.running c.requires.kinds c.of_kinds.ensures.worths has k true at.work at.inside c.requires.half c.requires.halved refl in
    right_ahead S l k h s at.running at.work c.second_half.new.self bs ahead second

pub returns-in-Ok-clause-below : goal.returns-in-Ok-clause-below
returns-in-Ok-clause-below g c =
    let S = lent c.args.setting in
    let l = c.args.turns.site in
    let k = c.args.halvings in
    let h = c.args.turns.share in
    let s = c.args.machine.now in
    let m = c.end_first.new.machine in
    let all = c.args.found.now in
    let bs = take c.args.count all in
    let done : c.in_ok-end_first.field-0 ≡ true = search rules in
    let first : m ≡ first_left l (k - 1) h bs s = subst (λ d. DoneBy d (m ≡ first_left l (k - 1) h bs s) (m ≡ s)) done c.in_ok-end_first.ensures.ended in
    let less : c.saturating_sub.result ≡ k - 1 = search rules in
    let second : c.second_half.new.self ≡ right_entered l k h bs s =
    c.in-Ok.ensures.second ∙ ap (λ n. second_half l n c.right_of-share.result m) less ∙ ap (λ (j : Share). second_half l (k - 1) j m) c.right_of-share.ensures.half ∙ ap (second_half l (k - 1) (right_of h)) first in
    let fits : ShareFits l (right_of h) = subst (ShareFits l) c.right_of-share.ensures.half c.right_of-share.ensures.fits in
    record {
      within = c.requires.within;
      there = subst (λ (j : Share). IsAtHalf S l (k - 1) j (drop c.args.count all) c.second_half.new.self) (sym c.right_of-share.ensures.half)
          (right_there S l k h all s c.requires.there c.second_half.new.self c.args.count fits c.requires.half second);
    }

pub returns-in-Err-clause-ahead : goal.returns-in-Err-clause-ahead
returns-in-Err-clause-ahead g c =
    let S = lent c.args.setting in
    let l = c.args.turns.site in
    let k = c.args.halvings in
    let h = c.args.turns.share in
    let s = c.args.machine.now in
    let m = c.end_first.new.machine in
    let at = c.requires.there in
    let bs = take c.args.count c.args.found.now in
    let has : HasBatches S s.layer.keeps l s.top h.first bs = has_first S s.layer.keeps l s.top h.first c.args.count c.args.found.now at.answers in
    let done : c.in_ok-end_first.field-0 ≡ true = search rules in
    let first : m ≡ first_left l (k - 1) h bs s = subst (λ d. DoneBy d (m ≡ first_left l (k - 1) h bs s) (m ≡ s)) done c.in_ok-end_first.ensures.ended in
    let ahead : IsAnsweredAhead S s (first_left l (k - 1) h bs s) =
    first_ends S s s (first_left l (k - 1) h bs s) l h bs refl at.running c.requires.kinds c.of_kinds.ensures.worths has k true at.work at.inside c.requires.half c.requires.halved refl in
    subst (λ (x : PlainStrand). IsAnsweredAhead S s x) (sym (c.in-Err.ensures.unchanged ∙ first)) ahead
