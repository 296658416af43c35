use Rattle.std.proofs.Common.{rules, ◌≡◌, ◌∙◌, ◌<◌, ◌≤◌, Ok, drop, length, map, sym, subst, ap, arith}
use Rattle.std.proofs.lemmas.List.{length-map, length-set}
use Rattle.linked_program.specs.CodeView.{expression as plain}
use Rattle.linked_program.specs.Linked.{Linked}
use Rattle.evaluation.specs.Values.{values_at, entry_at, changed}
use Rattle.evaluation.proofs.Padded.{so_far, put_next, stopped, all_done}
use Rattle.evaluation.proofs.unnoted.put_over.Goals as goal

pub returns-in-Err : goal.returns-in-Err
returns-in-Err c =
    let ts = c.args.tables.now.tables in
    let es = map plain c.args.arguments.now in
    record {
      answer = stopped ts c.args.slots.now es c.loop-place.place
          (so_far c.loop-place.made.items (length c.args.made.now.items) c.loop-place.place)
          (entry_at ts c.args.slots.now (length c.args.made.now.items) es) c.in-Err.stop c.loop-place.invariant.answer c.in-Err.ensures.answer;
    }

pub loop-place-preserved : goal.loop-place-preserved
loop-place-preserved c =
    let ts = c.args.tables.now.tables in
    let es = map plain c.args.arguments.now in
    let made = c.loop-place.made.items in
    let n = length c.args.made.now.items in
    let less : c.loop-place.place < n = search rules in
    record {
      long = length-set made c.loop-place.place c.in-Ok.slot ∙ c.loop-place.invariant.long;
      answer = c.loop-place.invariant.answer ∙ put_next ts c.args.slots.now es c.loop-place.place n made c.in-Ok.slot less c.loop-place.invariant.long c.in-Ok.ensures.answer;
    }

pub returns : goal.returns
returns c =
    let ts = c.args.tables.now.tables in
    let es = map plain c.args.arguments.now in
    let made = c.loop-place.made.items in
    let n = length c.args.made.now.items in
    let few : length es ≤ n = subst (λ k. k ≤ n) (sym (length-map c.args.arguments.now plain)) c.requires.room in
    let at_end : c.loop-place.place ≡ n = search rules in
    let now : changed (so_far made n n) (values_at ts c.args.slots.now (drop n es)).answer ≡ Ok made = all_done ts c.args.slots.now es n made few c.loop-place.invariant.long in
    record {
      answer = c.loop-place.invariant.answer ∙ subst (λ k. changed (so_far made n k) (values_at ts c.args.slots.now (drop k es)).answer ≡ Ok made) (sym at_end) now;
    }
