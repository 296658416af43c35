use Rattle.std.proofs.Common.{rules, ◌≡◌, ◌<◌, ℤ, Bool, List, [], map, length, slice_set, IfSome, sym, subst}
use Rattle.linked_program.specs.Linked.{Linked}
use Rattle.linked_program.specs.CodeView.{expression}
use Rattle.evaluation.specs.declared.slot.Slot.TheVariants.{Has}
use Rattle.evaluation.specs.Values.{values_at, pure}
use Rattle.activations.specs.Given.{lent, loop_of}
use Rattle.answered_loops.proofs.Arguments.{counted_within, other_values}
use Rattle.loop_answers.specs.Batches.{IsBatchFrom, CountsAt, AreArguments}
use Rattle.loop_answers.proofs.Replays.{batches_answer}
use Rattle.loop_answers.proofs.finding.batch_from.Goals as goal

pub put_number-requires : goal.put_number-requires
put_number-requires g c =
    let T = c.args.setting.tables.now.tables in
    let a = c.args.code in
    let s = c.args.machine.now in
    let es : List Linked = map expression a.arguments.now in
    let at : CountsAt s.top.slots a.variable es c.in-Some.place = subst (λ o. IfSome o (CountsAt s.top.slots a.variable es)) c.in-Some.is c.requires.counted in
    let known : AreArguments T s.top.slots a.variable es c.args.numbers.now.items = subst (λ o. IfSome o (λ place. AreArguments T s.top.slots a.variable es c.args.numbers.now.items)) c.in-Some.is c.requires.known in
    record { within = counted_within T s.top.slots a.variable c.in-Some.place es known.of c.args.numbers.now.items at.counts at.has_slot known.values }

pub batch-requires-clause-counted : goal.batch-requires-clause-counted
batch-requires-clause-counted g c =
    let T = c.args.setting.tables.now.tables in
    let a = c.args.code in
    let s = c.args.machine.now in
    let es : List Linked = map expression a.arguments.now in
    let at : CountsAt s.top.slots a.variable es c.in-Some.place = subst (λ o. IfSome o (CountsAt s.top.slots a.variable es)) c.in-Some.is c.requires.counted in
    let known : AreArguments T s.top.slots a.variable es c.args.numbers.now.items = subst (λ o. IfSome o (λ place. AreArguments T s.top.slots a.variable es c.args.numbers.now.items)) c.in-Some.is c.requires.known in
    let v : ℤ = c.args.ahead.number in
    let put : c.deref.result.now ≡ slice_set c.args.numbers.now.items c.in-Some.place v = search rules in
    subst (λ (vs : List ℤ). c.in-Some.place < length vs) (sym put)
    (counted_within T s.top.slots a.variable c.in-Some.place es v (slice_set c.args.numbers.now.items c.in-Some.place v) at.counts at.has_slot
    (other_values T s.top.slots a.variable c.in-Some.place es known.of c.args.numbers.now.items at.counts at.has_slot known.values v))

pub returns-in-Some-clause-batch : goal.returns-in-Some-clause-batch
returns-in-Some-clause-batch g c =
    let T = c.args.setting.tables.now.tables in
    let a = c.args.code in
    let s = c.args.machine.now in
    let es : List Linked = map expression a.arguments.now in
    let at : CountsAt s.top.slots a.variable es c.in-Some.place = subst (λ o. IfSome o (CountsAt s.top.slots a.variable es)) c.in-Some.is c.requires.counted in
    let known : AreArguments T s.top.slots a.variable es c.args.numbers.now.items = subst (λ o. IfSome o (λ place. AreArguments T s.top.slots a.variable es c.args.numbers.now.items)) c.in-Some.is c.requires.known in
    let j = loop_of a in
    let v : ℤ = c.args.ahead.number in
    let vs : List ℤ = slice_set c.args.numbers.now.items c.in-Some.place v in
    let put : c.deref.result.now ≡ vs = search rules in
    let keeps : c.keeps_reads-keeps.result ≡ s.layer.keeps = c.keeps_reads-keeps.ensures.keeps in
    subst (λ (b : Bool). IfSome c.batch.result (IsBatchFrom (lent c.args.setting) b j s.top.slots s.top.left v c.args.ahead.most)) keeps
    (batches_answer c.args.setting.program.now T [] c.args.setting.records.now j s.top.slots s.top.left c.args.ahead.depth c.requires.deep c.requires.depth
    c.keeps_reads-keeps.result c.batch.result c.args.ahead.most c.in-Some.place v vs c.deref.result.now put at
    (other_values T s.top.slots a.variable c.in-Some.place es known.of c.args.numbers.now.items at.counts at.has_slot known.values v) c.batch.ensures.batch)

pub returns-in-Some-clause-known : goal.returns-in-Some-clause-known
returns-in-Some-clause-known g c =
    let T = c.args.setting.tables.now.tables in
    let a = c.args.code in
    let s = c.args.machine.now in
    let es : List Linked = map expression a.arguments.now in
    let at : CountsAt s.top.slots a.variable es c.in-Some.place = subst (λ o. IfSome o (CountsAt s.top.slots a.variable es)) c.in-Some.is c.requires.counted in
    let known : AreArguments T s.top.slots a.variable es c.args.numbers.now.items = subst (λ o. IfSome o (λ place. AreArguments T s.top.slots a.variable es c.args.numbers.now.items)) c.in-Some.is c.requires.known in
    let v : ℤ = c.args.ahead.number in
    let put : c.put_number.new.numbers.items ≡ slice_set c.args.numbers.now.items c.in-Some.place v = search rules in
    subst (λ o. IfSome o (λ place. AreArguments T s.top.slots a.variable es c.put_number.new.numbers.items)) (sym c.in-Some.is)
    (record {
      of = v;
      values = subst (λ (ns : List ℤ). values_at T (slice_set s.top.slots a.variable (Has v)) es ≡ pure ns) (sym put)
          (other_values T s.top.slots a.variable c.in-Some.place es known.of c.args.numbers.now.items at.counts at.has_slot known.values v);
    })
