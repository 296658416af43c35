use Rattle.std.proofs.Common.{rules, to_z, of_z, w64, ◌≡◌, ℕ, ◌+◌, ◌-◌, ◌≤◌, ◌+ℤ◌, ℤ, pos, List, [], ◌∷◌, ◌++◌, Option, map, IfSome, Vec, Global, refl, sym, ap, ◌∙◌, subst, arith}
use Rattle.meaning.specs.Elision.{depth_limit}
use Rattle.linked_program.specs.CodeView.{expression as plain}
use Rattle.rerun_records.specs.declared.batch.Batch.{Batch}
use Rattle.positions.specs.Strands.{PlainStrand}
use Rattle.activations.specs.Given.{lent, loop_of}
use Rattle.loop_answers.specs.Batches.{instances_in, AreBatches, IsBatchFrom, CountsAt, AreArguments}
use Rattle.loop_answers.proofs.Batches.{instances_more, batches_more}
use Rattle.loop_answers.proofs.SoFar.{none_so_far, has_so_far}
use Rattle.loop_answers.proofs.finding.answers_by.Goals as goal
use Rattle.loop_answers.proofs.finding.answers_by.Goals.{then-asked-eq0-via-then-asked-eq0, then-asked-eq0-via-else-asked-eq0+then-is_err}

pub loop-preserved : goal.loop-preserved
loop-preserved g c =
    let S = lent c.args.setting in
    let a = c.args.code in
    let j = loop_of a in
    let s = c.args.machine.now in
    let inv = c.loop.invariant in
    let xs : List Batch = c.loop.batches.items in
    let b : Batch = c.in-Some.batch in
    let first = c.args.turns.share.first in
    let low = c.args.turns.site.low in
    let left = c.loop.most - c.loop.count in
    let items : c.put_batch.new.batches.items ≡ xs ++ b ∷ [] = search rules in
    let v : ℤ = to_z w64 (of_z w64 c.number_behind.result) in
    let at : v ≡ low +ℤ pos (first + c.loop.count) = search rules in
    let one : IsBatchFrom S s.layer.keeps j s.top.slots s.top.left v left b = subst (λ (x : PlainStrand). IsBatchFrom S x.layer.keeps j x.top.slots x.top.left v left b) inv.same c.in-Some.ensures.batch in
    let more : AreBatches S s.layer.keeps j s.top.slots s.top.left low first (xs ++ b ∷ []) =
    batches_more S s.layer.keeps j s.top.slots s.top.left low first xs b v left inv.batches one (at ∙ ap (λ n. low +ℤ pos (first + n)) inv.count) in
    let fits : b.count ≤ left = one.few in
    let before : c.loop.count ≤ c.loop.most = inv.few in
    let gap : c.loop.most - left ≡ c.loop.count = omega (arith, before) in
    let room : (c.loop.most - left) + b.count ≤ c.most_with-asked.result = c.most_with-asked.ensures.room (search rules) in
    let less : c.most_with-asked.result ≤ c.loop.most = c.most_with-asked.ensures.few in
    record {
      same = c.batch_from.ensures.unchanged ∙ inv.same;
      known = subst (λ (x : PlainStrand). IfSome c.counted_from-counted.result (λ place. AreArguments c.args.setting.tables.now.tables x.top.slots a.variable (map plain a.arguments.now) c.batch_from.new.numbers.items)) inv.same c.batch_from.ensures.known;
      count = ap (λ n. n + b.count) inv.count ∙ sym (instances_more xs b) ∙ ap instances_in (sym items);
      few = omega (arith, room, gap);
      most = omega (arith, less, inv.most);
      batches = subst (λ (bs : List Batch). AreBatches S s.layer.keeps j s.top.slots s.top.left low first bs) (sym items) more;
    }

pub returns-then-count-most-clause-answers : goal.returns-then-count-most-clause-answers
returns-then-count-most-clause-answers g c =
    has_so_far (lent c.args.setting) c.args.machine.now.layer.keeps c.args.turns.site c.args.machine.now.top (loop_of c.args.code) c.args.turns.share.first c.loop.batches.items c.found_so_far.result.batches.items
    c.requires.code c.in_ok-depth.ensures.memo c.in_ok-depth.ensures.room (rw c.found_so_far.ensures.batches refl) c.loop.invariant.batches

pub returns-then-count-most-clause-count : goal.returns-then-count-most-clause-count
returns-then-count-most-clause-count g c =
    let is : c.found_so_far.result.batches.items ≡ c.loop.batches.items = rw c.found_so_far.ensures.batches refl in
    c.found_so_far.ensures.count ∙ c.loop.invariant.count ∙ sym (ap instances_in is)

pub returns-then-count-most-clause-few : goal.returns-then-count-most-clause-few
returns-then-count-most-clause-few g c = omega (arith, c.found_so_far.ensures.count, c.loop.invariant.few, c.loop.invariant.most)

pub returns-then-asked-eq0-clause-answers : goal.returns-then-asked-eq0-clause-answers
returns-then-asked-eq0-clause-answers g c =
    let kept : c.then-asked-eq0.batches.items ≡ c.loop.batches.items = elim c.then-asked-eq0.branch [
      | then-asked-eq0-via-then-asked-eq0 w ↦ ap (λ (bs : Vec Batch Global). bs.items) w.batches-is
      | then-asked-eq0-via-else-asked-eq0+then-is_err w ↦ (let same : w.put_batch.new.batches.items ≡ c.loop.batches.items = search rules in ap (λ (bs : Vec Batch Global). bs.items) w.batches-is ∙ same)
    ] in
    has_so_far (lent c.args.setting) c.args.machine.now.layer.keeps c.args.turns.site c.args.machine.now.top (loop_of c.args.code) c.args.turns.share.first c.loop.batches.items c.found_so_far-then-asked-eq0.result.batches.items
    c.requires.code c.in_ok-depth.ensures.memo c.in_ok-depth.ensures.room (rw c.found_so_far-then-asked-eq0.ensures.batches kept) c.loop.invariant.batches

pub returns-then-asked-eq0-clause-count : goal.returns-then-asked-eq0-clause-count
returns-then-asked-eq0-clause-count g c =
    let kept : c.then-asked-eq0.batches.items ≡ c.loop.batches.items = elim c.then-asked-eq0.branch [
      | then-asked-eq0-via-then-asked-eq0 w ↦ ap (λ (bs : Vec Batch Global). bs.items) w.batches-is
      | then-asked-eq0-via-else-asked-eq0+then-is_err w ↦ (let same : w.put_batch.new.batches.items ≡ c.loop.batches.items = search rules in ap (λ (bs : Vec Batch Global). bs.items) w.batches-is ∙ same)
    ] in
    let is : c.found_so_far-then-asked-eq0.result.batches.items ≡ c.loop.batches.items = rw c.found_so_far-then-asked-eq0.ensures.batches kept in
    c.found_so_far-then-asked-eq0.ensures.count ∙ c.loop.invariant.count ∙ sym (ap instances_in is)

pub returns-then-asked-eq0-clause-few : goal.returns-then-asked-eq0-clause-few
returns-then-asked-eq0-clause-few g c = omega (arith, c.found_so_far-then-asked-eq0.ensures.count, c.loop.invariant.few, c.loop.invariant.most)

pub returns-in-None-clause-answers : goal.returns-in-None-clause-answers
returns-in-None-clause-answers g c =
    has_so_far (lent c.args.setting) c.args.machine.now.layer.keeps c.args.turns.site c.args.machine.now.top (loop_of c.args.code) c.args.turns.share.first c.loop.batches.items c.found_so_far-in-None.result.batches.items
    c.requires.code c.in_ok-depth.ensures.memo c.in_ok-depth.ensures.room (rw c.found_so_far-in-None.ensures.batches refl) c.loop.invariant.batches

pub returns-in-None-clause-count : goal.returns-in-None-clause-count
returns-in-None-clause-count g c =
    let is : c.found_so_far-in-None.result.batches.items ≡ c.loop.batches.items = rw c.found_so_far-in-None.ensures.batches refl in
    c.found_so_far-in-None.ensures.count ∙ c.loop.invariant.count ∙ sym (ap instances_in is)

pub returns-in-None-clause-few : goal.returns-in-None-clause-few
returns-in-None-clause-few g c = omega (arith, c.found_so_far-in-None.ensures.count, c.loop.invariant.few, c.loop.invariant.most)

pub returns-clause-answers : goal.returns-clause-answers
returns-clause-answers g c =
    has_so_far (lent c.args.setting) c.args.machine.now.layer.keeps c.args.turns.site c.args.machine.now.top (loop_of c.args.code) c.args.turns.share.first c.loop.batches.items c.found_so_far-2.result.batches.items
    c.requires.code c.in_ok-depth.ensures.memo c.in_ok-depth.ensures.room (rw c.found_so_far-2.ensures.batches refl) c.loop.invariant.batches

pub returns-clause-count : goal.returns-clause-count
returns-clause-count g c =
    let is : c.found_so_far-2.result.batches.items ≡ c.loop.batches.items = rw c.found_so_far-2.ensures.batches refl in
    c.found_so_far-2.ensures.count ∙ c.loop.invariant.count ∙ sym (ap instances_in is)

pub returns-clause-few : goal.returns-clause-few
returns-clause-few g c = omega (arith, c.found_so_far-2.ensures.count, c.loop.invariant.few, c.loop.invariant.most)

pub loop-init : goal.loop-init
loop-init g c =
    record {
      same = c.is_stale-is_stale.ensures.unchanged ∙ c.counted_from-counted.ensures.unchanged;
      known = subst (λ (o : Option ℕ). IfSome o (λ place. AreArguments c.args.setting.tables.now.tables c.args.machine.now.top.slots c.args.code.variable (map plain c.args.code.arguments.now) c.is_stale-is_stale.new.numbers.items)) c.first_ahead-first.ensures.counted
          (subst (λ (x : PlainStrand). IfSome c.first_ahead-first.result.counted (λ place. AreArguments c.args.setting.tables.now.tables x.top.slots c.args.code.variable (map plain c.args.code.arguments.now) c.is_stale-is_stale.new.numbers.items)) c.counted_from-counted.ensures.unchanged c.is_stale-is_stale.ensures.known);
      count = sym (ap instances_in c.new-batches.ensures.items);
      few = omega arith;
      most = c.most_asked-most.ensures.few;
      batches = subst (λ (bs : List Batch). AreBatches (lent c.args.setting) c.args.machine.now.layer.keeps (loop_of c.args.code) c.args.machine.now.top.slots c.args.machine.now.top.left c.args.turns.site.low c.args.turns.share.first bs)
          (sym c.new-batches.ensures.items) (none_so_far (lent c.args.setting) c.args.machine.now.layer.keeps (loop_of c.args.code) c.args.machine.now.top.slots c.args.machine.now.top.left c.args.turns.site.low c.args.turns.share.first);
    }

pub batch_from-requires-clause-known : goal.batch_from-requires-clause-known
batch_from-requires-clause-known g c κs within =
    subst (λ (x : PlainStrand). IfSome c.counted_from-counted.result (λ place. AreArguments c.args.setting.tables.now.tables x.top.slots c.args.code.variable (map plain c.args.code.arguments.now) c.loop.numbers.items)) (sym c.loop.invariant.same) c.loop.invariant.known

pub batch_from-requires-clause-counted : goal.batch_from-requires-clause-counted
batch_from-requires-clause-counted g c κs within =
    subst (λ (x : PlainStrand). IfSome c.counted_from-counted.result (CountsAt x.top.slots c.args.code.variable (map plain c.args.code.arguments.now))) (sym c.loop.invariant.same) c.counted_from-counted.ensures.counted

pub batch_from-requires-clause-depth : goal.batch_from-requires-clause-depth
batch_from-requires-clause-depth g c κs within =
    subst (λ (x : PlainStrand). c.in_ok-depth.depth ≡ depth_limit - (x.top.left - 1)) (sym c.loop.invariant.same) c.in_ok-depth.ensures.depth

pub is_stale-is_stale-requires-clause-known : goal.is_stale-is_stale-requires-clause-known
is_stale-is_stale-requires-clause-known g c κs within =
    subst (λ (o : Option ℕ). IfSome o (λ place. AreArguments c.args.setting.tables.now.tables c.counted_from-counted.new.machine.top.slots c.args.code.variable (map plain c.args.code.arguments.now) c.counted_from-counted.new.numbers.items)) (sym c.first_ahead-first.ensures.counted)
    (subst (λ (x : PlainStrand). IfSome c.counted_from-counted.result (λ place. AreArguments c.args.setting.tables.now.tables x.top.slots c.args.code.variable (map plain c.args.code.arguments.now) c.counted_from-counted.new.numbers.items)) (sym c.counted_from-counted.ensures.unchanged) c.counted_from-counted.ensures.known)

pub is_stale-is_stale-requires-clause-counted : goal.is_stale-is_stale-requires-clause-counted
is_stale-is_stale-requires-clause-counted g c κs within =
    subst (λ (o : Option ℕ). IfSome o (CountsAt c.counted_from-counted.new.machine.top.slots c.args.code.variable (map plain c.args.code.arguments.now))) (sym c.first_ahead-first.ensures.counted)
    (subst (λ (x : PlainStrand). IfSome c.counted_from-counted.result (CountsAt x.top.slots c.args.code.variable (map plain c.args.code.arguments.now))) (sym c.counted_from-counted.ensures.unchanged) c.counted_from-counted.ensures.counted)

pub is_stale-is_stale-requires-clause-depth : goal.is_stale-is_stale-requires-clause-depth
is_stale-is_stale-requires-clause-depth g c κs within =
    c.first_ahead-first.ensures.depth ∙ subst (λ (x : PlainStrand). c.in_ok-depth.depth ≡ depth_limit - (x.top.left - 1)) (sym c.counted_from-counted.ensures.unchanged) c.in_ok-depth.ensures.depth
