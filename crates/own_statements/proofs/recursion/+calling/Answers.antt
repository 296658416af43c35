use Rattle.std.proofs.Common.{rules, ◌≡◌, ◌∙◌, ◌<◌, ◌≤◌, ◌+◌, ◌-◌, ◌==◌, take, replicate, ℕ, ℤ, Bool, true, false, List, [], ◌∷◌, Option, Some, None, length, map, refl, sym, ap, slice_get, slice_set, subst, to_z, of_z, w64}
use Rattle.std.proofs.lemmas.List.{length-map}
use Rattle.std.proofs.lemmas.Option.{slice_get_read, slice_get_past}
use Rattle.std.specs.Prelude.{IfSome}
use Rattle.meaning.specs.declared.tree.Way.TheVariants.{Call}
use Rattle.meaning.specs.Tables.{Tables}
use Rattle.linked_program.specs.declared.code.Expression.{Expression}
use Rattle.linked_program.specs.declared.code.Operation.TheVariants.{Enter}
use Rattle.linked_program.specs.declared.code.Instruction.{Instruction}
use Rattle.linked_program.specs.CodeView.{expression}
use Rattle.evaluation.specs.declared.slot.Slot.{Slot}
use Rattle.evaluation.specs.declared.slot.Slot.TheVariants.{Has, Unset}
use Rattle.evaluation.specs.Slots.{slots_for}
use Rattle.evaluation.specs.Values.{value_at, values_at, pure}
use Rattle.record_theory.specs.Record.{PlainRecord}
use Rattle.positions.specs.declared.work.Position.{Position}
use Rattle.positions.specs.declared.work.Work.TheVariants.{Block}
use Rattle.positions.specs.Activations.{first_of, made}
use Rattle.positions.specs.Code.{instruction_inside}
use Rattle.positions.specs.Layers.{PlainLayer}
use Rattle.positions.specs.Setting.{setting_with}
use Rattle.own_statements.specs.Paths.{here}
use Rattle.own_statements.specs.Recursion.{Comes, Gives, begun, deep, IsBegun, IsCalled}
use Rattle.own_statements.proofs.OwnCalls.{comes_next, comes_gave, comes_over, comes_found, begun_first, values_are, is_called}
use Rattle.own_statements.proofs.recursion.+calling.Goals as goal

pub value_of-loop-index-init : goal.value_of-loop-index-init
value_of-loop-index-init t c = record { size = refl; come = λ ts rs m. record { children = 0; spawned = false; into = None; way = λ s may. here } }

pub value_of-loop-index-preserved : goal.value_of-loop-index-preserved
value_of-loop-index-preserved t c =
    let xs = c.args.own.body.now in
    let index = c.loop-index.index in
    let i = c.index-body-index.result in
    let there : index < length xs = search rules in
    let found : Some i ≡ instruction_inside c.args.program.now.codes c.args.own.procedure 0 (record { block = 0; index = index }) =
    sym (slice_get_read xs (length xs) index i refl there c.index-body-index.is) ∙ c.requires.body index in
    record {
      size = c.found_alone.ensures.size ∙ c.loop-index.invariant.size;
      come = λ ts rs m.
          comes_next (setting_with c.args.program.now ts [] rs) (made c.args.own.procedure c.args.slots.now (Block (first_of 0)) c.args.own.left) (deep c.args.own.procedure c.args.least.now m) c.args.own.procedure
          c.loop-index.slots (record { block = 0; index = index }) (deep c.args.own.procedure c.loop-index.least m) (c.loop-index.invariant.come ts rs m) i found c.found_alone.new.slots (c.in-Next.ensures.found ts rs);
    }

pub value_of-loop-index-preserved-in-Some : goal.value_of-loop-index-preserved-in-Some
value_of-loop-index-preserved-in-Some t c =
    let P = c.args.program.now in
    let f = c.args.own.procedure in
    let xs = c.args.own.body.now in
    let index = c.loop-index.index in
    let i = c.index-body-index.result in
    let p : Position = record { block = 0; index = index } in
    let there : index < length xs = search rules in
    let found : Some i ≡ instruction_inside P.codes f 0 p = sym (slice_get_read xs (length xs) index i refl there c.index-body-index.is) ∙ c.requires.body index in
    let v = to_z w64 (of_z w64 c.in-Some.value) in
    let same : c.in-Some.value ≡ v = search rules in
    let least = c.loop-index.least in
    let new = c.called.new.least in
    let slots = c.loop-index.slots in
    let called : IsCalled P f c.args.own.left least slots c.in-Enter.way c.in-Enter.callee (map expression c.in-Enter.arguments.items) v new =
    subst (λ (es : List Expression). IsCalled P f c.args.own.left least slots c.in-Enter.way c.in-Enter.callee (map expression es) v new) c.as_slice.ensures.value
    (subst (λ (u : ℤ). IsCalled P f c.args.own.left least slots c.in-Enter.way c.in-Enter.callee (map expression c.as_slice.result.now) u new) same c.in-Some.ensures.called) in
    let a = made f c.args.slots.now (Block (first_of 0)) c.args.own.left in
    record {
      size = c.put.ensures.size ∙ c.loop-index.invariant.size;
      come = λ ts rs m.
          subst (λ (ys : List Slot). Comes (setting_with P ts [] rs) a (deep f c.args.least.now m) f ys (record { block = 0; index = index + 1 }) (deep f new m)) (sym c.put.ensures.put)
          (comes_found P ts rs a (deep f c.args.least.now m) m f least new slots p i (Enter c.in-Enter.into c.in-Enter.way c.in-Enter.callee c.in-Enter.arguments) c.in-Enter.into c.in-Enter.way c.in-Enter.callee (map expression c.in-Enter.arguments.items) v
          (c.loop-index.invariant.come ts rs m) found c.in-Enter.is (λ kit z. refl) called (c.loop-index.invariant.size ∙ c.requires.size) c.requires.plain);
    }

pub value_of-returns-in-Gave : goal.value_of-returns-in-Gave
value_of-returns-in-Gave t c =
    let P = c.args.program.now in
    let f = c.args.own.procedure in
    let xs = c.args.own.body.now in
    let index = c.loop-index.index in
    let i = c.index-body-index.result in
    let p : Position = record { block = 0; index = index } in
    let there : index < length xs = search rules in
    let found : Some i ≡ instruction_inside P.codes f 0 p = sym (slice_get_read xs (length xs) index i refl there c.index-body-index.is) ∙ c.requires.body index in
    let same : c.in-Gave.value ≡ to_z w64 (of_z w64 c.in-Gave.value) = search rules in
    let a = made f c.args.slots.now (Block (first_of 0)) c.args.own.left in
    record {
      gives = λ ts rs m.
          subst (λ (u : ℤ). Gives (setting_with P ts [] rs) a (deep f c.args.least.now m) u (deep f c.loop-index.least m)) same
          (comes_gave (setting_with P ts [] rs) a (deep f c.args.least.now m) f c.loop-index.slots p (deep f c.loop-index.least m) (c.loop-index.invariant.come ts rs m) i found c.in-Gave.value c.found_alone.new.slots (c.in-Gave.ensures.found ts rs));
    }

pub value_of-returns : goal.value_of-returns
value_of-returns t c =
    let P = c.args.program.now in
    let f = c.args.own.procedure in
    let xs = c.args.own.body.now in
    let index = c.loop-index.index in
    let p : Position = record { block = 0; index = index } in
    let past : length xs ≤ index = search rules in
    let none : None ≡ instruction_inside P.codes f 0 p = sym (slice_get_past xs index past) ∙ c.requires.body index in
    let a = begun f c.args.own.left c.args.slots.now in
    record {
      gives = λ ts rs m. comes_over (setting_with P ts [] rs) a (deep f c.args.least.now m) f c.loop-index.slots p (deep f c.loop-index.least m) (c.loop-index.invariant.come ts rs m) none;
    }

pub called-returns : goal.called-returns
called-returns t c =
    let P = c.args.program.now in
    let f = c.args.own.procedure in
    let left = c.args.own.left in
    let slots = c.args.slots.now in
    let xs = c.args.enters.arguments.now in
    let es = map expression xs in
    let call : c.args.enters.way ≡ Call = search rules in
    let own : c.args.enters.callee ≡ f = search rules in
    let room : (left == 0) ≡ false = search rules in
    let few : length slots ≤ 8 = search rules in
    let enough : length xs ≤ length slots = search rules in
    let some : length es ≤ length slots = subst (λ k. k ≤ length slots) (sym (length-map xs expression)) enough in
    let is : c.begin.result ≡ true = search rules in
    let begun_so : IsBegun slots es (replicate 8 Unset) c.begin.new.window = c.begin.ensures.begun is in
    let gives_so = λ (ys : List Slot) (k : ℕ). IfSome c.value_of.result (λ v. (ts : Tables) (rs : List PlainRecord) (l : PlainLayer)
    → Gives (setting_with P ts [] rs) (begun f (left - 1) ys) (deep f k l) v (deep f c.value_of.new.least l)) in
    let gives : gives_so (take (length slots) c.begin.new.window) c.min.result = c.value_of.ensures.gives in
    record {
      called = is_called P f left c.args.least.now slots c.args.enters.way c.args.enters.callee es begun_so.numbers c.value_of.new.least c.value_of.result call own room
          (λ all. values_are all slots es begun_so.numbers begun_so.values)
          (subst (λ k. gives_so (slots_for (length slots) begun_so.numbers) k) c.min.ensures
          (subst (λ ys. gives_so ys c.min.result) (begun_first slots es (length slots) c.begin.new.window begun_so some few) gives));
    }
