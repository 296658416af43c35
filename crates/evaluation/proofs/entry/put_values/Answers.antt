use Rattle.std.proofs.Common.{rules, ◌≡◌, ℤ, List, ◌+◌, ◌++◌, ◌∷◌, [], ◌∙◌, Ok, ap, sym, map, drop, length, refl, vec_len, w64, FitsSigned}
use Rattle.std.proofs.lemmas.Int.{to_z-of_z}
use Rattle.std.proofs.lemmas.List.{drop_all, append-nil}
use Rattle.linked_program.specs.CodeView.{expression as plain}
use Rattle.linked_program.specs.declared.code.Expression.{Expression}
use Rattle.evaluation.specs.declared.slot.Slot.TheVariants.{Has}
use Rattle.evaluation.specs.Slots.{padded}
use Rattle.evaluation.specs.Values.{NumberedOut, value_at, values_at, entry_at, mapped, changed}
use Rattle.evaluation.proofs.Stopped.{left_of, when_done, on_answer, on_notes, slots_more, slots_filled, front_more, rest_stops}
use Rattle.evaluation.proofs.entry.put_values.Goals as goal

pub returns-then-is_err-2 : goal.returns-then-is_err-2
returns-then-is_err-2 c = record {
  stops = front_more c.args.notes.now c.loop-argument.notes c.loop-argument.invariant.front _ c.evaluated.new.notes c.in-Ok.ensures.stops.1;
}

pub returns-in-Err : goal.returns-in-Err
returns-in-Err c =
    let args = c.args.arguments.now in
    let i = c.loop-argument.argument-index in
    let x = c.argument-item.result in
    let notes = c.loop-argument.notes in
    let made = c.loop-argument.made.items in
    let at = value_at c.args.tables.now.tables c.args.slots.now in
    let all = values_at c.args.tables.now.tables c.args.slots.now in
    let left = ap (λ (l : List Expression). all (map plain l)) (left_of args i x c.loop-argument-test.true c.argument-item.is) in
    let through = changed (λ (vs : List ℤ). padded c.args.size (made ++ map Has vs)) in
    record {
      stops = rest_stops c.args.notes.now notes c.loop-argument.invariant.front {D = Unit {0}} (λ u. []) (entry_at c.args.tables.now.tables c.args.slots.now c.args.size (map plain args)) through
          (at (plain x)) (λ v. mapped (λ vs. v ∷ vs) (all (map plain (drop (i + 1) args)))) c.evaluated.new.notes c.in-Err.stop (λ k. refl)
          (c.loop-argument.invariant.answer ∙ ap (λ (o : NumberedOut (List ℤ)). through o.answer) left)
          (c.loop-argument.invariant.notes ∙ ap (λ (o : NumberedOut (List ℤ)). notes ++ o.notes) left) c.in-Err.ensures.stops;
    }

pub loop-argument-preserved : goal.loop-argument-preserved
loop-argument-preserved c =
    let args = c.args.arguments.now in
    let i = c.loop-argument.argument-index in
    let x = c.argument-item.result in
    let v = c.in-Ok.value in
    let notes = c.loop-argument.notes in
    let made = c.loop-argument.made.items in
    let at = value_at c.args.tables.now.tables c.args.slots.now in
    let all = values_at c.args.tables.now.tables c.args.slots.now in
    let rest = all (map plain (drop (i + 1) args)) in
    let left = ap (λ (l : List Expression). all (map plain l)) (left_of args i x c.loop-argument-test.true c.argument-item.is) in
    let through = changed (λ (vs : List ℤ). padded c.args.size (made ++ map Has vs)) in
    let fits : FitsSigned w64 v = search rules in
    let more = rw (to_z-of_z w64 v fits) at (when_done c.push.result _ _ _ _ c.is_err-in-Ok.ensures.value c.if-is_err-2.false c.push.ensures.items) in
    record {
      answer = on_answer through (at (plain x)) (λ w. mapped (λ vs. w ∷ vs) rest) v _ c.in-Ok.ensures.stops.0 (c.loop-argument.invariant.answer ∙ ap (λ (o : NumberedOut (List ℤ)). through o.answer) left)
          ∙ slots_more c.args.size made c.push.new.self.items v rest.answer more;
      notes = on_notes notes c.evaluated.new.notes _ (at (plain x)) (λ w. mapped (λ vs. w ∷ vs) rest) v c.in-Ok.ensures.stops.0 c.in-Ok.ensures.stops.1
          (c.loop-argument.invariant.notes ∙ ap (λ (o : NumberedOut (List ℤ)). notes ++ o.notes) left);
      front = front_more c.args.notes.now notes c.loop-argument.invariant.front _ c.evaluated.new.notes c.in-Ok.ensures.stops.1;
    }

pub returns : goal.returns
returns c =
    let args = c.args.arguments.now in
    let i = c.loop-argument.argument-index in
    let notes = c.loop-argument.notes in
    let made = c.loop-argument.made in
    let all = values_at c.args.tables.now.tables c.args.slots.now in
    let none = drop_all i args c.loop-argument-test.false in
    let long : vec_len made ≡ length made.items = search rules in
    let filled = when_done c.resize.result _ _ _ _ c.is_err-2.ensures.value c.if-is_err-3.false c.resize.ensures.items in
    record {
      stops = (
        c.loop-argument.invariant.answer
            ∙ ap (λ (l : List Expression). changed (λ (vs : List ℤ). padded c.args.size (made.items ++ map Has vs)) (all (map plain l)).answer) none
            ∙ ap Ok (slots_filled c.args.size (vec_len made) made.items c.resize.new.self.items long filled),
        sym (c.loop-argument.invariant.notes ∙ ap (λ (l : List Expression). notes ++ (all (map plain l)).notes) none ∙ append-nil notes),
      );
    }
