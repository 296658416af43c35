use Rattle.std.proofs.Common.{ℤ, List, [], ◌∷◌, Err}
use Rattle.linked_program.specs.CodeView.{expression as plain}
use Rattle.evaluation.specs.Values.{value_at, ◌>>=◌, mapped, pure}
use Rattle.evaluation.proofs.Ending.{second_ends, first_stops, mapped_stops}
use Rattle.evaluation.proofs.values.both.Goals as goal

pub returns-in-Err-evaluated : goal.returns-in-Err-evaluated
returns-in-Err-evaluated c =
    let old = c.args.notes.now in
    let mid = c.evaluated.new.notes in
    let new = c.evaluated-in-Ok.new.notes in
    let first = value_at c.args.tables.now.tables c.args.slots.now (plain c.args.first.now) in
    let second = value_at c.args.tables.now.tables c.args.slots.now (plain c.args.second.now) in
    let stop = c.in-Err-evaluated.stop in
    let rest : ℤ → List ℤ = λ y. y ∷ [] in
    let pair : ℤ × ℤ → List ℤ = λ p. p.0 ∷ p.1 ∷ [] in
    record {
      stops = second_ends pair first (λ x. mapped (λ vs. x ∷ vs) (second >>= (λ y. mapped (λ vs. y ∷ vs) (pure [])))) old mid new c.in-Ok.left (Err stop) c.in-Ok.ensures.stops.0 c.in-Ok.ensures.stops.1
          (mapped_stops rest pair (second >>= (λ y. mapped (λ vs. y ∷ vs) (pure []))) (λ vs. c.in-Ok.left ∷ vs) mid new stop
          (first_stops (λ v. v) rest second (λ y. mapped (λ vs. y ∷ vs) (pure [])) mid new stop c.in-Err-evaluated.ensures.stops));
    }
