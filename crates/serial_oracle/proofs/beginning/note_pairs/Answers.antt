use Rattle.std.proofs.Common.{◌≡◌, ℤ, pos, ◌∷◌, get_or, SFits, w64, rules, ◌++◌, ◌+◌, ◌≤◌, length, drop, ap, sym, arith, ◌∙◌}
use Rattle.std.proofs.lemmas.Int.{to_z-of_z}
use Rattle.std.specs.Prelude.{slice_get}
use Rattle.std.proofs.lemmas.List.{drop_all, drop_more}
use Rattle.meaning.specs.Statements.{in_pairs}
use Rattle.serial_oracle.specs.Keeping.{tree_in}
use Rattle.serial_oracle.specs.Worths.{kinds, grouped, noted_in, waiting}
use Rattle.serial_oracle.proofs.Initials.{all_noted, none_waits}
use Rattle.serial_oracle.proofs.beginning.note_pairs.Goals as goal

pub returns : goal.returns
returns c =
    let scope = c.args.scope.now in
    let n = c.args.n in
    let numbers = c.args.numbers.now in
    let i = c.loop-number.number-index in
    let over : length numbers ≤ i = omega (arith, c.loop-number-test.false, c.loop-number.auto.number-index-end) in
    all_noted (slice_get (kinds (tree_in scope)) n) n (in_pairs (waiting c.loop-number.held (drop i numbers))) (noted_in scope c.loop-number.changes.items) (noted_in scope c.args.changes.now.items ++ grouped (slice_get (kinds (tree_in scope)) n) n (in_pairs numbers))
    (ap (λ vs. in_pairs (waiting c.loop-number.held vs)) (drop_all i numbers over) ∙ none_waits c.loop-number.held) c.loop-number.invariant

pub loop-number-preserved : goal.loop-number-preserved
loop-number-preserved c =
    let scope = c.args.scope.now in
    let n = c.args.n in
    let numbers = c.args.numbers.now in
    let i = c.loop-number.number-index in
    let v = get_or numbers i (pos 0) in
    let fits : SFits w64 v = search rules in
    let after = λ (u : ℤ). noted_in scope c.loop-number.changes.items ++ grouped (slice_get (kinds (tree_in scope)) n) n (in_pairs (waiting c.loop-number.held (u ∷ drop (i + 1) numbers))) in
    c.in_ok-held.ensures (drop (i + 1) numbers)
    ∙ ap after (to_z-of_z w64 v fits)
    ∙ ap (λ vs. noted_in scope c.loop-number.changes.items ++ grouped (slice_get (kinds (tree_in scope)) n) n (in_pairs (waiting c.loop-number.held vs))) (sym (drop_more numbers i (pos 0) c.loop-number-test.true))
    ∙ c.loop-number.invariant
