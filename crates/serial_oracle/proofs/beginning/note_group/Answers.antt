use Rattle.std.proofs.Common.{◌≡◌, ◌++◌, ◌∷◌, [], ap, ◌∙◌, rules}
use Rattle.std.specs.Prelude.{slice_get}
use Rattle.serial_oracle.specs.declared.journal.Change.TheVariants as change
use Rattle.serial_oracle.specs.Keeping.{tree_in}
use Rattle.serial_oracle.specs.Worths.{kinds, grouped, noted_in}
use Rattle.serial_oracle.proofs.Initials.{noted_group}
use Rattle.serial_oracle.proofs.beginning.note_group.Goals as goal

pub returns : goal.returns
returns c =
    let scope = c.args.scope.now in
    let n = c.args.n in
    let made = c.in_ok-numbers.numbers in
    let same : made.items ≡ c.args.numbers.now = search rules in
    let it : c.push.new.self.items ≡ c.args.changes.now.items ++ (change.Update n made ∷ []) = rw c.if-is_err.ensures.negation at c.push.ensures.items in
    ap (noted_in scope) it
    ∙ noted_group scope c.args.changes.now.items n made
    ∙ ap (λ vs. noted_in scope c.args.changes.now.items ++ grouped (slice_get (kinds (tree_in scope)) n) n (vs ∷ [])) same
