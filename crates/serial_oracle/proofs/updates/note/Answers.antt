use Rattle.std.proofs.Common.{◌≡◌, Ok, sym, subst, [], ◌∷◌, ◌++◌}
use Rattle.serial_oracle.specs.declared.journal.Change.TheVariants as change
use Rattle.serial_oracle.specs.Keeping.{tree_in, records_in}
use Rattle.serial_oracle.specs.Worths.{worths, updated_by}
use Rattle.serial_oracle.proofs.Noted.{note_good}
use Rattle.serial_oracle.proofs.updates.note.Goals as goal

pub returns-else-is_err : goal.returns-else-is_err
returns-else-is_err c =
    let it : c.push.new.self.items ≡ c.args.changes.now.items ++ (change.Update c.in-Some.reducer c.args.numbers ∷ []) = rw c.if-is_err.ensures.negation at c.push.ensures.items in
    subst (λ us. updated_by (tree_in c.args.scope.now) c.args.name.now c.args.numbers.items (worths (tree_in c.args.scope.now) (records_in c.args.scope.now) c.args.changes.now.items) ≡ (Ok tt, worths (tree_in c.args.scope.now) (records_in c.args.scope.now) us)) (sym it)
    (note_good (tree_in c.args.scope.now) (records_in c.args.scope.now) c.args.name.now c.args.changes.now.items c.in-Some.reducer c.args.numbers c.in-Some.kind (sym c.in-Some.ensures) (sym (rw c.deref.ensures.value at c.if-not-is_element.ensures)))
