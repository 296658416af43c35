use Rattle.std.proofs.Common.{rules, ◌≡◌, false, ℤ, subst, to_z, of_z, w64}
use Rattle.linked_program.specs.CodeView.{on_row}
use Rattle.evaluation.specs.Values.{applied, pure, value_at}
use Rattle.own_statements.proofs.AtOnce.{unkept_fills}
use Rattle.own_statements.proofs.short_forms.on_row.Goals as goal

pub returns-in-Some : goal.returns-in-Some
returns-in-Some g c =
    let op = c.args.operator in
    let x = c.in-Some.left in
    let y = c.in-Some.right in
    let first : to_z w64 (of_z w64 x) ≡ x = search rules in
    let second : to_z w64 (of_z w64 y) ≡ y = search rules in
    let keeps : c.args.layer.now.keeps ≡ false = search rules in
    record {
      value = λ v is. unkept_fills (value_at c.args.tables.now.tables c.args.slots.now (on_row op c.args.cells.now)) v c.args.layer.now
          (c.in-Some.ensures.cells op v (subst (λ (n : ℤ). applied op n y ≡ pure v) first (subst (λ (n : ℤ). applied op (to_z w64 (of_z w64 x)) n ≡ pure v) second is))) keeps;
    }
