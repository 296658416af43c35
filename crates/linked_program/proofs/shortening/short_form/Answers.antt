use Rattle.std.proofs.Common.{List, map, sym, subst}
use Rattle.linked_program.specs.declared.code.Operation.{Operation}
use Rattle.linked_program.specs.declared.code.Expression.{Expression}
use Rattle.linked_program.specs.Linked.{updates}
use Rattle.linked_program.specs.CodeView.{expression, act, IsFormOf}
use Rattle.linked_program.proofs.Shorts.{if_ok}
use Rattle.linked_program.proofs.shortening.short_form.Goals as goal

pub returns-in-Bind : goal.returns-in-Bind
returns-in-Bind c = record {
  form = if_ok c.value_form.result
      (λ made h inner. subst (λ (op : Operation). IsFormOf c.args.kinds.now inner made (act inner op)) (sym c.in-Bind.is) (h c.args.kinds.now inner tt)) c.value_form.ensures.form;
}

pub returns-in-Update : goal.returns-in-Update
returns-in-Update c = record {
  form = if_ok c.update_form.result
      (λ made h inner. subst (λ (op : Operation). IsFormOf c.args.kinds.now inner made (act inner op)) (sym c.in-Update.is)
      (subst (λ (xs : List Expression). IsFormOf c.args.kinds.now inner made (updates c.in-Update.reducer (map expression xs))) c.as_slice.ensures.value (h inner))) c.update_form.ensures.form;
}

pub returns-in-If : goal.returns-in-If
returns-in-If c = record {
  form = if_ok c.value_form-in-If.result
      (λ made h inner. subst (λ (op : Operation). IsFormOf c.args.kinds.now inner made (act inner op)) (sym c.in-If.is) (h c.args.kinds.now inner tt)) c.value_form-in-If.ensures.form;
}

pub returns-in-Return : goal.returns-in-Return
returns-in-Return c = record {
  form = if_ok c.return_form.result
      (λ made h inner. subst (λ (op : Operation). IsFormOf c.args.kinds.now inner made (act inner op)) (sym c.in-Return.is) (h c.args.kinds.now inner)) c.return_form.ensures.form;
}
