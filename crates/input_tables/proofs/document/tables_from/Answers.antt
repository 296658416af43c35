use Rattle.std.proofs.Common.{◌≡◌, List, [], ◌∷◌, ◌++◌, subst, sym, ap, ◌∙◌}
use Rattle.input_tables.specs.Document.{tables_from, named, IsCause}
use Rattle.input_tables.proofs.Ordered.{Entry}
use Rattle.input_tables.proofs.document.tables_from.Goals as goal

pub returns-in-Err-clause-refused : goal.returns-in-Err-clause-refused
returns-in-Err-clause-refused c =
    let done = c.loop-name.tables.items in
    let here : Entry = (c.in-Some.name.now, c.in-Some.value.now) in
    let left : c.loop-name.name-iterator ≡ here ∷ c.next.new.self = c.in-Some.ensures.steps in
    let cause = rw c.as_str.ensures.value at (c.in-Err.ensures.refused (λ t. tables_from (done ++ t ∷ []) (named c.next.new.self))) in
    subst (λ r. IsCause r c.in-Err.error) (sym (ap (λ (es : List Entry). tables_from done (named es)) left) ∙ c.loop-name.invariant) cause
