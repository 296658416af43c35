use Rattle.std.proofs.Common.{◌≡◌, [], Some, None, Ok, Result, IfOk, IfErr, subst, sym, ap, ◌∙◌}
use Rattle.std.specs.Map.{keys_of}
use Rattle.std.proofs.lemmas.Iterator.Consumers.{nth_from_yields_List, YieldsList-from_rest}
use Rattle.meaning.specs.Tables.{Tables}
use Rattle.input_tables.specs.Document.{tables_of, tables_from, named, IsCause, Refusal}
use Rattle.input_tables.proofs.Ordered.{in_order-named, key_there, no_key_there}
use Rattle.input_tables.proofs.document.tables_in.Goals as goal

pub returns-in-Some-clause-refused : goal.returns-in-Some-clause-refused
returns-in-Some-clause-refused c =
    let es = c.args.document.now.entries in
    let at = nth_from_yields_List (Some c.in-Some.name) c.nth.new.self 64 c.in-Some.ensures.ran (YieldsList-from_rest (keys_of es) c.keys.ensures.rest) in
    let many = ap tables_of (in_order-named es c.keys.ensures.ordered) ∙ key_there es 64 c.in-Some.name.now (tables_from [] (named es)) at in
    subst (λ (r : Result Tables Refusal). IsCause r c.shape_error.result) (sym many) (rw c.as_str.ensures.value at c.shape_error.ensures)

pub returns-in-None-clause-read : goal.returns-in-None-clause-read
returns-in-None-clause-read c =
    let es = c.args.document.now.entries in
    let at = nth_from_yields_List None c.nth.new.self 64 c.in-None.ensures.ran (YieldsList-from_rest (keys_of es) c.keys.ensures.rest) in
    let few = ap tables_of (in_order-named es c.keys.ensures.ordered) ∙ no_key_there es 64 (tables_from [] (named es)) at in
    subst (λ (r : Result Tables Refusal). IfOk c.tables_from.result (λ tables. r ≡ Ok tables.items)) (sym few) c.tables_from.ensures.read

pub returns-in-None-clause-refused : goal.returns-in-None-clause-refused
returns-in-None-clause-refused c =
    let es = c.args.document.now.entries in
    let at = nth_from_yields_List None c.nth.new.self 64 c.in-None.ensures.ran (YieldsList-from_rest (keys_of es) c.keys.ensures.rest) in
    let few = ap tables_of (in_order-named es c.keys.ensures.ordered) ∙ no_key_there es 64 (tables_from [] (named es)) at in
    subst (λ (r : Result Tables Refusal). IfErr c.tables_from.result (IsCause r)) (sym few) c.tables_from.ensures.refused
