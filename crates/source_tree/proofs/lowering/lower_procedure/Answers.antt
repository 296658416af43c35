use Rattle.std.proofs.Common.{◌≡◌, List, length, string_bytes, refl, sym, ap, ◌∙◌}
use Rattle.std.proofs.lemmas.List.{length-map}
use Rattle.source_tree.specs.Source.{stmts, stmts_of, texts}
use Rattle.source_tree.specs.Layout.{flats, laid_procedure}
use Rattle.source_tree.proofs.Laying.{layout_names, layout_body, layout_lines}
use Rattle.source_tree.proofs.lowering.lower_procedure.Goals as goal

pub returns-clause-tree : goal.returns-clause-tree
returns-clause-tree c =
    let xs = texts c.args.procedure.now.parameters.items in
    let ss = stmts_of (stmts c.args.procedure.now.body.items) in
    let l : (texts c.into_names.result.items, flats c.in_ok-blocks.blocks.items) ≡ laid_procedure xs ss = rw (c.into_names.ensures, ← c.deref-parameters.ensures.value, ← c.in_ok-pool.ensures, ← c.deref.ensures.value) c.in_ok-blocks.ensures in
    let f : string_bytes c.in_ok-from_str.field-0 ≡ string_bytes c.args.procedure.now.name = c.in_ok-from_str.ensures.ok ∙ c.deref-2.ensures in
    let n : length c.deref-parameters.result.now ≡ length xs = ap (λ (ys : List _). length ys) c.deref-parameters.ensures.value ∙ sym (length-map c.args.procedure.now.parameters.items _) in
    let names = layout_names xs (texts c.into_names.result.items) (flats c.in_ok-blocks.blocks.items) ss l in
    let body = layout_body xs (texts c.into_names.result.items) c.in_ok-blocks.blocks.items ss l in
    rw (f, n, names, body) refl

pub returns-clause-lines : goal.returns-clause-lines
returns-clause-lines c =
    let xs = texts c.args.procedure.now.parameters.items in
    let ss = stmts_of (stmts c.args.procedure.now.body.items) in
    let l : (texts c.into_names.result.items, flats c.in_ok-blocks.blocks.items) ≡ laid_procedure xs ss = rw (c.into_names.ensures, ← c.deref-parameters.ensures.value, ← c.in_ok-pool.ensures, ← c.deref.ensures.value) c.in_ok-blocks.ensures in
    layout_lines xs (texts c.into_names.result.items) c.in_ok-blocks.blocks.items ss l
