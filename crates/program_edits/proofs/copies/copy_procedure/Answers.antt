use Rattle.std.proofs.Common.{◌≡◌, string_bytes, refl, ◌∙◌}
use Rattle.source_tree.specs.Source.{texts}
use Rattle.source_tree.specs.Layout.{flats}
use Rattle.source_tree.proofs.Laying.{same_body, same_block_lines}
use Rattle.program_edits.proofs.copies.copy_procedure.Goals as goal

pub returns-clause-tree : goal.returns-clause-tree
returns-clause-tree c =
    let f : string_bytes c.in_ok-from_str.field-0 ≡ string_bytes c.args.procedure.now.name = c.in_ok-from_str.ensures.ok ∙ c.deref.ensures in
    let xs : texts c.in_ok-copy_names.field-0.items ≡ texts c.args.procedure.now.names.items = rw (← c.deref-2.ensures.value) c.in_ok-copy_names.ensures in
    let bs : flats c.in_ok-copy_blocks.field-0.items ≡ flats c.args.procedure.now.blocks.items = rw (← c.deref-3.ensures.value) c.in_ok-copy_blocks.ensures in
    rw (f, xs, same_body c.in_ok-copy_blocks.field-0.items c.args.procedure.now.blocks.items bs) refl

pub returns-clause-lines : goal.returns-clause-lines
returns-clause-lines c =
    let bs : flats c.in_ok-copy_blocks.field-0.items ≡ flats c.args.procedure.now.blocks.items = rw (← c.deref-3.ensures.value) c.in_ok-copy_blocks.ensures in
    same_block_lines c.in_ok-copy_blocks.field-0.items c.args.procedure.now.blocks.items bs
