use Rattle.std.proofs.Common.{◌≡◌, List, map, length, string_bytes, refl, subst}
use Rattle.monoid_laws.specs.declared.Kind.{Kind}
use Rattle.meaning.specs.TreeView.{decl}
use Rattle.linked_program.specs.TableNames.{columned}
use Rattle.linked_program.specs.CodeView.{AreShortBlocks}
use Rattle.linked_program.proofs.Pushes.{as_many, blocks_linked, length_of_map}
use Rattle.linked_program.proofs.linking.code.Goals as goal

pub returns : goal.returns
returns c =
    let ts = map columned c.args.tables.now in
    let t = map decl c.args.declarations.now in
    let p = c.args.procedure.now in
    let cs = c.in_ok-blocks.blocks.items in
    let made = rw c.deref.ensures.value at c.in_ok-blocks.ensures.blocks in
    let count = length_of_map string_bytes p.names.items in
    let slots : c.len-slots.result ≡ length (map string_bytes p.names.items) = cc in
    record {
      memo = refl;
      slots = slots;
      short = subst (λ (ks : List Kind). AreShortBlocks ks cs) c.requires.kinds c.in_ok-blocks.ensures.short;
      body = rw (as_many ts t cs p.blocks.items made) (blocks_linked ts t cs p.blocks.items made (length p.blocks.items) 0);
    }
