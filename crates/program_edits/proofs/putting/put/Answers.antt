use Rattle.std.proofs.Common.{◌≡◌, None, Some, map, string_bytes, refl}
use Rattle.meaning.specs.TreeView.{decl, lined}
use Rattle.meaning.specs.declared.tree.Declaration.TheVariants as variant
use Rattle.program_edits.specs.Putting.{last_place}
use Rattle.program_edits.proofs.Places.{put_behind, put_over}
use Rattle.program_edits.proofs.putting.put.Goals as goal

pub returns-in_ok-insert-in-Some-clause-tree : goal.returns-in_ok-insert-in-Some-clause-tree
returns-in_ok-insert-in-Some-clause-tree c =
    let at : Some c.in-Some.place ≡ last_place 0 None (string_bytes c.args.procedure.name) (map decl c.args.declarations.now.items) = rw (← c.deref-2.ensures, ← c.deref.ensures.value) c.in-Some.ensures.exact in
    put_behind decl c.args.declarations.now.items c.insert.new.self.items (variant.Procedure c.args.procedure) c.in-Some.place c.args.again _ at c.if-again.true c.in_ok-insert-in-Some.ensures.items

pub returns-in_ok-insert-in-Some-clause-lines : goal.returns-in_ok-insert-in-Some-clause-lines
returns-in_ok-insert-in-Some-clause-lines c =
    let at : Some c.in-Some.place ≡ last_place 0 None (string_bytes c.args.procedure.name) (map decl c.args.declarations.now.items) = rw (← c.deref-2.ensures, ← c.deref.ensures.value) c.in-Some.ensures.exact in
    put_behind lined c.args.declarations.now.items c.insert.new.self.items (variant.Procedure c.args.procedure) c.in-Some.place c.args.again _ at c.if-again.true c.in_ok-insert-in-Some.ensures.items

pub returns-else-again-clause-tree : goal.returns-else-again-clause-tree
returns-else-again-clause-tree c =
    let at : Some c.in-Some.place ≡ last_place 0 None (string_bytes c.args.procedure.name) (map decl c.args.declarations.now.items) = rw (← c.deref-2.ensures, ← c.deref.ensures.value) c.in-Some.ensures.exact in
    put_over decl c.args.declarations.now.items _ (variant.Procedure c.args.procedure) c.in-Some.place c.args.again _ at c.if-again.false refl

pub returns-else-again-clause-lines : goal.returns-else-again-clause-lines
returns-else-again-clause-lines c =
    let at : Some c.in-Some.place ≡ last_place 0 None (string_bytes c.args.procedure.name) (map decl c.args.declarations.now.items) = rw (← c.deref-2.ensures, ← c.deref.ensures.value) c.in-Some.ensures.exact in
    put_over lined c.args.declarations.now.items _ (variant.Procedure c.args.procedure) c.in-Some.place c.args.again _ at c.if-again.false refl
