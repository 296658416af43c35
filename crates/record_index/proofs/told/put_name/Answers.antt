use Rattle.std.proofs.Common.{rules, ◌≡◌, ◌++◌, ◌∷◌, [], ℕ, ap, sym, subst, ◌∙◌, map, length, string_bytes}
use Rattle.std.specs.Prelude.{slice_get, IfSome}
use Rattle.std.proofs.lemmas.List.{length-map, map-append}
use Rattle.meaning.specs.Tree.{Name}
use Rattle.meaning.specs.TreeView.{decl}
use Rattle.meaning.specs.declared.tree.Declaration.{Declaration}
use Rattle.linked_program.specs.Procedures.{procedures}
use Rattle.linked_program.specs.Checked.{numbered_name, names_in, numbers_in}
use Rattle.record_index.proofs.Revisions.{next_told, next_named}
use Rattle.record_index.proofs.told.put_name.Goals as goal

pub returns-in_ok-push-in-Procedure : goal.returns-in_ok-push-in-Procedure
returns-in_ok-push-in-Procedure c =
    let old = c.args.names.now.items in
    let revisions = c.args.program.now.revisions in
    let called = string_bytes c.in-Procedure.procedure.name in
    let v = c.revision_of.result in
    let name : string_bytes c.in_ok-name-in-Procedure.name ≡ called = search rules in
    let put : numbers_in c.push.new.self.items ≡ numbers_in old ++ (called, v) ∷ [] =
    ap numbers_in (c.in_ok-push-in-Procedure.ensures.items) ∙ map-append numbered_name old ((c.in_ok-name-in-Procedure.name, v) ∷ [])
    ∙ ap (λ (x : Name). numbers_in old ++ (x, v) ∷ []) name in
    let long : c.len.result ≡ length old = search rules in
    let number : IfSome (slice_get revisions (length (numbers_in old))) (λ e. v ≡ e.1) =
    subst (λ (n : ℕ). IfSome (slice_get revisions n) (λ e. v ≡ e.1)) (long ∙ sym (length-map old numbered_name)) c.revision_of.ensures.revision in
    record {
      put = λ rest h.
          (let names = map (λ p. p.called) (procedures (map decl rest)) in
          let others : names_in (numbers_in old) ++ called ∷ names ≡ names_in revisions =
          subst (λ (d : Declaration). names_in (numbers_in old) ++ map (λ p. p.called) (procedures (map decl (d ∷ rest))) ≡ names_in revisions) c.in-Procedure.is h.others in
          rw put (record {
            first = next_told revisions (numbers_in old) called v names h.first others number;
            others = next_named (numbers_in old) called v names ∙ others;
          }));
    }
