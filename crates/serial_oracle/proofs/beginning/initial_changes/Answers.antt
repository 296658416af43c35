use Rattle.std.proofs.Common.{◌≡◌, ◌∷◌, ◌++◌, ◌+◌, drop, map, ap, sym, ◌∙◌, arith}
use Rattle.std.proofs.lemmas.List.{drop_more}
use Rattle.meaning.specs.Tree.{Tree, reducer}
use Rattle.meaning.specs.TreeView.{decl, red}
use Rattle.meaning.specs.Statements.{reducers, initial_updates, beginning}
use Rattle.serial_oracle.specs.Keeping.{tree_in}
use Rattle.serial_oracle.specs.Worths.{noted_in}
use Rattle.serial_oracle.proofs.Initials.{reducer_noted, reducer_kinds}
use Rattle.serial_oracle.proofs.beginning.initial_changes.Goals as goal
use Rattle.serial_oracle.proofs.beginning.initial_changes.Goals.{in-Reducer+in_ok-note_value, in_default}

pub loop-d-preserved : goal.loop-d-preserved
loop-d-preserved c =
    let scope = c.args.scope.now in
    let ds = scope.program.now.declarations.items in
    let i = c.loop-d.d-index in
    let x = c.d-item.result in
    let n = c.loop-d.n in
    let rest : Tree = map decl (drop (i + 1) ds) in
    let before = noted_in scope c.loop-d.changes.items in
    let here : map decl (drop i ds) ≡ decl x ∷ rest = ap (λ l. map decl l) (drop_more ds i x (rw c.deref-d-items.ensures.value at c.loop-d-test.true)) ∙ ap (λ y. decl y ∷ rest) (sym (rw c.deref-d-items.ensures.value at c.d-item.is)) in
    elim c.match-d.branch [
      | in-Reducer+in_ok-note_value w ↦
          let r = red w.in-Reducer.r in
          let left : map decl (drop i ds) ≡ reducer r ∷ rest = here ∙ ap (λ y. decl y ∷ rest) w.in-Reducer.is in
          rw (w.changes-is, w.n-is) (record {
            so_far = reducer_noted scope n r (map decl (drop i ds)) rest (noted_in scope w.note_value.new.changes.items) before (beginning (tree_in scope)) left c.loop-d.invariant.kinds_left c.loop-d.invariant.so_far (rw (w.deref.ensures.value) at w.in_ok-note_value.ensures);
            kinds_left = reducer_kinds scope n r (map decl (drop i ds)) rest before before before left c.loop-d.invariant.kinds_left;
            counted = omega (arith, c.loop-d.invariant.counted);
          })
      | in_default w ↦
          let left : reducers (map decl (drop i ds)) ≡ reducers rest = ap reducers (here ∙ ap (λ y. decl y ∷ rest) w.in_default.is) in
          rw (w.changes-is, w.n-is) (record {
            so_far = ap (λ rs. before ++ initial_updates n rs) (sym left) ∙ c.loop-d.invariant.so_far;
            kinds_left = c.loop-d.invariant.kinds_left ∙ ap (λ rs. map (λ r. r.kind) rs) left;
            counted = omega (arith, c.loop-d.invariant.counted);
          })
    ]
