use Rattle.std.proofs.Common.{◌≡◌, ◌⊎◌, ◌∙◌, [], length, ap, sym, subst, true≢false}
use Rattle.input_tables.specs.Edited.{IsNoted}
use Rattle.record_index.specs.Indexed.{PlainIndexed, IsIndexed}
use Rattle.record_index.proofs.Edits.{all_rest, indexed_then, none_indexed, surely_noted}
use Rattle.record_index.proofs.indexed.IndexedRecords.row_changed.Goals as goal

pub tell-requires : goal.tell-requires
tell-requires c = record {
  rest =
      all_rest c.args.tables.now.tables c.args.tables.now.was c.place-change.result c.lost.result.now c.won.result.now (c.place-change.ensures.table ∙ ap (λ b. b.table) c.before-2.ensures.was)
      (c.place-change.ensures.row ∙ ap (λ b. b.row) c.before-2.ensures.was) (c.lost.ensures.lost ∙ c.compare.ensures.lost) (c.won.ensures.won ∙ c.compare.ensures.won);
}

pub returns-clause-indexed : goal.returns-clause-indexed
returns-clause-indexed c = λ revisions before noted same columns indexed.
    let now = c.args.tables.now.tables in
    let was = c.args.tables.now.was in
    let old : PlainIndexed = record { records = c.self.inside.records; told = c.self.inside.told; room = c.self.inside.changes.room } in
    let surely : IsNoted before c.args.table c.args.row was =
    surely_noted before c.args.table c.args.row was old.records
    (λ none. true≢false (sym (c.is_empty.ensures.empty.1 none) ∙ c.if-is_empty.false))
    (subst (λ (x : PlainIndexed). (x.records ≡ []) ⊎ IsNoted before c.args.table c.args.row was) (sym c.self.view_is) noted) in
    let there : IsIndexed revisions before old = subst (IsIndexed revisions before) (sym c.self.view_is) indexed in
    indexed_then revisions before now c.args.table c.args.row old c.tell.new.self was c.compare.new.self.room c.lost.result.now c.won.result.now surely same columns there
    c.compare.ensures.now (c.lost.ensures.lost ∙ c.compare.ensures.lost) (c.won.ensures.won ∙ c.compare.ensures.won) c.tell.ensures.told c.tell.ensures.same c.compare.ensures.room

pub returns-then-is_empty-clause-indexed : goal.returns-then-is_empty-clause-indexed
returns-then-is_empty-clause-indexed c = λ revisions before noted same columns indexed.
    none_indexed revisions before c.args.tables.now.tables c.args.self.now
    (subst (λ (x : PlainIndexed). length x.records ≡ 0) c.self.view_is (c.is_empty.ensures.empty.0 c.if-is_empty.true)) indexed
