use Rattle.std.proofs.Common.{◌≡◌, Err, [], inr, map, sym, ap, subst, ◌∙◌, w64, to_z, of_z}
use Rattle.std.proofs.lemmas.Int.{to_z-of_z}
use Rattle.meaning.specs.Edits.{after_delete}
use Rattle.linked_program.specs.Checked.{nothing}
use Rattle.input_tables.specs.Edited.{beside, row_refusal}
use Rattle.rules_theory.proofs.EditedTables.{delete_keeps_columns}
use Rattle.record_theory.proofs.Puts.{same_values}
use Rattle.record_theory.specs.Record.{as_made}
use Rattle.record_index.specs.Indexed.{PlainIndexed, IsIndexed}
use Rattle.kept_session.specs.Sessions.{PlainSession, standing_of}
use Rattle.kept_session.proofs.Changes.{delete_told, told_beside}
use Rattle.kept_session.proofs.AsMade.{kept_so}
use Rattle.kept_session.proofs.Refusals.{delete_refused}
use Rattle.kept_session.proofs.session.Session.delete.Goals as goal

pub row_changed-requires : goal.row_changed-requires
row_changed-requires g c =
    let s = c.self.inside in
    let after = c.delete.new.self in
    let t = c.args.table.now in
    let row = to_z w64 (of_z w64 c.args.row) in
    let number = c.in-Ok.number in
    let told = delete_told s.tables after t row number c.in-Ok.ensures.number c.in-Ok.ensures.noted c.in-Ok.ensures.deleted in
    record {
      beside = told_beside s.checked.revisions s.tables.tables after.tables number row after.was c.cover.new.self
          (subst (IsIndexed s.checked.revisions s.tables.tables) (sym c.cover.ensures.same) c.self.invariant.1) told;
    }

pub invariant_of-self : goal.invariant_of-self
invariant_of-self g c =
    let s = c.self.inside in
    let after = c.delete.new.self in
    let now = c.row_changed.new.self in
    let t = c.args.table.now in
    let row = to_z w64 (of_z w64 c.args.row) in
    let number = c.in-Ok.number in
    let deleted = c.in-Ok.ensures.deleted in
    let keeps = c.self.invariant.0 in
    let same = c.row_changed.ensures.same ∙ ap (λ (x : PlainIndexed). map as_made x.records) c.cover.ensures.same in
    let told = delete_told s.tables after t row number c.in-Ok.ensures.number c.in-Ok.ensures.noted deleted in
    let indexed = c.row_changed.ensures.indexed s.checked.revisions s.tables.tables (inr told.noted) told.same_but told.columns
    (subst (IsIndexed s.checked.revisions s.tables.tables) (sym c.cover.ensures.same) c.self.invariant.1) in (
      record {
        kept = kept_so s.checked s.records.records now.records same keeps.kept;
        values = same_values s.checked.kinds s.records.records now.records same keeps.values;
        columns = keeps.columns ∙ sym (delete_keeps_columns (beside nothing [] s.tables) (beside nothing [] after) t row (deleted nothing []));
        kinds = keeps.kinds;
        in_step = indexed.in_step;
      },
      indexed,
    )

pub returns-in-Err-clause-refused : goal.returns-in-Err-clause-refused
returns-in-Err-clause-refused g c =
    let t = c.args.table.now in
    let s : PlainSession = record { checked = c.self.inside.checked; tables = c.self.inside.tables; kits = c.self.inside.kits; records = c.self.inside.records.records; inlined = c.self.inside.inlined } in
    let row = c.args.row in
    subst (λ (x : PlainSession). after_delete (standing_of x) t row ≡ Err (row_refusal c.in-Err.error)) c.self.view_is
    (delete_refused s t _ row c.in-Err.error (to_z-of_z w64 _ c.ranges.row) c.in-Err.ensures.refused)
