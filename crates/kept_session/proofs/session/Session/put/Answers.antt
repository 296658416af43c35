use Rattle.std.proofs.Common.{◌≡◌, [], inr, map, sym, ap, subst, ◌∙◌, w64, to_z, of_z}
use Rattle.std.proofs.lemmas.Int.{to_z-of_z}
use Rattle.meaning.specs.Edits.{Put, after_put}
use Rattle.linked_program.specs.Checked.{nothing}
use Rattle.input_tables.specs.Edited.{beside}
use Rattle.rules_theory.proofs.EditedTables.{put_keeps_columns}
use Rattle.record_theory.proofs.Puts.{same_values}
use Rattle.record_theory.specs.Record.{as_made}
use Rattle.record_index.specs.Indexed.{PlainIndexed, IsIndexed}
use Rattle.kept_session.specs.Sessions.{PlainSession, standing_of}
use Rattle.kept_session.specs.Applied.{IsApplyCause, of_put}
use Rattle.kept_session.proofs.Changes.{put_told, told_beside}
use Rattle.kept_session.proofs.AsMade.{kept_so}
use Rattle.kept_session.proofs.Refusals.{put_refused}
use Rattle.kept_session.proofs.session.Session.put.Goals as goal

pub row_changed-requires : goal.row_changed-requires
row_changed-requires g c =
    let s = c.self.inside in
    let after = c.put.new.self in
    let t = c.args.table.now in
    let row = to_z w64 (of_z w64 c.args.row) in
    let number = c.in-Ok.number in
    let told = put_told s.tables after t row number c.in-Ok.ensures.number c.in-Ok.ensures.noted c.args.values.now c.in-Ok.ensures.put in
    record {
      beside = told_beside s.checked.revisions s.tables.tables after.tables number row after.was c.cover.new.self
          (subst (IsIndexed s.checked.revisions s.tables.tables) (sym c.cover.ensures.same) c.self.invariant.1) told;
    }

pub invariant_of-self : goal.invariant_of-self
invariant_of-self g c =
    let s = c.self.inside in
    let after = c.put.new.self in
    let now = c.row_changed.new.self in
    let t = c.args.table.now in
    let row = to_z w64 (of_z w64 c.args.row) in
    let number = c.in-Ok.number in
    let put = c.in-Ok.ensures.put in
    let keeps = c.self.invariant.0 in
    let same = c.row_changed.ensures.same ∙ ap (λ (x : PlainIndexed). map as_made x.records) c.cover.ensures.same in
    let told = put_told s.tables after t row number c.in-Ok.ensures.number c.in-Ok.ensures.noted c.args.values.now put in
    let indexed = c.row_changed.ensures.indexed s.checked.revisions s.tables.tables (inr told.noted) told.same_but told.columns
    (subst (IsIndexed s.checked.revisions s.tables.tables) (sym c.cover.ensures.same) c.self.invariant.1) in (
      record {
        kept = kept_so s.checked s.records.records now.records same keeps.kept;
        values = same_values s.checked.kinds s.records.records now.records same keeps.values;
        columns = keeps.columns ∙ sym (put_keeps_columns (beside nothing [] s.tables) (beside nothing [] after) t row c.args.values.now (put nothing []));
        kinds = keeps.kinds;
        in_step = indexed.in_step;
      },
      indexed,
    )

pub returns-in-Err-clause-refused : goal.returns-in-Err-clause-refused
returns-in-Err-clause-refused g c =
    let t = c.args.table.now in
    let s : PlainSession = record { checked = c.self.inside.checked; tables = c.self.inside.tables; kits = c.self.inside.kits; records = c.self.inside.records.records; inlined = c.self.inside.inlined } in
    let row = c.args.row in
    let vs = c.args.values.now in
    subst (IsApplyCause (Put t row vs) (after_put (standing_of c.args.self.now) t row vs)) (sym c.unput.ensures)
    (subst (λ (x : PlainSession). IsApplyCause (Put t row vs) (after_put (standing_of x) t row vs) (of_put c.in-Err.error)) c.self.view_is
    (put_refused s t _ row vs c.in-Err.error (to_z-of_z w64 _ c.ranges.row) c.in-Err.ensures.refused))
