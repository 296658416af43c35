use Rattle.std.proofs.Common.{◌≡◌, ◌∙◌, ap, sym, subst, length}
use Rattle.input_tables.specs.Edited.{rows_at, columns_at}
use Rattle.input_tables.specs.Rows.{AreWide}
use Rattle.record_index.proofs.RowSums.{before_is}
use Rattle.record_index.proofs.changes.Changes.compare.Goals as goal

pub returns-clause-now : goal.returns-clause-now
returns-clause-now c =
    let now = c.args.tables.now.tables in
    let was = c.args.tables.now.was in
    let table = c.place.ensures.table ∙ ap (λ b. b.table) c.before-was.ensures.was in
    let wide : AreWide c.width.result (rows_at now was.table) = subst (λ n. AreWide c.width.result (rows_at now n)) table c.width.ensures.rows in
    let columns : c.width.result ≡ length (columns_at now was.table) = subst (λ n. c.width.result ≡ length (columns_at now n)) table c.width.ensures.columns in
    before_is now was.table was.row (length was.sums) (subst (λ w. AreWide w (rows_at now was.table)) (columns ∙ sym c.requires.wide) wide) c.requires.wide
