use Rattle.rules_theory.proofs.EditedTables.{put_keeps_columns, delete_keeps_columns}
use Rattle.rules_theory.proofs.edits_keep_columns.Goals as goal

pub returns : goal.returns
returns c = record { put = put_keeps_columns; delete = delete_keeps_columns }
