-- The headline's record.
use Rattle.std.proofs.Common.{ℕ, List, Option, IsUtf8, refl}
use Rattle.std.specs.Io.KnownBytes.{Appends}
use Rattle.meaning.specs.Tables.{Tables}
use Rattle.linked_program.specs.Checked.{PlainChecked}
use Rattle.prepared_program.specs.Preparing.{IsPrepared}
use Rattle.script_session.specs.Answers.{first_answers}
use Rattle.cli.specs.Headline.{IsReported}

-- the answers that were written are those of the definitions, and these go as the record says
pub reported : (program_text tables_text script : List ℕ) (old new : Option (List ℕ)) (checked : PlainChecked) (tables : Tables) → IsUtf8 tables_text
    → IsPrepared program_text tables_text checked tables → Appends old new (first_answers checked tables script) → IsReported program_text tables_text script old new
reported program_text tables_text script old new checked tables text prepared written = record {
  is_text = text;
  checked = checked;
  tables = tables;
  is_prepared = prepared;
  is_written = written;
  of_run = λ now runs rest. refl;
  of_edit = λ now runs edit rest. refl;
  of_unknown = λ now runs line rest. refl;
  of_none = λ now runs. refl;
}
