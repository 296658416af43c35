-- The revision number that a procedure keeps.
use Rattle.std.specs.Prelude.{ℕ, cond, Option, Some, None}
use Rattle.meaning.specs.Tree.{Proc}
use Rattle.meaning.specs.Records.{Revised}
use Rattle.meaning.specs.Statements.{procedure_of}
use Rattle.meaning.specs.Edits.{is_same, revision_of}

-- the revision number of a procedure that is as it was
abbrev pub kept_revision : Revised → Proc → Option ℕ
kept_revision old p = cond (is_same (procedure_of old.tree p.called) p) (Some (revision_of old.revisions p.called)) None
