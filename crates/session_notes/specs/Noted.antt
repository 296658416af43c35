-- What was noted of a session's runs.
use Rattle.std.specs.Prelude.{ℕ, List, Bool, true, false, Option, Some, None}
use Rattle.meaning.specs.Strands.{BookStep}
use Rattle.positions.specs.declared.answer.RunAnswer.{RunAnswer}
use Rattle.positions.specs.declared.answer.RunAnswer.TheVariants as answer
use Rattle.trace_report.specs.Traces.{splits_in, folds_in, counts_text, no_counts_text}
use Rattle.session_notes.specs.declared.run_notes.NotesError.{NotesError}

-- the bytes that are known of the trace and of the counts, and why a run wasn't noted
pub record Noted : Type 0 where
  pub trace : Option (List ℕ)
  pub counts : Option (List ℕ)
  pub failure : Option NotesError

abbrev pub has_failed : Noted → Bool
has_failed noted = is_failure noted.failure where
  is_failure : Option NotesError → Bool
  is_failure None = false
  is_failure (Some error) = true

-- the bytes that are known of a stream, if there is one
abbrev pub known_of : {W : Type 0} → (W → Option (List ℕ)) → Option W → Option (List ℕ)
known_of contents None = None
known_of contents (Some to) = contents to

-- the line of what is counted of a run of that number: nothing where it came to no result
abbrev pub run_counts_text : ℕ → RunAnswer → List BookStep → ℕ × ℕ → List ℕ
run_counts_text n (answer.Finished v values executed reused unrecorded) steps kits = counts_text n (record {
  executed = executed;
  reused = reused;
  unrecorded = unrecorded;
  steals = splits_in steps;
  folds = folds_in steps;
  free = kits.0;
  kits = kits.1;
})
run_counts_text n _ steps kits = no_counts_text n
