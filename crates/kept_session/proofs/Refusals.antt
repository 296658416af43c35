-- Why edits of tables and of the program are refused, as a session answers them.
use Rattle.std.proofs.Common.{◌≡◌, ℤ, List, Result, Err, subst}
use Rattle.meaning.specs.Tree.{Name}
use Rattle.meaning.specs.TreeView.{Lined, lines}
use Rattle.meaning.specs.Records.{Revised}
use Rattle.meaning.specs.Edits.{Standing, EditRefusal, Put, after_put, after_delete}
use Rattle.linked_program.specs.Checked.{revised_of}
use Rattle.input_tables.specs.Edited.{beside, row_refusal, IsPutCause}
use Rattle.table_parts.specs.declared.refusals.RowError.{RowError}
use Rattle.input_tables.specs.declared.refusal.PutError.{PutError}
use Rattle.input_tables.specs.declared.refusal.PutError.TheVariants as put
use Rattle.checked_defines.specs.declared.refusal.DefineError.TheVariants as define
use Rattle.kept_session.specs.Sessions.{PlainSession, standing_of}
use Rattle.kept_session.specs.Applied.{IsApplyCause, of_put}

put_cause : (t : Name) (row : ℤ) (vs : List ℤ) (given : Result Standing EditRefusal) (error : PutError) → IsPutCause given error → IsApplyCause (Put t row vs) given (of_put error)
put_cause t row vs given put.NoMemory h = h
put_cause t row vs given (put.Refused error) h = h

-- by what a call says of every program beside the tables
pub put_refused : (s : PlainSession) (t : Name) (m row : ℤ) (vs : List ℤ) (error : PutError) → m ≡ row
    → ((program : Revised) (ls : List Lined) → IsPutCause (after_put (beside program ls s.tables) t m vs) error) → IsApplyCause (Put t row vs) (after_put (standing_of s) t row vs) (of_put error)
put_refused s t m row vs error same h =
    subst (λ (n : ℤ). IsApplyCause (Put t n vs) (after_put (standing_of s) t n vs) (of_put error)) same
    (put_cause t m vs (after_put (standing_of s) t m vs) error (h (revised_of s.checked) (lines s.checked.program)))

pub delete_refused : (s : PlainSession) (t : Name) (m row : ℤ) (error : RowError) → m ≡ row
    → ((program : Revised) (ls : List Lined) → after_delete (beside program ls s.tables) t m ≡ Err (row_refusal error)) → after_delete (standing_of s) t row ≡ Err (row_refusal error)
delete_refused s t m row error same h =
    subst (λ (n : ℤ). after_delete (standing_of s) t n ≡ Err (row_refusal error)) same (h (revised_of s.checked) (lines s.checked.program))
