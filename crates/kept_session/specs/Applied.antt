-- What an edit makes of a session.
use Rattle.std.specs.Prelude.{◌≡◌, map, Result, Ok, Err, IsOk, IfErr, OnOk, OnErr}
use Rattle.meaning.specs.Edits.{Standing, Edit, EditRefusal, Put, Delete, Define, tried}
use Rattle.checked_defines.specs.Readers.{reads_text, checks_rules}
use Rattle.session_edits.specs.Said.{refusal}
use Rattle.session_edits.specs.declared.refusal.EditError.TheVariants as edit
use Rattle.input_tables.specs.declared.refusal.PutError.{PutError}
use Rattle.input_tables.specs.declared.refusal.PutError.TheVariants as put
use Rattle.checked_defines.specs.declared.refusal.DefineError.{DefineError}
use Rattle.checked_defines.specs.declared.refusal.DefineError.TheVariants as define
use Rattle.record_theory.specs.Record.{as_made}
use Rattle.kept_session.specs.declared.refusal.ApplyError.{ApplyError}
use Rattle.kept_session.specs.declared.refusal.ApplyError.TheVariants.{NoMemory, Refused}
use Rattle.kept_session.specs.Sessions.{PlainSession, standing_of}

-- the edit by the language's texts and rules
abbrev pub edited : Standing → Edit → Result Standing EditRefusal
edited = tried reads_text checks_rules

-- the error of a row that is to be put
abbrev pub of_put : PutError → ApplyError
of_put put.NoMemory = NoMemory
of_put (put.Refused error) = Refused (edit.Row error)

-- the error of a definition of procedures
abbrev pub of_define : DefineError → ApplyError
of_define define.NoMemory = NoMemory
of_define (define.Text line) = Refused (edit.BadText line)
of_define (define.Check rule name line) = Refused (edit.Broken rule name line)
of_define define.Exhausted = Refused edit.Exhausted

-- memory is refused to a put only where it would be accepted, and never to a delete
abbrev pub MayLackMemory : Edit → Result Standing EditRefusal → Type 0
MayLackMemory (Put t row vs) answer = IsOk answer
MayLackMemory (Delete t row) answer = ⊥
MayLackMemory (Define text) answer = Unit {0}

-- the error is that of this answer
abbrev pub IsApplyCause : Edit → Result Standing EditRefusal → ApplyError → Type 0
IsApplyCause e answer NoMemory = MayLackMemory e answer
IsApplyCause e answer (Refused error) = answer ≡ Err (refusal error)

-- the answer to an edit is the definitions', and the session after it is theirs: a refused edit changes nothing, and no edit
-- changes the records, but for how many of their readings don't hold
pub record IsApplied (s : PlainSession) (e : Edit) (given : Result Unit ApplyError) (t : PlainSession) : Type 0 where
  pub applied : OnOk given (edited (standing_of s) e ≡ Ok (standing_of t))
  pub refused : IfErr given (IsApplyCause e (edited (standing_of s) e))
  pub same : OnErr given (t ≡ s)
  pub rest : t ≡ record s { checked = t.checked; tables = t.tables; records = t.records }
  pub records : map as_made t.records ≡ map as_made s.records
