-- What a list of commands makes of a session.
use Rattle.std.specs.Prelude.{◌≡◌, List, [], ◌∷◌, Result, Ok, Err}
use Rattle.meaning.specs.Edits.{Standing, Edit, or_same}
use Rattle.checked_defines.specs.Readers.{reads_text, checks_rules}
use Rattle.session_edits.specs.Said.{said}
use Rattle.reuse_planner.specs.declared.commands.Command.{Command}
use Rattle.reuse_planner.specs.declared.commands.Command.TheVariants as command
use Rattle.reuse_planner.specs.declared.commands.Answer.{Answer}
use Rattle.reuse_planner.specs.declared.commands.Answer.TheVariants as answer
use Rattle.kept_session.specs.declared.refusal.ApplyError.{ApplyError}
use Rattle.kept_session.specs.Sessions.{PlainSession}
use Rattle.kept_session.specs.Applied.{edited, IsApplied, IsApplyCause}
use Rattle.session_runs.specs.Runs.{IsFromScratch}
use Rattle.reuse_planner.specs.Runs.{IsRun}

-- a command is done as an edit or as a run
abbrev pub IsDone : PlainSession → Command → Answer → PlainSession → Type 0
IsDone s (command.Edit e) (answer.Edit given) t = IsApplied s (said e) given t
IsDone s (command.Run workers steps) (answer.Run given) t = IsRun s workers steps.items given t
IsDone s _ _ t = ⊥

-- one after another, each in the session that those before have left
abbrev pub AreDone : PlainSession → List Command → List Answer → PlainSession → Type 0
AreDone s [] [] t = t ≡ s
AreDone s (c ∷ cs) (a ∷ given) t = (u : PlainSession) × IsDone s c a u × AreDone u cs given t
AreDone s _ _ t = ⊥

-- ---- the answers, by what the edits before them have made of the program and the tables

-- an edit is accepted exactly as the definitions have it
abbrev pub IsEdited : Standing → Edit → Result Unit ApplyError → Type 0
IsEdited s e (Ok u) = (t : Standing) × (edited s e ≡ Ok t)
IsEdited s e (Err error) = IsApplyCause e (edited s e) error

-- what an edit that was answered so leaves
abbrev pub left_by : Standing → Edit → Result Unit ApplyError → Standing
left_by s e (Ok u) = or_same reads_text checks_rules s (edited s e)
left_by s e (Err error) = s

-- each run that has come to its end answers the elision of the program on the tables as they were then, done from scratch
abbrev pub AnswerElision : Standing → List Command → List Answer → Type 0
AnswerElision s [] [] = Unit {0}
AnswerElision s (command.Edit e ∷ cs) (answer.Edit given ∷ more) = IsEdited s (said e) given × AnswerElision (left_by s (said e) given) cs more
AnswerElision s (command.Run workers steps ∷ cs) (answer.Run given ∷ more) = IsFromScratch s given × AnswerElision s cs more
AnswerElision s _ _ = ⊥
