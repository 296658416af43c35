-- Commands that are done one after another answer as the edits before them have it.
use Rattle.std.proofs.Common.{◌≡◌, ◌<◌, ◌≤◌, ◌+◌, ℕ, length, drop, get_or, List, [], ◌∷◌, ◌++◌, Result, Ok, Err, refl, sym, ap, subst, ◌∙◌}
use Rattle.std.proofs.lemmas.List.{drop_more, drop_all, append_assoc, append-nil}
use Rattle.meaning.specs.Edits.{Standing, or_same}
use Rattle.checked_defines.specs.Readers.{reads_text, checks_rules}
use Rattle.session_edits.specs.Said.{said}
use Rattle.session_edits.specs.declared.edit.Edit.{Edit}
use Rattle.reuse_planner.specs.declared.commands.Command.{Command}
use Rattle.reuse_planner.specs.declared.commands.Command.TheVariants as command
use Rattle.reuse_planner.specs.declared.commands.Answer.{Answer}
use Rattle.reuse_planner.specs.declared.commands.Answer.TheVariants as answer
use Rattle.kept_session.specs.declared.refusal.ApplyError.{ApplyError}
use Rattle.kept_session.specs.Sessions.{PlainSession, standing_of}
use Rattle.kept_session.specs.Applied.{IsApplied}
use Rattle.reuse_planner.specs.Played.{IsDone, AreDone, IsEdited, left_by, AnswerElision}

-- an edit is answered as the definitions have it, and leaves what they leave
is_edited : (s u : PlainSession) (e : Edit) (given : Result Unit ApplyError) → IsApplied s (said e) given u → IsEdited (standing_of s) (said e) given
is_edited s u e (Ok x) h = (standing_of u, h.applied)
is_edited s u e (Err error) h = h.refused

leaves : (s u : PlainSession) (e : Edit) (given : Result Unit ApplyError) → IsApplied s (said e) given u → left_by (standing_of s) (said e) given ≡ standing_of u
leaves s u e (Ok x) h = ap (or_same reads_text checks_rules (standing_of s)) h.applied
leaves s u e (Err error) h = ap standing_of (sym h.same)

pub answer_elision : (s t : PlainSession) (cs : List Command) (rest : List Answer) → AreDone s cs rest t → AnswerElision (standing_of s) cs rest
answer_elision s t [] [] h = tt
answer_elision s t [] (a ∷ rest) h = absurd h
answer_elision s t (c ∷ cs) [] h = absurd h
answer_elision s t (command.Edit e ∷ cs) (answer.Edit given ∷ rest) h =
    (is_edited s h.0 e given h.1, subst (λ (x : Standing). AnswerElision x cs rest) (sym (leaves s h.0 e given h.1)) (answer_elision h.0 t cs rest h.2))
answer_elision s t (command.Run workers steps ∷ cs) (answer.Run given ∷ rest) h =
    let same : standing_of h.0 ≡ standing_of s = ap standing_of h.1.after.rest in
    (h.1.after.elision, subst (λ (x : Standing). AnswerElision x cs rest) same (answer_elision h.0 t cs rest h.2))
answer_elision s t (command.Edit e ∷ cs) (answer.Run given ∷ rest) h = absurd h.1
answer_elision s t (command.Run workers steps ∷ cs) (answer.Edit given ∷ rest) h = absurd h.1

-- where the rest of the commands is done, all are
abbrev pub DoesAll : (commands rest : List Command) (answers : List Answer) (s t : PlainSession) → Type 0
DoesAll commands rest answers s t = (more : List Answer) (u : PlainSession) → AreDone t rest more u → AreDone s commands (answers ++ more) u

pub does_more : (commands : List Command) (i : ℕ) (answers : List Answer) (s t u : PlainSession) (c : Command) (a : Answer) → i < length commands → c ≡ get_or commands i c → IsDone t c a u
    → DoesAll commands (drop i commands) answers s t → DoesAll commands (drop (i + 1) commands) (answers ++ a ∷ []) s u
does_more commands i answers s t u c a within at done h more v done_rest =
    let split : drop i commands ≡ c ∷ drop (i + 1) commands = drop_more commands i c within ∙ ap (λ x. x ∷ drop (i + 1) commands) (sym at) in
    subst (λ (l : List Answer). AreDone s commands l v) (sym (append_assoc answers (a ∷ []) more))
    (h (a ∷ more) v (subst (λ (l : List Command). AreDone t l (a ∷ more) v) (sym split) (u, done, done_rest)))

pub does_end : (commands : List Command) (i : ℕ) (answers : List Answer) (s t : PlainSession) → length commands ≤ i → DoesAll commands (drop i commands) answers s t → AreDone s commands answers t
does_end commands i answers s t over h =
    let none : AreDone t (drop i commands) [] t = subst (λ (l : List Command). AreDone t l [] t) (sym (drop_all i commands over)) refl in
    subst (λ (l : List Answer). AreDone s commands l t) (append-nil answers) (h [] t none)
