-- The answers to the script of a session, whose program and tables its code holds, and what the script leaves of it.
use Rattle.std.specs.Prelude.{◌≡◌, ℕ, List, Option, IfSome}
use Rattle.kept_session.specs.Sessions.{PlainSession, standing_of}
use Rattle.meaning.specs.Script.{commands}
use Rattle.script_session.specs.Answers.{IsLeftByFirst, answers_text, left_by_script}
use Rattle.script_session.specs.Coming.{answers_so_far}

-- to all of it
abbrev pub answers_of : PlainSession → List ℕ → List ℕ
answers_of s = answers_text (standing_of s)

-- to the commands that are whole in a beginning of it
abbrev pub session_so_far : PlainSession → List ℕ → List ℕ
session_so_far s = answers_so_far (standing_of s)

-- a known script leaves a session so
abbrev pub Leaves : Option (List ℕ) → PlainSession → PlainSession → Type 0
Leaves script old new = IfSome script (λ known. standing_of new ≡ left_by_script (standing_of old) known)

-- some first commands of it do
abbrev pub LeavesByFirst : Option (List ℕ) → PlainSession → PlainSession → Type 0
LeavesByFirst script old new = IfSome script (λ known. IsLeftByFirst (standing_of old) (standing_of new) (commands known))
