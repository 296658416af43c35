-- Where a body breaks the rules.
use Rattle.std.specs.Prelude.{ℕ, ◌+◌, cond, ◌==◌, List, [], ◌∷◌, ◌++◌}
use Rattle.meaning.specs.Tree.{Deed, choose, Body, end, step}
use Rattle.linked_program.specs.declared.knowledge.Moment.{Moment}
use Rattle.linked_program.specs.declared.violation.Violation.{Violation}
use Rattle.linked_program.specs.Violations.{at}
use Rattle.linked_program.specs.Scope.{Scope, moment, after_deed, second}
use Rattle.linked_program.specs.Rules.{Setting, deed_rules}

-- the line of the statement of a number
abbrev pub line_of : List (ℕ × ℕ) → ℕ → ℕ
line_of [] n = 0
line_of (l ∷ ls) n = cond (l.0 == n) l.1 (line_of ls n)

abbrev mutual
  -- the violations in the blocks of a statement
  pub inner_violations : Setting → Moment → Scope → Deed → List Violation
  inner_violations s now scope (choose e a b) =
      body_violations s (now.depth + 1) 1 scope a ++ body_violations s (now.depth + 1) 1 (second now scope a) b
  inner_violations s now scope _ = []

  -- the violations of the statements of a block, of which the first has this place
  pub body_violations : Setting → ℕ → ℕ → Scope → Body → List Violation
  body_violations s depth place scope end = []
  body_violations s depth place scope (step n d rest) =
      (at s.declaration (line_of s.lines n) (deed_rules s (moment depth place) scope d) ++ inner_violations s (moment depth place) scope d)
      ++ body_violations s depth (place + 1) (after_deed (moment depth place) scope d) rest

-- the violations of a statement of this number
abbrev pub step_violations : Setting → Moment → Scope → ℕ → Deed → List Violation
step_violations s now scope n d = at s.declaration (line_of s.lines n) (deed_rules s now scope d) ++ inner_violations s now scope d

-- the violations in the two branches of an `if`
abbrev pub branch_violations : Setting → Moment → Scope → Body → Body → List Violation
branch_violations s now scope a b = body_violations s (now.depth + 1) 1 scope a ++ body_violations s (now.depth + 1) 1 (second now scope a) b
