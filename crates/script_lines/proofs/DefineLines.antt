-- The lines of a define, one after another.
use Rattle.std.proofs.Common.{◌≡◌, ℕ, ◌+◌, ◌-◌, ◌≤◌, ◌<◌, true, false, List, [], ◌∷◌, ◌++◌, take, drop, refl, ap, ◌∙◌, arith, codes, Option, Some, None, IfSome, append_assoc}
use Rattle.meaning.specs.Script.{lines, words, are_only, define_from}
use Rattle.script_lines.specs.declared.lines.Line.{Line}
use Rattle.script_lines.specs.Lines.{IsLine, text_of, lines_at}
use Rattle.script_lines.specs.Defines.{defined_at, define_going}
use Rattle.script_lines.proofs.Places.{stretches, line_split}

-- a line of the text, and not the last one
pub going_on : (script : List ℕ) (begin begun : ℕ) (line : Line) (next : Option Line) → IsLine script line → begin ≤ line.begin
    → lines (drop line.begin script) ≡ text_of script line ∷ lines_at script next
    → IfSome next (λ m. m.number ≡ line.number + 1) → IfSome next (λ m. m.begin ≡ line.end + 1)
    → IfSome next (λ m. text_of script line ++ 10 ∷ [] ≡ take (m.begin - line.begin) (drop line.begin script))
    → are_only (codes "end") (words (text_of script line)) ≡ false
    → define_going script begin begun (Some line) ≡ define_going script begin begun next
going_on script begin begun line None is le rest number starts text other = rw (rest, other) refl
going_on script begin begun line (Some m) is le rest number starts text other =
    let joined : take (line.begin - begin) (drop begin script) ++ (text_of script line ++ 10 ∷ []) ≡ take (m.begin - begin) (drop begin script) =
    rw text (stretches script begin line.begin m.begin le (omega (arith, starts, is.ends))) in
    let line_by_line = append_assoc (take (line.begin - begin) (drop begin script)) (text_of script line) (10 ∷ []) in
    rw (rest, other, ← number) (ap (λ t. define_from begun t m.number (lines (drop m.begin script))) (line_by_line ∙ joined))

-- the line behind a line of the text is one behind its beginning too
pub further_on : (script : List ℕ) (begin : ℕ) (line : Line) (next : Option Line) → IsLine script line → begin ≤ line.begin → IfSome next (λ m. m.begin ≡ line.end + 1) → IfSome next (λ m. begin < m.begin)
further_on script begin line None is le starts = starts
further_on script begin line (Some m) is le starts = omega (arith, starts, is.ends, le)

pub weaker : (begin : ℕ) (next : Option Line) → IfSome next (λ m. begin < m.begin) → IfSome next (λ m. begin ≤ m.begin)
weaker begin None h = h
weaker begin (Some m) h = omega (arith, h)

-- the last one
pub at_end : (script : List ℕ) (begin begun : ℕ) (line : Line) → IsLine script line → are_only (codes "end") (words (text_of script line)) ≡ true
    → define_going script begin begun (Some line) ≡ defined_at script begin begun (Some line)
at_end script begin begun line h is = let parts = line_split script line h in rw (parts.1, is) refl
