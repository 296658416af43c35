-- Lines by places: what stands on a line, and what stands behind it.
use Rattle.std.proofs.Common.{◌≡◌, ℕ, ◌+◌, ◌-◌, ◌<◌, ◌≤◌, false, List, [], ◌∷◌, ◌++◌, length, take, drop, get_or, All, refl, ap, ◌∙◌, arith, take-append-drop, length-drop, not, inl, inr}
use Rattle.std.proofs.Math.Seq.{take-length}
use Rattle.std.proofs.Math.Nat.{eq-or-lt_of_le}
use Rattle.std.specs.List.{position_or_len}
use Rattle.std.proofs.lemmas.Bool.{eqb-true}
use Rattle.std.proofs.lemmas.List.{drop-drop, drop-take, take-take, take_more}
use Rattle.std.proofs.lemmas.List.Splits.{slice_split_first, slice_split_none}
use Rattle.std.proofs.lemmas.List.Sums.{fails_before_first, passes_at_first, prefix_len-le-length}
use Rattle.meaning.specs.Script.{is_line_end, lines}
use Rattle.script_lines.specs.declared.lines.Line.{Line}
use Rattle.script_lines.specs.Lines.{end_from, IsLine, text_of}

-- two neighbouring stretches are one
pub stretches : (xs : List ℕ) (a b c : ℕ) → a ≤ b → b ≤ c → take (b - a) (drop a xs) ++ take (c - b) (drop b xs) ≡ take (c - a) (drop a xs)
stretches xs a b c h k =
    let i = b - a in
    let j = c - b in
    let ys = drop a xs in
    let there : a + i ≡ b = omega arith in
    let whole : i + j ≡ c - a = omega arith in
    let front : take i (take (i + j) ys) ≡ take i ys = take-take i (i + j) ys (omega arith) in
    let back : drop i (take (i + j) ys) ≡ take j (drop b xs) = drop-take i j ys ∙ ap (take j) (drop-drop i a xs ∙ ap (λ n. drop n xs) there) in
    let both : take i (take (i + j) ys) ++ drop i (take (i + j) ys) ≡ take (i + j) ys = take-append-drop i (take (i + j) ys) in
    rw (← front, ← back, both, whole) refl

module _ (script : List ℕ) (begin end : ℕ) (within : begin ≤ length script) (ends : end ≡ end_from script begin) where
  count : end - begin ≡ position_or_len is_line_end (drop begin script)
  count = omega (arith, ends)

  pub before_length : end ≤ length script
  before_length = omega (arith, ends, length-drop begin script, prefix_len-le-length (λ b. not (is_line_end b)) (drop begin script))

  -- the last line
  pub last_line : end ≡ length script → lines (drop begin script) ≡ take (end - begin) (drop begin script) ∷ []
  last_line last =
      let all : position_or_len is_line_end (drop begin script) ≡ length (drop begin script) = omega (arith, ends, last, length-drop begin script) in
      let none : All (λ b. is_line_end b ≡ false) (drop begin script) = λ k d lt. fails_before_first is_line_end (drop begin script) k d (omega (arith, lt, all)) in
      let full : take (end - begin) (drop begin script) ≡ drop begin script = rw (count, all) (take-length (drop begin script)) in
      rw full (slice_split_none is_line_end (drop begin script) none)

  module _ (more : end < length script) where
    fits : position_or_len is_line_end (drop begin script) < length (drop begin script)
    fits = omega (arith, ends, more, length-drop begin script)

    -- a line that has others behind it
    pub a_line : lines (drop begin script) ≡ take (end - begin) (drop begin script) ∷ lines (drop (end + 1) script)
    a_line =
        let n = position_or_len is_line_end (drop begin script) in
        let there : begin + (n + 1) ≡ end + 1 = omega (arith, ends) in
        let rest : drop (n + 1) (drop begin script) ≡ drop (end + 1) script = drop-drop (n + 1) begin script ∙ ap (λ m. drop m script) there in
        rw (count, ← rest) (slice_split_first is_line_end (drop begin script) 0 fits)

    -- and its end
    pub a_line_end : take (end - begin) (drop begin script) ++ 10 ∷ [] ≡ take ((end + 1) - begin) (drop begin script)
    a_line_end =
        let n = position_or_len is_line_end (drop begin script) in
        let byte : get_or (drop begin script) n 0 ≡ 10 = eqb-true _ _ (passes_at_first is_line_end (drop begin script) 0 fits) in
        let there : (end + 1) - begin ≡ n + 1 = omega (arith, ends) in
        rw (there, count, take_more (drop begin script) n 0 fits, byte) refl

pub begins_within : (script : List ℕ) (line : Line) → IsLine script line → line.begin ≤ length script
begins_within script line h = omega (arith, h.ends, h.within)

-- what stands on a line, and the lines behind it
pub line_split : (script : List ℕ) (line : Line) → IsLine script line → (rest : List (List ℕ)) × (lines (drop line.begin script) ≡ text_of script line ∷ rest)
line_split script line h =
    let within = begins_within script line h in
    elim (eq-or-lt_of_le h.within) [
      | inr more ↦ (lines (drop (line.end + 1) script), a_line script line.begin line.end within h.ends more)
      | inl last ↦ ([], last_line script line.begin line.end within h.ends last)
    ]
