-- The commands of a script by its lines, as they come.
use Rattle.std.proofs.Common.{◌≡◌, ℕ, ◌+◌, ◌-◌, ◌<◌, Bool, true, false, List, [], ◌∷◌, ◌++◌, length, take, All, Option, Some, None, refl, ap, sym, ◌∙◌, codes, append_assoc, append-nil, arith, inl, inr, ◌⊎◌}
use Rattle.std.specs.Option.{option_to_list}
use Rattle.std.proofs.Math.Seq.{take-append_seam}
use Rattle.std.specs.List.{onto_first}
use Rattle.std.proofs.lemmas.List.{length-append}
use Rattle.std.proofs.lemmas.List.Splits.{length-slice_split, slice_split_at, slice_split_none}
use Rattle.meaning.specs.Script.{are_only, words, lines, is_line_end, commands}
use Rattle.script_reader.specs.Beginnings.{PlainOpen, IsCome, command_ended, define_left, commands_behind, command_left, nothing_come, command_by, with_line, commands_left, commands_by, with_lines, ended_lines, whole_commands}

on_bool : (b : Bool) → (b ≡ true) ⊎ (b ≡ false)
on_bool true = inl refl
on_bool false = inr refl

-- the first of the lines that are to come
pub one_line : (define : Option (ℕ × List ℕ)) (n : ℕ) (line : List ℕ) (rest : List (List ℕ))
    → commands_behind define n (line ∷ rest) ≡ option_to_list (command_ended define n line) ++ commands_behind (define_left define n line) (n + 1) rest
one_line None n line rest = elim (on_bool (are_only (codes "define") (words line))) [ inl is ↦ rw is refl | inr is ↦ rw is refl ]
one_line (Some begun) n line rest = elim (on_bool (are_only (codes "end") (words line))) [ inl is ↦ rw is refl | inr is ↦ rw is refl ]

pub first_line : (script : PlainOpen) (line : List ℕ) (rest : List (List ℕ))
    → commands_left script (line ∷ rest) ≡ option_to_list (command_by script line) ++ commands_left (with_line script line) rest
first_line script line rest = one_line script.define (script.passed + 1) line rest

-- none of them
no_line : (define : Option (ℕ × List ℕ)) (passed : ℕ) → commands_left (record { passed = passed; define = define }) [] ≡ option_to_list (command_left (record { passed = passed; define = define }))
no_line None passed = refl
no_line (Some begun) passed = refl

pub at_the_end : (script : PlainOpen) → commands_left script [] ≡ option_to_list (command_left script)
at_the_end script = no_line script.define script.passed

-- lines that have come, and those behind them
pub lines_and_rest : (script : PlainOpen) (come rest : List (List ℕ)) → commands_left script (come ++ rest) ≡ commands_by script come ++ commands_left (with_lines script come) rest
lines_and_rest script [] rest = refl
lines_and_rest script (line ∷ come) rest =
    let own = option_to_list (command_by script line) in
    first_line script line (come ++ rest) ∙ ap (λ cs. own ++ cs) (lines_and_rest (with_line script line) come rest)
    ∙ sym (append_assoc own (commands_by (with_line script line) come) (commands_left (with_lines (with_line script line) come) rest))

-- one more line
pub commands_by-last : (script : PlainOpen) (come : List (List ℕ)) (line : List ℕ)
    → commands_by script (come ++ line ∷ []) ≡ commands_by script come ++ option_to_list (command_by (with_lines script come) line)
commands_by-last script [] line = append-nil (option_to_list (command_by script line))
commands_by-last script (first ∷ come) line =
    let own = option_to_list (command_by script first) in
    ap (λ cs. own ++ cs) (commands_by-last (with_line script first) come line)
    ∙ sym (append_assoc own (commands_by (with_line script first) come) (option_to_list (command_by (with_lines (with_line script first) come) line)))

pub with_lines-last : (script : PlainOpen) (come : List (List ℕ)) (line : List ℕ) → with_lines script (come ++ line ∷ []) ≡ with_line (with_lines script come) line
with_lines-last script [] line = refl
with_lines-last script (first ∷ come) line = with_lines-last (with_line script first) come line

-- a line without its end, and a line with it before others
pub alone : (line : List ℕ) → All (λ b. is_line_end b ≡ false) line → lines line ≡ line ∷ []
alone line h = slice_split_none is_line_end line h

pub ended : (line rest : List ℕ) → All (λ b. is_line_end b ≡ false) line → lines (line ++ 10 ∷ rest) ≡ line ∷ lines rest
ended line rest h = slice_split_at is_line_end line 10 rest h refl

-- all lines but the last one
but_last : (come : List (List ℕ)) (last : List ℕ) → take (length (come ++ last ∷ []) - 1) (come ++ last ∷ []) ≡ come
but_last come last =
    let long : length (come ++ last ∷ []) - 1 ≡ length come = omega (arith, length-append come (last ∷ [])) in
    rw long (take-append_seam come (last ∷ []))

-- ---- what has come

pub nothing_is_come : IsCome nothing_come [] []
nothing_is_come = record { parts = λ rest. refl; stands = refl }

module _ (script : PlainOpen) (bytes : List ℕ) (come : List (List ℕ)) (is : IsCome script bytes come) where
  -- a line with its end
  pub line_is_come : (line : List ℕ) → All (λ b. is_line_end b ≡ false) line → IsCome (with_line script line) (bytes ++ (line ++ 10 ∷ [])) (come ++ line ∷ [])
  line_is_come line h = record {
    parts = λ rest.
        ap lines (append_assoc bytes (line ++ 10 ∷ []) rest ∙ ap (λ xs. bytes ++ xs) (append_assoc line (10 ∷ []) rest))
        ∙ is.parts (line ++ 10 ∷ rest) ∙ ap (λ ls. come ++ ls) (ended line rest h) ∙ sym (append_assoc come (line ∷ []) (lines rest));
    stands = ap (λ s. with_line s line) is.stands ∙ sym (with_lines-last nothing_come come line);
  }

  -- the commands of all, whatever is to come
  pub commands_of_all : (rest : List ℕ) → commands (bytes ++ rest) ≡ commands_by nothing_come come ++ commands_left script (lines rest)
  commands_of_all rest =
      ap (commands_left nothing_come) (is.parts rest) ∙ lines_and_rest nothing_come come (lines rest)
      ∙ ap (λ s. commands_by nothing_come come ++ commands_left s (lines rest)) (sym is.stands)

  -- those that are whole, with a beginning of a further line or without
  pub whole_of : (part : List ℕ) → All (λ b. is_line_end b ≡ false) part → whole_commands (bytes ++ part) ≡ commands_by nothing_come come
  whole_of part h =
      let all : lines (bytes ++ part) ≡ come ++ part ∷ [] = is.parts part ∙ ap (λ ls. come ++ ls) (alone part h) in
      let first : ended_lines (bytes ++ part) ≡ come = rw all (but_last come part) in
      ap (commands_by nothing_come) first

  -- those that one more line makes whole
  pub one_more : (line : List ℕ) → commands_by nothing_come (come ++ line ∷ []) ≡ commands_by nothing_come come ++ option_to_list (command_by script line)
  one_more line = commands_by-last nothing_come come line ∙ ap (λ s. commands_by nothing_come come ++ option_to_list (command_by s line)) (sym is.stands)

-- ---- the beginnings of a script

onto_front : (b : ℕ) (parts rest : List (List ℕ)) → 0 < length parts → onto_first b (parts ++ rest) ≡ onto_first b parts ++ rest
onto_front b [] rest some = absurd (omega (arith, some))
onto_front b (part ∷ parts) rest some = refl

-- an end of line parts the lines in front of it and those behind it
pub parted : (text rest : List ℕ) → lines (text ++ 10 ∷ rest) ≡ lines text ++ lines rest
parted [] rest = refl
parted (b ∷ text) rest =
    let more = parted text rest in
    let some : 0 < length (lines text) = omega (arith, length-slice_split is_line_end text) in
    elim (on_bool (is_line_end b)) [
      | inl ends ↦ rw ends (ap (λ ls. [] ∷ ls) more)
      | inr stays ↦ rw stays (ap (onto_first b) more ∙ onto_front b (lines text) (lines rest) some)
    ]

first_lines : (text : List ℕ) → IsCome (with_lines nothing_come (lines text)) (text ++ 10 ∷ []) (lines text)
first_lines text = record { parts = λ rest. ap lines (append_assoc text (10 ∷ []) rest) ∙ parted text rest; stands = refl }

whole_in : (text part : List ℕ) → All (λ b. is_line_end b ≡ false) part → whole_commands (text ++ 10 ∷ part) ≡ commands_by nothing_come (lines text)
whole_in text part h =
    ap whole_commands (sym (append_assoc text (10 ∷ []) part)) ∙ whole_of (with_lines nothing_come (lines text)) (text ++ 10 ∷ []) (lines text) (first_lines text) part h

nothing : All (λ b. is_line_end b ≡ false) []
nothing k d lt = absurd (omega (arith, lt))

pub left_behind : (text rest : List ℕ) → commands (text ++ 10 ∷ rest) ≡ whole_commands (text ++ 10 ∷ []) ++ commands_left (with_lines nothing_come (lines text)) (lines rest)
left_behind text rest =
    let script = with_lines nothing_come (lines text) in
    ap commands (sym (append_assoc text (10 ∷ []) rest)) ∙ commands_of_all script (text ++ 10 ∷ []) (lines text) (first_lines text) rest
    ∙ ap (λ cs. cs ++ commands_left script (lines rest)) (sym (whole_in text [] nothing))

pub part_adds_none : (text part : List ℕ) → All (λ b. is_line_end b ≡ false) part → whole_commands (text ++ 10 ∷ part) ≡ whole_commands (text ++ 10 ∷ [])
part_adds_none text part h = whole_in text part h ∙ sym (whole_in text [] nothing)
