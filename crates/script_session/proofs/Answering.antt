-- The answers to commands, one after another.
use Rattle.std.proofs.Common.{◌≡◌, ℕ, ◌+◌, ◌<◌, ◌≤◌, List, [], ◌∷◌, ◌++◌, map, drop, take, take_all, length, get_or, append-nil, Option, Some, None, IfSome, inl, inr, refl, sym, ap, subst, add-one, arith, ◌∙◌}
use Rattle.std.proofs.Math.Seq.{drop-cons}
use Rattle.std.proofs.lemmas.List.{map-append, take-append-drop, take_more}
use Rattle.meaning.specs.Script as script
use Rattle.meaning.specs.Edits.{Standing}
use Rattle.meaning.specs.Text.{runs_after}
use Rattle.script_reader.specs.declared.command.Command.{Command}
use Rattle.script_reader.specs.Said.{said}
use Rattle.kept_session.specs.Sessions.{PlainSession}
use Rattle.checked_defines.specs.Standings.{standing}
use Rattle.script_session.specs.Answers.{IsLeftByFirst, MayBeLeft, answer_text, answers_from, answers_text, first_answers, left_by_commands, left_by_script, standing_after}
use Rattle.script_session.specs.Sessions.{answers_of}

-- the answers from a command on: its own first
pub answers_from-drop : (s : Standing) (runs k : ℕ) (items : List Command) (d : Command) → k < length items
    → answers_from s runs (map said (drop k items))
    ≡ answer_text s runs (said (get_or items k d)) ++ answers_from (standing_after s (said (get_or items k d))) (runs_after runs (said (get_or items k d))) (map said (drop (k + 1) items))
answers_from-drop s runs k items d h = rw (add-one k, drop-cons items k d h) refl

-- one more answer, where `all` are those that are written and those that are left
pub one_more_answer : (s t : Standing) (runs after k : ℕ) (items : List Command) (command : Command) (done all : List ℕ)
    → k < length items → command ≡ get_or items k command
    → t ≡ standing_after s (said command) → after ≡ runs_after runs (said command)
    → done ++ answers_from s runs (map said (drop k items)) ≡ all
    → done ++ (answer_text s runs (said command) ++ answers_from t after (map said (drop (k + 1) items))) ≡ all
one_more_answer s t runs after k items command done all h at left counted before =
    let own : answers_from s runs (map said (drop k items)) ≡ answer_text s runs (said command) ++ answers_from (standing_after s (said command)) (runs_after runs (said command)) (map said (drop (k + 1) items)) =
    subst (λ (x : Command). answers_from s runs (map said (drop k items)) ≡ answer_text s runs (said x) ++ answers_from (standing_after s (said x)) (runs_after runs (said x)) (map said (drop (k + 1) items))) (sym at)
    (answers_from-drop s runs k items command h) in
    rw (left, counted) (subst (λ xs. done ++ xs ≡ all) own before)

left_by-append : (s : Standing) (xs ys : List script.Command) → left_by_commands s (xs ++ ys) ≡ left_by_commands (left_by_commands s xs) ys
left_by-append s [] ys = refl
left_by-append s (x ∷ xs) ys = left_by-append (standing_after s x) xs ys

-- none of the commands was done, or all were
pub none_left : (s : Standing) (cs : List script.Command) → IsLeftByFirst s s cs
none_left s cs = ([], cs, refl, refl)

pub all_are_first : (s t : Standing) (cs : List script.Command) → t ≡ left_by_commands s cs → IsLeftByFirst s t cs
all_are_first s t cs e = (cs, [], append-nil cs, e)

-- of a script that may be known
pub none_left_of : (known : Option (List ℕ)) (s : Standing) → IfSome known (λ text. IsLeftByFirst s s (script.commands text))
none_left_of None s = tt
none_left_of (Some text) s = none_left s (script.commands text)

pub first_left_of : (known : Option (List ℕ)) (text : List ℕ) (s t : Standing) → IfSome known (λ bytes. text ≡ bytes) → IsLeftByFirst s t (script.commands text)
    → IfSome known (λ bytes. IsLeftByFirst s t (script.commands bytes))
first_left_of None text s t is h = tt
first_left_of (Some bytes) text s t is h = subst (λ x. IsLeftByFirst s t (script.commands x)) is h

pub all_left_of : (known : Option (List ℕ)) (text : List ℕ) (s t : Standing) → IfSome known (λ bytes. text ≡ bytes) → t ≡ left_by_script s text
    → IfSome known (λ bytes. t ≡ left_by_script s bytes)
all_left_of None text s t is h = tt
all_left_of (Some bytes) text s t is h = subst (λ x. t ≡ left_by_script s x) is h

-- a session stands behind so many commands
module _ (s now : Standing) (k : ℕ) (items : List Command) (stands : now ≡ left_by_commands s (map said (take k items))) where
  -- behind all
  pub all_left_by : length items ≤ k → now ≡ left_by_commands s (map said items)
  all_left_by h = stands ∙ ap (λ xs. left_by_commands s (map said xs)) (take_all k items h)

  pub first_left : IsLeftByFirst s now (map said items)
  first_left = (map said (take k items), map said (drop k items), sym (map-append said (take k items) (drop k items)) ∙ ap (map said) (take-append-drop k items), stands)

  -- and then behind one more
  pub one_more_left : (t : Standing) (command : Command) → k < length items → command ≡ get_or items k command → t ≡ standing_after now (said command)
      → t ≡ left_by_commands s (map said (take (k + 1) items))
  one_more_left t command h at left =
      let d = get_or items k command in
      left ∙ ap (standing_after now) (ap said at) ∙ ap (λ u. standing_after u (said d)) stands
      ∙ sym (left_by-append s (map said (take k items)) (said d ∷ []))
      ∙ ap (left_by_commands s) (sym (map-append said (take k items) (d ∷ [])))
      ∙ ap (λ xs. left_by_commands s (map said xs)) (sym (take_more items k command h))

-- so it does where the next command may have been answered
pub first_may_be_left : (s now : Standing) (k : ℕ) (items : List Command) → now ≡ left_by_commands s (map said (take k items)) → (t : Standing) (command : Command)
    → k < length items → command ≡ get_or items k command → MayBeLeft now t (said command) → IsLeftByFirst s t (map said items)
first_may_be_left s now k items stands t command h at (inl e) = first_left s t k items (e ∙ stands)
first_may_be_left s now k items stands t command h at (inr e) = first_left s t (k + 1) items (one_more_left s now k items stands t command h at e)

-- the answers of a session whose tables nothing was edited of
pub first_written : (s : PlainSession) → s.tables.edits ≡ 0 → (P : List ℕ → Type 0) (script : List ℕ) → P (answers_of s script)
    → P (first_answers s.checked s.tables.tables script)
first_written s e P script h =
    subst (λ (n : ℕ). P (answers_text (standing s.checked (record { tables = s.tables.tables; edits = n; was = s.tables.was })) script)) e h

-- a command is at most one more run
pub runs_after-le : (runs k n : ℕ) (command : script.Command) → n ≡ runs_after runs command → runs ≤ k → n ≤ k + 1
runs_after-le runs k n script.Run is few = rw is (omega arith)
runs_after-le runs k n (script.Change edit) is few = rw is (omega arith)
runs_after-le runs k n (script.Unknown line) is few = rw is (omega arith)
