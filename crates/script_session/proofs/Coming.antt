-- The answers to a script as its lines come, beside those to the whole of it.
use Rattle.std.proofs.Common.{◌≡◌, inl, inr, ℕ, ◌+◌, ◌≤◌, Bool, true, false, List, [], ◌∷◌, ◌++◌, All, length, Option, Some, None, IfSome, refl, ap, sym, subst, ◌∙◌, append_assoc, append-nil, arith}
use Rattle.std.specs.Option.{option_to_list}
use Rattle.std.specs.Io.KnownBytes.{Appends, Consumes, IsAtEnd}
use Rattle.meaning.specs.Edits.{Standing}
use Rattle.meaning.specs.Script as meant
use Rattle.meaning.specs.Script.{Command, commands, lines}
use Rattle.program_endings.specs.Written.{HasBeginning, IsNoEnd, WritesAll, WritesBeginning, WritesRead}
use Rattle.program_endings.proofs.Written.{Appends-nothing, Appends-more, beginning_of, beginning_after}
use Rattle.script_reader.specs.Beginnings.{PlainOpen, command_by, command_left, commands_by, commands_left, nothing_come, with_line}
use Rattle.script_reader.proofs.Beginnings.{alone, at_the_end, commands_of_all, ended, first_line, line_is_come, nothing_is_come, one_more, whole_of}
use Rattle.script_session.specs.Answers.{IsLeftByFirst, answer_text, answers_from, answers_text, left_by_commands, left_by_script}
use Rattle.kept_session.specs.Sessions.{PlainSession}
use Rattle.checked_defines.specs.Standings.{standing}
use Rattle.script_session.specs.Coming.{HasAnswered, MayBeBehind, answer_to, answers_so_far, first_so_far, runs_behind, standing_behind}
use Rattle.script_session.specs.Sessions.{session_so_far}

-- what was read in two parts
pub Consumes-nothing : (a : Option (List ℕ)) → Consumes a a []
Consumes-nothing None = tt
Consumes-nothing (Some xs) = refl

pub Consumes-more : (a b c : Option (List ℕ)) (xs ys : List ℕ) → Consumes a b xs → Consumes b c ys → Consumes a c (xs ++ ys)
Consumes-more None b c xs ys p q = tt
Consumes-more (Some a) None c xs ys p q = absurd p
Consumes-more (Some a) (Some b) None xs ys p q = absurd q
Consumes-more (Some a) (Some b) (Some c) xs ys p q = p ∙ ap (λ l. xs ++ l) q ∙ sym (append_assoc xs ys c)

-- of what is known to be left, all that was read is the front
split_known : (a b : Option (List ℕ)) (xs : List ℕ) (P : List ℕ → Type 0) → Consumes a b xs → IfSome b (λ rest. P (xs ++ rest)) → IfSome a P
split_known None b xs P p q = tt
split_known (Some a) None xs P p q = absurd p
split_known (Some a) (Some b) xs P p q = subst P (sym p) q

-- the first line of what is left
abbrev pub FirstLine : Option (List ℕ) → List ℕ → Type 0
FirstLine left line = IfSome left (λ known. (rest : List (List ℕ)) × (lines known ≡ line ∷ rest))

pub ended_line : (a b : Option (List ℕ)) (line : List ℕ) → All IsNoEnd line → Consumes a b (line ++ 10 ∷ []) → FirstLine a line
ended_line None b line one p = tt
ended_line (Some a) None line one p = absurd p
ended_line (Some a) (Some b) line one p = (lines b, ap lines (p ∙ append_assoc line (10 ∷ []) b) ∙ ended line b one)

last_known : (a b : Option (List ℕ)) (line : List ℕ) → Consumes a b line → IsAtEnd b → IfSome a (λ known. known ≡ line)
last_known None b line p over = tt
last_known (Some a) None line p over = absurd p
last_known (Some a) (Some b) line p over = p ∙ ap (λ l. line ++ l) over ∙ append-nil line

pub last_line : (a b : Option (List ℕ)) (line : List ℕ) → All IsNoEnd line → Consumes a b line → IsAtEnd b → FirstLine a line
last_line None b line one p over = tt
last_line (Some a) b line one p over = ([], ap lines (last_known (Some a) b line p over) ∙ alone line one)

-- what was read of a line says that it stands first
pub first_line_read : (is_ended : Bool) (a b : Option (List ℕ)) (line shown : List ℕ) → shown ≡ line → All IsNoEnd line
    → (is_ended ≡ true → Consumes a b (line ++ 10 ∷ [])) → (is_ended ≡ false → Consumes a b line) → (is_ended ≡ false → IsAtEnd b) → FirstLine a shown
first_line_read true a b line shown is one with_end last over = subst (FirstLine a) (sym is) (ended_line a b line one (with_end refl))
first_line_read false a b line shown is one with_end last over = subst (FirstLine a) (sym is) (last_line a b line one (last refl) (over refl))

pub no_byte : All IsNoEnd []
no_byte k d lt = absurd (omega (arith, lt))

-- what is shown of a line ends no line either
pub shown_one : (line shown : List ℕ) → shown ≡ line → All IsNoEnd line → All IsNoEnd shown
shown_one line shown is one = subst (All IsNoEnd) (sym is) one

pub shown_last : (a b : Option (List ℕ)) (line shown : List ℕ) → shown ≡ line → Consumes a b line → Consumes a b shown
shown_last a b line shown is took = subst (Consumes a b) (sym is) took

pub shown_ended : (a b : Option (List ℕ)) (line shown : List ℕ) → shown ≡ line → Consumes a b (line ++ 10 ∷ []) → Consumes a b (shown ++ 10 ∷ [])
shown_ended a b line shown is took = subst (λ l. Consumes a b (l ++ 10 ∷ [])) (sym is) took

-- as many kits as none
pub still_none : {A : Type 0} (xs ys : List A) → length ys ≡ length xs → ys ≡ [] → xs ≡ []
still_none [] ys e is = refl
still_none (x ∷ xs) ys e is = let none : 0 ≡ length (x ∷ xs) = subst (λ zs. length zs ≡ length (x ∷ xs)) is e in absurd (omega (arith, none))

-- ---- answers

-- to a command, if there is one, and to those behind it
answers_to : (t : Standing) (runs : ℕ) (command : Option Command) (more : List Command)
    → answers_from t runs (option_to_list command ++ more) ≡ answer_to t runs command ++ answers_from (standing_behind t command) (runs_behind runs command) more
answers_to t runs None more = refl
answers_to t runs (Some command) more = refl

left_to : (t : Standing) (command : Option Command) (more : List Command) → left_by_commands t (option_to_list command ++ more) ≡ left_by_commands (standing_behind t command) more
left_to t None more = refl
left_to t (Some command) more = refl

left_alone : (t : Standing) (command : Option Command) → left_by_commands t (option_to_list command) ≡ standing_behind t command
left_alone t None = refl
left_alone t (Some command) = refl

answer_alone : (t : Standing) (runs : ℕ) (command : Option Command) → answers_from t runs (option_to_list command) ≡ answer_to t runs command
answer_alone t runs None = refl
answer_alone t runs (Some command) = append-nil (answer_text t runs command)

-- a command is at most one more run
pub runs_behind-le : (runs k n : ℕ) (command : Option Command) → n ≡ runs_behind runs command → runs ≤ k → n ≤ k + 1
runs_behind-le runs k n None is few = rw is (omega (arith, few))
runs_behind-le runs k n (Some meant.Run) is few = rw is (omega (arith, few))
runs_behind-le runs k n (Some (meant.Change edit)) is few = rw is (omega (arith, few))
runs_behind-le runs k n (Some (meant.Unknown line)) is few = rw is (omega (arith, few))

-- those of a session whose tables nothing was edited of
pub first_read : (s : PlainSession) → s.tables.edits ≡ 0 → (unread left old new : Option (List ℕ))
    → WritesRead (session_so_far s) unread left old new → WritesRead (first_so_far s.checked s.tables.tables) unread left old new
first_read s e unread left old new h =
    subst (λ (n : ℕ). WritesRead (answers_so_far (standing s.checked (record { tables = s.tables.tables; edits = n; was = s.tables.was }))) unread left old new) e h

pub nothing_answered : (s : Standing) (script : PlainOpen) (unread old : Option (List ℕ)) → script ≡ nothing_come → HasAnswered s s 0 script unread unread old old
nothing_answered s script unread old is = rw is (record {
  bytes = [];
  come = [];
  answers = [];
  is_come = nothing_is_come;
  read = Consumes-nothing unread;
  written = Appends-nothing old;
  going_on = λ more. refl;
  leaving = λ more. refl;
})

module _ (s t : Standing) (runs : ℕ) (script : PlainOpen) (unread left old new : Option (List ℕ)) (h : HasAnswered s t runs script unread left old new) where
  -- the answers to all that is known, where so much is left
  all_answers : (rest : List ℕ) → answers_text s (h.bytes ++ rest) ≡ h.answers ++ answers_from t runs (commands_left script (lines rest))
  all_answers rest = ap (answers_from s 0) (commands_of_all script h.bytes h.come h.is_come rest) ∙ h.going_on (commands_left script (lines rest))

  -- where a line stands first in it
  with_first : (rest line : List ℕ) (behind : List (List ℕ)) → lines rest ≡ line ∷ behind
      → answers_text s (h.bytes ++ rest) ≡ h.answers ++ (answer_to t runs (command_by script line) ++ answers_from (standing_behind t (command_by script line)) (runs_behind runs (command_by script line)) (commands_left (with_line script line) behind))
  with_first rest line behind is =
      all_answers rest
      ∙ ap (λ cs. h.answers ++ answers_from t runs cs) (ap (commands_left script) is ∙ first_line script line behind)
      ∙ ap (λ xs. h.answers ++ xs) (answers_to t runs (command_by script line) (commands_left (with_line script line) behind))

  -- one more line with its end
  pub next_line : (line : List ℕ) (t' : Standing) (runs' : ℕ) (script' : PlainOpen) (left' new' : Option (List ℕ)) → All IsNoEnd line
      → Consumes left left' (line ++ 10 ∷ []) → Appends new new' (answer_to t runs (command_by script line))
      → t' ≡ standing_behind t (command_by script line) → runs' ≡ runs_behind runs (command_by script line) → script' ≡ with_line script line
      → HasAnswered s t' runs' script' unread left' old new'
  next_line line t' runs' script' left' new' one took wrote leaves counts taken =
      let own = answer_to t runs (command_by script line) in
      rw (leaves, counts, taken)
      (record {
        bytes = h.bytes ++ (line ++ 10 ∷ []);
        come = h.come ++ line ∷ [];
        answers = h.answers ++ own;
        is_come = line_is_come script h.bytes h.come h.is_come line one;
        read = Consumes-more unread left left' h.bytes (line ++ 10 ∷ []) h.read took;
        written = Appends-more old new new' h.answers own h.written wrote;
        going_on = λ more.
            ap (λ cs. answers_from s 0 (cs ++ more)) (one_more script h.bytes h.come h.is_come line)
            ∙ ap (answers_from s 0) (append_assoc (commands_by nothing_come h.come) (option_to_list (command_by script line)) more)
            ∙ h.going_on (option_to_list (command_by script line) ++ more)
            ∙ ap (λ xs. h.answers ++ xs) (answers_to t runs (command_by script line) more)
            ∙ sym (append_assoc h.answers own (answers_from (standing_behind t (command_by script line)) (runs_behind runs (command_by script line)) more));
        leaving = λ more.
            ap (λ cs. left_by_commands s (cs ++ more)) (one_more script h.bytes h.come h.is_come line)
            ∙ ap (left_by_commands s) (append_assoc (commands_by nothing_come h.come) (option_to_list (command_by script line)) more)
            ∙ h.leaving (option_to_list (command_by script line) ++ more)
            ∙ left_to t (command_by script line) more;
      })

  -- the session stands behind the commands of the lines that came
  standing_then : t ≡ left_by_commands s (commands_by nothing_come h.come)
  standing_then = sym (h.leaving []) ∙ ap (left_by_commands s) (append-nil (commands_by nothing_come h.come))

  by_first : (u : Standing) → u ≡ t → (rest : List ℕ) → IsLeftByFirst s u (commands (h.bytes ++ rest))
  by_first u e rest = (commands_by nothing_come h.come, commands_left script (lines rest), sym (commands_of_all script h.bytes h.come h.is_come rest), e ∙ standing_then)

  -- and it may stand behind that of the next line
  by_next : (line : List ℕ) (u : Standing) → MayBeBehind t u (command_by script line) → (rest : List ℕ) (behind : List (List ℕ)) → lines rest ≡ line ∷ behind
      → IsLeftByFirst s u (commands (h.bytes ++ rest))
  by_next line u (inl e) rest behind is = by_first u e rest
  by_next line u (inr e) rest behind is =
      let so_far = commands_by nothing_come h.come in
      let own = option_to_list (command_by script line) in
      let more = commands_left (with_line script line) behind in (
        so_far ++ own,
        more,
        append_assoc so_far own more ∙ ap (λ cs. so_far ++ cs) (sym (ap (commands_left script) is ∙ first_line script line behind))
            ∙ sym (commands_of_all script h.bytes h.come h.is_come rest),
        e ∙ sym (left_alone t (command_by script line)) ∙ sym (h.leaving own),
      )

  by_known : (u : Standing) → u ≡ t → (known : Option (List ℕ)) → IfSome known (λ rest. IsLeftByFirst s u (commands (h.bytes ++ rest)))
  by_known u e None = tt
  by_known u e (Some rest) = by_first u e rest

  pub left_by_lines : (u : Standing) → u ≡ t → IfSome unread (λ known. IsLeftByFirst s u (commands known))
  left_by_lines u e = split_known unread left h.bytes (λ known. IsLeftByFirst s u (commands known)) h.read (by_known u e left)

  by_next_known : (line : List ℕ) (u : Standing) → MayBeBehind t u (command_by script line) → (known : Option (List ℕ)) → FirstLine known line
      → IfSome known (λ rest. IsLeftByFirst s u (commands (h.bytes ++ rest)))
  by_next_known line u may None first = tt
  by_next_known line u may (Some rest) first = by_next line u may rest first.0 first.1

  pub left_by_next : (line : List ℕ) (u : Standing) → FirstLine left line → MayBeBehind t u (command_by script line) → IfSome unread (λ known. IsLeftByFirst s u (commands known))
  left_by_next line u first may =
      split_known unread left h.bytes (λ known. IsLeftByFirst s u (commands known)) h.read (by_next_known line u may left first)

  -- a read failed in mid-line
  pub read_failed : (part : List ℕ) (left' : Option (List ℕ)) → All IsNoEnd part → Consumes left left' part → WritesRead (answers_so_far s) unread left' old new
  read_failed part left' one took =
      let so_far : answers_so_far s (h.bytes ++ part) ≡ h.answers =
      ap (answers_from s 0) (whole_of script h.bytes h.come h.is_come part one ∙ sym (append-nil (commands_by nothing_come h.come)))
      ∙ h.going_on [] ∙ append-nil h.answers in (
        h.bytes ++ part,
        Consumes-more unread left left' h.bytes part h.read took,
        subst (Appends old new) (sym so_far) h.written,
      )

  -- what is written is a beginning of the answers
  begun_known : (known : Option (List ℕ)) → IfSome known (λ rest. HasBeginning old new (answers_text s (h.bytes ++ rest)))
  begun_known None = tt
  begun_known (Some rest) = beginning_of old new h.answers _ _ h.written (sym (all_answers rest))

  pub begun : WritesBeginning (answers_text s) unread old new
  begun = split_known unread left h.bytes (λ known. HasBeginning old new (answers_text s known)) h.read (begun_known left)

  -- with a beginning of the next line's answer what is written is a beginning of the answers
  begun_line_known : (line : List ℕ) (new' known : Option (List ℕ)) → FirstLine known line → HasBeginning new new' (answer_to t runs (command_by script line))
      → IfSome known (λ rest. HasBeginning old new' (answers_text s (h.bytes ++ rest)))
  begun_line_known line new' None first wrote = tt
  begun_line_known line new' (Some rest) first wrote = beginning_after old new new' h.answers _ _ _ h.written wrote (sym (with_first rest line first.0 first.1))

  pub begun_line : (line : List ℕ) (new' : Option (List ℕ)) → FirstLine left line → HasBeginning new new' (answer_to t runs (command_by script line))
      → WritesBeginning (answers_text s) unread old new'
  begun_line line new' first wrote =
      split_known unread left h.bytes (λ known. HasBeginning old new' (answers_text s known)) h.read (begun_line_known line new' left first wrote)

  -- the last line is answered, and what is left then
  module _ (line : List ℕ) (t' : Standing) (runs' : ℕ) (script' : PlainOpen) (left' new' : Option (List ℕ)) (one : All IsNoEnd line)
      (took : Consumes left left' line) (over : IsAtEnd left') (wrote : Appends new new' (answer_to t runs (command_by script line)))
      (leaves : t' ≡ standing_behind t (command_by script line)) (counts : runs' ≡ runs_behind runs (command_by script line)) (taken : script' ≡ with_line script line) where
    all_of_known : answers_text s (h.bytes ++ line) ≡ (h.answers ++ answer_to t runs (command_by script line)) ++ answer_to t' runs' (command_left script')
    all_of_known =
        let own = answer_to t runs (command_by script line) in
        let behind : answers_from (standing_behind t (command_by script line)) (runs_behind runs (command_by script line)) (commands_left (with_line script line) []) ≡ answer_to t' runs' (command_left script') =
        rw (leaves, counts, taken) (ap (answers_from _ _) (at_the_end (with_line script line)) ∙ answer_alone _ _ (command_left (with_line script line))) in
        with_first line line [] (alone line one) ∙ ap (λ xs. h.answers ++ (own ++ xs)) behind ∙ sym (append_assoc h.answers own (answer_to t' runs' (command_left script')))

    -- all that is known leaves what the command that is left leaves
    left_of_known : left_by_script s (h.bytes ++ line) ≡ standing_behind t' (command_left script')
    left_of_known =
        ap (left_by_commands s) (commands_of_all script h.bytes h.come h.is_come line)
        ∙ h.leaving (commands_left script (lines line))
        ∙ ap (left_by_commands t) (ap (commands_left script) (alone line one) ∙ first_line script line [])
        ∙ left_to t (command_by script line) (commands_left (with_line script line) [])
        ∙ rw (leaves, taken) (ap (left_by_commands _) (at_the_end (with_line script line)) ∙ left_alone _ (command_left (with_line script line)))

    written_so_far : Appends old new' (h.answers ++ answer_to t runs (command_by script line))
    written_so_far = Appends-more old new new' h.answers _ h.written wrote

    known_all : (P : List ℕ → Type 0) → P (h.bytes ++ line) → (a b : Option (List ℕ)) → Consumes a b line → IsAtEnd b → IfSome a (λ rest. P (h.bytes ++ rest))
    known_all P p None b c e = tt
    known_all P p (Some a) b c e = subst (λ rest. P (h.bytes ++ rest)) (sym (last_known (Some a) b line c e)) p

    of_bytes : (P : List ℕ → Type 0) → P (h.bytes ++ line) → IfSome unread P
    of_bytes P p = split_known unread left h.bytes P h.read (known_all P p left left' took over)

    of_all : (P : List ℕ → Type 0) → P (answers_text s (h.bytes ++ line)) → IfSome unread (λ known. P (answers_text s known))
    of_all P p = of_bytes (λ known. P (answers_text s known)) p

    pub all_answered : (new'' : Option (List ℕ)) → Appends new' new'' (answer_to t' runs' (command_left script')) → WritesAll (answers_text s) unread old new''
    all_answered new'' more = of_all (Appends old new'') (subst (Appends old new'') (sym all_of_known) (Appends-more old new' new'' _ _ written_so_far more))

    pub begun_rest : (new'' : Option (List ℕ)) → HasBeginning new' new'' (answer_to t' runs' (command_left script')) → WritesBeginning (answers_text s) unread old new''
    begun_rest new'' more =
        of_all (HasBeginning old new'')
        (beginning_after old new' new'' (h.answers ++ answer_to t runs (command_by script line)) (answer_to t' runs' (command_left script')) [] _ written_so_far more (ap (λ xs. (h.answers ++ answer_to t runs (command_by script line)) ++ xs) (append-nil (answer_to t' runs' (command_left script'))) ∙ sym all_of_known))

    pub all_left : (t'' : Standing) → t'' ≡ standing_behind t' (command_left script') → IfSome unread (λ known. t'' ≡ left_by_script s known)
    all_left t'' e = of_bytes (λ known. t'' ≡ left_by_script s known) (e ∙ sym left_of_known)

    -- where the last command may have been answered
    pub left_by_rest : (u : Standing) → MayBeBehind t' u (command_left script') → IfSome unread (λ known. IsLeftByFirst s u (commands known))
    left_by_rest u (inl e) = of_bytes (λ known. IsLeftByFirst s u (commands known)) (by_next line u (inr (e ∙ leaves)) line [] (alone line one))
    left_by_rest u (inr e) =
        of_bytes (λ known. IsLeftByFirst s u (commands known)) (commands (h.bytes ++ line), [], append-nil (commands (h.bytes ++ line)), e ∙ sym left_of_known)
