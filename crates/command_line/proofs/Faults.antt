-- A command without subcommands has at most one fault at a line, so that an error's kind tells what the line is.
use Rattle.std.proofs.Common.{◌≡◌, ◌==◌, ◌&&◌, ◌||◌, ◌+◌, ℕ, Bool, cond, true, false, not, zero, suc, refl, sym, ap₂, subst, inl, inr, List, [], ◌∷◌, length, drop, min, Option, Some, None, is_some}
use Rattle.std.specs.Prelude.{⊤, encode_utf8, nat_lt, slice_get}
use Rattle.std.specs.Option.{option_map_or}
use Rattle.std.specs.Str.{bytes_eq, chars}
use Rattle.clap.specs.Lexer.{long_of, short_of}
use Rattle.clap.specs.Matches.{count_text}
use Rattle.clap.specs.Facts.{parser_of_value, unwrap_or_range}
use Rattle.clap.specs.ValueTests.{accepts}
use Rattle.clap.specs.Walk.{Held, Row, Rule, Step, Text, Waiting, Walk, action_of, arg_by_id, arg_by_index, arg_by_long, arg_by_short, attached_value, count_of, has_row, idle, is_empty, is_pending, most_values, next, option, positional, reacted, settled, subcommand, subcommand_met, takes_several, takes_values, trailing, value, values_or_missing, walk, walk_from, walked, with_default, word_met}
use Rattle.clap.specs.Simple.{Shape, entered}
use Rattle.clap.specs.Kinds.{IsAmong, Kinds, check_kinds, or_else, range_kinds, request_kinds, value_kinds, values_kinds}
use Rattle.clap.specs.Faults.{action_fault, built_fault, bundle_fault, bundle_step_fault, count_fault, default_fault, defaults_fault, entered_fault, flag_word_fault, flags_fault, level_fault, long_fault, option_fault, other_fault, positional_fault, react_fault, set_fault, settle_fault, short_fault, step_fault, stray_fault, turn_fault, use_fault, walk_fault, word_fault}
use Rattle.clap.specs.declared.builder.action.ArgAction.{ArgAction}
use Rattle.clap.specs.declared.builder.action.ArgAction.TheVariants as action
use Rattle.clap.specs.declared.builder.value_parser.ValueParser.{ValueParser}
use Rattle.clap.specs.declared.error.kind.ErrorKind.{ErrorKind}

abbrev pub HasOneAtMost : Kinds → Type 0
HasOneAtMost [] = ⊤
HasOneAtMost (k ∷ ks) = ks ≡ []

-- a kind of such a list is the whole list
pub whole : (kinds : Kinds) (k : ErrorKind) → HasOneAtMost kinds → IsAmong k kinds → kinds ≡ k ∷ []
whole [] k one among = absurd among
whole (x ∷ xs) k one among = elim (subst (λ rest. IsAmong k (x ∷ rest)) one among) [
  | inl same ↦ ap₂ ◌∷◌ (sym same) one
  | inr none ↦ absurd none
]

either : (a b : Kinds) → HasOneAtMost a → HasOneAtMost b → HasOneAtMost (or_else a b)
either [] b first second = second
either (k ∷ ks) b first second = first

chosen : (test : Bool) (a b : Kinds) → HasOneAtMost a → HasOneAtMost b → HasOneAtMost (cond test a b)
chosen true a b first second = first
chosen false a b first second = second

of_some : {T : Type 0} (f : T → Kinds) (found : Option T) → ((t : T) → HasOneAtMost (f t)) → HasOneAtMost (option_map_or f found [])
of_some f None each = tt
of_some f (Some t) each = each t

-- ---- one use of an argument

of_value : (ignore_case : Bool) (parser : ValueParser) (text : Text) → HasOneAtMost (value_kinds ignore_case parser text)
of_value ignore_case parser text = chosen (accepts ignore_case parser text) _ _ tt refl

of_values : (ignore_case : Bool) (parser : ValueParser) (values : List Text) → HasOneAtMost (values_kinds ignore_case parser values)
of_values ignore_case parser [] = tt
of_values ignore_case parser (v ∷ vs) = either _ _ (of_value ignore_case parser v) (of_values ignore_case parser vs)

of_range : (least most n : ℕ) → HasOneAtMost (range_kinds least most n)
of_range least most n =
    chosen (nat_lt 0 least && n == 0) _ _ refl (chosen (least == most) _ _ (chosen (least == n) _ _ tt refl)
    (chosen (nat_lt n least) _ _ refl (chosen (nat_lt most n) _ _ refl tt)))

of_count : (a : Rule) (values : List Text) (rows : List Row) → HasOneAtMost (count_fault a values rows)
of_count a [] rows = of_value a.ignore_case (parser_of_value a.parser) (count_text (min (count_of a.id rows + 1) 255))
of_count a (v ∷ vs) rows = of_values a.ignore_case (parser_of_value a.parser) (v ∷ vs)

of_set : (again : Bool) (a : Rule) (values : List Text) (rows : List Row) → HasOneAtMost (set_fault again a values rows)
of_set again a values rows =
    either _ _ (chosen (has_row a.id rows && not again) _ _ refl tt) (of_values a.ignore_case (parser_of_value a.parser) values)

of_action : (x : ArgAction) (again : Bool) (a : Rule) (values : List Text) (rows : List Row) → HasOneAtMost (action_fault x again a values rows)
of_action action.Set again a values rows = of_set again a values rows
of_action action.SetTrue again a values rows = of_set again a values rows
of_action action.SetFalse again a values rows = of_set again a values rows
of_action action.Append again a values rows = of_values a.ignore_case (parser_of_value a.parser) values
of_action action.Count again a values rows = of_count a values rows
of_action action.Help again a values rows = refl
of_action action.HelpShort again a values rows = refl
of_action action.HelpLong again a values rows = refl
of_action action.Version again a values rows = refl

of_request : (x : ArgAction) → HasOneAtMost (request_kinds x)
of_request action.Set = tt
of_request action.SetTrue = tt
of_request action.SetFalse = tt
of_request action.Append = tt
of_request action.Count = tt
of_request action.Help = refl
of_request action.HelpShort = refl
of_request action.HelpLong = refl
of_request action.Version = refl

of_use : (again : Bool) (a : Rule) (values : List Text) (rows : List Row) → HasOneAtMost (use_fault again a values rows)
of_use again a values rows =
    either _ _ (of_range (unwrap_or_range a.range).start_inclusive (most_values a) (length values))
    (of_action (action_of a) again a (values_or_missing a values) rows)

-- ---- the words

of_settle : (c : List Rule) (again : Bool) (h : Held) → HasOneAtMost (settle_fault c again h)
of_settle c again h =
    of_some (λ p. option_map_or (λ a. use_fault again a p.1 h.rows) (arg_by_id c p.0) []) h.pending
    (λ p. of_some (λ a. use_fault again a p.1 h.rows) (arg_by_id c p.0) (λ a. of_use again a p.1 h.rows))

of_react : (c : List Rule) (again : Bool) (a : Rule) (values : List Text) (h : Held) → HasOneAtMost (react_fault c again a values h)
of_react c again a values h = either _ _ (of_settle c again h) (of_use again a values (settled c h).rows)

of_option : (c : List Rule) (again : Bool) (a : Rule) (attached : Option Text) (h : Held) → HasOneAtMost (option_fault c again a attached h)
of_option c again a (Some v) h = of_react c again a (v ∷ []) h
of_option c again a None h = of_settle c again h

of_long : (c : List Rule) (again : Bool) (found : Option Rule) (attached : Option Text) (h : Held)
    → HasOneAtMost (long_fault c again found attached h)
of_long c again None attached h = refl
of_long c again (Some a) attached h =
    chosen (takes_values a) _ _ (of_option c again a attached h) (chosen (is_some attached) _ _ refl (of_react c again a [] h))

of_short : (c : List Rule) (again : Bool) (found : Option Rule) (rest : Text) (h : Held) (more : Held → Kinds)
    → ((now : Held) → HasOneAtMost (more now)) → HasOneAtMost (short_fault c again found rest h more)
of_short c again None rest h more each = refl
of_short c again (Some a) rest h more each =
    chosen (takes_values a) _ _ (of_option c again a (attached_value rest) h) (either _ _ (of_react c again a [] h) (each (reacted c a [] h)))

of_bundle_step : (c : List Rule) (again : Bool) (first : Option ℕ) (flags : Text) (skip : ℕ) (h : Held) (more : Text → ℕ → Held → Kinds)
    → ((rest : Text) (n : ℕ) (now : Held) → HasOneAtMost (more rest n now)) → HasOneAtMost (bundle_step_fault c again first flags skip h more)
of_bundle_step c again None flags skip h more each = tt
of_bundle_step c again (Some x) flags zero h more each =
    let rest = drop (length (encode_utf8 x)) flags in
    of_short c again (arg_by_short c x) rest h (more rest 0) (each rest 0)
of_bundle_step c again (Some x) flags (suc skip) h more each = each (drop (length (encode_utf8 x)) flags) skip h

of_flags : (c : List Rule) (again : Bool) (k : ℕ) (flags : Text) (skip : ℕ) (h : Held) → HasOneAtMost (flags_fault c again k flags skip h)
unfolding flags_fault
of_flags c again zero flags skip h = tt
of_flags c again (suc k) flags skip h =
    of_bundle_step c again (slice_get (chars flags) 0) flags skip h (flags_fault c again k) (of_flags c again k)

of_flag_word : (c : List Rule) (again : Bool) (name : Option (Text × Option Text)) (word : Text) (h : Held)
    → HasOneAtMost (flag_word_fault c again name word h)
of_flag_word c again (Some p) word h = of_long c again (arg_by_long c p.0) p.1 h
of_flag_word c again None word h =
    of_some (λ flags. bundle_fault c again flags h) (short_of word) (λ flags. of_flags c again (length flags) flags h.skip (record h { skip = 0 }))

-- the shape is of a command without subcommands
module _ (s : Shape) (leaf : s.is_leaf ≡ true) where
  of_other : (word : Text) (h : Held) → HasOneAtMost (other_fault s None word h)
  of_other word h = chosen (bytes_eq word (45 ∷ 45 ∷ [])) _ _ tt (of_flag_word s.rules s.args_override_self (long_of word) word h)

  of_met : (waiting : Waiting) (word : Text) (h : Held) → HasOneAtMost (other_fault s (subcommand_met [] waiting word) word h)
  of_met idle word h = of_other word h
  of_met (option id) word h = of_other word h
  of_met positional word h = of_other word h

  of_word : (is_trailing : Bool) (waiting : Waiting) (word : Text) (h : Held) → HasOneAtMost (word_fault s [] is_trailing waiting word h)
  of_word is_trailing waiting word h = chosen is_trailing _ _ tt (of_met waiting word h)

  of_stray : HasOneAtMost (stray_fault s)
  of_stray = rw leaf refl

  of_value_step : (position : ℕ) (h : Held) → HasOneAtMost (step_fault s position h value)
  of_value_step position h = go (arg_by_index s.rules position)
    where
      go : (found : Option Rule) → HasOneAtMost (option_map_or (λ a. positional_fault s.rules s.args_override_self a h) found (stray_fault s))
      go None = of_stray
      go (Some a) = chosen (is_pending a h.pending && takes_several a) _ _ tt (of_settle s.rules s.args_override_self h)

  of_step : (position : ℕ) (h : Held) (step : Step) → HasOneAtMost (step_fault s position h step)
  of_step position h value = of_value_step position h
  of_step position h (next waiting) = tt
  of_step position h (trailing n) = tt
  of_step position h (subcommand name) = tt

  of_turn : (w : Walk) (word : Text) → HasOneAtMost (turn_fault s [] w word)
  of_turn w word =
      let met = word_met s.rules [] w.is_trailing w.waiting w.position word w.held in
      chosen (is_some w.stopped) _ _ tt (either _ _ (of_word w.is_trailing w.waiting word w.held) (of_step w.position met.0 met.1))

  of_walk : (w : Walk) (words : List Text) → HasOneAtMost (walk_fault s [] w words)
  unfolding walk_fault
  of_walk w [] = tt
  of_walk w (word ∷ rest) = either _ _ (of_turn w word) (of_walk (walked s.rules [] w word) rest)

  of_default : (rows : List Row) (a : Rule) → HasOneAtMost (default_fault rows a)
  of_default rows a = chosen (has_row a.id rows || is_empty a.defaults) _ _ tt
      (either _ _ (of_request (action_of a)) (of_values a.ignore_case (parser_of_value a.parser) a.defaults))

  of_defaults : (rows : List Row) (rules : List Rule) → HasOneAtMost (defaults_fault rows rules)
  unfolding defaults_fault
  of_defaults rows [] = tt
  of_defaults rows (a ∷ rest) = either _ _ (of_default rows a) (of_defaults (with_default rows a) rest)

  of_check : (help command argument : Bool) → HasOneAtMost (check_kinds help command argument)
  of_check help command argument = chosen help _ _ refl (chosen command _ _ refl (chosen argument _ _ refl tt))

  of_level : (h : Held) (words : List Text) (has_subcommand : Bool) (below : Kinds) → HasOneAtMost below
      → HasOneAtMost (level_fault s [] h words has_subcommand below)
  of_level h words has_subcommand below inner =
      let end = (walk s.rules [] h words).held in
      either _ _ (of_walk (walk_from h) words)
      (either _ _ inner (either _ _ (of_settle s.rules s.args_override_self end)
      (either _ _ (of_defaults (settled s.rules end).rows s.rules) (of_check _ _ _))))

  -- the words have one fault at most
  pub of_words : (h : Held) (words : List Text) → HasOneAtMost (built_fault (record { top = s; subs = [] }) h words)
  of_words h words =
      let stop = (walk s.rules [] h words).stopped in
      of_level h words (is_some (entered (record { top = s; subs = [] }) stop)) (entered_fault (record { top = s; subs = [] }) stop)
      (of_some _ stop (λ p. tt))
