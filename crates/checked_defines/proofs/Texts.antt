-- The reader of texts that define procedures gives what the grammar says.
use Rattle.std.proofs.Common.{◌≡◌, ℕ, nat_lt, Bool, true, false, cond, List, [], length, inl, inr, Result, Ok, Err, refl, sym, ap, ◌∙◌}
use Rattle.std.proofs.lemmas.Bool.{ltb-true, ltb-false, lt-ltb, le-ltb}
use Rattle.meaning.specs.TreeView.{Lined}
use Rattle.meaning.specs.Tree.{Tree}
use Rattle.token_scanner.specs.Words.{Words}
use Rattle.token_scanner.specs.Scanning.{tokens_of, longest_text}
use Rattle.source_tree.specs.Source.{Source}
use Rattle.token_readers.specs.Reading.{stuck_before}
use Rattle.token_readers.specs.Rooms.{room_of}
use Rattle.procedure_parser.specs.Defining.{definition_at}
use Rattle.token_readers.specs.Lines.{line_at}
use Rattle.procedure_parser.specs.Correct.{InDefinition, IsFaultLineIn}
use Rattle.procedure_parser.proofs.Counts.{definition_line_is}
use Rattle.procedure_parser.proofs.Whole.{only_definition, definition_found}
use Rattle.program_edits.specs.Putting.{put_all}
use Rattle.procedure_parser.specs.Defined.{IsDefined}
use Rattle.checked_defines.specs.Readers.{located, put_into, reads_text, ReadsGrammar}
use Rattle.checked_defines.proofs.FirstFaults.{stopped_at, stops_at_fault}

module _ (text : List ℕ) (before : Tree × List Lined) where
  abbrev is_long : Bool
  is_long = nat_lt longest_text (length text)

  abbrev answer : Result Source Words
  answer = definition_at (room_of before.0) (tokens_of text)

  put_by : (after : Tree × List Lined) (b : Bool) (y : Result Source Words) → is_long ≡ b → answer ≡ y → put_into before (cond b (Err 0) (located text y)) ≡ Ok after → IsDefined before text after
  put_by after true y l a e = absurd cc
  put_by after false (Ok s) l a e =
      let is : put_all [] s before ≡ after = cc in
      (s, (ltb-false longest_text (length text) l, definition_found (room_of before.0) (tokens_of text) s a), sym is)
  put_by after false (Err us) l a e = absurd cc

  refused_by : (line : ℕ) (b : Bool) (y : Result Source Words) → is_long ≡ b → answer ≡ y → put_into before (cond b (Err 0) (located text y)) ≡ Err line → IsFaultLineIn (InDefinition (room_of before.0)) text line
  refused_by line true y l a e = let z : line ≡ 0 = cc in inl (ltb-true longest_text (length text) l, z)
  refused_by line false (Ok s) l a e = absurd cc
  refused_by line false (Err us) l a e =
      let at : line_at text us ≡ line = cc in
      let room = room_of before.0 in
      definition_line_is room text (tokens_of text) (length us) line refl (ltb-false longest_text (length text) l) (ap (λ (y : Result Source Words). stuck_before y) a)
      (sym at ∙ ap (line_at text) (sym (stopped_at room (tokens_of text) us a)))

  pub is_put : (after : Tree × List Lined) → IsDefined before text after → reads_text text before ≡ Ok after
  unfolding reads_text
  is_put after (s, (le, g), e) =
      let short : is_long ≡ false = le-ltb longest_text (length text) le in
      let a : answer ≡ Ok s = only_definition (room_of before.0) s (tokens_of text) g in
      rw (short, a, e) refl

  pub text_refused : (line : ℕ) → IsFaultLineIn (InDefinition (room_of before.0)) text line → reads_text text before ≡ Err line
  unfolding reads_text
  text_refused line (inl (lt, z)) =
      let long : is_long ≡ true = lt-ltb longest_text (length text) lt in
      rw (long, z) refl
  text_refused line (inr (us, le, f, at, some)) =
      let short : is_long ≡ false = le-ltb longest_text (length text) le in
      let a : answer ≡ Err us = stops_at_fault (room_of before.0) (tokens_of text) us f in
      rw (short, a, at) refl

  pub put_is : (after : Tree × List Lined) → reads_text text before ≡ Ok after → IsDefined before text after
  unfolding reads_text
  put_is after e = put_by after is_long answer refl refl e

  pub refused_is : (line : ℕ) → reads_text text before ≡ Err line → IsFaultLineIn (InDefinition (room_of before.0)) text line
  unfolding reads_text
  refused_is line e = refused_by line is_long answer refl refl e

pub reads_grammar : ReadsGrammar reads_text
reads_grammar = record {
  puts = λ text before after. (put_is text before after, is_put text before after);
  refuses = λ text before line. (refused_is text before line, text_refused text before line);
}
