use Rattle.std.proofs.Common.{◌≡◌, ◌-◌, length, drop, Ok, Some, None, Result, sym, ap, subst, ◌∙◌}
use Rattle.std.proofs.lemmas.List.{length-map}
use Rattle.meaning.specs.TreeView.{tree}
use Rattle.token_readers.specs.declared.fault.ParseError.{ParseError}
use Rattle.token_scanner.specs.Words.{Words, words, placed}
use Rattle.source_tree.specs.Source.{Source, source}
use Rattle.token_readers.specs.Reading.{stuck_before, Fails}
use Rattle.token_scanner.specs.Scanning.{tokens_of}
use Rattle.token_readers.specs.Rooms.{room_of}
use Rattle.procedure_parser.specs.Defining.{definition_at}
use Rattle.token_readers.specs.Seen.{room}
use Rattle.token_readers.specs.Lines.{line_at}
use Rattle.procedure_parser.proofs.Whole.{definition_found, only_definition}
use Rattle.procedure_parser.proofs.Counts.{definition_line_is}
use Rattle.procedure_parser.proofs.defined.define_source.Goals as goal

pub returns-in-Ok-clause-found : goal.returns-in-Ok-clause-found
returns-in-Ok-clause-found c =
    let t : definition_at (room_of (tree c.args.program.now)) (tokens_of c.args.text.now) ≡ Ok (source c.in-Ok.declarations.items) = rw (← c.in_ok-tokens.ensures, ← c.deref.ensures.value, ← c.in_ok-room.ensures) c.in-Ok.ensures in
    (c.if-text-gt-LONGEST_TEXT.false, definition_found (room_of (tree c.args.program.now)) (tokens_of c.args.text.now) (source c.in-Ok.declarations.items) t)

pub returns-in-Ok-clause-only : goal.returns-in-Ok-clause-only
returns-in-Ok-clause-only c = λ s i.
    let t : definition_at (room_of (tree c.args.program.now)) (tokens_of c.args.text.now) ≡ Ok (source c.in-Ok.declarations.items) = rw (← c.in_ok-tokens.ensures, ← c.deref.ensures.value, ← c.in_ok-room.ensures) c.in-Ok.ensures in
    let k = only_definition (room_of (tree c.args.program.now)) s (tokens_of c.args.text.now) i.1 in
    cc

pub returns-clause-only : goal.returns-clause-only
returns-clause-only c = λ s i.
    let space = room_of (tree c.args.program.now) in
    let t : stuck_before (definition_at space (tokens_of c.args.text.now)) ≡ Some c.in-Err-Stuck.left = rw (← c.in_ok-tokens.ensures, ← c.deref.ensures.value, ← c.in_ok-room.ensures) (subst (λ (f : ParseError). Fails {Y = Source} f (definition_at (room c.in_ok-room.room) (words c.deref.result.now))) c.in-Err-Stuck.field-0-is c.in-Err-Stuck.ensures) in
    let k : stuck_before (definition_at space (tokens_of c.args.text.now)) ≡ None = ap (λ (y : Result Source Words). stuck_before y) (only_definition space s (tokens_of c.args.text.now) i.1) in
    absurd (cc)

pub returns-clause-fault : goal.returns-clause-fault
returns-clause-fault c =
    let space = room_of (tree c.args.program.now) in
    let e : words c.deref.result.now ≡ tokens_of c.args.text.now = ap words c.deref.ensures.value ∙ c.in_ok-tokens.ensures in
    let same : c.deref-in-Err-Stuck.result.now ≡ c.deref.result.now = c.deref-in-Err-Stuck.ensures.value ∙ sym c.deref.ensures.value in
    let l = length-map c.deref.result.now placed in
    let is : c.fault_line.result ≡ line_at c.args.text.now (drop (length (words c.deref.result.now) - c.in-Err-Stuck.left) (words c.deref.result.now)) = rw (l, ← same, ← c.in-Err-Stuck.left-is) c.fault_line.ensures in
    let stuck : stuck_before (definition_at space (words c.deref.result.now)) ≡ Some c.in-Err-Stuck.left = rw (← c.in_ok-room.ensures) (subst (λ (f : ParseError). Fails {Y = Source} f (definition_at (room c.in_ok-room.room) (words c.deref.result.now))) c.in-Err-Stuck.field-0-is c.in-Err-Stuck.ensures) in
    definition_line_is space c.args.text.now (words c.deref.result.now) c.in-Err-Stuck.left c.fault_line.result e c.if-text-gt-LONGEST_TEXT.false stuck is
