use Rattle.std.proofs.Common.{◌≡◌, ◌-◌, ◌++◌, ◌∷◌, [], Ok}
use Rattle.std.proofs.lemmas.List.{map_push}
use Rattle.token_scanner.specs.Words.{words, line_of}
use Rattle.source_tree.specs.Source.{decl, source}
use Rattle.procedure_parser.specs.Reading.{with_front, worded, procedure_at, declarations_at}
use Rattle.procedure_parser.proofs.Turns.{gives_along, worded_turn}
use Rattle.procedure_parser.proofs.declaration.+declaring.Goals as goal

pub with_procedure-returns : goal.with_procedure-returns
with_procedure-returns t c =
    let e : source c.push.new.self.items ≡ source c.args.all.items ++ decl c.in_ok-next.next ∷ [] = rw c.in_ok-push.ensures.items (map_push _ c.args.all.items c.in_ok-next.next) in
    let next = declarations_at c.args.turns c.args.reducers (c.args.procedures - 1) in
    let d : procedure_at (line_of (words c.args.tokens.now)) c.in_ok-memo.memo (words c.in_ok-memo.rest.now) ≡ Ok (decl c.in_ok-next.next, words c.in_ok-next.rest.now) = rw (← c.line_of.ensures) c.in_ok-next.ensures in
    let s = worded_turn c.args.procedures next (line_of (words c.args.tokens.now)) (source c.args.all.items) (words c.args.tokens.now) (words c.in_ok-memo.rest.now) (words c.in_ok-next.rest.now) c.in_ok-memo.memo (decl c.in_ok-next.next) c.if-procedures-eq0.false c.in_ok-memo.ensures d in
    gives_along _ c.declarations.result (with_front (source c.push.new.self.items) (next (words c.in_ok-next.rest.now))) (with_front (source c.args.all.items) (worded c.args.procedures next (line_of (words c.args.tokens.now)) (words c.args.tokens.now))) (rw e s) c.declarations.ensures
