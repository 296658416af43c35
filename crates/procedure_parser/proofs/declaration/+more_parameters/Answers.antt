use Rattle.std.proofs.Common.{◌≡◌, ◌++◌, ◌∷◌, [], string_bytes, Ok, sym, subst, ◌∙◌}
use Rattle.std.proofs.lemmas.List.{map_push}
use Rattle.token_scanner.specs.Words.{Words, words}
use Rattle.source_tree.specs.Source.{texts}
use Rattle.token_readers.specs.Reading.{name_at}
use Rattle.procedure_parser.proofs.Turns.{gives_along, param_turn}
use Rattle.procedure_parser.proofs.declaration.+more_parameters.Goals as goal

pub returns : goal.returns
returns t c =
    let e : texts c.push.new.self.items ≡ texts c.args.all.items ++ string_bytes c.in_ok-parameter.parameter ∷ [] = rw c.in_ok-push.ensures.items (map_push _ c.args.all.items c.in_ok-parameter.parameter) in
    let n = subst (λ (ts : Words). name_at ts ≡ Ok (string_bytes c.in_ok-parameter.parameter, words c.in_ok-parameter.rest.now)) c.rest_of-rest.ensures c.in_ok-parameter.ensures in
    let s = param_turn (texts c.args.all.items) (words c.args.tokens.now) (words c.in_ok-parameter.rest.now) c.args.left (string_bytes c.in_ok-parameter.parameter) c.if-left-eq0.false (sym c.starts.ensures ∙ c.if-not-starts.false) n in
    gives_along _ c.more_parameters.result _ _ (rw e s) c.more_parameters.ensures
