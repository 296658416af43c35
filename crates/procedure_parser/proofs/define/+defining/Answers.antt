use Rattle.std.proofs.Common.{◌≡◌, ◌++◌, ◌∷◌, [], Ok, subst}
use Rattle.std.proofs.lemmas.List.{map_push}
use Rattle.token_scanner.specs.Words.{Words, words}
use Rattle.source_tree.specs.Source.{decl, source}
use Rattle.procedure_parser.specs.Defining.{behind_name_at, procedures_at}
use Rattle.token_readers.specs.Seen.{room}
use Rattle.procedure_parser.proofs.Turns.{gives_along}
use Rattle.procedure_parser.proofs.Named.{named_turn}
use Rattle.procedure_parser.proofs.define.+defining.Goals as goal

pub named-returns : goal.named-returns
named-returns t c =
    let e : source c.push.new.self.items ≡ source c.args.all.items ++ decl c.in_ok-next.next ∷ [] = rw c.in_ok-push.ensures.items (map_push _ c.args.all.items c.in_ok-next.next) in
    let b = subst (λ (ts : Words). behind_name_at c.args.line c.args.memo c.in-Some.name.now ts ≡ Ok (decl c.in_ok-next.next, words c.in_ok-next.rest.now)) c.rest_of.ensures c.in_ok-next.ensures in
    let s = named_turn (room c.args.room) (room c.in-Some-room_behind.room) (procedures_at c.args.turns) c.args.line c.args.memo c.in-Some.name.now (words c.args.tokens.now) (words c.in_ok-next.rest.now) (source c.args.all.items) (decl c.in_ok-next.next) c.in-Some.ensures c.in-Some-room_behind.ensures b in
    gives_along _ c.procedures.result _ _ (rw e s) c.procedures.ensures
