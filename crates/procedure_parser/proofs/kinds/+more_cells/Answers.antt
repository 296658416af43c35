use Rattle.std.proofs.Common.{◌≡◌, ◌++◌, ◌∷◌, []}
use Rattle.token_scanner.specs.Words.{words}
use Rattle.procedure_parser.proofs.Turns.{gives_along, cell_turn}
use Rattle.procedure_parser.proofs.kinds.+more_cells.Goals as goal

pub returns : goal.returns
returns t c =
    let e : c.push.new.self.items ≡ c.args.all.items ++ c.in_ok-number.number ∷ [] = rw (← c.byte_of.ensures) c.in_ok-push.ensures.items in
    let s = cell_turn c.args.size c.args.all.items (words c.args.tokens.now) (words c.in_ok-number.rest.now) c.args.left c.in_ok-number.number c.if-left-eq0.false c.in_ok-number.ensures.exact in
    gives_along _ c.more_cells.result _ _ (rw e s) c.more_cells.ensures
