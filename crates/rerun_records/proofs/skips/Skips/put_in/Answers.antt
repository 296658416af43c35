use Rattle.std.proofs.Common.{◌∷◌, sym, subst}
use Rattle.rerun_records.specs.Skips.{PassBut}
use Rattle.rerun_records.proofs.skips.Skips.put_in.Goals as goal

pub returns : goal.returns
returns c = record {
  held = λ records rest h is. c.drop_around-is_dropped.ensures.held records rest c.self.inside.done (subst (λ s. PassBut (c.args.place ∷ rest) records s) (sym c.self.view_is) h) is;
}
