use Rattle.std.proofs.Common.{◌≡◌, ◌∙◌, List, ℕ, Some, true, ap, sym, subst}
use Rattle.std.specs.Prelude.{slice_get}
use Rattle.rerun_records.specs.Blocks.{is_fresh_at}
use Rattle.rerun_records.proofs.Homes.{home_there}
use Rattle.rerun_records.proofs.WithNumbers.{fresh_at}
use Rattle.rerun_records.proofs.records.Records.is_fresh.Goals as goal

pub returns-in-Some : goal.returns-in-Some
returns-in-Some c = record {
  fresh = λ e.
      (let there : slice_get c.deref.result.now c.args.place ≡ Some c.in-Some.number.now = home_there c.deref.result.now c.args.place c.in-Some.number.now c.in-Some.ensures.lookup.3.0 c.in-Some.ensures.lookup.1 in
      subst (λ rs. is_fresh_at rs c.args.place ≡ true) c.self.view_is
      (fresh_at c.self.inside.numbers.items c.self.inside.list.items c.args.place c.in-Some.number.now c.self.invariant.0.places (ap (λ (ns : List ℕ). slice_get ns c.args.place) (sym c.deref.ensures.value) ∙ there) (sym c.is_fresh.ensures.fresh ∙ e)));
}
