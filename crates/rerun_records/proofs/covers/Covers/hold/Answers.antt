use Rattle.std.proofs.Common.{◌≡◌, Some, ◌∷◌, subst, sym, ◌∙◌}
use Rattle.std.specs.Prelude.{slice_get}
use Rattle.record_theory.specs.Record.{PlainRecord}
use Rattle.rerun_records.specs.Covers.{PlainCovers, AreCoveredBut}
use Rattle.rerun_records.proofs.Covering.{there_is}
use Rattle.rerun_records.proofs.Passing.{past_covered}
use Rattle.rerun_records.proofs.covers.Covers.hold.Goals as goal

pub returns-then-place-list-clause-held : goal.returns-then-place-list-clause-held
returns-then-place-list-clause-held c = λ rest h. past_covered c.args.list.now c.args.place rest c.args.self.now c.if-place-list.true h

pub returns-clause-held : goal.returns-clause-held
returns-clause-held c =
    let list = c.args.list.now in
    let place = c.args.place in
    let is : (r : PlainRecord) → slice_get list place ≡ Some r → r.reads ≡ c.reads-reads.result.now =
    λ r there. there_is list place r c.index-list-place.result there c.index-list-place.is ∙ sym c.reads-reads.ensures.reads in
    λ rest h.
    let covered = subst (λ (cs : PlainCovers). AreCoveredBut (place ∷ rest) list cs) (sym c.self.view_is) h in (
      (c.put_in.ensures.held list rest covered.0.0 is, (c.put_in-2.ensures.held list rest covered.0.1.0 is, (c.put_in-3.ensures.held list rest covered.0.1.1.0 is, tt))),
      c.put_in-4.ensures.held list rest covered.1 is,
    )
