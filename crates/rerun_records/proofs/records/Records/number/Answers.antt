use Rattle.std.proofs.Common.{◌≡◌, ◌∙◌, List, ℕ, Some, None, ap, sym}
use Rattle.std.specs.Prelude.{slice_get}
use Rattle.record_theory.specs.Record.{PlainRecord}
use Rattle.rerun_records.proofs.Homes.{home_there, home_beyond}
use Rattle.rerun_records.proofs.WithNumbers.{number_at}
use Rattle.rerun_records.proofs.records.Records.number.Goals as goal

pub returns-in-Some-clause-number : goal.returns-in-Some-clause-number
returns-in-Some-clause-number c = λ r e.
    let there : slice_get c.deref.result.now c.args.place ≡ Some c.in-Some.number.now = home_there c.deref.result.now c.args.place c.in-Some.number.now c.in-Some.ensures.lookup.3.0 c.in-Some.ensures.lookup.1 in
    let at : slice_get c.self.inside.numbers.items c.args.place ≡ Some r.stale =
    number_at c.self.inside.numbers.items c.self.inside.list.items c.args.place r c.self.invariant.0.places (ap (λ (rs : List PlainRecord). slice_get rs c.args.place) c.self.view_is ∙ e) in
    let same : Some c.in-Some.number.now ≡ Some r.stale = sym there ∙ ap (λ (ns : List ℕ). slice_get ns c.args.place) c.deref.ensures.value ∙ at in
    cc (same)

pub returns-in-None-clause-number : goal.returns-in-None-clause-number
returns-in-None-clause-number c = λ r e.
    let there : slice_get c.deref.result.now c.args.place ≡ None = home_beyond c.deref.result.now c.args.place c.in-None.ensures.lookup.3 in
    let at : slice_get c.self.inside.numbers.items c.args.place ≡ Some r.stale =
    number_at c.self.inside.numbers.items c.self.inside.list.items c.args.place r c.self.invariant.0.places (ap (λ (rs : List PlainRecord). slice_get rs c.args.place) c.self.view_is ∙ e) in
    let same : None ≡ Some r.stale = sym there ∙ ap (λ (ns : List ℕ). slice_get ns c.args.place) c.deref.ensures.value ∙ at in
    absurd cc
