use Rattle.std.proofs.Common.{◌≡◌, List, map, ap, sym, ◌∙◌, true}
use Rattle.std.specs.Prelude.{slice_get}
use Rattle.record_theory.specs.Record.{PlainRecord, is_of, as_made}
use Rattle.rerun_records.proofs.WithNumbers.{same_without_numbers}
use Rattle.rerun_records.proofs.Wholes.{of_procedure, of_arguments}
use Rattle.rerun_records.proofs.records.Records.found_at.Goals as goal

pub returns-else-not-is_of-clause-there : goal.returns-else-not-is_of-clause-there
returns-else-not-is_of-clause-there c =
    ap (λ (xs : List PlainRecord). slice_get xs c.args.place)
    (sym (ap (map as_made) c.self.view_is) ∙ same_without_numbers c.self.inside.numbers.items c.self.inside.list.items ∙ c.self.invariant.0.as_made_are ∙ sym c.deref.ensures.value)
    ∙ sym c.in-Some.ensures.at

pub returns-else-not-is_of-clause-procedure : goal.returns-else-not-is_of-clause-procedure
returns-else-not-is_of-clause-procedure c =
    let same : is_of c.args.procedure c.args.arguments.now c.in-Some.record.now ≡ true = sym c.is_of.ensures.of ∙ c.if-not-is_of.false in
    of_procedure c.args.procedure c.args.arguments.now c.in-Some.record.now same

pub returns-else-not-is_of-clause-arguments : goal.returns-else-not-is_of-clause-arguments
returns-else-not-is_of-clause-arguments c =
    let same : is_of c.args.procedure c.args.arguments.now c.in-Some.record.now ≡ true = sym c.is_of.ensures.of ∙ c.if-not-is_of.false in
    of_arguments c.args.procedure c.args.arguments.now c.in-Some.record.now same
