use Rattle.std.proofs.Common.{◌≡◌, List, map, ap, sym, ◌∙◌, subst, None}
use Rattle.std.specs.Prelude.{slice_get}
use Rattle.std.specs.List.{find}
use Rattle.record_theory.specs.Record.{PlainRecord, is_of, as_made}
use Rattle.rerun_records.proofs.WithNumbers.{same_without_numbers, none_numbered}
use Rattle.rerun_records.proofs.Wholes.{of_procedure, of_arguments}
use Rattle.rerun_records.proofs.records.Records.place_of.Goals as goal

pub returns-in-Some-clause-there : goal.returns-in-Some-clause-there
returns-in-Some-clause-there c =
    ap (λ (xs : List PlainRecord). slice_get xs c.in-Some.place)
    (sym (ap (map as_made) c.self.view_is) ∙ same_without_numbers c.self.inside.numbers.items c.self.inside.list.items ∙ c.self.invariant.0.as_made_are ∙ sym c.deref.ensures.value)
    ∙ c.in-Some.ensures.there

pub returns-in-Some-clause-procedure : goal.returns-in-Some-clause-procedure
returns-in-Some-clause-procedure c =
    of_procedure c.args.procedure c.args.arguments.now c.in-Some.record.now c.in-Some.ensures.of

pub returns-in-Some-clause-arguments : goal.returns-in-Some-clause-arguments
returns-in-Some-clause-arguments c =
    of_arguments c.args.procedure c.args.arguments.now c.in-Some.record.now c.in-Some.ensures.of

pub returns-in-None-clause-none : goal.returns-in-None-clause-none
returns-in-None-clause-none c =
    subst (λ (xs : List PlainRecord). find (is_of c.args.procedure c.args.arguments.now) xs ≡ None) c.self.view_is
    (none_numbered c.args.procedure c.args.arguments.now c.self.inside.numbers.items c.self.inside.list.items (ap (find (is_of c.args.procedure c.args.arguments.now)) (sym c.deref.ensures.value) ∙ c.in-None.ensures.none))
