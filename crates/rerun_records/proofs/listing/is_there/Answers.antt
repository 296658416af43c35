use Rattle.std.proofs.Common.{◌≡◌, ◌∙◌, ℕ, ℤ, List, true, subst, sym}
use Rattle.record_theory.specs.Record.{PlainRecord, is_of}
use Rattle.rerun_records.proofs.Instances.{found_place, record_within}
use Rattle.rerun_records.proofs.listing.is_there.Goals as goal

pub returns-in-Some-clause-there : goal.returns-in-Some-clause-there
returns-in-Some-clause-there c = λ t.
    let made = c.args.made.now in
    let k : PlainRecord = c.in-Some.record.now in
    let of : is_of made.procedure made.arguments k ≡ true =
    subst (λ (f : ℕ). is_of f made.arguments k ≡ true) c.procedure.ensures.procedure
    (subst (λ (xs : List ℤ). is_of c.procedure.result xs k ≡ true) c.arguments.ensures.arguments (sym c.is_of.ensures.of ∙ t)) in
    found_place c.args.list.now made k c.args.place c.requires.as_made c.requires.single (sym c.in-Some.ensures.at) of

pub returns-in-Some-clause-within : goal.returns-in-Some-clause-within
returns-in-Some-clause-within c = λ t. record_within c.args.list.now c.args.place c.in-Some.record.now (sym c.in-Some.ensures.at)
