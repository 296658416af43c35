use Rattle.std.proofs.Common.{◌≡◌, ℕ, ℤ, List, None, true, subst}
use Rattle.std.specs.List.{find}
use Rattle.record_theory.specs.Record.{is_of, same_instance}
use Rattle.rerun_records.proofs.Instances.{found_place, none_place}
use Rattle.rerun_records.proofs.listing.place_for.Goals as goal

pub returns-in-Some : goal.returns-in-Some
returns-in-Some c =
    let made = c.args.made.now in
    let k = c.in-Some.field-0-1.now in
    let of : is_of made.procedure made.arguments k ≡ true =
    subst (λ (f : ℕ). is_of f made.arguments k ≡ true) c.procedure.ensures.procedure
    (subst (λ (xs : List ℤ). is_of c.procedure.result xs k ≡ true) c.arguments.ensures.arguments c.in-Some.ensures.of) in
    record { place = found_place c.args.list.now made k c.in-Some.place c.requires.as_made c.requires.single c.in-Some.ensures.there of }

pub returns-in-None : goal.returns-in-None
returns-in-None c =
    let made = c.args.made.now in
    let none : find (is_of made.procedure made.arguments) c.args.list.now ≡ None =
    subst (λ (f : ℕ). find (is_of f made.arguments) c.args.list.now ≡ None) c.procedure.ensures.procedure
    (subst (λ (xs : List ℤ). find (is_of c.procedure.result xs) c.args.list.now ≡ None) c.arguments.ensures.arguments c.in-None.ensures.none) in
    record { place = none_place c.args.list.now (same_instance made) none }
