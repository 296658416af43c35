use Rattle.std.proofs.Common.{◌≡◌, map, sym, ◌∙◌, subst, ap, Some, None, slice_get}
use Rattle.std.specs.Prelude.{option_map}
use Rattle.std.proofs.lemmas.Option.{slice_get-map, slice_get_past}
use Rattle.monoid_laws.specs.Kinds.{meaning, operate_all, AreWorths}
use Rattle.meaning.specs.Outcome.{after}
use Rattle.meaning.specs.Statements.{reducers}
use Rattle.serial_oracle.specs.Keeping.{tree_in, records_in, kept}
use Rattle.serial_oracle.specs.Worths.{reused_log}
use Rattle.serial_oracle.proofs.Noted.{at_map, on_ok, fits_at, record_after}
use Rattle.serial_oracle.proofs.updates.apply_record.Goals as goal

pub combine_all-requires-clause-rights_of_kinds : goal.combine_all-requires-clause-rights_of_kinds
combine_all-requires-clause-rights_of_kinds c =
    let there : slice_get (records_in c.args.scope.now) c.args.place ≡ Some (kept c.in-Some.known.now) = at_map kept c.args.scope.now.records.now c.args.place c.in-Some.known.now c.in-Some.ensures.lookup.3.0 c.in-Some.ensures.lookup.1 in
    subst (λ vs. AreWorths c.args.kinds.now (map meaning vs)) (sym c.deref.ensures.value)
    (subst (λ ks. AreWorths ks (map meaning c.in-Some.known.now.contribution.items)) (sym c.requires.the_kinds)
    (fits_at (tree_in c.args.scope.now) (records_in c.args.scope.now) c.args.place (kept c.in-Some.known.now) c.requires.fit there))

pub returns-in-None-clause-after : goal.returns-in-None-clause-after
returns-in-None-clause-after c =
    let none : slice_get (records_in c.args.scope.now) c.args.place ≡ None = slice_get-map kept c.args.scope.now.records.now c.args.place ∙ ap (option_map kept) (slice_get_past c.args.scope.now.records.now c.args.place c.in-None.ensures.lookup.3) in
    ap (λ o. after (reused_log (reducers (tree_in c.args.scope.now)) o) (map meaning c.args.values.now.items)) (sym none)

pub returns-in-Some-clause-after : goal.returns-in-Some-clause-after
returns-in-Some-clause-after c =
    let there : slice_get (records_in c.args.scope.now) c.args.place ≡ Some (kept c.in-Some.known.now) = at_map kept c.args.scope.now.records.now c.args.place c.in-Some.known.now c.in-Some.ensures.lookup.3.0 c.in-Some.ensures.lookup.1 in
    on_ok c.combine_all.result _ _
    (λ n. record_after (tree_in c.args.scope.now) (records_in c.args.scope.now) c.args.place (kept c.in-Some.known.now) c.args.kinds.now (map meaning c.args.values.now.items) (map meaning c.combine_all.new.values.items) there c.requires.the_kinds c.requires.of_kinds
    (subst (λ ks. AreWorths ks (map meaning c.in-Some.known.now.contribution.items)) (sym c.requires.the_kinds) (fits_at (tree_in c.args.scope.now) (records_in c.args.scope.now) c.args.place (kept c.in-Some.known.now) c.requires.fit there))
    (n ∙ ap (λ vs. operate_all c.args.kinds.now (map meaning c.args.values.now.items) (map meaning vs)) c.deref.ensures.value))
    c.combine_all.ensures.combined
