use Rattle.std.proofs.Common.{◌≡◌, List, All, sym, subst}
use Rattle.monoid_laws.specs.declared.Kind.{Kind}
use Rattle.view_pool.specs.Stock.{Stock}
use Rattle.record_theory.specs.Named.{HaveValues}
use Rattle.record_index.specs.Indexed.{PlainIndexed}
use Rattle.kept_session.specs.Sessions.{AreKeptFor}
use Rattle.kept_session.proofs.Keeping.{none_kept, none_valued}
use Rattle.kept_session.proofs.Procedures.{nothing_is_indexed}
use Rattle.kept_session.proofs.session.Session.new.Goals as goal

pub invariant_of-result : goal.invariant_of-result
invariant_of-result g c =
    let none = c.new-records.ensures.none in
    let indexed = nothing_is_indexed c.args.checked.revisions c.args.tables.tables c.new-records.result none in (
      record {
        kept = subst (λ (x : PlainIndexed). AreKeptFor c.args.checked x.records) (sym none) (none_kept c.args.checked);
        values = subst (λ (x : PlainIndexed). HaveValues c.args.checked.kinds x.records) (sym none) (none_valued c.args.checked.kinds);
        columns = c.requires.columns;
        in_step = indexed.in_step;
        kinds = subst (λ (pool : Stock (List Kind)). All (λ k. k ≡ c.args.checked.kinds) pool.kits) (sym c.new.ensures) c.requires.kinds;
      },
      indexed,
    )
