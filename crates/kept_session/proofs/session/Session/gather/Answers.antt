use Rattle.std.proofs.Common.{sym, subst}
use Rattle.linked_program.specs.Checked.{IsChecked}
use Rattle.rules_theory.proofs.Monoids.{checked_monoids}
use Rattle.record_index.specs.Indexed.{PlainIndexed, IsIndexed}
use Rattle.kept_session.specs.Sessions.{KeepsSession}
use Rattle.kept_session.proofs.session.Session.gather.Goals as goal

pub gather-requires : goal.gather-requires
gather-requires g c =
    let s = c.self.inside in
    let is : IsChecked s.checked = record {
      clean = c.clean.ensures.clean;
      linked = c.linked.ensures.codes;
      kinds_are = c.linked.ensures.kinds;
      initials_are = c.linked.ensures.initials;
      main_is = c.linked.ensures.main;
      each = c.revised.ensures.each;
      below = c.revised.ensures.below;
    } in
    record { monoids = checked_monoids s.checked is; values = c.self.invariant.0.values }

pub invariant_of-self : goal.invariant_of-self
invariant_of-self g c =
    let s = c.self.inside in
    subst (λ (x : PlainIndexed). KeepsSession (record { checked = s.checked; tables = s.tables; kits = s.kits; records = x.records; inlined = s.inlined }) × IsIndexed s.checked.revisions s.tables.tables x)
    (sym c.gather.ensures.same) c.self.invariant
