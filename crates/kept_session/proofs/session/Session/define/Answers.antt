use Rattle.std.proofs.Common.{◌≡◌, List, All, sym, subst, ◌∙◌}
use Rattle.monoid_laws.specs.declared.Kind.{Kind}
use Rattle.record_theory.specs.Named.{HaveValues}
use Rattle.kept_session.specs.Sessions.{AreKeptFor}
use Rattle.kept_session.proofs.Keeping.{defined_keeps}
use Rattle.kept_session.proofs.Procedures.{told_longer, told_records}
use Rattle.kept_session.proofs.session.Session.define.Goals as goal

pub procedures_changed-requires : goal.procedures_changed-requires
procedures_changed-requires g c =
    let s = c.self.inside in
    record { longer = told_longer s.checked c.in-Ok.checked s.records.told c.revised.ensures.each c.revised-in-Ok.ensures.each c.in-Ok.ensures.places c.self.invariant.1.told.first }

pub invariant_of-self : goal.invariant_of-self
invariant_of-self g c =
    let s = c.self.inside in
    let new = c.in-Ok.checked in
    let now = c.procedures_changed.new.self in
    let keeps = c.self.invariant.0 in
    let same = told_records s.records now c.procedures_changed.ensures.same in
    let indexed = c.procedures_changed.ensures.indexed s.checked.revisions s.tables.tables c.self.invariant.1 in (
      record {
        kept = subst (AreKeptFor new) (sym same)
            (defined_keeps s.checked new s.records.records c.in-Ok.ensures.places c.in-Ok.ensures.sound (c.in-Ok.ensures.tables ∙ sym keeps.columns) c.in-Ok.ensures.kinds keeps.kept);
        values = subst (HaveValues new.kinds) (sym same) (subst (λ (ks : List Kind). HaveValues ks s.records.records) (sym c.in-Ok.ensures.kinds) keeps.values);
        columns = c.in-Ok.ensures.tables;
        in_step = indexed.in_step;
        kinds = subst (λ (ks : List Kind). All (λ k. k ≡ ks) s.kits.kits) (sym c.in-Ok.ensures.kinds) keeps.kinds;
      },
      indexed,
    )
