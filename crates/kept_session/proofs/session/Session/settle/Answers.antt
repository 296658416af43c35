use Rattle.std.proofs.Common.{◌≡◌, List, All, sym, subst}
use Rattle.monoid_laws.specs.Kinds.{Fits}
use Rattle.linked_program.specs.Checked.{IsChecked}
use Rattle.rules_theory.proofs.Monoids.{checked_monoids}
use Rattle.record_theory.specs.Record.{PlainRecord}
use Rattle.kept_session.specs.Sessions.{PlainSession, AreNewFor}
use Rattle.kept_session.proofs.AsMade.{made_read_now}
use Rattle.kept_session.proofs.Keeping.{settled_keeps, settled_values}
use Rattle.kept_session.proofs.Procedures.{made_entered_now, stay_indexed, unchanged_if_refused}
use Rattle.kept_session.proofs.Values.{new_have_values}
use Rattle.kept_session.proofs.session.Session.settle.Goals as goal

pub keep-requires : goal.keep-requires
keep-requires g c =
    let s = c.self.inside in
    let is : IsChecked s.checked = record {
      clean = c.clean.ensures.clean;
      linked = c.linked.ensures.codes;
      kinds_are = c.linked.ensures.kinds;
      initials_are = c.linked.ensures.initials;
      main_is = c.linked.ensures.main;
      each = c.revised.ensures.each;
      below = c.revised.ensures.below;
    } in
    let new = subst (λ (x : PlainSession). AreNewFor x.checked x.tables c.args.made.items) (sym c.self.view_is) c.requires.new in
    let keeps = c.self.invariant.0 in
    record {
      indexed = c.self.invariant.1;
      read_now = made_read_now s.checked s.tables c.args.made.items keeps.columns new;
      entered_now = made_entered_now s.checked is s.tables c.args.made.items new;
      monoids = checked_monoids s.checked is;
      values = keeps.values;
      made_values = new_have_values s.checked is s.tables c.fitting.ensures.numbers c.cells_fit.ensures.fit c.args.made.items new
          (subst (λ (rs : List PlainRecord). All (λ r. All Fits r.arguments) rs) c.deref.ensures.value c.arguments_fit.ensures.fit);
    }

pub invariant_of-self : goal.invariant_of-self
invariant_of-self g c =
    let s = c.self.inside in
    let keeps = c.self.invariant.0 in
    let now = c.keep.new.records in
    let same = unchanged_if_refused c.keep.result s.records now c.keep.ensures.same in
    let indexed = stay_indexed c.keep.result s.checked.revisions s.tables.tables s.records now c.keep.ensures.indexed c.keep.ensures.same c.self.invariant.1 in
    let is : IsChecked s.checked = record {
      clean = c.clean.ensures.clean;
      linked = c.linked.ensures.codes;
      kinds_are = c.linked.ensures.kinds;
      initials_are = c.linked.ensures.initials;
      main_is = c.linked.ensures.main;
      each = c.revised.ensures.each;
      below = c.revised.ensures.below;
    } in
    let new = subst (λ (x : PlainSession). AreNewFor x.checked x.tables c.args.made.items) (sym c.self.view_is) c.requires.new in (
      record {
        kept = settled_keeps s.checked is s.tables c.keep.result s.records.records c.args.made.items now.records c.keep.ensures.named same keeps.kept new;
        values = settled_values c.keep.result s.checked.kinds s.records.records c.args.made.items now.records c.keep.ensures.values same keeps.values
            (new_have_values s.checked is s.tables c.fitting.ensures.numbers c.cells_fit.ensures.fit c.args.made.items new
            (subst (λ (rs : List PlainRecord). All (λ r. All Fits r.arguments) rs) c.deref.ensures.value c.arguments_fit.ensures.fit));
        in_step = indexed.in_step;
        columns = keeps.columns;
        kinds = subst (λ (x : PlainSession). All (λ k. k ≡ x.checked.kinds) c.args.pool.kits) (sym c.self.view_is) c.requires.kinds;
      },
      indexed,
    )
