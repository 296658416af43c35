use Rattle.std.proofs.Common.{All, subst}
use Rattle.meaning.specs.Schedules.{recording_from}
use Rattle.monoid_laws.specs.Kinds.{IsMonoid}
use Rattle.trail_theory.specs.OpenLayers.{IsNumbered}
use Rattle.strand_theory.specs.Ready.{IsReady}
use Rattle.positions.specs.Setting.{Setting}
use Rattle.right_strands.specs.Remembering.{Remembers}
use Rattle.right_strands.proofs.run.Scene.new.Goals as goal

pub invariant_of-result : goal.invariant_of-result
invariant_of-result g c = record {
  same = c.requires.same;
  names = c.requires.names;
  sound = subst Remembers c.requires.same c.requires.sound;
  values = c.requires.values;
  in_step = c.requires.in_step;
  ready = subst (λ (j : Setting). (k : Remembers j) → IsReady j.program j.tables (recording_from k.kept)) c.requires.same (λ k. c.are_ready.ensures.ready k.kept k.sound);
  numbered = subst (λ (j : Setting). IsNumbered j.program) c.requires.same c.are_ready.ensures.numbered;
  monoids = subst (λ (j : Setting). All IsMonoid j.kinds) c.requires.same c.are_ready.ensures.monoids;
}
