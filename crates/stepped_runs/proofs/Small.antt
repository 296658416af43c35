-- A small step, a push and a step into a child as a call, in runs of numbers and in those of the definitions.
use Rattle.std.proofs.Common.{◌≡◌, ℕ, nat_lt, Bool, ◌&&◌, true, List, [], ◌∷◌, Option, Some, Err, refl, sym, ◌∙◌, ap, subst}
use Rattle.meaning.specs.SmallStep.{Phase as NamedPhase, spawning, Pause, Step, moved, taken, paused as paused_step}
use Rattle.meaning.specs.LayeredStrand.{advanced}
use Rattle.meaning.specs.Tallies.{tallied}
use Rattle.meaning.specs.Schedules.{Piece}
use Rattle.meaning.specs.Schedules as schedules
use Rattle.trail_theory.specs.OwnLayers.{is_top_by_length}
use Rattle.run_theory.specs.UnflaggedRuns.{worked_with}
use Rattle.positions.specs.Setting.{Setting}
use Rattle.positions.specs.declared.phase.Phase.{Phase}
use Rattle.positions.specs.declared.phase.Phase.TheVariants as phase
use Rattle.positions.specs.declared.phase.Paused.{Paused}
use Rattle.positions.specs.declared.phase.Paused.TheVariants as paused
use Rattle.positions.specs.Activations.{PlainActivation}
use Rattle.positions.specs.Strands.{PlainStrand, PlainTask, IsLayeredAt, IsLayered}
use Rattle.positions.specs.Nesting.{NestAt}
use Rattle.positions.specs.Advance as positions
use Rattle.positions.specs.Advance.{pause_of, kits_then}
use Rattle.positions.specs.Stands.{StandsAt, StandsFor}
use Rattle.positions.specs.Simulation.{named_pause, IsTaken, IsPauseBy, small_step, kits_by}
use Rattle.position_theory.proofs.Stepping.{small_step_is}
use Rattle.position_theory.proofs.Kits.{kits_follow}
use Rattle.position_theory.proofs.Layered.{layers_kept}
use Rattle.position_theory.proofs.Nested.{nests_kept}
use Rattle.position_theory.proofs.Working.{working_is}
use Rattle.position_theory.proofs.Pauses.{pause_is}
use Rattle.position_theory.proofs.Moves.{inlined_is, detached_is}
use Rattle.numbered_runs.specs.declared.refusal.Refusal.TheVariants.{NotThere}
use Rattle.stepped_runs.specs.Pieces.{PlainPiece, is_held_by, worked_to, pushed_over, pushed_at, pushed, inlined_at, inlined, worked_at, worked}
use Rattle.stepped_runs.specs.Simulation.{IsPrepared}
use Rattle.stepped_runs.specs.Stands.{StandsForPiece}
use Rattle.stepped_runs.proofs.Agreeing.{held_any, Agrees}
use Rattle.stepped_runs.proofs.Made.{MakesNow}

module _ (setting : Setting) where
  module _ (kits kits' : ℕ) (same : kits' ≡ kits) (p : PlainPiece) (x : Piece) (w : ℕ) (held : is_held_by w p ≡ true) (h : StandsForPiece setting p x) where
    -- ---- a small step

    abbrev worked_as : Step → Option schedules.Change
    worked_as st = schedules.worked_by setting.program setting.tables setting.memory kits' x st

    steps_to : (s : PlainStrand) (st : Step) → IsTaken st → StandsFor setting s (advanced setting.program.tree x.strand st) (tallied setting.program x.strand.layers st x.tally) → IsLayered s → NestAt setting.codes s.phase s
        → kits_by st kits ≡ kits_then p.strand.lower s.lower kits → Agrees setting (worked_to s kits p) (worked_as st)
    steps_to s (moved l es fr ph u) k stands layered nests after = record {
      pieces = record { strand = stands; layered = layered; nests = nests; tasks = h.tasks; state = h.state; laid = held_any w p.state _ s held };
      kits = ap (schedules.kits_after l) same ∙ after;
      noted = refl;
    }
    steps_to s (taken es r fr ph u) k stands layered nests after = record {
      pieces = record { strand = stands; layered = layered; nests = nests; tasks = h.tasks; state = h.state; laid = held_any w p.state _ s held };
      kits = same ∙ after;
      noted = refl;
    }
    steps_to s (paused_step e) k stands layered nests after = absurd k

    module _ (prepared : IsPrepared setting) (made : MakesNow setting x) where
      abbrev step_with : Bool → Step
      step_with kit = small_step setting kit x.strand x.tally

      refused : (kit : Bool) (e : Pause) → IsPauseBy setting (Some e) kit x.strand x.tally → Agrees setting (Err NotThere) (worked_as (step_with kit))
      refused kit e i = subst (λ st. Agrees setting (Err NotThere) (worked_as st)) (sym i) tt

      paused_there : (kit : Bool) (c : Paused) → pause_of setting.codes p.strand ≡ c → IsPauseBy setting (named_pause c) kit x.strand x.tally
      paused_there kit c e = subst (λ c. IsPauseBy setting (named_pause c) kit x.strand x.tally) e (pause_is setting p.strand kit x.strand x.tally h.strand)

      worked_where : (c : Paused) → pause_of setting.codes p.strand ≡ c → Agrees setting (worked_at setting c kits p) (worked_as (step_with (nat_lt 0 kits)))
      worked_where paused.Working e =
          let kit = nat_lt 0 kits in
          steps_to (positions.advanced setting kit p.strand) (step_with kit) (working_is setting p.strand e kit x.strand x.tally h.strand)
          (small_step_is setting prepared.tables prepared.linked prepared.records kit p.strand x.strand x.tally h.strand h.layered (made kit))
          (layers_kept setting kit p.strand h.layered) (nests_kept setting kit p.strand h.nests)
          (kits_follow setting prepared.tables prepared.linked prepared.records kit p.strand x.strand x.tally kits h.strand h.layered)
      worked_where paused.AtSpawn e = refused _ _ (paused_there (nat_lt 0 kits) paused.AtSpawn e)
      worked_where paused.AtSync e = refused _ _ (paused_there (nat_lt 0 kits) paused.AtSync e)
      worked_where paused.Returned e = refused _ _ (paused_there (nat_lt 0 kits) paused.Returned e)
      worked_where paused.Finished e = refused _ _ (paused_there (nat_lt 0 kits) paused.Finished e)
      worked_where paused.Faulted e = refused _ _ (paused_there (nat_lt 0 kits) paused.Faulted e)

      -- the run makes records, so the definitions ask for a kit alone
      same_kit : setting.memory.recording && nat_lt 0 kits' ≡ nat_lt 0 kits
      same_kit = ap (λ b. b && nat_lt 0 kits') prepared.records.recording ∙ ap (nat_lt 0) same

      pub worked_agrees : Agrees setting (worked setting kits p) (worked_with setting.program setting.tables setting.memory is_top_by_length kits' x)
      worked_agrees =
          subst (λ kit. Agrees setting (worked setting kits p) (worked_as (step_with kit))) (sym same_kit)
          (worked_where (pause_of setting.codes p.strand) refl)

    -- ---- at a spawn

    abbrev Pushes : NamedPhase → Phase → Type 0
    Pushes nph ph = Agrees setting (pushed_at ph kits p) (schedules.pushed_at setting.program setting.tables setting.memory kits' x nph)

    pushed_where : (ph : Phase) (below : List PlainActivation) → p.strand.below ≡ below → IsLayeredAt ph p.strand → NestAt setting.codes ph p.strand → StandsAt setting ph below p.strand x.strand → Pushes x.strand.phase ph
    pushed_where phase.AtSpawn [] e l n i = absurd i
    pushed_where phase.AtSpawn (parent ∷ below) e l n i =
        let task : PlainTask = record { place = p.strand.path; top = parent; below = below } in
        let d = detached_is setting p.strand task refl e x.strand x.tally p.strand.top.left parent.into i.child i.todo h.strand i.phase in
        subst (λ nph. Pushes nph phase.AtSpawn) (sym i.phase)
        (subst (λ bs. Agrees setting (pushed_over bs kits p) (schedules.pushed_at setting.program setting.tables setting.memory kits' x (spawning p.strand.top.left parent.into i.child i.todo))) (sym e)
        (record {
          pieces = record { strand = d.0; layered = l; nests = n; tasks = (d.1, h.tasks); state = h.state; laid = held_any w p.state _ _ held };
          kits = same;
          noted = refl;
        }))
    pushed_where phase.Entering below e l n i = subst (λ nph. Pushes nph phase.Entering) (sym i.phase) tt
    pushed_where phase.Running below e l n i = subst (λ nph. Pushes nph phase.Running) (sym i.phase) tt
    pushed_where (phase.Returning v) below e l n i = subst (λ nph. Pushes nph (phase.Returning v)) (sym i.phase) tt
    pushed_where (phase.Leaving v) below e l n i = subst (λ nph. Pushes nph (phase.Leaving v)) (sym i.phase) tt
    pushed_where (phase.Broken f) below e l n i = subst (λ nph. Pushes nph (phase.Broken f)) (sym i) tt

    pub pushed_agrees : Agrees setting (pushed kits p) (schedules.pushed setting.program setting.tables setting.memory kits' x)
    pushed_agrees = pushed_where p.strand.phase p.strand.below refl h.layered h.nests h.strand.now

    abbrev Inlines : NamedPhase → Phase → Type 0
    Inlines nph ph = Agrees setting (inlined_at ph kits p) (schedules.inlined_at setting.program setting.tables setting.memory kits' x nph)

    inlined_where : (ph : Phase) (below : List PlainActivation) → IsLayeredAt ph p.strand → NestAt setting.codes ph p.strand → StandsAt setting ph below p.strand x.strand → Inlines x.strand.phase ph
    inlined_where phase.AtSpawn [] l n i = absurd i
    inlined_where phase.AtSpawn (parent ∷ below) l n i =
        subst (λ nph. Inlines nph phase.AtSpawn) (sym i.phase)
        (record {
          pieces = record { strand = inlined_is setting p.strand x.strand x.tally p.strand.top.left parent.into i.child i.todo h.strand i.phase; layered = l; nests = n; tasks = h.tasks; state = h.state; laid = held_any w p.state _ _ held };
          kits = same;
          noted = refl;
        })
    inlined_where phase.Entering below l n i = subst (λ nph. Inlines nph phase.Entering) (sym i.phase) tt
    inlined_where phase.Running below l n i = subst (λ nph. Inlines nph phase.Running) (sym i.phase) tt
    inlined_where (phase.Returning v) below l n i = subst (λ nph. Inlines nph (phase.Returning v)) (sym i.phase) tt
    inlined_where (phase.Leaving v) below l n i = subst (λ nph. Inlines nph (phase.Leaving v)) (sym i.phase) tt
    inlined_where (phase.Broken f) below l n i = subst (λ nph. Inlines nph (phase.Broken f)) (sym i) tt

    pub inlined_agrees : Agrees setting (inlined kits p) (schedules.inlined_of setting.program setting.tables setting.memory kits' x)
    inlined_agrees = inlined_where p.strand.phase p.strand.below h.layered h.nests h.strand.now
