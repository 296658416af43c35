-- Many steps of a right strand in one go, where spawned children may be made calls.
use Rattle.std.proofs.Common.{◌≡◌, Bool, true, false, List, refl, sym, ap, ◌∙◌, subst}
use Rattle.meaning.specs.Records.{Kept}
use Rattle.trail_theory.specs.OpenLayers.{IsNumbered}
use Rattle.strand_theory.specs.Ready.{IsReady}
use Rattle.linked_program.specs.Checked.{PlainChecked}
use Rattle.input_tables.specs.Edited.{Edited}
use Rattle.record_theory.specs.Record.{PlainRecord}
use Rattle.record_theory.specs.Named.{AreKept}
use Rattle.positions.specs.declared.start.Start.{Start}
use Rattle.positions.specs.Setting.{Setting, setting_with, HasItsTables}
use Rattle.positions.specs.Strands.{PlainStrand}
use Rattle.positions.specs.Moves as moves
use Rattle.positions.specs.Simulation.{IsInlined}
use Rattle.answered_loops.specs.Ways.{IsWayOf, here, on, as_call}
use Rattle.running_ahead.specs.Stepped.{AreStepsOf}
use Rattle.running_ahead.specs.Stepped as stepped
use Rattle.right_strands.specs.Picked.{IsSet}
use Rattle.right_strands.specs.Remembering.{Remembers, recalling}
use Rattle.right_strands.specs.Rightness.{IsRightBy, IsHeld}
use Rattle.right_strands.proofs.Moves.{inlined_right}
use Rattle.right_strands.proofs.Settings.{set_with, kept_with}
use Rattle.right_strands.proofs.Steps.{GoesOn, step_right}

pub on_way : (i : Setting) → IsReady i.program i.tables i.memory → IsNumbered i.program → (s t : PlainStrand) → IsWayOf i s t → IsRightBy i s → GoesOn i s t
on_way i ready numbered s t here h = record { right = h; begins = refl }
on_way i ready numbered s t (on u v p e steps) h =
    let before : GoesOn i s u = on_way i ready numbered s u p h in
    let after : GoesOn i u v = step_right i ready numbered false false u v (e false) (steps false).step before.right in
    record { right = after.right; begins = before.begins ∙ after.begins }
on_way i ready numbered s t (as_call u v p spawn e called) h =
    let before : GoesOn i s u = on_way i ready numbered s u p h in
    let after : IsRightBy i (moves.inlined u) = inlined_right i u spawn (subst (IsInlined i u) e called) before.right in
    record { right = subst (IsRightBy i) (sym e) after; begins = before.begins ∙ ap (λ (x : PlainStrand). x.start) (sym e) }

pub way_kept : (setting : Setting) (p : PlainChecked) (e : Edited) (r : List PlainRecord) → IsSet setting p e r → (s s' : PlainStrand) → ((kept : List Kept) → AreKept p kept r → HasItsTables (setting_with p e.tables kept r) → IsWayOf (setting_with p e.tables kept r) s s')
    → s'.layer.kinds ≡ s.layer.kinds → (start : Start) (failed : Bool) → IsHeld setting start failed s → IsHeld setting start failed s'
way_kept setting p e r set s s' steps kinds start failed h =
    let goes : (k : Remembers setting) → IsRightBy (recalling setting k) s → GoesOn (recalling setting k) s s' = λ k.
    on_way (recalling setting k) (set.ready k) set.numbered s s' (subst (λ (i : Setting). IsWayOf i s s') (set_with setting p e r set k) (steps k.kept (kept_with setting p e r set k) set.names)) in
    record { kinds = kinds ∙ h.kinds; right = λ n k. (goes k (h.right n k)).right; begins = λ n. h.begins n ∙ (goes set.sound (h.right n set.sound)).begins }

-- ---- many small steps where a kit is free, and where spawned children may be made calls

pub on_steps : (i : Setting) → IsReady i.program i.tables i.memory → IsNumbered i.program → (s t : PlainStrand) → AreStepsOf i s t → IsRightBy i s → GoesOn i s t
on_steps i ready numbered s t stepped.here h = record { right = h; begins = refl }
on_steps i ready numbered s t (stepped.on u v p e step) h =
    let before : GoesOn i s u = on_steps i ready numbered s u p h in
    let after : GoesOn i u v = step_right i ready numbered true true u v e step.step before.right in
    record { right = after.right; begins = before.begins ∙ after.begins }
on_steps i ready numbered s t (stepped.as_call u v p spawn e called) h =
    let before : GoesOn i s u = on_steps i ready numbered s u p h in
    let after : IsRightBy i (moves.inlined u) = inlined_right i u spawn (subst (IsInlined i u) e called) before.right in
    record { right = subst (IsRightBy i) (sym e) after; begins = before.begins ∙ ap (λ (x : PlainStrand). x.start) (sym e) }

pub steps_kept : (setting : Setting) (p : PlainChecked) (e : Edited) (r : List PlainRecord) → IsSet setting p e r → (s s' : PlainStrand) → ((kept : List Kept) → AreKept p kept r → HasItsTables (setting_with p e.tables kept r) → AreStepsOf (setting_with p e.tables kept r) s s')
    → s'.layer.kinds ≡ s.layer.kinds → (start : Start) (failed : Bool) → IsHeld setting start failed s → IsHeld setting start failed s'
steps_kept setting p e r set s s' steps kinds start failed h =
    let goes : (k : Remembers setting) → IsRightBy (recalling setting k) s → GoesOn (recalling setting k) s s' = λ k.
    on_steps (recalling setting k) (set.ready k) set.numbered s s' (subst (λ (i : Setting). AreStepsOf i s s') (set_with setting p e r set k) (steps k.kept (kept_with setting p e r set k) set.names)) in
    record { kinds = kinds ∙ h.kinds; right = λ n k. (goes k (h.right n k)).right; begins = λ n. h.begins n ∙ (goes set.sound (h.right n set.sound)).begins }
