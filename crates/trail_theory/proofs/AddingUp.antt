-- Tallies add up: each execution has a new record, an open layer, or is counted as unrecorded.
use Rattle.std.proofs.Common.{suc, ◌+◌, List, [], ◌∷◌, ◌++◌, length, length-append, ◌≡◌, refl, ap, arith}
use Rattle.meaning.specs.Records.{Revised, Key}
use Rattle.meaning.specs.Layers.{Notes}
use Rattle.meaning.specs.SmallStep.{Frame, Phase, entering, running, spawning, returning, leaving, broken, noting, opening_one, closing_one, Step, moved, taken, paused}
use Rattle.meaning.specs.Tallies.{Opened, Tally, executions, opened_all, passed_all, record_by, closed_by, tallied, tallies_joined}
use Rattle.trail_theory.specs.AddingUp.{AddsUp, TalliesAddUp}

passed_adds : (ks : List Key) (t : Tally) → AddsUp t → AddsUp (passed_all ks t)
passed_adds [] t h = h
passed_adds (k ∷ ks) t h = passed_adds ks (record { opened = t.opened; made = t.made; executed = suc t.executed; reused = t.reused; unrecorded = suc t.unrecorded }) (omega (arith, h))

opened_adds : (fr : Frame) (ks : List Key) (t : Tally) → AddsUp t → AddsUp (opened_all fr ks t)
opened_adds fr [] t h = h
opened_adds fr (k ∷ ks) t h =
    let o : Opened = record { of = k.0; args = k.1; left = fr.left; instance = fr.instance } in
    let l : length (o ∷ t.opened) ≡ suc (length t.opened) = refl in
    opened_adds fr ks (record { opened = o ∷ t.opened; made = t.made; executed = suc t.executed; reused = t.reused; unrecorded = t.unrecorded }) (omega (arith, h, l))

joined_adds : (t u : Tally) → u.opened ≡ [] → AddsUp t → AddsUp u → AddsUp (tallies_joined t u)
joined_adds t u e h k =
    let l : length (t.made ++ u.made) ≡ length t.made + length u.made = length-append t.made u.made in
    let o : length u.opened ≡ 0 = ap length e in
    omega (arith, h, k, l, o)

ends_adds : (t : Tally) → AddsUp t → t.opened ≡ [] → t.unrecorded ≡ 0 → t.executed ≡ length t.made
ends_adds t h e u = let o : length t.opened ≡ 0 = ap length e in omega (arith, h, o, u)

module _ (program : Revised) where
  closed_adds : (os : List Opened) (ls : List Notes) (ph : Phase) (t : Tally) → t.opened ≡ os → AddsUp t → AddsUp (closed_by program os ls ph t)
  closed_adds [] ls ph t e h = h
  closed_adds (o ∷ os) [] ph t e h = h
  closed_adds (o ∷ os) (l ∷ ls) (leaving v) t e h =
      let m : length (t.made ++ record_by program o l v ∷ []) ≡ length t.made + 1 = length-append t.made (record_by program o l v ∷ []) in
      let n : length t.opened ≡ suc (length os) = ap length e in
      omega (arith, h, m, n)
  closed_adds (o ∷ os) (l ∷ ls) (entering child) t e h = h
  closed_adds (o ∷ os) (l ∷ ls) (running todo) t e h = h
  closed_adds (o ∷ os) (l ∷ ls) (spawning d x child todo) t e h = h
  closed_adds (o ∷ os) (l ∷ ls) (returning v) t e h = h
  closed_adds (o ∷ os) (l ∷ ls) (broken k) t e h = h

  step_adds : (ls : List Notes) (step : Step) (t : Tally) → AddsUp t → AddsUp (tallied program ls step t)
  step_adds ls (moved noting evs fr ph under) t h = passed_adds (executions evs) t h
  step_adds ls (moved opening_one evs fr ph under) t h = opened_adds fr (executions evs) t h
  step_adds ls (moved closing_one evs fr ph under) t h = closed_adds t.opened _ ph t refl h
  step_adds ls (taken evs k fr ph under) t h = h
  step_adds ls (paused e) t h = h

  pub add_up : TalliesAddUp program
  add_up = record { begins = refl; advances = step_adds; joins = joined_adds; ends = ends_adds }
