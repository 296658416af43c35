-- A loop's instance that is halved, or goes over to its second half.
use Rattle.std.proofs.Common.{◌≡◌, ℕ, ◌-◌, ◌==◌, Bool, true, false, ◌||◌, if◌then◌else◌, refl, sym, ap, ◌∙◌, subst}
use Rattle.std.specs.Prelude.{nat_le}
use Rattle.positions.specs.declared.work.Work.TheVariants.{Halves, Second, Turns}
use Rattle.positions.specs.declared.work.Loop.{Loop}
use Rattle.positions.specs.declared.work.Share.{Share}
use Rattle.positions.specs.Code.{loop_at}
use Rattle.positions.specs.declared.phase.Phase.TheVariants.{Running}
use Rattle.positions.specs.Setting.{Setting}
use Rattle.positions.specs.Activations.{at}
use Rattle.positions.specs.Strands.{PlainStrand}
use Rattle.positions.specs.Advance.{with_top, in_phase, left_of, split, halved, second_half, worked, advanced_at}
use Rattle.positions.specs.Moves.{inlined}
use Rattle.answered_loops.specs.Ways.{IsNext, here, on}
use Rattle.running_ahead.specs.Ahead.{IsAhead}
use Rattle.running_ahead.proofs.Paths.{ahead_join, inlined_ahead, half_ahead}

-- one by one, or halved again
abbrev halving : Bool → Loop → ℕ → Share → PlainStrand → PlainStrand
halving turns l k h s = (if turns then with_top (at (Turns l h) s.top) s else split l (k - 1) h s)

halving_lower : (turns : Bool) (l : Loop) (k : ℕ) (h : Share) (s : PlainStrand) → (halving turns l k h s).lower ≡ s.lower
halving_lower true l k h s = refl
halving_lower false l k h s = refl

halving_kinds : (turns : Bool) (l : Loop) (k : ℕ) (h : Share) (s : PlainStrand) → (halving turns l k h s).layer.kinds ≡ s.layer.kinds
halving_kinds true l k h s = refl
halving_kinds false l k h s = refl

halving_tally : (turns : Bool) (l : Loop) (k : ℕ) (h : Share) (s : PlainStrand) → (halving turns l k h s).tally ≡ s.tally
halving_tally true l k h s = refl
halving_tally false l k h s = refl

module _ (setting : Setting) where
  pub halves_ahead : (l : Loop) (k : ℕ) (h : Share) (s t : PlainStrand) → s.phase ≡ Running → s.top.work ≡ Halves l k h → t ≡ halved setting.codes l k h s → IsAhead setting s t
  halves_ahead l k h s t running there is =
      let turns : Bool = k == 0 || nat_le h.count (loop_at setting.codes s.top.procedure l).grain in
      let next : PlainStrand = halved setting.codes l k h s in
      let step : IsNext setting s next = λ kit. sym (ap (λ ph. advanced_at setting kit ph s) running ∙ ap (λ w. worked setting kit w s) there) in
      subst (λ (u : PlainStrand). IsAhead setting s u) (sym is) (record { way = on s next here step; lower = halving_lower turns l k h s; kinds = halving_kinds turns l k h s; tally = halving_tally turns l k h s })

  -- they are done one by one
  pub turns_ahead : (l : Loop) (k : ℕ) (h : Share) (s t : PlainStrand) → s.phase ≡ Running → s.top.work ≡ Halves l k h
      → (k == 0 || nat_le h.count (loop_at setting.codes s.top.procedure l).grain) ≡ true → t ≡ with_top (at (Turns l h) s.top) s → IsAhead setting s t
  turns_ahead l k h s t running there few is =
      halves_ahead l k h s t running there (is ∙ sym (ap (λ b. halving b l k h s) few))

  -- the first half is spawned, and called
  pub first_ahead : (l : Loop) (k : ℕ) (h : Share) (s t : PlainStrand) → s.phase ≡ Running → s.top.work ≡ Halves l k h
      → (k == 0 || nat_le h.count (loop_at setting.codes s.top.procedure l).grain) ≡ false → t ≡ in_phase Running (split l (k - 1) h s) → IsAhead setting s t
  first_ahead l k h s t running there more is =
      let x = split l (k - 1) h s in
      let y = inlined x in
      let spawned : IsAhead setting s x = halves_ahead l k h s x running there (sym (ap (λ b. halving b l k h s) more)) in
      ahead_join setting s x t spawned (ahead_join setting x y t (inlined_ahead setting x y refl refl) (half_ahead setting l (k - 1) (left_of h) y t refl refl is))

  pub second_ahead : (l : Loop) (k : ℕ) (h : Share) (s t : PlainStrand) → s.phase ≡ Running → s.top.work ≡ Second l k h → t ≡ second_half l k h s → IsAhead setting s t
  second_ahead l k h s t running there is =
      let step : IsNext setting s (second_half l k h s) = λ kit. sym (ap (λ ph. advanced_at setting kit ph s) running ∙ ap (λ w. worked setting kit w s) there) in
      subst (λ (u : PlainStrand). IsAhead setting s u) (sym is) (record { way = on s (second_half l k h s) here step; lower = refl; kinds = refl; tally = refl })
