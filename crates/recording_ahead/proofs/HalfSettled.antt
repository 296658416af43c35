-- A half whose iterations are recorded in one go, in a strand as it stands.
use Rattle.std.proofs.Common.{◌≡◌, ◌∙◌, ℕ, ℤ, Bool, false, List, sym, ap, subst}
use Rattle.positions.specs.declared.work.Loop.{Loop}
use Rattle.positions.specs.declared.work.Share.{Share}
use Rattle.positions.specs.declared.phase.Phase.{Phase}
use Rattle.positions.specs.declared.phase.Phase.TheVariants.{Running}
use Rattle.positions.specs.Setting.{Setting}
use Rattle.positions.specs.Activations.{PlainActivation}
use Rattle.positions.specs.Code.{loop_at}
use Rattle.positions.specs.Strands.{PlainStrand}
use Rattle.answered_loops.specs.Answered.{is_by_turns}
use Rattle.running_ahead.specs.Chains.{IsClear, under, half_phase}
use Rattle.running_ahead.specs.Stepped.{IsStepped}
use Rattle.running_ahead.specs.Leaves.{Gathered, gathered_of, gathered, AreRecorded, IsRecordedAhead}
use Rattle.running_ahead.specs.RecordedHalves.{HalfRecords}

-- a strand before its iterations, and behind them, as it is seen and as it lies there; and what becomes of the instances of its half
module _ (setting : Setting) (l : Loop) (k : ℕ) (h : Share) (g n : ℕ) (s t i : PlainStrand) (view : i ≡ t) (others : t ≡ record s { layer = t.layer; tally = t.tally }) (path new : List ℕ) (below now : List PlainActivation)
    (same_path : i.path ≡ path) (same_below : i.below ≡ below) (over : Bool) (b : PlainActivation) (xs ys : List ℤ) (arguments : ys ≡ xs)
    (half : (x y : Gathered) → g ≡ (loop_at setting.codes i.top.procedure l).grain → is_by_turns setting.codes i.top l k h.count ≡ false → AreRecorded setting l i.top.procedure i.top.slots i.top.left h.first x n y
    → HalfRecords setting over i.top x path below b y new now) where
  pub half_settled : s.phase ≡ Running → IsClear s → g ≡ (loop_at setting.codes s.top.procedure l).grain → is_by_turns setting.codes s.top l k h.count ≡ false
      → AreRecorded setting l s.top.procedure s.top.slots s.top.left h.first (gathered_of s s.arguments) n (gathered_of t xs)
      → IsRecordedAhead setting s (record i { path = new; top = b; below = now; phase = half_phase over; arguments = ys })
  half_settled running clear grain halved those =
      let x = gathered_of s s.arguments in
      let y = gathered_of t xs in
      let same : i ≡ record s { layer = t.layer; tally = t.tally } = view ∙ others in
      let top : s.top ≡ i.top = sym (ap (λ (z : PlainStrand). z.top) same) in
      let grain_here : g ≡ (loop_at setting.codes i.top.procedure l).grain = subst (λ (a : PlainActivation). g ≡ (loop_at setting.codes a.procedure l).grain) top grain in
      let halved_here : is_by_turns setting.codes i.top l k h.count ≡ false = subst (λ (a : PlainActivation). is_by_turns setting.codes a l k h.count ≡ false) top halved in
      let those_here : AreRecorded setting l i.top.procedure i.top.slots i.top.left h.first x n y = subst (λ (a : PlainActivation). AreRecorded setting l a.procedure a.slots a.left h.first x n y) top those in
      let end = gathered (half_phase over) b y (under new now s) in
      let steps : IsStepped setting (gathered Running i.top x s) end =
      half x y grain_here halved_here those_here s clear (sym (ap (λ (z : PlainStrand). z.path) same) ∙ same_path) (sym (ap (λ (z : PlainStrand). z.below) same) ∙ same_below) in
      let begins : gathered Running i.top x s ≡ s = ap (λ (a : PlainActivation). gathered Running a x s) (sym top) ∙ ap (λ (f : Phase). record s { phase = f }) (sym running) in
      let ends : end ≡ record i { path = new; top = b; below = now; phase = half_phase over; arguments = ys } =
      ap (λ (z : PlainStrand). record z { path = new; top = b; below = now; phase = half_phase over; arguments = xs }) (sym same)
      ∙ ap (λ (zs : List ℤ). record i { path = new; top = b; below = now; phase = half_phase over; arguments = zs }) (sym arguments) in
      record {
        steps = subst (λ (z : PlainStrand). IsStepped setting s z) ends (subst (λ (z : PlainStrand). IsStepped setting z end) begins steps);
        lower = ap (λ (z : PlainStrand). z.lower) same;
      }
