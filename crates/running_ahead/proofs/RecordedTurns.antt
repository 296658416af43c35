-- Iterations that are recorded one after another: parted, and as those of one instance.
use Rattle.std.proofs.Common.{◌≡◌, ◌∙◌, ℕ, zero, suc, ◌+◌, ◌<◌, ◌≤◌, false, List, length, refl, sym, ap, subst, arith}
use Rattle.evaluation.specs.declared.slot.Slot.{Slot}
use Rattle.positions.specs.declared.work.Loop.{Loop}
use Rattle.positions.specs.declared.work.Share.{Share}
use Rattle.positions.specs.declared.work.Work.TheVariants.{Turns}
use Rattle.positions.specs.declared.phase.Phase.{Phase}
use Rattle.positions.specs.declared.phase.Phase.TheVariants.{Running}
use Rattle.positions.specs.Setting.{Setting}
use Rattle.positions.specs.Activations.{PlainActivation}
use Rattle.positions.specs.Layers.{PlainLayer}
use Rattle.positions.specs.Strands.{PlainStrand}
use Rattle.positions.specs.Tallies.{PlainOpened, PlainTally, is_own}
use Rattle.activations.specs.Turned.{behind, turned_by}
use Rattle.running_ahead.specs.Chains.{IsClear}
use Rattle.running_ahead.specs.Stepped.{IsStepped, here}
use Rattle.running_ahead.specs.Leaves.{Gathered, gathered_of, gathering, gathered, IsAmid, IsRecorded, AreRecorded, none, more, arguments_then, IsRecordedAhead, gathered_by}
use Rattle.running_ahead.proofs.Turned.{next_turn, turns_there, turns_left, turns_procedure, turns_slots, more_behind}
use Rattle.running_ahead.proofs.Stepping.{steps_join}
use Rattle.running_ahead.proofs.ChainedHalves.{clear_home}

-- so many first ones, and then the others
pub record AreRecordedAt (setting : Setting) (l : Loop) (p : ℕ) (slots : List Slot) (left : ℕ) (i : ℕ) (x : Gathered) (a b : ℕ) (y : Gathered) : Type 0 where
  pub between : Gathered
  pub first : AreRecorded setting l p slots left i x a between
  pub second : AreRecorded setting l p slots left (i + a) between b y

module _ (setting : Setting) (l : Loop) (p : ℕ) (slots : List Slot) (left : ℕ) (i : ℕ) (x : Gathered) where
  pub recorded_parted : (a b n : ℕ) (y : Gathered) → n ≡ a + b → AreRecorded setting l p slots left i x n y → AreRecordedAt setting l p slots left i x a b y
  recorded_parted a zero n y e those =
      let all : n ≡ a = omega (arith, e) in
      record { between = y; first = subst (λ m. AreRecorded setting l p slots left i x m y) all those; second = none }
  recorded_parted a (suc b) zero y e none = absurd (let wrong : ⊥ = omega (arith, e) in wrong)
  recorded_parted a (suc b) (suc n) z e (more m y w before same turn) =
      let fewer : n ≡ a + b = omega (arith, e) in
      let those = recorded_parted a b n y fewer before in
      let number : i + n ≡ (i + a) + b = omega (arith, fewer) in
      record { between = those.between; first = those.first; second = more b y z those.second same (subst (λ j. IsRecorded setting l p slots left j y z) number turn) }

  -- no layer is open that wasn't
  pub opened_same : (n : ℕ) (y : Gathered) → AreRecorded setting l p slots left i x n y → y.tally.opened ≡ x.tally.opened
  opened_same zero y none = refl
  opened_same (suc n) z (more m y w before same turn) = same ∙ opened_same n y before

  pub clear_then : (n : ℕ) (y : Gathered) → AreRecorded setting l p slots left i x n y → (s : PlainStrand) → IsClear (gathering x s) → IsClear (gathering y s)
  clear_then n y those s clear path long =
      ((clear path long).0, subst (λ (os : List PlainOpened). is_own os (length path) ≡ false) (sym (opened_same n y those)) (clear path long).1)

pub clear_amid : (x : Gathered) (s : PlainStrand) → IsClear (gathering x s) → IsAmid s
clear_amid x s clear n ns = (clear_home (gathering x s) clear).entry n ns

-- those of one instance
pub recorded_turns : (setting : Setting) (l : Loop) (h : Share) (a : PlainActivation) (x : Gathered) (n : ℕ) (y : Gathered) → AreRecorded setting l a.procedure a.slots a.left h.first x n y → a.work ≡ Turns l h → n ≤ h.count
    → (s : PlainStrand) → IsAmid s → IsStepped setting (gathered Running a x s) (gathered Running (turned_by n l h a) y s)
recorded_turns setting l h a x zero y none there fits s amid = here
recorded_turns setting l h a x (suc n) z (more m y w before same turn) there fits s amid =
    let less : n < h.count = omega (arith, fits) in
    let few : n ≤ h.count = omega (arith, fits) in
    let b = turned_by n l h a in
    steps_join setting (gathered Running a x s) (gathered Running b y s) (gathered Running (turned_by (suc n) l h a) z s) (recorded_turns setting l h a x n y before there few s amid)
    (subst (λ (c : PlainActivation). IsStepped setting (gathered Running b y s) (gathered Running c z s)) (next_turn n l h a)
    (turn b (behind n h) (turns_procedure n l h a) (turns_slots n l h a) (turns_left n l h a) (turns_there n l h a there) refl (more_behind n h less) s amid))

-- of a strand as it stands
pub turns_recorded : (setting : Setting) (l : Loop) (h : Share) (s t : PlainStrand) (n : ℕ) (u : PlainLayer) (v : PlainTally) → s.phase ≡ Running → s.top.work ≡ Turns l h → n ≤ h.count → IsAmid s
    → AreRecorded setting l s.top.procedure s.top.slots s.top.left h.first (gathered_of s s.arguments) n (gathered_by u v (arguments_then n l h s.arguments))
    → t ≡ record s { layer = u; top = turned_by n l h s.top; arguments = arguments_then n l h s.arguments; tally = v } → IsRecordedAhead setting s t
turns_recorded setting l h s t n u v running there fits amid those is =
    let x = gathered_of s s.arguments in
    let y = gathered_by u v (arguments_then n l h s.arguments) in
    let b = turned_by n l h s.top in
    let begins : gathered Running s.top x s ≡ s = ap (λ (f : Phase). record s { phase = f }) (sym running) in
    let ends : gathered Running b y s ≡ t = ap (λ (f : Phase). gathered f b y s) (sym running) ∙ sym is in
    record {
      steps = subst (λ (z : PlainStrand). IsStepped setting s z) ends
          (subst (λ (z : PlainStrand). IsStepped setting z (gathered Running b y s)) begins (recorded_turns setting l h s.top x n y those there fits s amid));
      lower = ap (λ (z : PlainStrand). z.lower) is;
    }
