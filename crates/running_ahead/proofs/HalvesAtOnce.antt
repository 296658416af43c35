-- A half that is done in one go, in whatever strand.
use Rattle.std.proofs.Common.{◌≡◌, ◌∙◌, ℕ, suc, ◌<◌, ◌≤◌, pos, Bool, true, false, List, [], refl, sym, ap, subst}
use Rattle.positions.specs.declared.work.Loop.{Loop}
use Rattle.positions.specs.declared.work.Share.{Share}
use Rattle.positions.specs.declared.work.Work.{Work}
use Rattle.positions.specs.declared.work.Work.TheVariants.{Halves, Turns}
use Rattle.positions.specs.declared.phase.Phase.{Phase}
use Rattle.positions.specs.declared.phase.Phase.TheVariants.{Running, Leaving}
use Rattle.positions.specs.Setting.{Setting}
use Rattle.positions.specs.Activations.{PlainActivation, at}
use Rattle.positions.specs.Layers.{PlainLayer}
use Rattle.positions.specs.Strands.{PlainStrand}
use Rattle.activations.specs.Turned.{turned_by}
use Rattle.own_statements.specs.Paths.{stacked, topped}
use Rattle.answered_loops.specs.Answered.{is_by_turns, halved_to, ended_by, ended}
use Rattle.running_ahead.specs.Ahead.{IsAhead}
use Rattle.running_ahead.specs.Chains.{AreTurns, IsWithin, reach, IsClear, halves_now, under, Reaches, half_phase, HalfTo}
use Rattle.running_ahead.proofs.ChainedHalves.{grain_of, all_over}
use Rattle.running_ahead.proofs.Stacked.{stopped_before, stopped_within}

module _ (setting : Setting) (l : Loop) (k : ℕ) (h : Share) (a : PlainActivation) (there : a.work ≡ Halves l k h) (u : PlainLayer) (path : List ℕ) (below : List PlainActivation) (r g : ℕ) (few : r ≤ 8) where
  begins : (s : PlainStrand) → halves_now l k h a u s ≡ topped Running a u s
  begins s = ap (λ (w : Work). topped Running (at w a) u s) (sym there)

  -- all iterations are over
  pub half_whole : (b : PlainActivation) (v : PlainLayer) → g ≡ grain_of setting l a → h.count ≤ reach r g → is_by_turns setting.codes a l k h.count ≡ false → AreTurns setting l a.procedure a.slots a.left h.first u h.count v → b ≡ halved_to a
      → HalfTo setting true a u path below b v path below
  half_whole b v grain fits halved turns is s clear e f =
      let reached : h.count ≤ reach r (grain_of setting l a) = subst (λ (x : ℕ). h.count ≤ reach r x) grain fits in
      let top : ended setting.codes l k h a ≡ b = ap (λ c. ended_by c l h a) halved ∙ sym is in
      let over : IsAhead setting (halves_now l k h a u s) (topped (Leaving (pos 0)) (ended setting.codes l k h a) v s) = all_over setting l r k h a u v s clear reached turns in
      subst (λ (xs : List ℕ). IsAhead setting (topped Running a u s) (topped (Leaving (pos 0)) b v (under xs below s))) e
      (subst (λ (xs : List PlainActivation). IsAhead setting (topped Running a u s) (topped (Leaving (pos 0)) b v (under s.path xs s))) f
      (subst (λ (z : PlainStrand). IsAhead setting z (topped (Leaving (pos 0)) b v s)) (begins s)
      (subst (λ (x : PlainActivation). IsAhead setting (halves_now l k h a u s) (topped (Leaving (pos 0)) x v s)) top over)))

  module _ (new : List ℕ) (now : List PlainActivation) (n j : ℕ) (part : Share) (b : PlainActivation) (m : ℕ) (some : m < part.count) (procedure : b.procedure ≡ a.procedure) (grain : g ≡ grain_of setting l a) (one : part.count ≤ g) where
    by_one : part.count ≤ grain_of setting l b
    by_one = subst (λ (p : ℕ). part.count ≤ (grain_of setting l (record a { procedure = p }))) (sym procedure) (subst (λ (x : ℕ). part.count ≤ x) grain one)

    -- the next one isn't called
    pub half_before : (c : PlainActivation) (v : PlainLayer) → ((s : PlainStrand) → IsClear s → s.path ≡ path → s.below ≡ below → Reaches setting l 0 s k h a u v new now n j part b m)
        → c ≡ turned_by m l part (at (Turns l part) b) → HalfTo setting false a u path below c v new now
    half_before c v reaches is s clear e f =
        subst (λ (z : PlainStrand). IsAhead setting z (topped Running c v (under new now s))) (begins s)
        (subst (λ (x : PlainActivation). IsAhead setting (halves_now l k h a u s) (topped Running x v (under new now s))) (sym is)
        (stopped_before setting l s k h a u v new now n j part b m (reaches s clear e f) by_one some))

    -- the next one stands above the part
    pub half_within : (c : PlainActivation) (o : ℕ) (xs : List PlainActivation) (w : PlainLayer) (top : PlainActivation) (far : List ℕ) (deep : List PlainActivation) → (inside : IsWithin setting l a.procedure a.slots a.left h.first n o u xs w)
        → ((s : PlainStrand) → IsClear s → s.path ≡ path → s.below ≡ below → Reaches setting l 0 s k h a u inside.before new now n j part b m)
        → c ≡ turned_by (suc m) l part (at (Turns l part) b)
        → ((s : PlainStrand) → s.path ≡ new → s.below ≡ now → stacked (suc o) c xs w s ≡ topped Running top w (under far deep s)) → HalfTo setting false a u path below top w far deep
    half_within c o xs w top far deep inside reaches is ends s clear e f =
        let x = under new now s in
        subst (λ (z : PlainStrand). IsAhead setting z (topped Running top w (under far deep s))) (begins s)
        (subst (λ (z : PlainStrand). IsAhead setting (halves_now l k h a u s) z) (ends x refl refl)
        (subst (λ (y : PlainActivation). IsAhead setting (halves_now l k h a u s) (stacked (suc o) y xs w x)) (sym is)
        (stopped_within setting l s k h a u new now n j part b m o xs w inside (reaches s clear e f) by_one some)))

-- of a strand as it stands
module _ (setting : Setting) (s z : PlainStrand) (view : s ≡ z) (running : z.phase ≡ Running) (clear : IsClear z) (a : PlainActivation) (same : a ≡ s.top) (path : List ℕ) (below : List PlainActivation) (same_path : s.path ≡ path) (same_below : s.below ≡ below)
    (b : PlainActivation) (v : PlainLayer) (new : List ℕ) (now : List PlainActivation) where
  there_now : (over : Bool) → HalfTo setting over a s.layer path below b v new now → IsAhead setting z (topped (half_phase over) b v (under new now s))
  there_now over half =
      let phase : s.phase ≡ Running = ap (λ (x : PlainStrand). x.phase) view ∙ running in
      let begins : topped Running s.top s.layer s ≡ s = ap (λ (f : Phase). topped f s.top s.layer s) (sym phase) in
      let t = topped (half_phase over) b v (under new now s) in
      subst (λ (x : PlainStrand). IsAhead setting x t) (begins ∙ view)
      (subst (λ (x : PlainActivation). IsAhead setting (topped Running x s.layer s) t) same (half s (subst (λ (x : PlainStrand). IsClear x) (sym view) clear) same_path same_below))

  -- it leaves
  pub half_leaves : HalfTo setting true a s.layer path below b v new now → IsAhead setting z (topped (Leaving (pos 0)) b v (under new now s))
  half_leaves half = there_now true half

  -- one of its parts goes on
  pub half_goes : HalfTo setting false a s.layer path below b v new now → IsAhead setting z (topped s.phase b v (under new now s))
  half_goes half =
      subst (λ (f : Phase). IsAhead setting z (topped f b v (under new now s))) (sym (ap (λ (x : PlainStrand). x.phase) view ∙ running)) (there_now false half)
