-- What is left to do of a right strand that has the whole run: the elision's answer from scratch.
use Rattle.std.proofs.Common.{◌≡◌, ◌++◌, ℕ, ℤ, Ok, List, [], ◌∷◌, append-nil, inl, inr, refl, sym, ap, ◌∙◌, subst}
use Rattle.meaning.specs.Outcome.{Log, Fault, Place, Leaves}
use Rattle.meaning.specs.Statements.{identities}
use Rattle.meaning.specs.Elision.{Finished, from_scratch}
use Rattle.meaning.specs.SmallStep.{Slot, waits, root, Start, broken, Parent}
use Rattle.meaning.specs.Trail.{child_of}
use Rattle.meaning.specs.Layers.{blank}
use Rattle.meaning.specs.Rest.{Course, then_on, phase_left, parents_left, answered}
use Rattle.meaning.specs.RestOfRun.{with_hand_under, times_layers, piece_left, rest_of_run}
use Rattle.meaning.specs.Strands.{Held}
use Rattle.meaning.specs.Schedules.{Piece}
use Rattle.meaning.specs.Tallies.{Tally}
use Rattle.meaning.specs.LayeredStrand.{LayeredStrand}
use Rattle.trail_theory.specs.Order.{Every}
use Rattle.trail_theory.specs.Right.{EndsAfter, NoneWaitsUnder, RightAt}
use Rattle.trail_theory.proofs.Ends.{worth_of}
use Rattle.strand_theory.specs.Ready.{IsReady}
use Rattle.strand_theory.proofs.Broken.{right_broken, broken_from_scratch}
use Rattle.run_theory.proofs.Telling.{broken_or}
use Rattle.run_theory.proofs.Awaited.{SlotsWait, UnderWait}
use Rattle.run_theory.proofs.Serial.{Came}
use Rattle.run_theory.proofs.Overs.{T, finish, HasCome}
use Rattle.run_theory.proofs.Fronts.{fault_answer, layers_of, answered_fell}
use Rattle.run_theory.proofs.Hands.{under_filled, filled}
use Rattle.run_theory.proofs.Anchored.{At, Held as InHand, strand_at, bottom_is}
use Rattle.positions.specs.Setting.{Setting}
use Rattle.right_strands.specs.Rightness.{sight, lookup}
use Rattle.right_strands.specs.Staying.{HasAll, alone}
use Rattle.right_strands.proofs.Owned.{Own}

-- no name waits, so each that waits is known to have its value
slots_none : (P : Place → ℕ → Type 0) (n : Place) (env : List Slot) → Every (λ s. (j : ℕ) → s ≡ waits j → EndsAfter root (child_of n j) → ⊥) env → SlotsWait P n env
slots_none P n [] h = tt
slots_none P n (s ∷ env) h = (λ j e. absurd (h.0 j e tt), slots_none P n env h.1)

under_none : (P : Place → ℕ → Type 0) (t : List Parent) → NoneWaitsUnder root t → UnderWait P t
under_none P [] h = tt
under_none P (p ∷ t) h = (slots_none P p.frame.instance p.frame.env h.0, under_none P t h.1)

module _ (setting : Setting) (ready : IsReady setting.program setting.tables setting.memory) where
  abbrev All : Log
  All = T setting.program setting.tables setting.memory ready

  abbrev the_piece : LayeredStrand → Tally → Piece
  the_piece x t = record { strand = x; deque = []; state = Held 0; tally = t }

  abbrev left_over : LayeredStrand → Tally → Course ℤ
  left_over x t = piece_left setting.program.tree setting.tables (the_piece x t) [] (identities setting.program.tree)

  abbrev Reached : Course ℤ → Place → Type 0
  Reached c n = At setting.program setting.tables setting.memory ready [] [] c n

  abbrev RightFrom : Start → LayeredStrand → Type 0
  RightFrom m x = RightAt setting.program.tree setting.tables (sight setting) (lookup setting) m x.layers x.frame x.phase x.under

  -- to the end of main
  reached : (x : LayeredStrand) (t : Tally) → RightFrom root x → HasAll x → ((k : Fault) → x.phase ≡ broken k → ⊥) → Reached (left_over x t) []
  reached x t right all sound =
      let P = setting.program.tree in
      let d : HasCome setting.program setting.tables setting.memory ready [] root = record { later = All; is_trail = refl; ends = refl; quiet = refl } in
      let known = InHand setting.program setting.tables setting.memory ready [] in
      let one = strand_at setting.program setting.tables setting.memory ready [] [] root x.layers x.frame x.phase x.under d tt right (layers_of P x.phase x.layers right.segments sound right.logged)
      (slots_none known x.frame.instance x.frame.env all.frame) (under_none known x.under all.under) in
      let first = phase_left P setting.tables x.frame x.phase (times_layers P setting.tables (identities P) x.layers) in
      let here = subst (Reached (then_on first (parents_left P setting.tables (filled [] x.under)))) (bottom_is x.frame x.under ∙ all.bottom) one in
      subst (λ u. Reached (then_on first (parents_left P setting.tables u)) []) (sym (under_filled [] x.under) ∙ ap (with_hand_under []) (sym (append-nil x.under))) here

  sound_left : (x : LayeredStrand) (t : Tally) (a : Reached (left_over x t) []) → Came (left_over x t) (identities setting.program.tree) a.whole a.outcome → rest_of_run setting.program.tree setting.tables (alone setting x t) ≡ from_scratch setting.program.tree setting.tables
  unfolding rest_of_run
  sound_left x t a (inl w) =
      let P = setting.program.tree in
      let f : a.whole ++ Leaves [] (Ok w.value) ∷ a.later ≡ All = subst (λ o. a.whole ++ Leaves [] o ∷ a.later ≡ All) w.outcome a.is_trail in
      ap (λ c. answered P setting.tables (then_on c (λ v acc. (Ok v, acc)))) w.course ∙ ap (Finished w.value) (worth_of (blank P) a.whole)
      ∙ sym (finish setting.program setting.tables setting.memory ready a.whole a.later w.value f)
  sound_left x t a (inr f) =
      answered_fell setting.program.tree setting.tables (left_over x t) (λ v acc. (Ok v, acc)) f.fault f.course
      ∙ sym (fault_answer setting.program setting.tables setting.memory ready a.whole (Leaves [] a.outcome ∷ a.later) f.fault a.is_trail f.first)

  -- a fault
  broken_left : (x : LayeredStrand) (t : Tally) (k : Fault) → x.phase ≡ broken k → RightFrom root x → rest_of_run setting.program.tree setting.tables (alone setting x t) ≡ from_scratch setting.program.tree setting.tables
  unfolding rest_of_run
  broken_left x t k e right =
      let P = setting.program.tree in
      let at : RightAt P setting.tables (sight setting) (lookup setting) root x.layers x.frame (broken k) x.under = subst (λ ph. RightAt P setting.tables (sight setting) (lookup setting) root x.layers x.frame ph x.under) e right in
      ap (λ ph. answered P setting.tables (then_on (then_on (phase_left P setting.tables x.frame ph (times_layers P setting.tables (identities P) x.layers)) (parents_left P setting.tables (x.under ++ []))) (λ v acc. (Ok v, acc)))) e
      ∙ sym (broken_from_scratch P setting.tables (lookup setting) ready.rules.reads k (right_broken P setting.tables (sight setting) (lookup setting) root x.layers x.frame k x.under at))

  pub all_left : (x : LayeredStrand) (t : Tally) → Own setting x t → HasAll x → rest_of_run setting.program.tree setting.tables (alone setting x t) ≡ from_scratch setting.program.tree setting.tables
  all_left x t h all =
      let right : RightFrom root x = subst (λ m. RightFrom m x) all.begins h.tallied.right in
      elim (broken_or x.phase) [
        | inl k ↦ broken_left x t k.0 k.1 right
        | inr sound ↦ let a = reached x t right all sound in sound_left x t a a.came
      ]
