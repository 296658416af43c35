-- One iteration that is recorded at once, as small steps of the strand.
use Rattle.std.proofs.Common.{◌≡◌, ◌∙◌, ℕ, zero, suc, ◌-◌, ◌+◌, ◌<◌, ◌==◌, ◌++◌, arith, append_assoc, ℤ, pos, ◌+ℤ◌, true, false, if◌then◌else◌, List, [], ◌∷◌, length, Option, None, map, refl, sym, ap, subst, eq-eqb}
use Rattle.std.proofs.lemmas.Bool.Decides.{nat_tests}
use Rattle.std.proofs.lemmas.List.{length-append}
use Rattle.meaning.specs.declared.tree.Way.TheVariants.{Call}
use Rattle.linked_program.specs.CodeView.{expression, memo_of, slots_of}
use Rattle.evaluation.specs.declared.slot.Slot.{Slot}
use Rattle.evaluation.specs.Slots.{slots_for}
use Rattle.evaluation.specs.Values.{values_at}
use Rattle.record_theory.specs.Record.{PlainRecord}
use Rattle.record_theory.specs.Validity.{valid_at}
use Rattle.positions.specs.declared.phase.Phase.TheVariants.{Entering, Running, Returning, Leaving}
use Rattle.positions.specs.declared.work.Loop.{Loop}
use Rattle.positions.specs.declared.work.Share.{Share}
use Rattle.positions.specs.declared.work.Work.TheVariants.{Turns}
use Rattle.positions.specs.Activations.{PlainActivation, waiting}
use Rattle.positions.specs.Code.{PlainLoop, loop_at}
use Rattle.positions.specs.Layers.{PlainLayer, covered}
use Rattle.positions.specs.Setting.{Setting}
use Rattle.positions.specs.Strands.{PlainStrand, entry_by, is_entry}
use Rattle.positions.specs.Tallies.{PlainOpened, PlainTally, opening, closing}
use Rattle.positions.specs.Advance.{advanced, record_for, answer_for, recalled, opened, opened_of, pushed, child_of, with_arguments, nested_memo, turn_slots, rest_of, closed, owns_top, in_phase}
use Rattle.own_statements.specs.Fills.{IsCounted}
use Rattle.own_statements.specs.Paths.{HasRoomAbove, topped}
use Rattle.small_steps.proofs.Nesting.{evaluated_some, nested_call, called_memo, turned_more}
use Rattle.small_steps.proofs.Refusals.{path_back}
use Rattle.small_steps.proofs.Turns.{number_taken}
use Rattle.running_ahead.specs.Stepped.{IsStepped, here, on}
use Rattle.running_ahead.proofs.Paths.{turned_next}
use Rattle.own_statements.specs.Leaves.{PlainLeaf, opened_by, IsLeaf}
use Rattle.running_ahead.specs.Leaves.{IsAmid}
use Rattle.running_ahead.proofs.Stepping.{steps_join, steps_of}

-- a loop's instance and layer, what is counted and recorded, and the arguments of the last iteration
abbrev pub with_turns : PlainActivation → PlainLayer → PlainTally → List ℤ → PlainStrand → PlainStrand
with_turns a l t xs s = record s { layer = l; top = a; phase = Running; arguments = xs; tally = t }

module _ (setting : Setting) (site : Loop) (h : Share) (j : PlainLoop) (a : PlainActivation) (l : PlainLayer) (t : PlainTally) (xs : List ℤ) (s : PlainStrand) where
  -- the iteration's number, and the instance that has called it
  abbrev pub number_here : ℤ
  number_here = site.low +ℤ pos h.first

  abbrev pub on_turn : PlainActivation
  on_turn = waiting false None (Turns site (rest_of h)) a

  abbrev pub leaf_here : PlainLeaf
  leaf_here = record { callee = j.callee; size = slots_of setting.codes j.callee; left = a.left - 1; number = number_here }

  -- before it, with its arguments, with its instance on top, and with that instance's layer
  abbrev before : PlainStrand
  before = with_turns a l t xs s

  abbrev argued : PlainStrand
  argued = with_arguments (number_here ∷ []) before

  abbrev slots_here : List Slot
  slots_here = slots_for (slots_of setting.codes j.callee) (number_here ∷ [])

  abbrev called : PlainStrand
  called = pushed (child_of j.callee slots_here argued) false None (Turns site (rest_of h)) Entering argued

  module _ (there : a.work ≡ Turns site h) (more : (h.count == 0) ≡ false) (found : j ≡ loop_at setting.codes a.procedure site) (memo : memo_of setting.codes j.callee ≡ true) (deep : (a.left == 0) ≡ false)
      (counted : IsCounted a.slots j.variable (map expression j.arguments)) where
    begins : answer_for setting called ≡ None → opened setting called ≡ advanced setting true before
    begins unknown =
        let w = Turns site (rest_of h) in
        let es = map expression j.arguments in
        let slots = turn_slots j site h before in
        let next = nested_memo setting true j.number Call None w j.callee in
        let taken = number_taken setting.tables es j.variable a.slots number_here (number_here ∷ []) before (counted.1, counted.0) refl in
        ap (λ (r : Option PlainRecord). recalled setting true r called) (sym unknown)
        ∙ nested_call setting true j.number Call None w j.callee slots_here argued (child_of j.callee slots_here argued) refl deep memo refl
        ∙ evaluated_some (λ (vs : List ℤ). vs) j.number (values_at setting.tables slots es) next before before (number_here ∷ []) taken
        ∙ called_memo setting true j.number Call None w w j.callee es slots before memo refl
        ∙ turned_more setting true site h before j more found ∙ turned_next setting true site h before refl there

    module _ (amid : IsAmid s) (m : PlainLayer) (u : PlainTally) (leaf : IsLeaf setting leaf_here l t m u) where
      abbrev opened_now : PlainOpened
      opened_now = opened_of called

      -- the strand under the iteration's instance and its layer
      abbrev under : PlainStrand
      under = record called { lower = l ∷ s.lower; tally = opening opened_now t; phase = Running }

      abbrev returned : PlainStrand
      returned = topped (Returning leaf.value) leaf.child leaf.own under

      entry : is_entry returned ≡ false
      entry = amid (a.children + 1) []

      own : owns_top returned ≡ true
      own = eq-eqb (length called.path) (length called.path) refl

      -- no instance above it begins the strand, or owns its layer
      above : HasRoomAbove under
      above = record {
        entry = λ n ns. ap (entry_by s.start) (append_assoc s.path ((a.children + 1) ∷ []) (n ∷ ns)) ∙ amid (a.children + 1) (n ∷ ns);
        own = λ n ns.
            let longer : length (called.path ++ n ∷ ns) ≡ length called.path + length (n ∷ ns) = length-append called.path (n ∷ ns) in
            let other : length called.path < length (called.path ++ n ∷ ns) = omega (arith, longer) in
            grind (arith, nat_tests, other);
      }

      closes : closed setting leaf.value returned ≡ advanced setting true returned
      closes =
          sym (ap (λ c. if c then returned else if owns_top returned then closed setting leaf.value returned else in_phase (Leaving leaf.value) returned) entry
          ∙ ap (λ c. if c then closed setting leaf.value returned else in_phase (Leaving leaf.value) returned) own)

      abbrev after : PlainStrand
      after = with_turns on_turn (covered l leaf.own) (closing setting.program.revisions leaf.own leaf.value (opening opened_now t)) (number_here ∷ []) s

      leaves : after ≡ advanced setting true (closed setting leaf.value returned)
      leaves = ap (λ (p : List ℕ). record after { path = p }) (sym (path_back s.path (a.children + 1)))

      is_after : after ≡ with_turns on_turn m u (number_here ∷ []) s
      is_after =
          ap (λ (k : PlainLayer). with_turns on_turn k (closing setting.program.revisions leaf.own leaf.value (opening (opened_by leaf_here) t)) (number_here ∷ []) s) (sym leaf.layer)
          ∙ ap (λ (k : PlainTally). with_turns on_turn m k (number_here ∷ []) s) (sym leaf.tally)

      pub leaf_steps : IsStepped setting before (with_turns on_turn m u (number_here ∷ []) s)
      leaf_steps =
          let begun : IsStepped setting before (opened setting called) = on before (opened setting called) here (begins leaf.unknown) in
          let run : IsStepped setting (opened setting called) returned = steps_of setting (opened setting called) returned (leaf.came under (λ _. (entry, above))) in
          let ended : IsStepped setting before returned = steps_join setting before (opened setting called) returned begun run in
          let over : IsStepped setting before after = on (closed setting leaf.value returned) after (on returned (closed setting leaf.value returned) ended closes) leaves in
          subst (λ (z : PlainStrand). IsStepped setting before z) is_after over

-- where there are no records none answers
pub no_record : (setting : Setting) (d f : ℕ) (xs : List ℤ) → setting.records ≡ [] → record_for setting d f xs ≡ None
no_record setting zero f xs e = refl
no_record setting (suc d) f xs e = ap (λ rs. valid_at setting.program.revisions setting.tables (suc d) rs f xs) e
