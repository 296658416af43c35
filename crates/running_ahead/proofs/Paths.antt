-- A strand that goes ahead: one path behind another, and what the steps keep.
use Rattle.std.proofs.Common.{◌≡◌, ℕ, zero, suc, ◌++◌, ◌+◌, ◌-◌, ◌==◌, ℤ, pos, Bool, true, false, if◌then◌else◌, List, [], ◌∷◌, Option, Some, Ok, refl, sym, ap, ◌∙◌, subst}
use Rattle.meaning.specs.declared.tree.Way.{Way}
use Rattle.meaning.specs.declared.tree.Way.TheVariants.{Call, Spawn}
use Rattle.meaning.specs.declared.FaultKind.TheVariants.{TooDeep}
use Rattle.meaning.specs.Elision.{depth_limit}
use Rattle.evaluation.specs.declared.slot.Slot.{Slot}
use Rattle.evaluation.specs.declared.slot.Slot.TheVariants.{Has}
use Rattle.linked_program.specs.Linked.{Linked}
use Rattle.linked_program.specs.CodeView.{memo_of, slots_of}
use Rattle.evaluation.specs.Values.{NumberedOut, entry_at}
use Rattle.positions.specs.declared.work.Work.{Work}
use Rattle.positions.specs.declared.work.Work.TheVariants.{Block, Halves, Turns}
use Rattle.positions.specs.declared.work.Position.{Position}
use Rattle.positions.specs.declared.work.Loop.{Loop}
use Rattle.positions.specs.declared.work.Share.{Share}
use Rattle.positions.specs.Code.{loop_at}
use Rattle.positions.specs.declared.phase.Phase.{Phase}
use Rattle.positions.specs.declared.phase.Phase.TheVariants.{Entering, Running, AtSpawn, Returning, Leaving}
use Rattle.positions.specs.Setting.{Setting}
use Rattle.positions.specs.Activations.{PlainActivation, bound, waiting, first_of}
use Rattle.positions.specs.Layers.{PlainLayer, entering}
use Rattle.positions.specs.Strands.{PlainStrand, is_entry}
use Rattle.positions.specs.Moves.{inlined}
use Rattle.positions.specs.Advance.{begun, started_by, noted, answered, evaluated, worked, advanced, advanced_at, closed, owns_top, started_as, called_as, called, in_phase, giving, turned, turn_by, left_to, pushed, faulted, child_of}
use Rattle.own_statements.specs.Paths.{IsPath, MayPass, StopsBy, stacked, topped, phase_by, ComesTo}
use Rattle.own_statements.specs.Paths as paths
use Rattle.answered_loops.specs.Ways.{IsNext, IsWay, here, on, as_call}
use Rattle.answered_loops.proofs.Ways.{way_join}
use Rattle.small_steps.specs.Steps.{nested_plain, entered_plain}
use Rattle.small_steps.proofs.Refusals.{path_back}
use Rattle.running_ahead.specs.Ahead.{IsAhead, is_spawned}

-- two strands whose parts are the same
pub same_parts : (s : PlainStrand) (l : PlainLayer) (p q : List ℕ) (a b : PlainActivation) (u v : List PlainActivation) (f g : Phase) → p ≡ q → a ≡ b → u ≡ v → f ≡ g
    → record s { layer = l; path = p; top = a; below = u; phase = f } ≡ record s { layer = l; path = q; top = b; below = v; phase = g }
same_parts s l p q a b u v f g path top below phase =
    ap (λ xs. record s { layer = l; path = xs; top = a; below = u; phase = f }) path ∙ ap (λ (x : PlainActivation). record s { layer = l; path = q; top = x; below = u; phase = f }) top
    ∙ ap (λ xs. record s { layer = l; path = q; top = b; below = xs; phase = f }) below ∙ ap (λ x. record s { layer = l; path = q; top = b; below = v; phase = x }) phase

module _ (setting : Setting) where
  pub ahead_here : (s : PlainStrand) → IsAhead setting s s
  ahead_here s = record { way = here; lower = refl; kinds = refl; tally = refl }

  pub ahead_join : (s t u : PlainStrand) → IsAhead setting s t → IsAhead setting t u → IsAhead setting s u
  ahead_join s t u p q = record { way = way_join setting s t u p.way q.way; lower = q.lower ∙ p.lower; kinds = q.kinds ∙ p.kinds; tally = q.tally ∙ p.tally }

  -- a path of small steps is a way
  pub way_of : (s t : PlainStrand) → IsPath setting s t → IsWay setting s t
  way_of s t paths.here = here
  way_of s t (paths.on u v p e) = on u v (way_of s u p) e

  -- what instances that stand above one another keep
  pub stacked_lower : (n : ℕ) (b : PlainActivation) (ys : List PlainActivation) (m : PlainLayer) (s : PlainStrand) → (stacked n b ys m s).lower ≡ s.lower
  stacked_lower zero b ys m s = refl
  stacked_lower (suc n) b [] m s = refl
  stacked_lower (suc n) b (y ∷ ys) m s = stacked_lower n y ys m (record s { path = s.path ++ b.children ∷ []; below = b ∷ s.below })

  pub stacked_tally : (n : ℕ) (b : PlainActivation) (ys : List PlainActivation) (m : PlainLayer) (s : PlainStrand) → (stacked n b ys m s).tally ≡ s.tally
  stacked_tally zero b ys m s = refl
  stacked_tally (suc n) b [] m s = refl
  stacked_tally (suc n) b (y ∷ ys) m s = stacked_tally n y ys m (record s { path = s.path ++ b.children ∷ []; below = b ∷ s.below })

  pub stacked_kinds : (n : ℕ) (b : PlainActivation) (ys : List PlainActivation) (m : PlainLayer) (s : PlainStrand) → (stacked n b ys m s).layer.kinds ≡ m.kinds
  stacked_kinds zero b ys m s = refl
  stacked_kinds (suc n) b [] m s = refl
  stacked_kinds (suc n) b (y ∷ ys) m s = stacked_kinds n y ys m (record s { path = s.path ++ b.children ∷ []; below = b ∷ s.below })

  -- the topmost instance's statements, and those of instances that it has called, which stand above it
  pub stop_ahead : (passes : Bool) (s : PlainStrand) (n : ℕ) (b : PlainActivation) (ys : List PlainActivation) (m : PlainLayer) (t : PlainStrand) → s.phase ≡ Running → MayPass passes s
      → StopsBy setting passes s.top s.layer n b ys m → m.kinds ≡ s.layer.kinds → t ≡ stacked n b ys m s → IsAhead setting s t
  stop_ahead passes s n b ys m t running may stop kinds is =
      let start = topped Running s.top s.layer s in
      let end = stacked n b ys m s in
      let begins : start ≡ s = ap (λ (f : Phase). in_phase f s) (sym running) in
      let ahead : IsAhead setting start end = record { way = way_of start end (stop.1 s may); lower = stacked_lower n b ys m s; kinds = stacked_kinds n b ys m s ∙ kinds; tally = stacked_tally n b ys m s } in
      subst (λ (v : PlainStrand). IsAhead setting s v) (sym is) (subst (λ (u : PlainStrand). IsAhead setting u end) begins ahead)

  -- the topmost instance's own statements
  pub come_ahead : (passes : Bool) (given : Option ℤ) (s : PlainStrand) (b : PlainActivation) (m : PlainLayer) (t : PlainStrand) → s.phase ≡ Running → MayPass passes s
      → ComesTo setting passes s.top s.layer given b m → m.kinds ≡ s.layer.kinds → t ≡ topped (phase_by given) b m s → IsAhead setting s t
  come_ahead passes given s b m t running may come kinds is =
      let start = topped Running s.top s.layer s in
      let end = topped (phase_by given) b m s in
      let begins : start ≡ s = ap (λ (f : Phase). in_phase f s) (sym running) in
      let ahead : IsAhead setting start end = record { way = way_of start end (come s may); lower = refl; kinds = kinds; tally = refl } in
      subst (λ (v : PlainStrand). IsAhead setting s v) (sym is) (subst (λ (u : PlainStrand). IsAhead setting u end) begins ahead)

  -- ---- steps

  -- a spawned child is made a call
  pub inlined_ahead : (s t : PlainStrand) → s.phase ≡ AtSpawn → t ≡ inlined s → IsAhead setting s t
  inlined_ahead s t spawn is =
      subst (λ (u : PlainStrand). IsAhead setting s u) (sym is) (record { way = as_call s (inlined s) here spawn refl; lower = refl; kinds = refl; tally = refl })

  -- the value goes to the instance below, where there is one
  left_lower : (below : List PlainActivation) (v : ℤ) (s : PlainStrand) → (left_to below v s).lower ≡ s.lower
  left_lower [] v s = refl
  left_lower (p ∷ rest) v s = refl

  left_kinds : (below : List PlainActivation) (v : ℤ) (s : PlainStrand) → (left_to below v s).layer.kinds ≡ s.layer.kinds
  left_kinds [] v s = refl
  left_kinds (p ∷ rest) v s = refl

  left_tally : (below : List PlainActivation) (v : ℤ) (s : PlainStrand) → (left_to below v s).tally ≡ s.tally
  left_tally [] v s = refl
  left_tally (p ∷ rest) v s = refl

  pub leave_ahead : (v : ℤ) (s t : PlainStrand) → s.phase ≡ Leaving v → t ≡ left_to s.below v s → IsAhead setting s t
  leave_ahead v s t phase is =
      subst (λ (u : PlainStrand). IsAhead setting s u) (sym is)
      (record { way = on s (left_to s.below v s) here (λ kit. sym (ap (λ ph. advanced_at setting kit ph s) phase)); lower = left_lower s.below v s; kinds = left_kinds s.below v s; tally = left_tally s.below v s })

  -- an instance of a procedure that isn't marked memo is entered
  pub begin_ahead : (p : Position) (s t : PlainStrand) → s.phase ≡ Entering → s.top.work ≡ Block p → memo_of setting.codes s.top.procedure ≡ false → t ≡ begun s → IsAhead setting s t
  begin_ahead p s t phase work memo is =
      let step : IsNext setting s (begun s) = λ kit.
      sym (ap (λ ph. advanced_at setting kit ph s) phase ∙ ap (λ w. started_by setting kit w s) work ∙ ap (λ m. started_as setting kit m s) memo) in
      subst (λ (u : PlainStrand). IsAhead setting s u) (sym is) (record { way = on s (begun s) here step; lower = refl; kinds = refl; tally = refl })

  -- a loop's half is entered
  pub half_ahead : (l : Loop) (n : ℕ) (h : Share) (s t : PlainStrand) → s.phase ≡ Entering → s.top.work ≡ Halves l n h → t ≡ in_phase Running s → IsAhead setting s t
  half_ahead l n h s t phase work is =
      let step : IsNext setting s (in_phase Running s) = λ kit. sym (ap (λ ph. advanced_at setting kit ph s) phase ∙ ap (λ w. started_by setting kit w s) work) in
      subst (λ (u : PlainStrand). IsAhead setting s u) (sym is) (record { way = on s (in_phase Running s) here step; lower = refl; kinds = refl; tally = refl })

  -- the implicit sync is passed
  pub sync_ahead : (v : ℤ) (s : PlainStrand) → s.phase ≡ Returning v → is_entry s ≡ false → owns_top s ≡ false → IsAhead setting s (in_phase (Leaving v) s)
  sync_ahead v s phase entry own =
      let step : IsNext setting s (in_phase (Leaving v) s) = λ kit.
      sym (ap (λ ph. advanced_at setting kit ph s) phase ∙ ap (λ c. if c then s else if owns_top s then closed setting v s else in_phase (Leaving v) s) entry ∙ ap (λ c. if c then closed setting v s else in_phase (Leaving v) s) own) in
      record { way = on s (in_phase (Leaving v) s) here step; lower = refl; kinds = refl; tally = refl }

  -- a loop's next iteration is the next small step
  pub turned_next : (kit : Bool) (l : Loop) (h : Share) (s : PlainStrand) → s.phase ≡ Running → s.top.work ≡ Turns l h → turned setting kit l h s ≡ advanced setting kit s
  turned_next kit l h s running there = sym (ap (λ ph. advanced_at setting kit ph s) running ∙ ap (λ w. worked setting kit w s) there)

  -- a loop is over
  pub loop_over : (l : Loop) (h : Share) (s t : PlainStrand) → (h.count == 0) ≡ true → t ≡ giving (pos 0) s → ((kit : Bool) → turned setting kit l h s ≡ advanced setting kit s) → IsAhead setting s t
  loop_over l h s t none is e =
      let step : IsNext setting s (giving (pos 0) s) = λ kit. sym (ap (λ c. if c then giving (pos 0) s else turn_by setting kit (loop_at setting.codes s.top.procedure l) l h s) none) ∙ e kit in
      subst (λ (u : PlainStrand). IsAhead setting s u) (sym is) (record { way = on s (giving (pos 0) s) here step; lower = refl; kinds = refl; tally = refl })

  nested_lower : (deep : Bool) (n : ℕ) (way : Way) (into : Option ℕ) (w : Work) (f : ℕ) (slots : List Slot) (s : PlainStrand) → (if deep then faulted n TooDeep s else entered_plain way into w f slots s).lower ≡ s.lower
  nested_lower true n way into w f slots s = refl
  nested_lower false n Call into w f slots s = refl
  nested_lower false n Spawn into w f slots s = refl

  nested_kinds : (deep : Bool) (n : ℕ) (way : Way) (into : Option ℕ) (w : Work) (f : ℕ) (slots : List Slot) (s : PlainStrand) → (if deep then faulted n TooDeep s else entered_plain way into w f slots s).layer.kinds ≡ s.layer.kinds
  nested_kinds true n way into w f slots s = refl
  nested_kinds false n Call into w f slots s = refl
  nested_kinds false n Spawn into w f slots s = refl

  nested_tally : (deep : Bool) (n : ℕ) (way : Way) (into : Option ℕ) (w : Work) (f : ℕ) (slots : List Slot) (s : PlainStrand) → (if deep then faulted n TooDeep s else entered_plain way into w f slots s).tally ≡ s.tally
  nested_tally true n way into w f slots s = refl
  nested_tally false n Call into w f slots s = refl
  nested_tally false n Spawn into w f slots s = refl

  -- a child is called or spawned whose arguments have these values, and it comes so far
  pub enter_ahead : (n : ℕ) (o : NumberedOut (List Slot)) (way : Way) (into : Option ℕ) (w : Work) (f : ℕ) (slots : List Slot) (s x t : PlainStrand) → o.answer ≡ Ok slots → x ≡ noted o.notes s
      → IsAhead setting (nested_plain n way into w f slots x) t → ((kit : Bool) → evaluated n o (nested_plain n way into w f) s ≡ advanced setting kit s) → IsAhead setting s t
  enter_ahead n o way into w f slots s x t answer is ahead e =
      let next = nested_plain n way into w f in
      let same : next slots x ≡ evaluated n o next s = ap (next slots) is ∙ sym (ap (λ r. answered n r next (noted o.notes s)) answer) in
      let step : IsAhead setting s (next slots x) = record {
        way = on s (next slots x) here (λ kit. same ∙ e kit);
        lower = nested_lower (x.top.left == 0) n way into w f slots x ∙ ap (λ (z : PlainStrand). z.lower) is;
        kinds = nested_kinds (x.top.left == 0) n way into w f slots x ∙ ap (λ (z : PlainStrand). z.layer.kinds) is;
        tally = nested_tally (x.top.left == 0) n way into w f slots x ∙ ap (λ (z : PlainStrand). z.tally) is;
      } in
      ahead_join s (next slots x) t step ahead

  -- a child of a procedure that isn't marked memo
  pub called_plain : (kit : Bool) (n : ℕ) (way : Way) (into : Option ℕ) (w : Work) (f : ℕ) (es : List Linked) (slots : List Slot) (s : PlainStrand) → memo_of setting.codes f ≡ false
      → evaluated n (entry_at setting.tables slots (slots_of setting.codes f) es) (nested_plain n way into w f) s ≡ called setting kit n way into w f es slots s
  called_plain kit n Call into w f es slots s memo =
      let o = entry_at setting.tables slots (slots_of setting.codes f) es in
      sym (ap (λ b. evaluated n o (λ xs u. if u.top.left == 0 then faulted n TooDeep u else started_as setting kit b (pushed (child_of f xs u) false into w Entering u)) s) memo) ∙ sym (ap (λ b. called_as setting kit b n Call into w f es slots s) memo)
  called_plain kit n Spawn into w f es slots s memo = sym (ap (λ b. called_as setting kit b n Spawn into w f es slots s) memo)

  -- ---- a called child, which may be a spawned one

  -- the child of the topmost instance, and the strand with it on top
  module _ (way : Way) (into : Option ℕ) (w : Work) (f : ℕ) (slots : List Slot) (s : PlainStrand) where
    abbrev pub with_child : PlainStrand
    with_child = pushed (child_of f slots s) (is_spawned way) into w Running s

    abbrev pub layer_then : PlainLayer
    layer_then = entering f (depth_limit - (s.top.left - 1)) s.layer

    -- it has begun
    abbrev pub with_begun : PlainStrand
    with_begun = topped Running (child_of f slots s) layer_then with_child

  -- it begins
  child_begins : (way : Way) (into : Option ℕ) (w : Work) (f : ℕ) (slots : List Slot) (s : PlainStrand) → memo_of setting.codes f ≡ false → IsAhead setting (entered_plain way into w f slots s) (with_begun way into w f slots s)
  child_begins Call into w f slots s memo = ahead_here (with_begun Call into w f slots s)
  child_begins Spawn into w f slots s memo =
      let u = entered_plain Spawn into w f slots s in
      ahead_join u (inlined u) (with_begun Spawn into w f slots s) (inlined_ahead u (inlined u) refl refl) (begin_ahead (first_of 0) (inlined u) (with_begun Spawn into w f slots s) refl refl memo refl)

  module _ (way : Way) (into : Option ℕ) (w : Work) (f : ℕ) (slots : List Slot) (s : PlainStrand) where
    begins : (n : ℕ) → (s.top.left == 0) ≡ false → memo_of setting.codes f ≡ false → IsAhead setting (nested_plain n way into w f slots s) (with_begun way into w f slots s)
    begins n deep memo =
        subst (λ (u : PlainStrand). IsAhead setting u (with_begun way into w f slots s)) (sym (ap (λ b. if b then faulted n TooDeep s else entered_plain way into w f slots s) deep))
        (child_begins way into w f slots s memo)

    module _ (number : ℕ) (deep : (s.top.left == 0) ≡ false) (memo : memo_of setting.codes f ≡ false) (b : PlainActivation) (m : PlainLayer) (kinds : m.kinds ≡ s.layer.kinds) where
      abbrev child : PlainStrand
      child = with_child way into w f slots s

      abbrev start : PlainStrand
      start = with_begun way into w f slots s

      -- it goes on, or those that it has called do
      pub child_stays : (n : ℕ) (ys : List PlainActivation) (t : PlainStrand) → MayPass true child → StopsBy setting true (child_of f slots s) (layer_then way into w f slots s) n b ys m → t ≡ stacked n b ys m child
          → IsAhead setting (nested_plain number way into w f slots s) t
      child_stays n ys t may stop is =
          subst (λ (v : PlainStrand). IsAhead setting (nested_plain number way into w f slots s) v) (sym is)
          (ahead_join (nested_plain number way into w f slots s) start (stacked n b ys m child) (begins number deep memo)
          (record { way = way_of start (stacked n b ys m child) (stop.1 child may); lower = stacked_lower n b ys m child; kinds = stacked_kinds n b ys m child ∙ kinds; tally = stacked_tally n b ys m child }))

      -- it has come back with a value
      module _ (v : ℤ) (entry : is_entry child ≡ false) (own : owns_top child ≡ false) where
        abbrev pub back : PlainStrand
        back = record s { layer = m; top = bound into (Has v) (waiting (is_spawned way) into w s.top); phase = Running }

        leaving : IsNext setting (topped (Returning v) b m child) (topped (Leaving v) b m child)
        leaving kit =
            let x = topped (Returning v) b m child in
            sym (ap (λ c. if c then x else if owns_top x then closed setting v x else in_phase (Leaving v) x) entry ∙ ap (λ c. if c then closed setting v x else in_phase (Leaving v) x) own)

        left : IsNext setting (topped (Leaving v) b m child) back
        left kit = ap (λ xs. record back { path = xs }) (sym (path_back s.path (s.top.children + 1)))

        pub child_returns : (t : PlainStrand) → MayPass true child → ComesTo setting true (child_of f slots s) (layer_then way into w f slots s) (Some v) b m → t ≡ back → IsAhead setting (nested_plain number way into w f slots s) t
        child_returns t may come is =
            let walk : IsWay setting start back = on (topped (Leaving v) b m child) back (on (topped (Returning v) b m child) (topped (Leaving v) b m child) (way_of start (topped (Returning v) b m child) (come child may)) leaving) left in
            subst (λ (v : PlainStrand). IsAhead setting (nested_plain number way into w f slots s) v) (sym is)
            (ahead_join (nested_plain number way into w f slots s) start back (begins number deep memo) (record { way = walk; lower = refl; kinds = kinds; tally = refl }))
