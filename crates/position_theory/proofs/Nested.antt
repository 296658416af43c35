-- A small step keeps that memo instances with open layers, but for the topmost one, have others inside.
use Rattle.std.proofs.Common.{◌≡◌, inl, inr, ℕ, zero, suc, ◌-◌, ◌==◌, ℤ, pos, Bool, true, false, ◌||◌, ◌&&◌, if◌then◌else◌, List, [], ◌∷◌, length, map, Option, Some, None, Result, Ok, Err, refl, sym, ap, ◌∙◌, subst}
use Rattle.std.specs.Prelude.{nat_le, nat_lt, slice_get}
use Rattle.std.specs.List.{list_any}
use Rattle.std.proofs.lemmas.Bool.{eq-eqb}
use Rattle.meaning.specs.declared.tree.Way.{Way}
use Rattle.meaning.specs.declared.tree.Way.TheVariants.{Call, Spawn}
use Rattle.monoid_laws.specs.declared.Kind.{Kind}
use Rattle.monoid_laws.specs.Kinds.{names_element}
use Rattle.meaning.specs.declared.FaultKind.{FaultKind}
use Rattle.linked_program.specs.declared.code.Operation.{Operation}
use Rattle.linked_program.specs.declared.code.Operation.TheVariants as o
use Rattle.linked_program.specs.declared.code.Instruction.{Instruction}
use Rattle.linked_program.specs.declared.code.CodeBlock.{CodeBlock}
use Rattle.linked_program.specs.declared.code.Code.{Code}
use Rattle.linked_program.specs.Linked.{Linked}
use Rattle.linked_program.specs.CodeView.{expression, slots_of, memo_in, memo_of, blocks_in, instructions_in, instruction_at}
use Rattle.evaluation.specs.declared.slot.Slot.{Slot}
use Rattle.evaluation.specs.Slots.{slots_for}
use Rattle.evaluation.specs.Values.{NumberedOut, value_at, values_at, entry_at, bounds_at}
use Rattle.record_theory.specs.Record.{PlainRecord}
use Rattle.positions.specs.declared.work.Position.{Position}
use Rattle.positions.specs.declared.work.Loop.{Loop}
use Rattle.positions.specs.declared.work.Share.{Share}
use Rattle.positions.specs.declared.work.Work.{Work}
use Rattle.positions.specs.declared.work.Work.TheVariants.{Block, Over, Halves, Second, Turns}
use Rattle.positions.specs.declared.phase.Phase.{Phase}
use Rattle.positions.specs.declared.phase.Phase.TheVariants.{Entering, Running, AtSpawn, Returning, Leaving, Broken}
use Rattle.positions.specs.Setting.{Setting}
use Rattle.positions.specs.Activations.{PlainActivation, at, next_of, outside, outside_by}
use Rattle.positions.specs.Code.{enters_others, has_entering, may_nest, blocks_at, instruction_inside, PlainLoop, loop_at}
use Rattle.positions.specs.Layers.{PlainLayer}
use Rattle.positions.specs.Tallies.{PlainOpened, PlainTally, is_own, closing_by}
use Rattle.positions.specs.Strands.{PlainStrand, is_entry}
use Rattle.positions.specs.Nesting.{IsProcedures, AreNested, NestUnder, NestAt}
use Rattle.positions.specs.Advance.{with_top, noted, answered, evaluated, recalled, answer_for, started_as, started_by, pushed, child_of, with_arguments, entered, nested, nested_memo, called_as, moved_on, binding, if_named, combining, choosing, looping, giving, split, second_half, turn_slots, rest_of, turn_by, left_to, closed, owns_top, synced, performed, gone_by, worked, advanced_at, advanced}

-- ---- statements that enter others

some_there : {A : Type 0} (f : A → Bool) (xs : List A) (n : ℕ) (x : A) → slice_get xs n ≡ Some x → f x ≡ true → list_any f xs ≡ true
some_there f [] n x e h = absurd cc
some_there f (y ∷ xs) zero x e h = let same : y ≡ x = cc in ap (λ z. f z || list_any f xs) same ∙ ap (λ b. b || list_any f xs) h
some_there f (y ∷ xs) (suc n) x e h = or_right (f y) (list_any f xs) (some_there f xs n x e h)
  where
    or_right : (a b : Bool) → b ≡ true → a || b ≡ true
    or_right true b e = refl
    or_right false b e = e

-- where the statement of a place in a block is one of those
in_block : (f : Instruction → Bool) (b : Option CodeBlock) (n : ℕ) (i : Instruction) → slice_get (instructions_in b) n ≡ Some i → f i ≡ true → (x : CodeBlock) × (b ≡ Some x) × (list_any f x.instructions.items ≡ true)
in_block f None n i e h = absurd cc
in_block f (Some x) n i e h = (x, refl, some_there f x.instructions.items n i e h)

in_code : (c : Option Code) (b n : ℕ) (i : Instruction) → slice_get (instructions_in (slice_get (blocks_in c) b)) n ≡ Some i → enters_others i.operation ≡ true → (x : Code) × (c ≡ Some x) × (has_entering x ≡ true)
in_code None b n i e h = absurd cc
in_code (Some x) b n i e h =
    let there = in_block (λ i. enters_others i.operation) (slice_get x.blocks.items b) n i e h in
    (x, refl, some_there (λ b. list_any (λ i. enters_others i.operation) b.instructions.items) x.blocks.items b there.0 there.1 there.2)

at_depth : (c : Bool) (i : Option Instruction) (j : Instruction) → (if c then i else None) ≡ Some j → i ≡ Some j
at_depth true i j e = e
at_depth false i j e = absurd cc

-- a memo procedure has such a statement
nests_there : (codes : List Code) (p depth : ℕ) (q : Position) (i : Instruction) → instruction_inside codes p depth q ≡ Some i → enters_others i.operation ≡ true → memo_of codes p ≡ true → may_nest codes ≡ true
nests_there codes p depth q i e h memo =
    let there = in_code (slice_get codes p) q.block q.index i (at_depth (nat_lt depth (length (blocks_at codes p))) (instruction_at codes p q.block q.index) i e) h in
    let recorded : there.0.memo ≡ true = subst (λ c. memo_in c ≡ true) there.1 memo in
    some_there (λ c. c.memo && has_entering c) codes p there.0 there.1 (ap (λ b. b && has_entering there.0) recorded ∙ there.2)

-- ---- instances with open layers

module _ (codes : List Code) where
  nested_any : (os : List PlainOpened) → may_nest codes ≡ true → AreNested codes os
  nested_any [] e = tt
  nested_any (o ∷ os) e = e

  under_nested : (a : PlainActivation) (path : List ℕ) (os : List PlainOpened) → AreNested codes os → NestUnder codes a path os
  under_nested a path [] h = tt
  under_nested a path (o ∷ os) h = inl h

  -- whatever the strand does next
  pub nest_any : (ph : Phase) (s : PlainStrand) → AreNested codes s.tally.opened → NestAt codes ph s
  nest_any Entering s h = h
  nest_any Running s h = under_nested s.top s.path s.tally.opened h
  nest_any AtSpawn s h = h
  nest_any (Returning v) s h = under_nested s.top s.path s.tally.opened h
  nest_any (Leaving v) s h = h
  nest_any (Broken f) s h = tt

  pub nest_none : (ph : Phase) (s : PlainStrand) → s.tally.opened ≡ [] → NestAt codes ph s
  nest_none ph s e = nest_any ph s (subst (AreNested codes) (sym e) tt)

  -- the topmost one runs on
  abbrev GoesOn : Phase → Type 0
  GoesOn Running = Unit {0}
  GoesOn (Returning v) = Unit {0}
  GoesOn (Broken f) = Unit {0}
  GoesOn _ = ⊥

  abbrev Runs : PlainStrand → Type 0
  Runs s = GoesOn s.phase × NestUnder codes s.top s.path s.tally.opened

  nest_on : (ph : Phase) (s : PlainStrand) → GoesOn ph → NestUnder codes s.top s.path s.tally.opened → NestAt codes ph s
  nest_on Running s g h = h
  nest_on (Returning v) s g h = h
  nest_on (Broken f) s g h = tt
  nest_on Entering s g h = absurd g
  nest_on AtSpawn s g h = absurd g
  nest_on (Leaving v) s g h = absurd g

  same_top : (a b : PlainActivation) (path : List ℕ) (os : List PlainOpened) → IsProcedures b.work → b.procedure ≡ a.procedure → NestUnder codes a path os → NestUnder codes b path os
  same_top a b path [] w e h = tt
  same_top a b path (o ∷ os) w e (inl h) = inl h
  same_top a b path (o ∷ os) w e (inr h) = inr ((w, ap (memo_of codes) e ∙ h.0.1, h.0.2), h.1)

  -- a memo instance enters another one
  around_child : (a : PlainActivation) (path : List ℕ) (os : List PlainOpened) → (memo_of codes a.procedure ≡ true → may_nest codes ≡ true) → NestUnder codes a path os → AreNested codes os
  around_child a path [] f h = tt
  around_child a path (o ∷ os) f (inl h) = h
  around_child a path (o ∷ os) f (inr h) = f h.0.1

  -- a loop's instance has no layer
  around_loop : (a : PlainActivation) (path : List ℕ) (os : List PlainOpened) → (IsProcedures a.work → ⊥) → NestUnder codes a path os → AreNested codes os
  around_loop a path [] f h = tt
  around_loop a path (o ∷ os) f (inl h) = h
  around_loop a path (o ∷ os) f (inr h) = absurd (f h.0.0)

  -- the topmost layer is closed
  under_closed : (revisions : List (List ℕ × ℕ)) (a : PlainActivation) (path : List ℕ) (os : List PlainOpened) (l : PlainLayer) (v : ℤ) (t : PlainTally) → t.opened ≡ os → NestUnder codes a path os → AreNested codes (closing_by revisions os l v t).opened
  under_closed revisions a path [] l v t e h = subst (AreNested codes) (sym e) tt
  under_closed revisions a path (o ∷ os) l v t e (inl h) = nested_any os h
  under_closed revisions a path (o ∷ os) l v t e (inr h) = h.1

  -- where it isn't the instance's own
  under_left : (a : PlainActivation) (path : List ℕ) (os : List PlainOpened) → is_own os (length path) ≡ false → NestUnder codes a path os → AreNested codes os
  under_left a path [] e h = tt
  under_left a path (o ∷ os) e (inl h) = h
  under_left a path (o ∷ os) e (inr h) = absurd (let clash : true ≡ false = sym (eq-eqb o.depth (length path) h.0.2) ∙ e in cc)

module _ (setting : Setting) where
  abbrev Nests : PlainStrand → Type 0
  Nests s = NestAt setting.codes s.phase s

  abbrev Around : PlainStrand → Type 0
  Around s = AreNested setting.codes s.tally.opened

  abbrev Goes : PlainStrand → Type 0
  Goes s = Runs setting.codes s

  either_nests : (b : Bool) (s u : PlainStrand) → Nests s → Nests u → Nests (if b then s else u)
  either_nests true s u h i = h
  either_nests false s u h i = i

  answered_nests : {A : Type 0} (P : PlainStrand → Type 0) (n : ℕ) (a : Result A FaultKind) (next : A → PlainStrand → PlainStrand) → ((v : A) (s : PlainStrand) → P s → Nests (next v s)) → (s : PlainStrand) → P s → Nests (answered n a next s)
  answered_nests P n (Ok v) next f s h = f v s h
  answered_nests P n (Err k) next f s h = tt

  goes_noted : {A : Type 0} (n : ℕ) (o : NumberedOut A) (next : A → PlainStrand → PlainStrand) → ((v : A) (s : PlainStrand) → Goes s → Nests (next v s)) → (s : PlainStrand) → Goes s → Nests (evaluated n o next s)
  goes_noted n o next f s h = answered_nests Goes n o.answer next f (noted o.notes s) h

  around_noted : {A : Type 0} (n : ℕ) (o : NumberedOut A) (next : A → PlainStrand → PlainStrand) → ((v : A) (s : PlainStrand) → Around s → Nests (next v s)) → (s : PlainStrand) → Around s → Nests (evaluated n o next s)
  around_noted n o next f s h = answered_nests Around n o.answer next f (noted o.notes s) h

  -- ---- an instance is entered

  recalled_nests : (kit : Bool) (r : Option PlainRecord) (s : PlainStrand) → IsProcedures s.top.work → memo_of setting.codes s.top.procedure ≡ true → Around s → Nests (recalled setting kit r s)
  recalled_nests kit (Some r) s w memo h = h
  recalled_nests true None s w memo h = inr ((w, memo, refl), h)
  recalled_nests false None s w memo h = under_nested setting.codes s.top s.path s.tally.opened h

  started_as_nests : (kit memo : Bool) (s : PlainStrand) → IsProcedures s.top.work → memo_of setting.codes s.top.procedure ≡ memo → Around s → Nests (started_as setting kit memo s)
  started_as_nests kit true s w e h = recalled_nests kit (answer_for setting s) s w e h
  started_as_nests kit false s w e h = under_nested setting.codes s.top s.path s.tally.opened h

  started_by_nests : (kit : Bool) (w : Work) (s : PlainStrand) → s.top.work ≡ w → Around s → Nests (started_by setting kit w s)
  started_by_nests kit (Block p) s e h = started_as_nests kit (memo_of setting.codes s.top.procedure) s (subst IsProcedures (sym e) tt) refl h
  started_by_nests kit Over s e h = under_nested setting.codes s.top s.path s.tally.opened h
  started_by_nests kit (Halves l k share) s e h = under_nested setting.codes s.top s.path s.tally.opened h
  started_by_nests kit (Second l k share) s e h = under_nested setting.codes s.top s.path s.tally.opened h
  started_by_nests kit (Turns l share) s e h = under_nested setting.codes s.top s.path s.tally.opened h

  module _ (kit : Bool) where
    entered_nests : (way : Way) (into : Option ℕ) (w : Work) (f : ℕ) (slots : List Slot) (s : PlainStrand) → Around s → Nests (entered setting kit way into w f slots s)
    entered_nests Call into w f slots s h = started_by_nests kit (child_of f slots s).work (pushed (child_of f slots s) false into w Entering s) refl h
    entered_nests Spawn into w f slots s h = h

    nested_nests : (n : ℕ) (way : Way) (into : Option ℕ) (w : Work) (f : ℕ) (slots : List Slot) (s : PlainStrand) → Around s → Nests (nested setting kit n way into w f slots s)
    nested_nests n way into w f slots s h = either_nests (s.top.left == 0) _ (entered setting kit way into w f slots s) tt (entered_nests way into w f slots s h)

    called_as_nests : (memo : Bool) (n : ℕ) (way : Way) (into : Option ℕ) (w : Work) (f : ℕ) (es : List Linked) (slots : List Slot) (s : PlainStrand) → Around s → Nests (called_as setting kit memo n way into w f es slots s)
    called_as_nests true n way into w f es slots s h =
        around_noted n (values_at setting.tables slots es) (nested_memo setting kit n way into w f) (λ vs u i. nested_nests n way into w f (slots_for (slots_of setting.codes f) vs) (with_arguments vs u) i) s h
    called_as_nests false n way into w f es slots s h =
        around_noted n (entry_at setting.tables slots (slots_of setting.codes f) es) (nested setting kit n way into w f) (λ vs u i. nested_nests n way into w f vs u i) s h

    -- ---- what the topmost instance does

    bound_nests : (p : Position) (x : ℕ) (v : ℤ) (s : PlainStrand) → Goes s → Nests (binding p x v s)
    bound_nests p x v s h = nest_on setting.codes s.phase (binding p x v s) h.0 (same_top setting.codes s.top (binding p x v s).top s.path s.tally.opened tt refl h.1)

    moved_nests : (s u : PlainStrand) → u.phase ≡ s.phase → u.path ≡ s.path → u.tally ≡ s.tally → IsProcedures u.top.work → u.top.procedure ≡ s.top.procedure → Goes s → Nests u
    moved_nests s u e f g w p h =
        nest_on setting.codes u.phase u (subst (GoesOn setting.codes) (sym e) h.0)
        (subst (λ t. NestUnder setting.codes u.top u.path t.opened) (sym g) (subst (λ n. NestUnder setting.codes u.top n s.tally.opened) (sym f) (same_top setting.codes s.top u.top s.path s.tally.opened w p h.1)))

    if_named_nests : (b : Bool) (n : ℕ) (p : Position) (r : ℕ) (kind : Kind) (vs : List ℤ) (s : PlainStrand) → Goes s → Nests (if_named b n p r kind vs s)
    if_named_nests true n p r kind vs s h = moved_nests s (if_named true n p r kind vs s) refl refl refl tt refl h
    if_named_nests false n p r kind vs s h = tt

    combining_nests : (kind : Option Kind) (n : ℕ) (p : Position) (r : ℕ) (vs : List ℤ) (s : PlainStrand) → Goes s → Nests (combining kind n p r vs s)
    combining_nests None n p r vs s h = moved_nests s (combining None n p r vs s) refl refl refl tt refl h
    combining_nests (Some kind) n p r vs s h = if_named_nests (names_element kind vs) n p r kind vs s h

    performed_nests : (p : Position) (n : ℕ) (op : Operation) (s : PlainStrand) → (enters_others op ≡ true → memo_of setting.codes s.top.procedure ≡ true → may_nest setting.codes ≡ true) → Goes s → Nests (performed setting kit p n op s)
    performed_nests p n (o.Bind x e) s f h = goes_noted n (value_at setting.tables s.top.slots (expression e)) (binding p x) (λ v u i. bound_nests p x v u i) s h
    performed_nests p n (o.Enter x way g es) s f h =
        called_as_nests (memo_of setting.codes g) n way x (Block (next_of p)) g (map expression es.items) s.top.slots s (around_child setting.codes s.top s.path s.tally.opened (f refl) h.1)
    performed_nests p n (o.Read x r) s f h = bound_nests p x _ s h
    performed_nests p n o.Sync s f h = either_nests (is_entry s) s (moved_on p s) (nest_on setting.codes s.phase s h.0 h.1) (moved_nests s (moved_on p s) refl refl refl tt refl h)
    performed_nests p n (o.Update r es) s f h =
        goes_noted n (values_at setting.tables s.top.slots (map expression es.items)) (combining (slice_get setting.kinds r) n p r) (λ vs u i. combining_nests (slice_get setting.kinds r) n p r vs u i) s h
    performed_nests p n (o.If e a b) s f h =
        goes_noted n (value_at setting.tables s.top.slots (expression e)) (choosing p a b) (λ v u i. moved_nests u (choosing p a b v u) refl refl refl tt refl i) s h
    performed_nests p n (o.Loop x low high grain g es) s f h =
        around_noted n (bounds_at setting.tables s.top.slots (expression low) (expression high)) (looping p) (λ r u i. nest_any setting.codes Running (looping p r u) i) s (around_child setting.codes s.top s.path s.tally.opened (f refl) h.1)
    performed_nests p n (o.Return e) s f h = goes_noted n (value_at setting.tables s.top.slots (expression e)) giving (λ v u i. i.1) s h

    outside_of : (a : PlainActivation) (outer : List Position) → IsProcedures (outside_by outer a).work × ((outside_by outer a).procedure ≡ a.procedure)
    outside_of a [] = (tt, refl)
    outside_of a (p ∷ ps) = (tt, refl)

    gone_nests : (p : Position) (i : Option Instruction) (s : PlainStrand) → instruction_inside setting.codes s.top.procedure (length s.top.outer) p ≡ i → Goes s → Nests (gone_by setting kit p i s)
    gone_nests p None s e h = let there = outside_of s.top s.top.outer in moved_nests s (with_top (outside s.top) s) refl refl refl there.0 there.1 h
    gone_nests p (Some i) s e h = performed_nests p i.number i.operation s (nests_there setting.codes s.top.procedure (length s.top.outer) p i e) h

    turn_nests : (j : PlainLoop) (l : Loop) (share : Share) (s : PlainStrand) → Around s → Nests (turn_by setting kit j l share s)
    turn_nests j l share s h = called_as_nests (memo_of setting.codes j.callee) j.number Call None (Turns l (rest_of share)) j.callee (map expression j.arguments) (turn_slots j l share s) s h

    no_loop : (w v : Work) → w ≡ v → (IsProcedures v → ⊥) → IsProcedures w → ⊥
    no_loop w v e f h = f (subst IsProcedures e h)

    worked_nests : (w : Work) (s : PlainStrand) → s.top.work ≡ w → Goes s → Nests (worked setting kit w s)
    worked_nests (Block p) s e h = gone_nests p (instruction_inside setting.codes s.top.procedure (length s.top.outer) p) s refl h
    worked_nests Over s e h = h.1
    worked_nests (Halves l k share) s e h =
        let around : Around s = around_loop setting.codes s.top s.path s.tally.opened (no_loop s.top.work (Halves l k share) e (λ i. i)) h.1 in
        either_nests (k == 0 || nat_le share.count (loop_at setting.codes s.top.procedure l).grain) (with_top (at (Turns l share) s.top) s) (split l (k - 1) share s) (nest_any setting.codes s.phase (with_top (at (Turns l share) s.top) s) around) around
    worked_nests (Second l k share) s e h =
        nest_any setting.codes Running (second_half l k share s) (around_loop setting.codes s.top s.path s.tally.opened (no_loop s.top.work (Second l k share) e (λ i. i)) h.1)
    worked_nests (Turns l share) s e h =
        let around : Around s = around_loop setting.codes s.top s.path s.tally.opened (no_loop s.top.work (Turns l share) e (λ i. i)) h.1 in
        either_nests (share.count == 0) (giving (pos 0) s) _ h.1 (turn_nests (loop_at setting.codes s.top.procedure l) l share s around)

    left_nests : (below : List PlainActivation) (v : ℤ) (s : PlainStrand) → Around s → Nests (left_to below v s)
    left_nests [] v s h = nest_any setting.codes s.phase s h
    left_nests (p ∷ rest) v s h = nest_any setting.codes Running (left_to (p ∷ rest) v s) h

    owned_nests : (b : Bool) (v : ℤ) (s : PlainStrand) → owns_top s ≡ b → NestUnder setting.codes s.top s.path s.tally.opened → Nests (if b then closed setting v s else record s { phase = Leaving v })
    owned_nests true v s e h = under_closed setting.codes setting.program.revisions s.top s.path s.tally.opened s.layer v s.tally refl h
    owned_nests false v s e h = under_left setting.codes s.top s.path s.tally.opened e h

    synced_nests : (v : ℤ) (s : PlainStrand) → s.phase ≡ Returning v → NestUnder setting.codes s.top s.path s.tally.opened → Nests (synced setting v s)
    synced_nests v s e h = either_nests (is_entry s) s _ (nest_on setting.codes s.phase s (subst (GoesOn setting.codes) (sym e) tt) h) (owned_nests (owns_top s) v s refl h)

    advanced_nests : (ph : Phase) (s : PlainStrand) → s.phase ≡ ph → NestAt setting.codes ph s → Nests (advanced_at setting kit ph s)
    advanced_nests Entering s e h = started_by_nests kit s.top.work s refl h
    advanced_nests Running s e h = worked_nests s.top.work s refl (subst (GoesOn setting.codes) (sym e) tt, h)
    advanced_nests AtSpawn s e h = nest_any setting.codes s.phase s h
    advanced_nests (Returning v) s e h = synced_nests v s e h
    advanced_nests (Leaving v) s e h = left_nests s.below v s h
    advanced_nests (Broken f) s e h = subst (λ ph. NestAt setting.codes ph s) (sym e) tt

    pub nests_kept : (s : PlainStrand) → Nests s → Nests (advanced setting kit s)
    nests_kept s h = advanced_nests s.phase s refl h
