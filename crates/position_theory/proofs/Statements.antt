-- Each statement by numbers is that of the definitions.
use Rattle.std.proofs.Common.{◌≡◌, ℕ, zero, suc, Bool, true, false, if◌then◌else◌, cond, List, [], ◌∷◌, map, length, Option, Some, None, refl, sym, ◌∙◌, ap, subst, arith}
use Rattle.std.specs.Prelude.{Vec, ℤ, pos, slice_get, slice_set}
use Rattle.std.specs.Ordering.{int_eq}
use Rattle.std.specs.declared.alloc.Global.{Global}
use Rattle.std.proofs.lemmas.List.{length-map}
use Rattle.meaning.specs.Tree.{Name, Term, Deed, bind, enter, read, sync, update, choose, loop, give, Body, step, Red}
use Rattle.meaning.specs.declared.tree.Way.{Way}
use Rattle.meaning.specs.declared.tree.Way.TheVariants.{Call, Spawn}
use Rattle.monoid_laws.specs.declared.Kind.{Kind}
use Rattle.monoid_laws.specs.Worth.{Worth}
use Rattle.monoid_laws.specs.Kinds.{names_element, element_of}
use Rattle.meaning.specs.declared.FaultKind.TheVariants.{BadElement}
use Rattle.meaning.specs.Outcome.{Site, Place, Accumulators, Updates, Syncs}
use Rattle.meaning.specs.Values.{value, values}
use Rattle.meaning.specs.Statements.{reducers, numbered as reducer_of, number_of, reading, job_of, bounds, naming, updating}
use Rattle.meaning.specs.Trail.{most_halvings, halvings}
use Rattle.meaning.specs.SmallStep.{seen, has, Start as NamedStart, Frame, blocks, half, Phase as NamedPhase, running, returning, Parent, noting, Step, moved, with_env, on_value, on_depth, enter_child, deed_step, is_entry, unless, todo_step, sync_step}
use Rattle.meaning.specs.Layers.{Notes, noted_top, bottom}
use Rattle.meaning.specs.Tallies.{Tally}
use Rattle.trail_theory.specs.Unflagged.{unflagged_under}
use Rattle.linked_program.specs.declared.code.Expression.{Expression}
use Rattle.linked_program.specs.declared.code.Operation.{Operation}
use Rattle.linked_program.specs.declared.code.Operation.TheVariants as o
use Rattle.linked_program.specs.TableNames.{columned_of}
use Rattle.linked_program.specs.Procedures.{procedures}
use Rattle.linked_program.specs.Links.{with_number}
use Rattle.linked_program.specs.Linked.{Acts, procedure_number, reducer_number, linked_term, linked_deed, linked_body}
use Rattle.linked_program.specs.CodeView.{act, expression, instruction_at}
use Rattle.linked_program.proofs.Numbers.{reducer_is}
use Rattle.evaluation.specs.declared.slot.Slot.TheVariants.{Has}
use Rattle.evaluation.specs.Slots.{meant, env_of}
use Rattle.evaluation.specs.Values.{value_at, values_at, bounds_at}
use Rattle.evaluation.proofs.Meant.{value_is, values_are, bounds_are}
use Rattle.evaluation.proofs.Readings.{value_reads, values_read, bounds_read}
use Rattle.evaluation.proofs.Slots.{set_meant}
use Rattle.positions.specs.declared.work.Position.{Position}
use Rattle.positions.specs.declared.work.Work.TheVariants.{Block}
use Rattle.positions.specs.declared.phase.Phase.TheVariants.{Running, Returning}
use Rattle.positions.specs.declared.start.Start.{Start}
use Rattle.positions.specs.Setting.{Setting, IsLinked, HasItsRecords, by_own_names}
use Rattle.positions.specs.Activations.{PlainActivation, at, next_of, first_of, inside}
use Rattle.positions.specs.Code.{loop_in, loop_as}
use Rattle.positions.specs.Layers as layers
use Rattle.positions.specs.Layers.{PlainLayer, lowest}
use Rattle.positions.specs.Strands.{PlainStrand}
use Rattle.positions.specs.Tallies.{PlainTally}
use Rattle.positions.specs.Advance as plain
use Rattle.positions.specs.Advance.{evaluated, called, moved_on, binding, choosing, looping, giving, combining, if_named, performed}
use Rattle.positions.specs.Stands.{procedure_at, AreNotes, IsTally, IsStart, AreBodies, acts_at, AreParents, StandsFor}
use Rattle.positions.specs.Simulation.{IsTaken}
use Rattle.position_theory.proofs.Beginning.{lookup_of}
use Rattle.position_theory.proofs.Claims.{way_step}
use Rattle.position_theory.proofs.Entering.{frame_with, half_is, called_is}
use Rattle.position_theory.proofs.Evaluations.{strand_at, Comes, evaluated_is, faulted_is, two_parts}
use Rattle.position_theory.proofs.Layering.{top_none, notes_updated, top_noted, bottom_is}
use Rattle.position_theory.proofs.Starts.{start_moved, entry_is}

all_halvings : halvings ≡ most_halvings
unfolding halvings
all_halvings = refl

module _ (setting : Setting) (kit : Bool) (linked : IsLinked (by_own_names setting)) (records : HasItsRecords (by_own_names setting))
    (m : NamedStart) (under : List Parent) (st : Start) (lower : List PlainLayer) (path : Place) (a : PlainActivation) (q : Position) (below : List PlainActivation) (args : List ℤ) (pt : PlainTally) (t : Tally) where
  abbrev top : PlainActivation
  top = at (Block q) a

  abbrev plain_at : PlainLayer → PlainStrand
  plain_at l = record { start = st; layer = l; lower = lower; path = path; top = top; below = below; phase = Running; arguments = args; tally = pt }

  abbrev fr : Frame
  fr = frame_with (by_own_names setting) path top (map meant a.slots)

  module _ (rest : Body) (bs : List Body) (begins : IsStart st Running path m) (hu : AreParents (by_own_names setting) path below (unflagged_under under)) (counts : IsTally (by_own_names setting) pt t)
      (follows : linked_body (columned_of setting.tables) setting.program.tree rest ≡ acts_at (by_own_names setting) a.procedure (length a.outer) (next_of q)) (hb : AreBodies (by_own_names setting) a.procedure a.outer bs)
      (ph : NamedPhase) (n : ℕ) (l : PlainLayer) (ls : List Notes) (hl : AreNotes (by_own_names setting) st (l ∷ lower) ls) where
    abbrev site : Site
    site = record { procedure = (procedure_at (by_own_names setting) a.procedure).called; statement = n }

    -- the strand of numbers stands for what that of the definitions comes to, where that is its next step
    abbrev ByStep : PlainStrand → List Notes → Step → Type 0
    ByStep s ks st' = Comes (by_own_names setting) s (strand_at m ks fr ph under) t st'

    unnoted : (k : PlainLayer) (ks : List Notes) → AreNotes (by_own_names setting) st (k ∷ lower) ks → AreNotes (by_own_names setting) st (k ∷ lower) (noted_top ks [])
    unnoted k ks h = subst (AreNotes (by_own_names setting) st (k ∷ lower)) (sym (top_none ks)) h

    goes_on : (k : PlainLayer) (ks : List Notes) → AreNotes (by_own_names setting) st (k ∷ lower) ks
        → StandsFor (by_own_names setting) (moved_on q (plain_at k)) (strand_at m ks fr (running (blocks (rest ∷ bs))) (unflagged_under under)) t
    goes_on k ks h = record { start = begins; layers = h; tally = counts; now = record { todo = blocks (rest ∷ bs); left = (follows, hb); phase = refl; frame = refl; under = hu } }

    moves_on : (k : PlainLayer) (ks : List Notes) → AreNotes (by_own_names setting) st (k ∷ lower) ks
        → ByStep (moved_on q (plain_at k)) ks (moved noting [] fr (running (blocks (rest ∷ bs))) under)
    moves_on k ks h = goes_on k (noted_top ks []) (unnoted k ks h)

    binds : (x : ℕ) (v : ℤ) (k : PlainLayer) (ks : List Notes) → AreNotes (by_own_names setting) st (k ∷ lower) ks
        → ByStep (binding q x v (plain_at k)) ks (moved noting [] (with_env fr (slice_set fr.env x (has v))) (running (blocks (rest ∷ bs))) under)
    binds x v k ks h = record {
      start = begins;
      layers = unnoted k ks h;
      tally = counts;
      now = record { todo = blocks (rest ∷ bs); left = (follows, hb); phase = refl; frame = ap (with_env fr) (sym (set_meant a.slots x (Has v))); under = hu };
    }

    gives : (v : ℤ) (k : PlainLayer) (ks : List Notes) → AreNotes (by_own_names setting) st (k ∷ lower) ks
        → ByStep (giving v (plain_at k)) ks (moved noting [] fr (returning v) under)
    gives v k ks h = record {
      start = start_moved st Running (Returning v) path path m (λ d w. (refl, w)) begins;
      layers = unnoted k ks h;
      tally = counts;
      now = record { phase = refl; frame = refl; under = hu };
    }

    -- an expression, and then the rest
    valued : (e : Expression) (e' : Term) → linked_term (columned_of setting.tables) e' ≡ expression e → (next : ℤ → PlainStrand → PlainStrand) (s : ℤ → Step) → ((v : ℤ) → IsTaken (s v))
        → ((v : ℤ) (k : PlainLayer) (ks : List Notes) → AreNotes (by_own_names setting) st (k ∷ lower) ks → ByStep (next v (plain_at k)) ks (s v))
        → ByStep (evaluated n (value_at setting.tables a.slots (expression e)) next (plain_at l)) ls (on_value fr under site (value setting.tables (env_of a.slots) e') s)
    valued e e' h next s quiet goes =
        subst (λ out. ByStep (evaluated n out next (plain_at l)) ls (on_value fr under site (value setting.tables (env_of a.slots) e') s))
        (sym (value_is setting.tables a.slots e') ∙ ap (value_at setting.tables a.slots) h)
        (evaluated_is (by_own_names setting) m fr ph under t (plain_at l) n site refl begins counts (value setting.tables (env_of a.slots) e') next s ls (value_reads setting.tables (env_of a.slots) e') hl quiet goes)

    all_valued : (es : List Expression) (es' : List Term) → map (linked_term (columned_of setting.tables)) es' ≡ map expression es → (next : List ℤ → PlainStrand → PlainStrand) (s : List ℤ → Step) → ((vs : List ℤ) → IsTaken (s vs))
        → ((vs : List ℤ) (k : PlainLayer) (ks : List Notes) → AreNotes (by_own_names setting) st (k ∷ lower) ks → ByStep (next vs (plain_at k)) ks (s vs))
        → ByStep (evaluated n (values_at setting.tables a.slots (map expression es)) next (plain_at l)) ls (on_value fr under site (values setting.tables (env_of a.slots) es') s)
    all_valued es es' h next s quiet goes =
        subst (λ out. ByStep (evaluated n out next (plain_at l)) ls (on_value fr under site (values setting.tables (env_of a.slots) es') s))
        (sym (values_are setting.tables a.slots es') ∙ ap (values_at setting.tables a.slots) h)
        (evaluated_is (by_own_names setting) m fr ph under t (plain_at l) n site refl begins counts (values setting.tables (env_of a.slots) es') next s ls (values_read setting.tables (env_of a.slots) es') hl quiet goes)

    bind_is : (x : ℕ) (e : Expression) (e' : Term) → linked_term (columned_of setting.tables) e' ≡ expression e → (acc : Accumulators)
        → ByStep (performed (by_own_names setting) kit q n (o.Bind x e) (plain_at l)) ls (deed_step setting.program.tree setting.tables (lookup_of setting) kit acc fr site (bind x e') (rest ∷ bs) under)
    bind_is x e e' h acc = valued e e' h (binding q x) (λ v. moved noting [] (with_env fr (slice_set fr.env x (has v))) (running (blocks (rest ∷ bs))) under) (λ v. tt) (binds x)

    give_is : (e : Expression) (e' : Term) → linked_term (columned_of setting.tables) e' ≡ expression e → (acc : Accumulators)
        → ByStep (performed (by_own_names setting) kit q n (o.Return e) (plain_at l)) ls (deed_step setting.program.tree setting.tables (lookup_of setting) kit acc fr site (give e') (rest ∷ bs) under)
    give_is e e' h acc = valued e e' h giving (λ v. moved noting [] fr (returning v) under) (λ v. tt) gives

    -- ---- entering

    -- a child of that procedure with those arguments
    abbrev in_step : Way → Option ℕ → Name → Accumulators → List ℤ → Step
    in_step way x f' acc vs = on_depth fr under site fr.left (way_step setting.program.tree setting.tables (lookup_of setting) kit acc fr under x f' vs (blocks (rest ∷ bs)) way)

    enters_by : (way : Way) (x : Option ℕ) (f : ℕ) (f' : Name) (es : List Expression) (es' : List Term) (acc : Accumulators) → procedure_number (procedures setting.program.tree) f' ≡ f → map (linked_term (columned_of setting.tables)) es' ≡ map expression es
        → ByStep (called (by_own_names setting) kit n way x (Block (next_of q)) f (map expression es) a.slots (plain_at l)) ls (on_value fr under site (values setting.tables (env_of a.slots) es') (in_step way x f' acc))
    enters_by way x f f' es es' acc number h =
        called_is (by_own_names setting) kit refl linked records path top (map meant a.slots) x (Block (next_of q)) (blocks (rest ∷ bs)) refl tt below under hu st m begins lower Running ph args pt t counts acc f' f number
        n site refl way (follows, hb) a.slots (map expression es) (values setting.tables (env_of a.slots) es')
        (ap (values_at setting.tables a.slots) (sym h) ∙ values_are setting.tables a.slots es') (values_read setting.tables (env_of a.slots) es') l ls hl

    -- ---- reducers

    both_none : {A B : Type 0} (xs : List A) (ys : List B) (r : ℕ) → length ys ≡ length xs → slice_get xs r ≡ None → slice_get ys r ≡ None
    both_none [] [] zero e h = refl
    both_none [] [] (suc r) e h = refl
    both_none [] (y ∷ ys) r e h = absurd (omega arith)
    both_none (x ∷ xs) [] r e h = absurd (omega arith)
    both_none (x ∷ xs) (y ∷ ys) zero e h = absurd cc
    both_none (x ∷ xs) (y ∷ ys) (suc r) e h = both_none xs ys r (omega arith) h

    reading_by : (acc : Accumulators) (worths : List Worth) (r : ℕ) (red : Option Red) → acc ≡ worths → length worths ≡ length (reducers setting.program.tree) → slice_get (reducers setting.program.tree) r ≡ red
        → reading acc (with_number r red) ≡ number_of (slice_get worths r)
    reading_by acc worths r None e each h = ap number_of (sym (both_none (reducers setting.program.tree) worths r each h))
    reading_by acc worths r (Some red) e each h = ap (λ ws. number_of (slice_get ws r)) e

    found_reducer : (r : ℕ) (r' : Name) → reducer_number (reducers setting.program.tree) r' ≡ r → reducer_of 0 (reducers setting.program.tree) r' ≡ with_number r (slice_get (reducers setting.program.tree) r)
    found_reducer r r' e = sym (reducer_is setting.program.tree r') ∙ ap (λ k. with_number k (slice_get (reducers setting.program.tree) k)) e

    read_is : (x r : ℕ) (r' : Name) → reducer_number (reducers setting.program.tree) r' ≡ r
        → ByStep (performed (by_own_names setting) kit q n (o.Read x r) (plain_at l)) ls (deed_step setting.program.tree setting.tables (lookup_of setting) kit (bottom ls) fr site (read x r') (rest ∷ bs) under)
    read_is x r r' e =
        let low = bottom_is (by_own_names setting) st l lower ls hl in
        let each : length (lowest l lower).worths ≡ length (reducers setting.program.tree) = low.each ∙ ap length low.kinds ∙ length-map (reducers setting.program.tree) (λ r. r.kind) in
        subst (λ v. ByStep (performed (by_own_names setting) kit q n (o.Read x r) (plain_at l)) ls (moved noting [] (with_env fr (slice_set fr.env x (has v))) (running (blocks (rest ∷ bs))) under))
        (sym (ap (reading (bottom ls)) (found_reducer r r' e) ∙ reading_by (bottom ls) (lowest l lower).worths r (slice_get (reducers setting.program.tree) r) low.worths each refl))
        (binds x (plain.reading r (plain_at l)) l ls hl)

    abbrev kind_in : Option Red → Option Kind
    kind_in None = None
    kind_in (Some red) = Some red.kind

    kinds_get : (reds : List Red) (r : ℕ) → slice_get (map (λ x. x.kind) reds) r ≡ kind_in (slice_get reds r)
    kinds_get [] zero = refl
    kinds_get [] (suc r) = refl
    kinds_get (x ∷ reds) zero = refl
    kinds_get (x ∷ reds) (suc r) = kinds_get reds r

    abbrev after_update : Unit {0} → Step
    after_update u = moved noting [] fr (running (blocks (rest ∷ bs))) under

    named_is : (r : ℕ) (kind : Kind) (vs : List ℤ) (b : Bool) (k : PlainLayer) (ks : List Notes) → AreNotes (by_own_names setting) st (k ∷ lower) ks
        → ByStep (if_named b n q r kind vs (plain_at k)) ks (on_value fr under site (naming r kind vs b) after_update)
    named_is r kind vs false k ks h = faulted_is (by_own_names setting) m fr ph under t (plain_at k) n site refl begins counts BadElement k ks h
    named_is r kind vs true k ks h =
        goes_on (layers.updating r kind vs k) (noted_top ks (Updates r kind (element_of kind vs) ∷ []))
        (top_noted (by_own_names setting) st k (layers.updating r kind vs k) lower ks (Updates r kind (element_of kind vs) ∷ []) (λ i. notes_updated (by_own_names setting) k i r kind vs) h)

    combined_is : (r : ℕ) (red : Option Red) (vs : List ℤ) (k : PlainLayer) (ks : List Notes) → AreNotes (by_own_names setting) st (k ∷ lower) ks
        → ByStep (combining (kind_in red) n q r vs (plain_at k)) ks (on_value fr under site (updating (with_number r red) vs) after_update)
    combined_is r None vs k ks h = moves_on k ks h
    combined_is r (Some red) vs k ks h = named_is r red.kind vs (names_element red.kind vs) k ks h

    named_quiet : (r : ℕ) (kind : Kind) (vs : List ℤ) (b : Bool) → IsTaken (on_value fr under site (naming r kind vs b) after_update)
    named_quiet r kind vs true = tt
    named_quiet r kind vs false = tt

    update_quiet : (red : Option (ℕ × Red)) (vs : List ℤ) → IsTaken (on_value fr under site (updating red vs) after_update)
    update_quiet None vs = tt
    update_quiet (Some (r, red)) vs = named_quiet r red.kind vs (names_element red.kind vs)

    update_is : (r : ℕ) (r' : Name) (es : List Expression) (es' : List Term) (acc : Accumulators) → reducer_number (reducers setting.program.tree) r' ≡ r → map (linked_term (columned_of setting.tables)) es' ≡ map expression es
        → ByStep (evaluated n (values_at setting.tables a.slots (map expression es)) (combining (slice_get setting.kinds r) n q r) (plain_at l)) ls (deed_step setting.program.tree setting.tables (lookup_of setting) kit acc fr site (update r' es') (rest ∷ bs) under)
    update_is r r' es es' acc e h =
        let kind : slice_get setting.kinds r ≡ kind_in (slice_get (reducers setting.program.tree) r) = ap (λ ks. slice_get ks r) linked.kinds ∙ kinds_get (reducers setting.program.tree) r in
        subst (λ s. ByStep (evaluated n (values_at setting.tables a.slots (map expression es)) (combining (slice_get setting.kinds r) n q r) (plain_at l)) ls s)
        (sym (two_parts fr under site (updating (reducer_of 0 (reducers setting.program.tree) r')) after_update (values setting.tables (env_of a.slots) es')))
        (all_valued es es' h (combining (slice_get setting.kinds r) n q r) (λ vs. on_value fr under site (updating (reducer_of 0 (reducers setting.program.tree) r') vs) after_update) (update_quiet (reducer_of 0 (reducers setting.program.tree) r'))
        (λ vs k ks i. subst (λ c. ByStep (combining c n q r vs (plain_at k)) ks (on_value fr under site (updating (reducer_of 0 (reducers setting.program.tree) r') vs) after_update)) (sym kind)
        (subst (λ x. ByStep (combining (kind_in (slice_get (reducers setting.program.tree) r)) n q r vs (plain_at k)) ks (on_value fr under site (updating x vs) after_update)) (sym (found_reducer r r' e))
        (combined_is r (slice_get (reducers setting.program.tree) r) vs k ks i))))

    -- ---- blocks and loops

    chosen : (b c : ℕ) (x y : Body) (h : linked_body (columned_of setting.tables) setting.program.tree x ≡ acts_at (by_own_names setting) a.procedure (suc (length a.outer)) (first_of b)) (i : linked_body (columned_of setting.tables) setting.program.tree y ≡ acts_at (by_own_names setting) a.procedure (suc (length a.outer)) (first_of c)) (z : Bool)
        (k : PlainLayer) (ks : List Notes) → AreNotes (by_own_names setting) st (k ∷ lower) ks
        → ByStep (plain.with_top (inside (if z then c else b) q top) (plain_at k)) ks (moved noting [] fr (running (blocks (cond z y x ∷ (rest ∷ bs)))) under)
    chosen b c x y h i true k ks j =
        record { start = begins; layers = unnoted k ks j; tally = counts; now = record { todo = blocks (y ∷ (rest ∷ bs)); left = (i, (follows, hb)); phase = refl; frame = refl; under = hu } }
    chosen b c x y h i false k ks j =
        record { start = begins; layers = unnoted k ks j; tally = counts; now = record { todo = blocks (x ∷ (rest ∷ bs)); left = (h, (follows, hb)); phase = refl; frame = refl; under = hu } }

    choose_is : (e : Expression) (e' : Term) (b c : ℕ) (x y : Body) (acc : Accumulators) → linked_term (columned_of setting.tables) e' ≡ expression e
        → linked_body (columned_of setting.tables) setting.program.tree x ≡ acts_at (by_own_names setting) a.procedure (suc (length a.outer)) (first_of b)
        → linked_body (columned_of setting.tables) setting.program.tree y ≡ acts_at (by_own_names setting) a.procedure (suc (length a.outer)) (first_of c)
        → ByStep (performed (by_own_names setting) kit q n (o.If e b c) (plain_at l)) ls (deed_step setting.program.tree setting.tables (lookup_of setting) kit acc fr site (choose e' x y) (rest ∷ bs) under)
    choose_is e e' b c x y acc h hx hy =
        valued e e' h (choosing q b c) (λ v. moved noting [] fr (running (blocks (cond (int_eq v (pos 0)) y x ∷ (rest ∷ bs)))) under) (λ v. tt) (λ v. chosen b c x y hx hy (int_eq v (pos 0)))

    bounded : (e f : Expression) (e' f' : Term) → linked_term (columned_of setting.tables) e' ≡ expression e → linked_term (columned_of setting.tables) f' ≡ expression f → (next : ℤ × ℕ → PlainStrand → PlainStrand) (s : ℤ × ℕ → Step) → ((v : ℤ × ℕ) → IsTaken (s v))
        → ((v : ℤ × ℕ) (k : PlainLayer) (ks : List Notes) → AreNotes (by_own_names setting) st (k ∷ lower) ks → ByStep (next v (plain_at k)) ks (s v))
        → ByStep (evaluated n (bounds_at setting.tables a.slots (expression e) (expression f)) next (plain_at l)) ls (on_value fr under site (bounds setting.tables (env_of a.slots) e' f') s)
    bounded e f e' f' h i next s quiet goes =
        subst (λ out. ByStep (evaluated n out next (plain_at l)) ls (on_value fr under site (bounds setting.tables (env_of a.slots) e' f') s))
        (sym (bounds_are setting.tables a.slots e' f') ∙ ap (λ z. bounds_at setting.tables a.slots z (linked_term (columned_of setting.tables) f')) h ∙ ap (bounds_at setting.tables a.slots (expression e)) i)
        (evaluated_is (by_own_names setting) m fr ph under t (plain_at l) n site refl begins counts (bounds setting.tables (env_of a.slots) e' f') next s ls (bounds_read setting.tables (env_of a.slots) e' f') hl quiet goes)

    loop_is : (x grain f : ℕ) (low high : Expression) (low' high' : Term) (es : Vec Expression Global) (es' : List Term) (f' : Name) (acc : Accumulators)
        → loop_in (instruction_at setting.codes a.procedure q.block q.index) ≡ loop_as n (o.Loop x low high grain f es)
        → linked_term (columned_of setting.tables) low' ≡ expression low → linked_term (columned_of setting.tables) high' ≡ expression high → map (linked_term (columned_of setting.tables)) es' ≡ map expression es.items → procedure_number (procedures setting.program.tree) f' ≡ f
        → ByStep (performed (by_own_names setting) kit q n (o.Loop x low high grain f es) (plain_at l)) ls (deed_step setting.program.tree setting.tables (lookup_of setting) kit acc fr site (loop x low' high' grain f' es') (rest ∷ bs) under)
    loop_is x grain f low high low' high' es es' f' acc found h i j number =
        bounded low high low' high' h i (looping q)
        (λ range. enter_child setting.program.tree setting.tables (lookup_of setting) kit acc fr fr.left false None (half halvings (job_of site (map seen fr.env) x f' es' grain range.0) range.1 0) (blocks (rest ∷ bs)) under) (λ range. tt)
        (λ range k ks hk. half_is (by_own_names setting) path top (map meant a.slots) None (Block (next_of q)) (blocks (rest ∷ bs)) refl tt below under hu st m begins k lower ks hk Running ph args pt t counts
        a.procedure a.slots (record { block = q.block; index = q.index; low = range.0 }) most_halvings (record { first = 0; count = range.1 }) halvings (job_of site (map seen fr.env) x f' es' grain range.0) range.1 0
        refl (
          record {
            site = ap (λ w. record { procedure = (procedure_at (by_own_names setting) a.procedure).called; statement = w.number }) (sym found);
            env = refl;
            variable = ap (λ w. w.variable) (sym found);
            callee = number ∙ ap (λ w. w.callee) (sym found);
            args = j ∙ ap (λ w. map expression w.arguments) (sym found);
            grain = ap (λ w. w.grain) (sym found);
            low = refl;
          },
          all_halvings,
          refl,
          refl,
        )
        (follows, hb) (lookup_of setting) kit acc)

    -- ---- a statement at its place

    top_syncs : (ks : List Notes) → noted_top ks (Syncs path ∷ []) ≡ ks
    top_syncs [] = refl
    top_syncs (i ∷ ks) = refl

    sync_by : (b : Bool) → StandsFor (by_own_names setting) (plain_at l) (strand_at m ls fr ph under) t
        → ByStep (if b then plain_at l else moved_on q (plain_at l)) ls (unless b (moved noting (Syncs path ∷ []) fr (running (blocks (rest ∷ bs))) under))
    sync_by true h = h
    sync_by false h = goes_on l (noted_top ls (Syncs path ∷ [])) (subst (AreNotes (by_own_names setting) st (l ∷ lower)) (sym (top_syncs ls)) hl)

    sync_is : StandsFor (by_own_names setting) (plain_at l) (strand_at m ls fr ph under) t
        → ByStep (performed (by_own_names setting) kit q n o.Sync (plain_at l)) ls (sync_step setting.program.tree setting.tables (lookup_of setting) kit (bottom ls) m fr (blocks (rest ∷ bs)) under)
    sync_is h =
        subst (λ b. ByStep (if b then plain_at l else moved_on q (plain_at l)) ls (unless (is_entry m path) (moved noting (Syncs path ∷ []) fr (running (blocks (rest ∷ bs))) under)))
        (entry_is st path m begins) (sync_by (is_entry m path) h)

    -- a block of a number, one deeper
    abbrev inner : ℕ → Acts
    inner k = acts_at (by_own_names setting) a.procedure (suc (length a.outer)) (first_of k)

    abbrev ByBody : PlainStrand → Deed → Type 0
    ByBody s d = ByStep s ls (todo_step setting.program.tree setting.tables (lookup_of setting) kit (bottom ls) m fr (blocks (step n d rest ∷ bs)) under)

    pub performed_is : (op : Operation) (d : Deed) → linked_deed (columned_of setting.tables) setting.program.tree d ≡ act inner op
        → loop_in (instruction_at setting.codes a.procedure q.block q.index) ≡ loop_as n op
        → StandsFor (by_own_names setting) (plain_at l) (strand_at m ls fr ph under) t
        → ByBody (performed (by_own_names setting) kit q n op (plain_at l)) d
    performed_is (o.Bind x e) (bind y e') h f here = let same : y ≡ x = cc in subst (λ z. ByBody (performed (by_own_names setting) kit q n (o.Bind x e) (plain_at l)) (bind z e')) (sym same) (bind_is x e e' (cc) (bottom ls))
    performed_is (o.Enter x Call f es) (enter y Call f' es') h fd here = let same : y ≡ x = cc in subst (λ z. ByBody (performed (by_own_names setting) kit q n (o.Enter x Call f es) (plain_at l)) (enter z Call f' es')) (sym same) (enters_by Call x f f' es.items es' (bottom ls) (cc) (cc))
    performed_is (o.Enter x Spawn f es) (enter y Spawn f' es') h fd here = let same : y ≡ x = cc in subst (λ z. ByBody (performed (by_own_names setting) kit q n (o.Enter x Spawn f es) (plain_at l)) (enter z Spawn f' es')) (sym same) (enters_by Spawn x f f' es.items es' (bottom ls) (cc) (cc))
    performed_is (o.Read x r) (read y r') h f here = let same : y ≡ x = cc in subst (λ z. ByBody (performed (by_own_names setting) kit q n (o.Read x r) (plain_at l)) (read z r')) (sym same) (read_is x r r' (cc))
    performed_is o.Sync sync h f here = sync_is here
    performed_is (o.Update r es) (update r' es') h f here = update_is r r' es.items es' (bottom ls) (cc) (cc)
    performed_is (o.If e b c) (choose e' x y) h f here = choose_is e e' b c x y (bottom ls) (cc) (cc) (cc)
    performed_is (o.Loop x low high grain f es) (loop y low' high' grain' f' es') h fd here =
        let same : y ≡ x = cc in
        let grained : grain' ≡ grain = cc in
        subst (λ z. ByBody (performed (by_own_names setting) kit q n (o.Loop x low high grain f es) (plain_at l)) (loop z low' high' grain' f' es')) (sym same)
        (subst (λ z. ByBody (performed (by_own_names setting) kit q n (o.Loop x low high grain f es) (plain_at l)) (loop x low' high' z f' es')) (sym grained)
        (loop_is x grain f low high low' high' es es' f' (bottom ls) fd (cc) (cc) (cc) (cc)))
    performed_is (o.Return e) (give e') h f here = give_is e e' (cc) (bottom ls)
    performed_is op d h f here = absurd cc
