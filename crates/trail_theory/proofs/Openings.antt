-- What a small step does to the instances that have a layer: it opens one for an instance that it enters, or leaves them.
use Rattle.std.proofs.Common.{ℕ, zero, suc, ◌-◌, ◌<◌, List, [], ◌∷◌, ◌++◌, Option, Some, None, Result, Ok, Err, ℤ, pos, ◌≡◌, refl, sym, ap, ◌∙◌, subst, arith, append_assoc, map, true, false, Bool, cond, ◌&&◌}
use Rattle.std.specs.Prelude.{nat_le, ◌+ℤ◌}
use Rattle.meaning.specs.Tree.{Name, bind, enter, read, sync, update, choose, loop, give, end, step, Tree}
use Rattle.meaning.specs.declared.tree.Way.TheVariants.{Call, Spawn}
use Rattle.meaning.specs.declared.FaultKind.{FaultKind}
use Rattle.meaning.specs.Tables.{Tables, is_there}
use Rattle.meaning.specs.Outcome.{Out, Log, Accumulators, Site, Place, Begins, Marks, Enters}
use Rattle.meaning.specs.Values.{put, value, values}
use Rattle.meaning.specs.Statements.{reducers, proc_of, job_of, turn_values, update_of, bounds}
use Rattle.meaning.specs.Elision.{depth_limit}
use Rattle.meaning.specs.Records.{Kept}
use Rattle.meaning.specs.Trail.{child_of, mark, opening, halvings}
use Rattle.meaning.specs.SmallStep.{seen, Start, is_entry, Frame, Todo, blocks, halves, second, turns, Child, instance, half, Phase, running, Parent, child_name, awaiting, noting, opening_one, closing_one, Step, moved, taken, paused, led_step, unless, on_answer, on_value, on_depth, Lookup, look_of, memo_answer, first_todo, opened, with_layer, layer_of, enter_by, enter_step, enter_child, todo_step}
use Rattle.trail_theory.specs.Counts.{reuses}
use Rattle.trail_theory.specs.Order.{Every}
use Rattle.trail_theory.specs.TaskFits.{Higher, Spot}
use Rattle.trail_theory.specs.Right.{IsRecorded}
use Rattle.trail_theory.specs.MainReads.{IsNotMain}
use Rattle.trail_theory.specs.OpenLayers.{recorded_by, recorded_under, recorded_in, AreShallow, IsShallow}
use Rattle.trail_theory.proofs.Places.{every_append, child_above}
use Rattle.trail_theory.proofs.Keys.{reuses_append, unmarked_keys}
use Rattle.trail_theory.proofs.Unmarked.{told_unmarked}
use Rattle.trail_theory.proofs.Synced.{not_main}
use Rattle.trail_theory.proofs.Evaluations.{Told, Calm, calm_value, calm_values, calm_update, calm_bounds}

pub told_reuses : (es : Log) → Every Told es → reuses es ≡ []
told_reuses es h = sym (unmarked_keys [] es (told_unmarked es h)).reused_are

module _ (program : Tree) (lookup : Lookup) where
  -- where no record answers, the entering isn't marked as answered
  pub opening_reuses : (f : Name) (vs : List ℤ) (d : ℕ) (n : Place) (b : Bool) (ans : Option Kept) → lookup f vs d ≡ ans → cond b ans None ≡ None → reuses (Begins n d ∷ (mark (look_of lookup) f vs d b ++ Enters f vs d ∷ [])) ≡ []
  opening_reuses f vs d n false ans e z = refl
  opening_reuses f vs d n true None e z = ap (λ o. reuses (Begins n d ∷ (Marks f vs (is_there o) ∷ Enters f vs d ∷ []))) e
  opening_reuses f vs d n true (Some k) e z = absurd cc

module _ (program : Tree) (lookup : Lookup) (m : Start) where
  -- an instance is entered in a layer of its own
  pub record OpensBy (evs : Log) (fr : Frame) (ph : Phase) : Type 0 where
    pub ahead : Log
    pub of : Name
    pub args : List ℤ
    pub told : Every Told ahead
    pub events : evs ≡ ahead ++ opening program (look_of lookup) fr.left of args fr.instance
    pub frame : fr ≡ with_layer true (opened program fr.left (instance of args) fr.instance)
    pub phase : ph ≡ running (first_todo program (instance of args))
    pub memo : IsRecorded program of
    pub unanswered : lookup of args (depth_limit - fr.left) ≡ None
    pub high : Higher m fr.instance
    pub inside : IsNotMain fr.instance

  -- main is entered in no layer of its own
  abbrev pub Apart : Child → Place → Type 0
  Apart (instance f vs) n = IsRecorded program f → IsNotMain n
  Apart (half k job count i) n = Unit {0}

  child_apart : (child : Child) (n : Place) (c : ℕ) → Apart child (child_of n c)
  child_apart (instance f vs) n c = λ memo. not_main n c
  child_apart (half k job count i) n c = tt

  -- a step from where these instances have a layer
  abbrev pub LayersKept : List Place → Step → Type 0
  LayersKept ns (moved noting evs fr ph t) = IsShallow fr ph t × ((recorded_in fr ph t ≡ ns) × (reuses evs ≡ []))
  LayersKept ns (moved opening_one evs fr ph t) = IsShallow fr ph t × ((recorded_in fr ph t ≡ fr.instance ∷ ns) × OpensBy evs fr ph)
  LayersKept ns (moved closing_one evs fr ph t) = ⊥
  LayersKept ns (taken evs k fr ph t) = IsShallow fr ph t × ((recorded_in fr ph t ≡ ns) × Every Told evs)
  LayersKept ns (paused p) = Unit {0}

  led_opens : (es evs : Log) (fr : Frame) (ph : Phase) → Every Told es → OpensBy evs fr ph → OpensBy (es ++ evs) fr ph
  led_opens es evs fr ph c h =
      record {
        ahead = es ++ h.ahead;
        of = h.of;
        args = h.args;
        told = every_append Told es h.ahead c h.told;
        events = ap (λ w. es ++ w) h.events ∙ sym (append_assoc es h.ahead _);
        frame = h.frame;
        phase = h.phase;
        memo = h.memo;
        unanswered = h.unanswered;
        high = h.high;
        inside = h.inside;
      }

  led_layers : (ns : List Place) (es : Log) (s : Step) → Every Told es → LayersKept ns s → LayersKept ns (led_step es s)
  led_layers ns es (moved noting evs fr ph t) c h = (h.0, (h.1.0, reuses_append es evs ∙ ap (λ w. w ++ reuses evs) (told_reuses es c) ∙ h.1.1))
  led_layers ns es (moved opening_one evs fr ph t) c h = (h.0, (h.1.0, led_opens es evs fr ph c h.1.1))
  led_layers ns es (moved closing_one evs fr ph t) c h = h
  led_layers ns es (taken evs k fr ph t) c h = (h.0, (h.1.0, every_append Told es evs c h.1.1))
  led_layers ns es (paused p) c h = tt

  unless_layers : (ns : List Place) (b : Bool) (s : Step) → LayersKept ns s → LayersKept ns (unless b s)
  unless_layers ns true s h = tt
  unless_layers ns false s h = h

  -- the instance stands so far down, with these below it
  module _ (fr : Frame) (t : List Parent) (deep : fr.left < depth_limit) (shallow : AreShallow t) where
    abbrev here : List Place
    here = recorded_by fr.recorded fr.instance (recorded_under t)

    on_answer_layers : {A : Type 0} (site : Site) (r : Result A FaultKind) (next : A → Step) → ((a : A) → LayersKept here (next a)) → LayersKept here (on_answer fr t site r next)
    on_answer_layers site (Ok a) next h = h a
    on_answer_layers site (Err k) next h = ((deep, (tt, shallow)), (refl, refl))

    value_layers : {A : Type 0} (site : Site) (o : Out FaultKind A) (next : A → Step) → Calm o → ((a : A) → LayersKept here (next a)) → LayersKept here (on_value fr t site o next)
    value_layers site o next c h = led_layers here o.log (on_answer fr t site o.answer next) c (on_answer_layers site o.answer next h)

    depth_layers : (site : Site) (d : ℕ) (next : ℕ → Step) → d < depth_limit → ((e : ℕ) → e < depth_limit → LayersKept here (next e)) → LayersKept here (on_depth fr t site d next)
    depth_layers site zero next l h = ((deep, (tt, shallow)), (refl, refl))
    depth_layers site (suc e) next l h = h e (omega (arith, l))

  cond_layers : (ns : List Place) (b : Bool) (x y : Step) → LayersKept ns x → LayersKept ns y → LayersKept ns (cond b x y)
  cond_layers ns true x y h k = h
  cond_layers ns false x y h k = k

  module _ (tables : Tables) (kit : Bool) (acc : Accumulators) where
    -- an instance that no record answers
    enter_open : (d : ℕ) (f : Name) (vs : List ℤ) (n : Place) (t : List Parent) → d < depth_limit → AreShallow t → Higher m n → (IsRecorded program f → IsNotMain n) → (memo b : Bool) → (proc_of program f).memo ≡ memo → lookup f vs (depth_limit - d) ≡ None
        → LayersKept (recorded_under t) (moved (layer_of program tables lookup kit acc (memo && b)) (opening program (look_of lookup) d f vs n) (with_layer (memo && b) (opened program d (instance f vs) n)) (running (first_todo program (instance f vs))) t)
    enter_open d f vs n t deep shallow high apart false b q e = ((deep, (tt, shallow)), (refl, opening_reuses program lookup f vs (depth_limit - d) n (proc_of program f).memo None e (ap (λ c. cond c None None) q)))
    enter_open d f vs n t deep shallow high apart true false q e = ((deep, (tt, shallow)), (refl, opening_reuses program lookup f vs (depth_limit - d) n (proc_of program f).memo None e (ap (λ c. cond c None None) q)))
    enter_open d f vs n t deep shallow high apart true true q e =
        ((deep, (tt, shallow)), (refl, record { ahead = []; of = f; args = vs; told = tt; events = refl; frame = refl; phase = refl; memo = q; unanswered = e; high = high; inside = apart q }))

    enter_plain : (d : ℕ) (f : Name) (vs : List ℤ) (n : Place) (t : List Parent) → d < depth_limit → AreShallow t → (proc_of program f).memo ≡ false
        → LayersKept (recorded_under t) (moved (layer_of program tables lookup kit acc false) (opening program (look_of lookup) d f vs n) (with_layer false (opened program d (instance f vs) n)) (running (first_todo program (instance f vs))) t)
    enter_plain d f vs n t deep shallow q = ((deep, (tt, shallow)), (refl, opening_reuses program lookup f vs (depth_limit - d) n (proc_of program f).memo (lookup f vs (depth_limit - d)) refl (ap (λ c. cond c (lookup f vs (depth_limit - d)) None) q)))

    enter_case : (d : ℕ) (f : Name) (vs : List ℤ) (n : Place) (t : List Parent) → d < depth_limit → AreShallow t → Higher m n → (IsRecorded program f → IsNotMain n) → (memo : Bool) → (proc_of program f).memo ≡ memo → (ans : Option Kept) → lookup f vs (depth_limit - d) ≡ ans
        → LayersKept (recorded_under t) (enter_by program tables lookup kit acc (memo_answer lookup memo f vs (depth_limit - d)) (opened program d (instance f vs) n) f vs t)
    enter_case d f vs n t deep shallow high apart false q ans p =
        subst (λ b. LayersKept (recorded_under t) (moved (layer_of program tables lookup kit acc b) (opening program (look_of lookup) d f vs n) (with_layer b (opened program d (instance f vs) n)) (running (first_todo program (instance f vs))) t)) (sym (ap (λ b. b && kit) q)) (enter_plain d f vs n t deep shallow q)
    enter_case d f vs n t deep shallow high apart true q None p =
        subst (λ o. LayersKept (recorded_under t) (enter_by program tables lookup kit acc o (opened program d (instance f vs) n) f vs t)) (sym p)
        (subst (λ b. LayersKept (recorded_under t) (moved (layer_of program tables lookup kit acc b) (opening program (look_of lookup) d f vs n) (with_layer b (opened program d (instance f vs) n)) (running (first_todo program (instance f vs))) t)) (sym (ap (λ b. b && kit) q)) (enter_open d f vs n t deep shallow high apart true kit q p))
    enter_case d f vs n t deep shallow high apart true q (Some k) p =
        subst (λ o. LayersKept (recorded_under t) (enter_by program tables lookup kit acc o (opened program d (instance f vs) n) f vs t)) (sym p) ((deep, (tt, shallow)), (refl, tt))

    pub enter_layers : (d : ℕ) (child : Child) (n : Place) (t : List Parent) → d < depth_limit → AreShallow t → Higher m n → Apart child n → LayersKept (recorded_under t) (enter_step program tables lookup kit acc (opened program d child n) child t)
    enter_layers d (instance f vs) n t deep shallow high apart = enter_case d f vs n t deep shallow high apart (proc_of program f).memo refl (lookup f vs (depth_limit - d)) refl
    enter_layers d (half k job count i) n t deep shallow high apart = ((deep, (tt, shallow)), (refl, refl))

    module _ (fr : Frame) (t : List Parent) (deep : fr.left < depth_limit) (shallow : AreShallow t) (spot : Spot m fr.instance fr.next) where
      abbrev ns : List Place
      ns = recorded_by fr.recorded fr.instance (recorded_under t)

      child_layers : (d : ℕ) → d < depth_limit → (spawned : Bool) (x : Option ℕ) (child : Child) (todo : Todo) → LayersKept ns (enter_child program tables lookup kit acc fr d spawned x child todo t)
      child_layers d l spawned x child todo = enter_layers d child (child_name fr) (awaiting fr spawned x todo ∷ t) l (deep, shallow) (child_above m fr.instance fr.next spot) (child_apart child fr.instance fr.next)

      at_value : {A : Type 0} (site : Site) (o : Out FaultKind A) (next : A → Step) → Calm o → ((a : A) → LayersKept ns (next a)) → LayersKept ns (on_value fr t site o next)
      at_value site o next c h = value_layers fr t deep shallow site o next c h

      at_depth : (site : Site) (next : ℕ → Step) → ((e : ℕ) → e < depth_limit → LayersKept ns (next e)) → LayersKept ns (on_depth fr t site fr.left next)
      at_depth site next h = depth_layers fr t deep shallow site fr.left next deep h

      pub todo_layers : (todo : Todo) → LayersKept ns (todo_step program tables lookup kit acc m fr todo t)
      todo_layers (blocks []) = ((deep, (tt, shallow)), (refl, refl))
      todo_layers (blocks (end ∷ bs)) = ((deep, (tt, shallow)), (refl, refl))
      todo_layers (blocks (step s sync b ∷ bs)) = unless_layers ns (is_entry m fr.instance) _ ((deep, (tt, shallow)), (refl, refl))
      todo_layers (blocks (step s (bind x e) b ∷ bs)) = at_value _ (value tables (map seen fr.env) e) _ (calm_value tables (map seen fr.env) e) (λ v. ((deep, (tt, shallow)), (refl, refl)))
      todo_layers (blocks (step s (enter x Call f es) b ∷ bs)) =
          at_value _ (values tables (map seen fr.env) es) _ (calm_values tables (map seen fr.env) es) (λ vs. at_depth _ _ (λ d l. child_layers d l false x (instance f vs) (blocks (b ∷ bs))))
      todo_layers (blocks (step s (enter x Spawn f es) b ∷ bs)) =
          at_value _ (values tables (map seen fr.env) es) _ (calm_values tables (map seen fr.env) es) (λ vs. at_depth _ _ (λ d l. ((deep, (l, shallow)), (refl, refl))))
      todo_layers (blocks (step s (read x r) b ∷ bs)) = ((deep, (tt, shallow)), (refl, refl))
      todo_layers (blocks (step s (update r es) b ∷ bs)) = at_value _ (update_of tables (reducers program) (map seen fr.env) r es) _ (calm_update tables (reducers program) (map seen fr.env) r es) (λ u. ((deep, (tt, shallow)), (refl, refl)))
      todo_layers (blocks (step s (choose e x y) b ∷ bs)) = at_value _ (value tables (map seen fr.env) e) _ (calm_value tables (map seen fr.env) e) (λ v. ((deep, (tt, shallow)), (refl, refl)))
      todo_layers (blocks (step s (loop x e e' grain f es) b ∷ bs)) =
          at_value _ (bounds tables (map seen fr.env) e e') _ (calm_bounds tables (map seen fr.env) e e') (λ range. child_layers fr.left deep false None (half halvings (job_of (record { procedure = fr.here; statement = s }) (map seen fr.env) x f es grain range.0) range.1 0) (blocks (b ∷ bs)))
      todo_layers (blocks (step s (give e) b ∷ bs)) = at_value _ (value tables (map seen fr.env) e) _ (calm_value tables (map seen fr.env) e) (λ v. ((deep, (tt, shallow)), (refl, refl)))
      todo_layers (halves zero job count i) = ((deep, (tt, shallow)), (refl, refl))
      todo_layers (halves (suc k) job count i) = cond_layers ns (nat_le count job.grain) _ _ ((deep, (tt, shallow)), (refl, refl)) ((deep, (deep, shallow)), (refl, refl))
      todo_layers (second k job count i) = child_layers fr.left deep false None (half k job count i) (blocks [])
      todo_layers (turns job zero i) = ((deep, (tt, shallow)), (refl, refl))
      todo_layers (turns job (suc count) i) =
          at_value job.site (turn_values tables job i) _ (calm_values tables (put job.env job.variable (job.low +ℤ pos i)) job.args) (λ vs. at_depth job.site _ (λ d l. child_layers d l false None (instance job.callee vs) (turns job count (suc i))))
