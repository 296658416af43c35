-- What is claimed of steps: a claim of those that note events, open a layer or take a record over is one of whatever an instance does that doesn't return.
use Rattle.std.proofs.Common.{◌≡◌, ℕ, zero, suc, ◌/◌, ◌-◌, ◌+◌, Bool, true, false, ◌&&◌, cond, List, [], ◌∷◌, map, Option, Some, None, Result, Ok, Err, refl}
use Rattle.std.specs.Prelude.{ℤ, pos, nat_le, slice_set}
use Rattle.std.specs.Ordering.{int_eq}
use Rattle.meaning.specs.Tree.{Name, bind, enter, read, sync, update, choose, loop, give, Body, end, step, Tree}
use Rattle.meaning.specs.declared.tree.Way.{Way}
use Rattle.meaning.specs.declared.tree.Way.TheVariants.{Call, Spawn}
use Rattle.meaning.specs.declared.FaultKind.{FaultKind}
use Rattle.meaning.specs.Tables.{Tables}
use Rattle.meaning.specs.Elision.{depth_limit}
use Rattle.meaning.specs.Outcome.{Out, Log, Site, Accumulators, Syncs}
use Rattle.meaning.specs.Records.{Kept}
use Rattle.meaning.specs.Values.{value, values}
use Rattle.meaning.specs.Trail.{halvings}
use Rattle.meaning.specs.Statements.{proc_of, job_of, reducers, update_of, bounds, turn_values}
use Rattle.meaning.specs.SmallStep.{seen, has, with_env, on_depth, enter_child, enter_by, memo_answer, layer_of, awaiting, child_name, opened, Start as NamedStart, Frame, Todo, blocks, halves, second, turns, Child, instance, half, Phase as NamedPhase, running, spawning, returning, Parent, Lookup, Step, moved, taken, paused, noting, opening_one, unless, is_entry, led_step, on_answer, on_value, todo_step, enter_step}
use Rattle.positions.specs.Simulation.{IsTaken}

-- a child that is called or spawned
abbrev pub way_step : Tree → Tables → Lookup → Bool → Accumulators → Frame → List Parent → Option ℕ → Name → List ℤ → Todo → Way → ℕ → Step
way_step t tables lookup kit acc fr under into f vs todo Call d = enter_child t tables lookup kit acc fr d false into (instance f vs) todo under
way_step t tables lookup kit acc fr under into f vs todo Spawn d = moved noting [] fr (spawning d into (instance f vs) todo) under

-- it holds of these steps, and of one after an evaluation
pub record IsClaim (P : Step → Type 0) : Type 0 where
  pub notes : (es : Log) (fr : Frame) (ph : NamedPhase) (under : List Parent) → P (moved noting es fr ph under)
  pub opens : (es : Log) (fr : Frame) (ph : NamedPhase) (under : List Parent) → P (moved opening_one es fr ph under)
  pub takes : (es : Log) (k : Kept) (fr : Frame) (ph : NamedPhase) (under : List Parent) → P (taken es k fr ph under)
  pub leads : (es : Log) (st : Step) → P st → P (led_step es st)

module _ (P : Step → Type 0) (claim : IsClaim P) where
  on_answer_has : {A : Type 0} (fr : Frame) (under : List Parent) (site : Site) (r : Result A FaultKind) (next : A → Step) → ((v : A) → P (next v)) → P (on_answer fr under site r next)
  on_answer_has fr under site (Ok v) next h = h v
  on_answer_has fr under site (Err k) next h = claim.notes [] fr _ under

  value_has : {A : Type 0} (fr : Frame) (under : List Parent) (site : Site) (out : Out FaultKind A) (next : A → Step) → ((v : A) → P (next v)) → P (on_value fr under site out next)
  value_has fr under site out next h = claim.leads out.log (on_answer fr under site out.answer next) (on_answer_has fr under site out.answer next h)

  either_has : (b : Bool) (s u : Step) → P s → P u → P (cond b s u)
  either_has true s u h i = h
  either_has false s u h i = i

  module _ (t : Tree) (tables : Tables) (lookup : Lookup) (kit : Bool) (acc : Accumulators) where
    layer_has : (b : Bool) (es : Log) (fr : Frame) (ph : NamedPhase) (under : List Parent) → P (moved (layer_of t tables lookup kit acc b) es fr ph under)
    layer_has true es fr ph under = claim.opens es fr ph under
    layer_has false es fr ph under = claim.notes es fr ph under

    answered_has : (o : Option Kept) (fr : Frame) (f : Name) (vs : List ℤ) (under : List Parent) → P (enter_by t tables lookup kit acc o fr f vs under)
    answered_has (Some k) fr f vs under = claim.takes [] k fr _ under
    answered_has None fr f vs under = layer_has ((proc_of t f).memo && kit) _ _ _ under

    pub enter_has : (fr : Frame) (child : Child) (under : List Parent) → P (enter_step t tables lookup kit acc fr child under)
    enter_has fr (instance f vs) under = answered_has (memo_answer lookup (proc_of t f).memo f vs (depth_limit - fr.left)) fr f vs under
    enter_has fr (half k job count i) under = claim.notes _ fr _ under

    pub way_has : (fr : Frame) (under : List Parent) (site : Site) (into : Option ℕ) (f : Name) (vs : List ℤ) (todo : Todo) (way : Way) (k : ℕ)
        → P (on_depth fr under site k (way_step t tables lookup kit acc fr under into f vs todo way))
    way_has fr under site into f vs todo way zero = claim.notes [] fr _ under
    way_has fr under site into f vs todo Call (suc d) = enter_has (opened t d (instance f vs) (child_name fr)) (instance f vs) (awaiting fr false into todo ∷ under)
    way_has fr under site into f vs todo Spawn (suc d) = claim.notes [] fr _ under

    module _ (m : NamedStart) (fr : Frame) (under : List Parent) where
      -- what is claimed of a sync
      abbrev pub HoldsOfSyncs : Todo → Type 0
      HoldsOfSyncs todo =
          (n : ℕ) (rest : Body) (bs : List Body) → todo ≡ blocks (step n sync rest ∷ bs)
          → P (unless (is_entry m fr.instance) (moved noting (Syncs fr.instance ∷ []) fr (running (blocks (rest ∷ bs))) under))

      abbrev at : ℕ → Site
      at n = record { procedure = fr.here; statement = n }

      -- a child that is entered with these arguments
      call_has : (site : Site) (into : Option ℕ) (f : Name) (todo : Todo) (way : Way) (out : Out FaultKind (List ℤ)) → P (on_value fr under site out (λ vs. on_depth fr under site fr.left (way_step t tables lookup kit acc fr under into f vs todo way)))
      call_has site into f todo way out =
          value_has {A = List ℤ} fr under site out (λ vs. on_depth fr under site fr.left (way_step t tables lookup kit acc fr under into f vs todo way)) (λ vs. way_has fr under site into f vs todo way fr.left)

      pub todo_has : (todo : Todo) → HoldsOfSyncs todo → P (todo_step t tables lookup kit acc m fr todo under)
      todo_has (blocks []) h = claim.notes [] fr _ under
      todo_has (blocks (end ∷ bs)) h = claim.notes [] fr _ under
      todo_has (blocks (step n sync b ∷ bs)) h = h n b bs refl
      todo_has (blocks (step n (bind x e) b ∷ bs)) h =
          value_has {A = ℤ} fr under (at n) (value tables (map seen fr.env) e) (λ v. moved noting [] (with_env fr (slice_set fr.env x (has v))) (running (blocks (b ∷ bs))) under) (λ v. claim.notes [] _ _ under)
      todo_has (blocks (step n (enter x Call f es) b ∷ bs)) h = call_has (at n) x f (blocks (b ∷ bs)) Call (values tables (map seen fr.env) es)
      todo_has (blocks (step n (enter x Spawn f es) b ∷ bs)) h = call_has (at n) x f (blocks (b ∷ bs)) Spawn (values tables (map seen fr.env) es)
      todo_has (blocks (step n (read x r) b ∷ bs)) h = claim.notes [] _ _ under
      todo_has (blocks (step n (update r es) b ∷ bs)) h =
          value_has {A = Unit {0}} fr under (at n) (update_of tables (reducers t) (map seen fr.env) r es) (λ u. moved noting [] fr (running (blocks (b ∷ bs))) under) (λ u. claim.notes [] fr _ under)
      todo_has (blocks (step n (choose e a c) b ∷ bs)) h =
          value_has {A = ℤ} fr under (at n) (value tables (map seen fr.env) e) (λ v. moved noting [] fr (running (blocks (cond (int_eq v (pos 0)) c a ∷ (b ∷ bs)))) under) (λ v. claim.notes [] fr _ under)
      todo_has (blocks (step n (loop x e f grain g es) b ∷ bs)) h =
          value_has {A = ℤ × ℕ} fr under (at n) (bounds tables (map seen fr.env) e f)
          (λ range. enter_child t tables lookup kit acc fr fr.left false None (half halvings (job_of (at n) (map seen fr.env) x g es grain range.0) range.1 0) (blocks (b ∷ bs)) under) (λ range. claim.notes _ _ _ _)
      todo_has (blocks (step n (give e) b ∷ bs)) h = value_has {A = ℤ} fr under (at n) (value tables (map seen fr.env) e) (λ v. moved noting [] fr (returning v) under) (λ v. claim.notes [] fr _ under)
      todo_has (halves zero job count i) h = claim.notes [] fr _ under
      todo_has (halves (suc k) job count i) h =
          either_has (nat_le count job.grain) (moved noting [] fr (running (turns job count i)) under)
          (moved noting [] fr (spawning fr.left None (half k job (count / 2) i) (second k job (count - count / 2) (i + count / 2))) under) (claim.notes [] fr _ under) (claim.notes [] fr _ under)
      todo_has (second k job count i) h = claim.notes _ _ _ _
      todo_has (turns job zero i) h = claim.notes [] fr _ under
      todo_has (turns job (suc count) i) h = call_has job.site None job.callee (turns job count (suc i)) Call (turn_values tables job i)

-- ---- a step is taken

led_taken : (es : Log) (st : Step) → IsTaken st → IsTaken (led_step es st)
led_taken es (moved l fs fr ph under) h = tt
led_taken es (taken fs k fr ph under) h = tt
led_taken es (paused p) h = h

pub is_taken : IsClaim IsTaken
is_taken = record { notes = λ es fr ph under. tt; opens = λ es fr ph under. tt; takes = λ es k fr ph under. tt; leads = led_taken }
