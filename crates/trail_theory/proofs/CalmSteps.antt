-- Where no procedure reads a reducer, no strand comes to stand at a read.
use Rattle.std.proofs.Common.{ℕ, zero, suc, ◌-◌, List, [], ◌∷◌, Option, Some, None, Result, Ok, Err, ℤ, pos, subst, true, false, Bool, cond, map}
use Rattle.std.specs.Prelude.{nat_le}
use Rattle.std.specs.Ordering.{int_eq}
use Rattle.meaning.specs.Tree.{Name, bind, enter, read, sync, update, choose, loop, give, Body, end, step, Tree}
use Rattle.meaning.specs.declared.tree.Way.TheVariants.{Call, Spawn}
use Rattle.meaning.specs.declared.FaultKind.{FaultKind}
use Rattle.meaning.specs.Tables.{Tables}
use Rattle.meaning.specs.Outcome.{Log, Accumulators, Place, Site, Out}
use Rattle.meaning.specs.Values.{value, values}
use Rattle.meaning.specs.Statements.{reducers, job_of, proc_of, update_of, bounds, turn_values}
use Rattle.meaning.specs.Elision.{depth_limit}
use Rattle.meaning.specs.Records.{Kept}
use Rattle.meaning.specs.Trail.{halvings}
use Rattle.meaning.specs.SmallStep.{seen, Start, is_entry, Frame, Todo, blocks, halves, second, turns, Child, instance, half, Phase, entering, running, spawning, returning, leaving, broken, Parent, Step, moved, taken, paused, led_step, unless, on_answer, on_value, on_depth, Lookup, memo_answer, opened, child_name, awaiting, enter_by, enter_step, enter_child, todo_step, micro}
use Rattle.trail_theory.specs.Order.{Every}
use Rattle.trail_theory.specs.Waiting.{NoReads, HasNoReads}
use Rattle.meaning.specs.LayeredStrand.{LayeredStrand, advanced, settled_under}
use Rattle.meaning.specs.Layers.{bottom}
use Rattle.trail_theory.specs.Right.{Sees}
use Rattle.trail_theory.specs.Calm.{IsCalmTodo, IsCalmPhase, AreCalm, IsCalm, CalmStays}

abbrev IsCalmStep : Step → Type 0
IsCalmStep (moved l evs fr ph t) = IsCalmPhase ph × AreCalm t
IsCalmStep (taken evs k fr ph t) = IsCalmPhase ph × AreCalm t
IsCalmStep (paused p) = Unit {0}

led_calm : (es : Log) (s : Step) → IsCalmStep s → IsCalmStep (led_step es s)
led_calm es (moved l evs fr ph t) h = h
led_calm es (taken evs k fr ph t) h = h
led_calm es (paused p) h = h

unless_calm : (b : Bool) (s : Step) → IsCalmStep s → IsCalmStep (unless b s)
unless_calm true s h = tt
unless_calm false s h = h

on_answer_calm : {A : Type 0} (fr : Frame) (t : List Parent) (site : Site) (r : Result A FaultKind) (next : A → Step) → AreCalm t → ((a : A) → IsCalmStep (next a)) → IsCalmStep (on_answer fr t site r next)
on_answer_calm fr t site (Ok a) next c h = h a
on_answer_calm fr t site (Err k) next c h = (tt, c)

value_calm : {A : Type 0} (fr : Frame) (t : List Parent) (site : Site) (o : Out FaultKind A) (next : A → Step) → AreCalm t → ((a : A) → IsCalmStep (next a)) → IsCalmStep (on_value fr t site o next)
value_calm fr t site o next c h = led_calm o.log (on_answer fr t site o.answer next) (on_answer_calm fr t site o.answer next c h)

depth_calm : (fr : Frame) (t : List Parent) (site : Site) (d : ℕ) (next : ℕ → Step) → AreCalm t → ((d : ℕ) → IsCalmStep (next d)) → IsCalmStep (on_depth fr t site d next)
depth_calm fr t site zero next c h = (tt, c)
depth_calm fr t site (suc d) next c h = h d

cond_calm : (b : Bool) (x y : Step) → IsCalmStep x → IsCalmStep y → IsCalmStep (cond b x y)
cond_calm true x y h k = h
cond_calm false x y h k = k

branch_calm : (b : Bool) (x y : Body) (bs : List Body) → NoReads x → NoReads y → Every NoReads bs → Every NoReads (cond b x y ∷ bs)
branch_calm true x y bs h k c = (h, c)
branch_calm false x y bs h k c = (k, c)

settled_calm : (e : Place) (v : ℤ) (t : List Parent) → AreCalm t → AreCalm (settled_under e v t)
settled_calm e v [] h = tt
settled_calm e v (p ∷ t) h = (h.0, settled_calm e v t h.1)

module _ (program : Tree) (tables : Tables) (lookup : Lookup) (none : HasNoReads program) where
  module _ (kit : Bool) (acc : Accumulators) where
    by_calm : (o : Option Kept) (fr : Frame) (f : Name) (vs : List ℤ) (t : List Parent) → AreCalm t → IsCalmStep (enter_by program tables lookup kit acc o fr f vs t)
    by_calm (Some k) fr f vs t c = (tt, c)
    by_calm None fr f vs t c = ((none f, tt), c)

    enter_calm : (fr : Frame) (child : Child) (t : List Parent) → AreCalm t → IsCalmStep (enter_step program tables lookup kit acc fr child t)
    enter_calm fr (instance f vs) t c = by_calm (memo_answer lookup (proc_of program f).memo f vs (depth_limit - fr.left)) fr f vs t c
    enter_calm fr (half k job count i) t c = (tt, c)

    child_calm : (fr : Frame) (d : ℕ) (spawned : Bool) (x : Option ℕ) (child : Child) (todo : Todo) (t : List Parent) → IsCalmTodo todo → AreCalm t → IsCalmStep (enter_child program tables lookup kit acc fr d spawned x child todo t)
    child_calm fr d spawned x child todo t h c = enter_calm (opened program d child (child_name fr)) child (awaiting fr spawned x todo ∷ t) (h, c)

    todo_calm : (m : Start) (fr : Frame) (todo : Todo) (t : List Parent) → IsCalmTodo todo → AreCalm t → IsCalmStep (todo_step program tables lookup kit acc m fr todo t)
    todo_calm m fr (blocks []) t h c = (tt, c)
    todo_calm m fr (blocks (end ∷ bs)) t h c = (h.1, c)
    todo_calm m fr (blocks (step s sync b ∷ bs)) t h c = unless_calm (is_entry m fr.instance) _ ((h.0.1, h.1), c)
    todo_calm m fr (blocks (step s (bind x e) b ∷ bs)) t h c = value_calm fr t _ (value tables (map seen fr.env) e) _ c (λ v. ((h.0.1, h.1), c))
    todo_calm m fr (blocks (step s (enter x Call f es) b ∷ bs)) t h c =
        value_calm fr t _ (values tables (map seen fr.env) es) _ c (λ vs. depth_calm fr t _ fr.left _ c (λ d. child_calm fr d false x (instance f vs) (blocks (b ∷ bs)) t (h.0.1, h.1) c))
    todo_calm m fr (blocks (step s (enter x Spawn f es) b ∷ bs)) t h c =
        value_calm fr t _ (values tables (map seen fr.env) es) _ c (λ vs. depth_calm fr t _ fr.left _ c (λ d. ((h.0.1, h.1), c)))
    todo_calm m fr (blocks (step s (read x r) b ∷ bs)) t h c = absurd h.0.0
    todo_calm m fr (blocks (step s (update r es) b ∷ bs)) t h c = value_calm fr t _ (update_of tables (reducers program) (map seen fr.env) r es) _ c (λ u. ((h.0.1, h.1), c))
    todo_calm m fr (blocks (step s (choose e x y) b ∷ bs)) t h c =
        value_calm fr t _ (value tables (map seen fr.env) e) _ c (λ v. (branch_calm (int_eq v (pos 0)) y x (b ∷ bs) h.0.0.1 h.0.0.0 (h.0.1, h.1), c))
    todo_calm m fr (blocks (step s (loop x e e' grain f es) b ∷ bs)) t h c =
        value_calm fr t _ (bounds tables (map seen fr.env) e e') _ c (λ range. child_calm fr fr.left false None (half halvings (job_of (record { procedure = fr.here; statement = s }) (map seen fr.env) x f es grain range.0) range.1 0) (blocks (b ∷ bs)) t (h.0.1, h.1) c)
    todo_calm m fr (blocks (step s (give e) b ∷ bs)) t h c = value_calm fr t _ (value tables (map seen fr.env) e) _ c (λ v. (tt, c))
    todo_calm m fr (halves zero job count i) t h c = (tt, c)
    todo_calm m fr (halves (suc k) job count i) t h c = cond_calm (nat_le count job.grain) _ _ (tt, c) (tt, c)
    todo_calm m fr (second k job count i) t h c = child_calm fr fr.left false None (half k job count i) (blocks []) t tt c
    todo_calm m fr (turns job zero i) t h c = (tt, c)
    todo_calm m fr (turns job (suc count) i) t h c =
        value_calm fr t job.site (turn_values tables job i) _ c (λ vs. depth_calm fr t job.site fr.left _ c (λ d. child_calm fr d false None (instance job.callee vs) (turns job count (suc i)) t tt c))

    micro_calm : (m : Start) (fr : Frame) (ph : Phase) (t : List Parent) → IsCalmPhase ph → AreCalm t → IsCalmStep (micro program tables lookup kit acc m fr ph t)
    micro_calm m fr (entering child) t h c = enter_calm fr child t c
    micro_calm m fr (running todo) t h c = todo_calm m fr todo t h c
    micro_calm m fr (spawning d x child todo) t h c = tt
    micro_calm m fr (returning v) t h c = unless_calm (is_entry m fr.instance) _ (tt, c)
    micro_calm m fr (leaving v) [] h c = tt
    micro_calm m fr (leaving v) (p ∷ t) h c = (c.0, c.1)
    micro_calm m fr (broken k) t h c = tt

  advanced_calm : (s : LayeredStrand) (st : Step) → IsCalm s → IsCalmStep st → IsCalm (advanced program s st)
  advanced_calm s (moved l evs fr ph t) h c = c
  advanced_calm s (taken evs k fr ph t) h c = c
  advanced_calm s (paused p) h c = h

  sees_calm : (acc sight : Accumulators) (ph : Phase) → IsCalmPhase ph → Sees acc sight ph
  sees_calm acc sight (entering child) h = tt
  sees_calm acc sight (running (blocks [])) h = tt
  sees_calm acc sight (running (blocks (end ∷ bs))) h = tt
  sees_calm acc sight (running (blocks (step s (bind x e) b ∷ bs))) h = tt
  sees_calm acc sight (running (blocks (step s (enter x w f es) b ∷ bs))) h = tt
  sees_calm acc sight (running (blocks (step s (read x r) b ∷ bs))) h = absurd h.0.0
  sees_calm acc sight (running (blocks (step s sync b ∷ bs))) h = tt
  sees_calm acc sight (running (blocks (step s (update r es) b ∷ bs))) h = tt
  sees_calm acc sight (running (blocks (step s (choose e x y) b ∷ bs))) h = tt
  sees_calm acc sight (running (blocks (step s (loop x e f g c es) b ∷ bs))) h = tt
  sees_calm acc sight (running (blocks (step s (give e) b ∷ bs))) h = tt
  sees_calm acc sight (running (halves k job count i)) h = tt
  sees_calm acc sight (running (second k job count i)) h = tt
  sees_calm acc sight (running (turns job count i)) h = tt
  sees_calm acc sight (spawning d x child todo) h = tt
  sees_calm acc sight (returning v) h = tt
  sees_calm acc sight (leaving v) h = tt
  sees_calm acc sight (broken k) h = tt

  pub calm_stays : CalmStays program tables lookup
  calm_stays =
      record {
        begins = (tt, tt);
        sees = λ acc sight s h. sees_calm acc sight s.phase h.0;
        advances = λ kit s h. advanced_calm s (micro program tables lookup kit (bottom s.layers) s.start s.frame s.phase s.under) h (micro_calm kit (bottom s.layers) s.start s.frame s.phase s.under h.0 h.1);
        inlines = λ s d x child todo e h. (tt, (subst IsCalmPhase e h.0, h.1));
        detaches = λ s d child. (tt, tt);
        continues = λ s d x child todo e h. (subst IsCalmPhase e h.0, h.1);
        steals = λ k h. h;
        pops = λ s k v h. h;
        joins = λ l r v h. (h.0, settled_calm l.frame.instance v r.under h.1);
      }
