-- Each small step keeps where a strand's instances stand among the reads of main.
use Rattle.std.proofs.Common.{ℕ, zero, suc, ◌-◌, List, [], ◌∷◌, ◌++◌, Option, Some, None, Result, Ok, Err, ℤ, pos, ◌≡◌, inl, inr, refl, sym, ap, ◌∙◌, subst, append_assoc, true, false, Bool, cond, ◌&&◌, map}
use Rattle.std.specs.Prelude.{nat_le}
use Rattle.std.specs.Ordering.{int_eq}
use Rattle.meaning.specs.Tree.{Name, Deed, bind, enter, read, sync, update, choose, loop, give, Body, end, step, Tree}
use Rattle.meaning.specs.declared.tree.Way.TheVariants.{Call, Spawn}
use Rattle.meaning.specs.declared.FaultKind.{FaultKind}
use Rattle.meaning.specs.Tables.{Tables}
use Rattle.meaning.specs.Outcome.{Log, Accumulators, Place, Site, Out, Begins, Syncs, Leaves, Spawns}
use Rattle.meaning.specs.Values.{put, value, values}
use Rattle.meaning.specs.Statements.{reducers, job_of, proc_of, update_of, bounds, turn_values}
use Rattle.meaning.specs.Elision.{main, depth_limit}
use Rattle.meaning.specs.Records.{Kept}
use Rattle.meaning.specs.Trail.{child_of, opening, halvings}
use Rattle.meaning.specs.SmallStep.{seen, Start, is_entry, Frame, Todo, blocks, halves, second, turns, Child, instance, half, Phase, entering, running, spawning, returning, leaving, broken, Parent, Step, moved, taken, paused, led_step, unless, on_answer, on_value, on_depth, Lookup, look_of, memo_answer, opened, child_name, awaiting, enter_by, enter_step, enter_child, todo_step, micro}
use Rattle.trail_theory.specs.Order.{Every}
use Rattle.trail_theory.specs.Waiting.{NoReads}
use Rattle.trail_theory.specs.TaskFits.{Stacked}
use Rattle.trail_theory.specs.ReadsAtEnd.{IsOther, EntersOnlyDeed, spawns_nothing_deed, spawns_nothing, ReadsAtEnd, ReadsAtMainsEnd}
use Rattle.trail_theory.specs.MainReads.{IsSynced, IsQuietTodo, ReadBlocks, ReadTodo, IsNotMain, TodoReads, of_other, of_main, SpawnedReads, past_other, past_main, IsOtherChild, ChildReads, UnderReads, TaskReads}
use Rattle.meaning.specs.LayeredStrand.{settled_under}
use Rattle.trail_theory.proofs.Evaluations.{Told, Calm, calm_value, calm_values, calm_update, calm_bounds}
use Rattle.trail_theory.proofs.MainElides.{both_true, ending_reads}
use Rattle.trail_theory.proofs.Synced.{SpawnsElsewhere, still_synced, synced_now, not_main, spawned_elsewhere, told_elsewhere, no_spawns, opening_elsewhere}

-- ---- flags

and_left : (a b : Bool) → a && b ≡ true → a ≡ true
and_left true b h = refl
and_left false b h = h

and_right : (a b : Bool) → a && b ≡ true → b ≡ true
and_right true b h = h
and_right false b h = absurd cc

and_mono : (a b c : Bool) → (a ≡ true → b ≡ true) → a && c ≡ true → b && c ≡ true
and_mono a b c w h = both_true b c (w (and_left a c h)) (and_right a c h)

and_assoc : (a b c : Bool) → a && (b && c) ≡ (a && b) && c
and_assoc true b c = refl
and_assoc false b c = refl

-- ---- blocks

reads_wider : (a b : Bool) → (a ≡ true → b ≡ true) → (x : Body) → ReadsAtEnd a x → ReadsAtEnd b x
reads_wider a b w end h = tt
reads_wider a b w (step s (bind x e) r) h = (h.0, reads_wider (a && true) (b && true) (and_mono a b true w) r h.1)
reads_wider a b w (step s (enter x way f es) r) h = (h.0, reads_wider _ _ (and_mono a b (spawns_nothing_deed (enter x way f es)) w) r h.1)
reads_wider a b w (step s (read x q) r) h = (w h.0, h.1)
reads_wider a b w (step s sync r) h = h
reads_wider a b w (step s (update q es) r) h = (h.0, reads_wider _ _ (and_mono a b true w) r h.1)
reads_wider a b w (step s (choose e x y) r) h = (h.0, reads_wider _ _ (and_mono a b (spawns_nothing_deed (choose e x y)) w) r h.1)
reads_wider a b w (step s (loop x e f grain g es) r) h = (h.0, reads_wider _ _ (and_mono a b true w) r h.1)
reads_wider a b w (step s (give e) r) h = (h.0, reads_wider _ _ (and_mono a b true w) r h.1)

blocks_wider : (a b : Bool) → (a ≡ true → b ≡ true) → (bs : List Body) → ReadBlocks a bs → ReadBlocks b bs
blocks_wider a b w [] h = tt
blocks_wider a b w (x ∷ []) h = (reads_wider a b w x h.0, h.1)
blocks_wider a b w (x ∷ y ∷ bs) h = (h.0, blocks_wider (a && spawns_nothing x) (b && spawns_nothing x) (and_mono a b (spawns_nothing x) w) (y ∷ bs) h.1)

abbrev IsNotSync : Deed → Type 0
IsNotSync (bind x e) = Unit {0}
IsNotSync (enter x way f es) = Unit {0}
IsNotSync (read x r) = Unit {0}
IsNotSync sync = ⊥
IsNotSync (update r es) = Unit {0}
IsNotSync (choose e a b) = Unit {0}
IsNotSync (loop x e f grain g es) = Unit {0}
IsNotSync (give e) = Unit {0}

-- past a statement of the outermost block
next_outermost : (synced : Bool) (s : ℕ) (d : Deed) (b : Body) → IsNotSync d → ReadsAtEnd synced (step s d b) → ReadsAtEnd (synced && spawns_nothing_deed d) b
next_outermost synced s (bind x e) b n h = h.1
next_outermost synced s (enter x way f es) b n h = h.1
next_outermost synced s (read x r) b n h = reads_wider true (synced && true) (λ q. both_true synced true h.0 refl) b (ending_reads b h.1)
next_outermost synced s sync b n h = absurd n
next_outermost synced s (update r es) b n h = h.1
next_outermost synced s (choose e x y) b n h = h.1
next_outermost synced s (loop x e f grain g es) b n h = h.1
next_outermost synced s (give e) b n h = h.1

-- and of an inner one
next_inner : (synced : Bool) (s : ℕ) (d : Deed) (b c : Body) (bs : List Body) → ReadBlocks synced (step s d b ∷ c ∷ bs) → ReadBlocks (synced && spawns_nothing_deed d) (b ∷ c ∷ bs)
next_inner synced s d b c bs h = ((h.0.0.1, h.0.1.1), subst (λ w. ReadBlocks w (c ∷ bs)) (and_assoc synced (spawns_nothing_deed d) (spawns_nothing b)) h.1)

next_blocks : (synced : Bool) (s : ℕ) (d : Deed) (b : Body) (bs : List Body) → IsNotSync d → ReadBlocks synced (step s d b ∷ bs) → ReadBlocks (synced && spawns_nothing_deed d) (b ∷ bs)
next_blocks synced s d b [] n h = (next_outermost synced s d b n h.0, h.1.1)
next_blocks synced s d b (c ∷ bs) n h = next_inner synced s d b c bs h

todo_next : (done : Log) (n : Place) (s : ℕ) (d : Deed) (b : Body) (bs : List Body) → IsNotSync d → TodoReads done n (blocks (step s d b ∷ bs)) → TodoReads done n (blocks (b ∷ bs))
todo_next done n s d b bs k (of_other m q) = of_other m ((q.0.0.1, q.0.1.1), q.1)
todo_next done n s d b bs k (of_main e synced r h) = of_main e (synced && spawns_nothing_deed d) (next_blocks synced s d b bs k r) (λ t. h (and_left synced (spawns_nothing_deed d) t))

-- what a statement enters isn't main
enters_of : (synced : Bool) (s : ℕ) (d : Deed) (b : Body) (bs : List Body) → ReadBlocks synced (step s d b ∷ bs) → EntersOnlyDeed IsOther d
enters_of synced s d b [] h = h.1.0
enters_of synced s d b (c ∷ bs) h = h.0.1.0

todo_enters : (done : Log) (n : Place) (s : ℕ) (d : Deed) (b : Body) (bs : List Body) → TodoReads done n (blocks (step s d b ∷ bs)) → EntersOnlyDeed IsOther d
todo_enters done n s d b bs (of_other m q) = q.0.1.0
todo_enters done n s d b bs (of_main e synced r h) = enters_of synced s d b bs r

spawn_next : (done : Log) (n : Place) (s : ℕ) (x : Option ℕ) (f : Name) (es : List _) (b : Body) (bs : List Body) → TodoReads done n (blocks (step s (enter x Spawn f es) b ∷ bs)) → SpawnedReads n (blocks (b ∷ bs))
spawn_next done n s x f es b bs (of_other m q) = past_other m ((q.0.0.1, q.0.1.1), q.1)
spawn_next done n s x f es b bs (of_main e synced r h) = past_main e (blocks_wider (synced && false) false (λ q. and_right synced false q) (b ∷ bs) (next_blocks synced s (enter x Spawn f es) b bs tt r))

-- into a branch
branches_of : (synced : Bool) (s : ℕ) (e : _) (x y : Body) (b : Body) (bs : List Body) → ReadBlocks synced (step s (choose e x y) b ∷ bs) → NoReads x × NoReads y
branches_of synced s e x y b [] h = (h.0.0.0, h.0.0.1)
branches_of synced s e x y b (c ∷ bs) h = (h.0.0.0.0, h.0.0.0.1)

choose_next : (done : Log) (n : Place) (s : ℕ) (e : _) (x y : Body) (b : Body) (bs : List Body) (v : Bool) → TodoReads done n (blocks (step s (choose e x y) b ∷ bs)) → TodoReads done n (blocks (cond v y x ∷ b ∷ bs))
choose_next done n s e x y b bs true (of_other m q) = of_other m ((q.0.0.0.1, q.0.1.0.1), ((q.0.0.1, q.0.1.1), q.1))
choose_next done n s e x y b bs false (of_other m q) = of_other m ((q.0.0.0.0, q.0.1.0.0), ((q.0.0.1, q.0.1.1), q.1))
choose_next done n s e x y b bs true (of_main z synced r h) =
    let c = spawns_nothing x && spawns_nothing y in
    of_main z synced (((branches_of synced s e x y b bs r).1, (enters_of synced s (choose e x y) b bs r).1), blocks_wider (synced && c) (synced && spawns_nothing y) (λ q. both_true synced (spawns_nothing y) (and_left synced c q) (and_right (spawns_nothing x) (spawns_nothing y) (and_right synced c q))) (b ∷ bs) (next_blocks synced s (choose e x y) b bs tt r)) h
choose_next done n s e x y b bs false (of_main z synced r h) =
    let c = spawns_nothing x && spawns_nothing y in
    of_main z synced (((branches_of synced s e x y b bs r).0, (enters_of synced s (choose e x y) b bs r).0), blocks_wider (synced && c) (synced && spawns_nothing x) (λ q. both_true synced (spawns_nothing x) (and_left synced c q) (and_left (spawns_nothing x) (spawns_nothing y) (and_right synced c q))) (b ∷ bs) (next_blocks synced s (choose e x y) b bs tt r)) h

-- out of a block
end_next : (done : Log) (n : Place) (bs : List Body) → TodoReads done n (blocks (end ∷ bs)) → TodoReads done n (blocks bs)
end_next done n bs (of_other m q) = of_other m q.1
end_next done n [] (of_main e synced r h) = of_main e synced tt h
end_next done n (c ∷ bs) (of_main e synced r h) = of_main e (synced && true) r.1 (λ t. h (and_left synced true t))

-- past a sync
sync_next : (done : Log) (n : Place) (s : ℕ) (b : Body) (bs : List Body) → TodoReads done n (blocks (step s sync b ∷ bs)) → TodoReads (done ++ Syncs n ∷ []) n (blocks (b ∷ bs))
sync_next done n s b bs (of_other m q) = of_other m ((q.0.0.1, q.0.1.1), q.1)
sync_next done n s b [] (of_main e synced r h) = of_main e true (r.0, r.1.1) (λ t. synced_now done n e)
sync_next done n s b (c ∷ bs) (of_main e synced r h) = of_main e (synced && true) (next_inner synced s sync b c bs r) (λ t. still_synced done (Syncs n ∷ []) (tt, tt) (h (and_left synced true t)))

-- a loop isn't main
loop_other : (done : Log) (n : Place) (todo : Todo) → ((b : Bool) → ReadTodo b todo → ⊥) → TodoReads done n todo → IsNotMain n × IsQuietTodo todo
loop_other done n todo never (of_other m q) = (m, q)
loop_other done n todo never (of_main e synced r h) = absurd (never synced r)

-- ---- more events, none of them a spawn by main

pub todo_on : (done es : Log) → Every SpawnsElsewhere es → (n : Place) (todo : Todo) → TodoReads done n todo → TodoReads (done ++ es) n todo
todo_on done es h n todo (of_other m q) = of_other m q
todo_on done es h n todo (of_main e b r s) = of_main e b r (λ t. still_synced done es h (s t))

pub under_on : (done es : Log) → Every SpawnsElsewhere es → (t : List Parent) → UnderReads done t → UnderReads (done ++ es) t
under_on done es h [] u = tt
under_on done es h (p ∷ t) u = (todo_on done es h p.frame.instance p.todo u.0, under_on done es h t u.1)

pub under_settled : (done : Log) (e : Place) (v : ℤ) (t : List Parent) → UnderReads done t → UnderReads done (settled_under e v t)
under_settled done e v [] u = tt
under_settled done e v (p ∷ t) u = (u.0, under_settled done e v t u.1)

-- a spawn by the topmost instance
pub under_spawn : (done : Log) (n : Place) (c : ℕ) (t : List Parent) → Stacked n t → UnderReads done t → UnderReads (done ++ Spawns (child_of n c) ∷ []) t
under_spawn done n c [] st u = tt
under_spawn done [] c (p ∷ t) st u = absurd (not_main p.frame.instance st.0.number (sym st.0.is))
under_spawn done (a ∷ n) c (p ∷ t) st u = under_on done (Spawns (child_of (a ∷ n) c) ∷ []) (spawned_elsewhere (a ∷ n) c (λ e. cc), tt) (p ∷ t) u

pub spawned_todo : (done : Log) (n : Place) (todo : Todo) → SpawnedReads n todo → TodoReads done n todo
spawned_todo done n todo (past_other m q) = of_other m q
spawned_todo done n todo (past_main e r) = of_main e false r (λ t. absurd cc)

pub other_child : (done : Log) (n : Place) (c : ℕ) (child : Child) → IsOtherChild child → ChildReads done (child_of n c) child
other_child done n c (instance f vs) o = inl (not_main n c, o)
other_child done n c (half k job count i) o = (not_main n c, o)

-- ---- steps

-- what a step keeps, after the events so far; of an answered instance, whatever its run's events are
abbrev pub StepReads : Log → Step → Type 0
StepReads done (moved l evs fr ph t) = TaskReads (done ++ evs) fr.instance ph t
StepReads done (taken evs k fr ph t) = (more : Log) → (IsNotMain fr.instance → Every SpawnsElsewhere more) → TaskReads (done ++ (evs ++ more)) fr.instance ph t
StepReads done (paused p) = Unit {0}

led_reads : (done es : Log) (s : Step) → StepReads (done ++ es) s → StepReads done (led_step es s)
led_reads done es (moved l evs fr ph t) h = subst (λ w. TaskReads w fr.instance ph t) (append_assoc done es evs) h
led_reads done es (taken evs k fr ph t) h = λ more m. subst (λ w. TaskReads w fr.instance ph t) (append_assoc done es (evs ++ more) ∙ ap (λ w. done ++ w) (sym (append_assoc es evs more))) (h more m)
led_reads done es (paused p) h = tt

unless_reads : (done : Log) (b : Bool) (s : Step) → StepReads done s → StepReads done (unless b s)
unless_reads done true s h = tt
unless_reads done false s h = h

cond_reads : (done : Log) (b : Bool) (x y : Step) → StepReads done x → StepReads done y → StepReads done (cond b x y)
cond_reads done true x y h k = h
cond_reads done false x y h k = k

on_answer_reads : {A : Type 0} (done : Log) (fr : Frame) (t : List Parent) (site : Site) (r : Result A FaultKind) (next : A → Step) → UnderReads done t → ((a : A) → StepReads done (next a)) → StepReads done (on_answer fr t site r next)
on_answer_reads done fr t site (Ok a) next u h = h a
on_answer_reads done fr t site (Err k) next u h = (tt, under_on done [] tt t u)

told_spawns : (es : Log) → Every Told es → Every SpawnsElsewhere es
told_spawns es h = no_spawns es (told_elsewhere es h)

value_reads : {A : Type 0} (done : Log) (fr : Frame) (t : List Parent) (site : Site) (o : Out FaultKind A) (next : A → Step) → Calm o → UnderReads done t → (UnderReads (done ++ o.log) t → (a : A) → StepReads (done ++ o.log) (next a)) → StepReads done (on_value fr t site o next)
value_reads done fr t site o next c u h =
    let u' = under_on done o.log (told_spawns o.log c) t u in
    led_reads done o.log (on_answer fr t site o.answer next) (on_answer_reads (done ++ o.log) fr t site o.answer next u' (h u'))

depth_reads : (done : Log) (fr : Frame) (t : List Parent) (site : Site) (d : ℕ) (next : ℕ → Step) → UnderReads done t → ((d : ℕ) → StepReads done (next d)) → StepReads done (on_depth fr t site d next)
depth_reads done fr t site zero next u h = (tt, under_on done [] tt t u)
depth_reads done fr t site (suc d) next u h = h d

-- no event more changes nothing
on_same : (done : Log) (n : Place) (todo : Todo) (t : List Parent) → TodoReads done n todo → UnderReads done t → TodoReads (done ++ []) n todo × UnderReads (done ++ []) t
on_same done n todo t h u = (todo_on done [] tt n todo h, under_on done [] tt t u)

module _ (program : Tree) (tables : Tables) (lookup : Lookup) (ruled : ReadsAtMainsEnd program) (kit : Bool) (acc : Accumulators) where
  by_other : (done : Log) (ans : Option Kept) (fr : Frame) (f : Name) (vs : List ℤ) (t : List Parent) → IsNotMain fr.instance → IsOther f → UnderReads done t → StepReads done (enter_by program tables lookup kit acc ans fr f vs t)
  by_other done None fr f vs t m o u =
      let ops = opening program (look_of lookup) fr.left f vs fr.instance in
      (of_other m ((ruled.elsewhere f o, ruled.alone f), tt), under_on done ops (no_spawns ops (opening_elsewhere program (look_of lookup) fr.left f vs fr.instance)) t u)
  by_other done (Some k) fr f vs t m o u = λ more h. (tt, under_on done more (h m) t u)

  by_main : (done : Log) (memo : Bool) (fr : Frame) (f : Name) (vs : List ℤ) (t : List Parent) → memo ≡ false → fr.instance ≡ [] → f ≡ main → IsSynced done → UnderReads done t → StepReads done (enter_by program tables lookup kit acc (memo_answer lookup memo f vs (depth_limit - fr.left)) fr f vs t)
  by_main done true fr f vs t unrecorded e g s u = absurd cc
  by_main done false fr f vs t unrecorded e g s u =
      let ops = opening program (look_of lookup) fr.left f vs fr.instance in
      let quiet = no_spawns ops (opening_elsewhere program (look_of lookup) fr.left f vs fr.instance) in
      (of_main e true (subst (λ x. ReadsAtEnd true (proc_of program x).body) (sym g) ruled.in_main, ruled.alone f) (λ z. still_synced done ops quiet s), under_on done ops quiet t u)

  enter_reads : (done : Log) (fr : Frame) (child : Child) (t : List Parent) → ChildReads done fr.instance child → UnderReads done t → StepReads done (enter_step program tables lookup kit acc fr child t)
  enter_reads done fr (instance f vs) t (inl h) u = by_other done (memo_answer lookup (proc_of program f).memo f vs (depth_limit - fr.left)) fr f vs t h.0 h.1 u
  enter_reads done fr (instance f vs) t (inr h) u = by_main done (proc_of program f).memo fr f vs t (subst (λ x. (proc_of program x).memo ≡ false) (sym h.1.0) ruled.unrecorded) h.0 h.1.0 h.1.1 u
  enter_reads done fr (half k job count i) t h u = (of_other h.0 h.1, under_on done (Begins fr.instance (depth_limit - fr.left) ∷ []) (tt, tt) t u)

  child_reads : (done : Log) (fr : Frame) (d : ℕ) (spawned : Bool) (x : Option ℕ) (child : Child) (todo : Todo) (t : List Parent) → IsOtherChild child → TodoReads done fr.instance todo → UnderReads done t → StepReads done (enter_child program tables lookup kit acc fr d spawned x child todo t)
  child_reads done fr d spawned x child todo t o h u = enter_reads done (opened program d child (child_name fr)) child (awaiting fr spawned x todo ∷ t) (other_child done fr.instance fr.next child o) (h, u)

  -- a statement's evaluation, and then the rest of its block
  on_next : (done : Log) (fr : Frame) (t : List Parent) (todo : Todo) (log : Log) → Every Told log → TodoReads done fr.instance todo → TodoReads (done ++ log) fr.instance todo
  on_next done fr t todo log c h = todo_on done log (told_spawns log c) fr.instance todo h

  todo_reads : (done : Log) (m : Start) (fr : Frame) (todo : Todo) (t : List Parent) → TodoReads done fr.instance todo → UnderReads done t → StepReads done (todo_step program tables lookup kit acc m fr todo t)
  todo_reads done m fr (blocks []) t h u = (tt, under_on done [] tt t u)
  todo_reads done m fr (blocks (end ∷ bs)) t h u = on_same done fr.instance (blocks bs) t (end_next done fr.instance bs h) u
  todo_reads done m fr (blocks (step s sync b ∷ bs)) t h u = unless_reads done (is_entry m fr.instance) _ (sync_next done fr.instance s b bs h, under_on done (Syncs fr.instance ∷ []) (tt, tt) t u)
  todo_reads done m fr (blocks (step s (bind x e) b ∷ bs)) t h u =
      let o = value tables (map seen fr.env) e in
      let c = calm_value tables (map seen fr.env) e in
      value_reads done fr t _ o _ c u (λ u' v. on_same (done ++ o.log) fr.instance (blocks (b ∷ bs)) t (on_next done fr t (blocks (b ∷ bs)) o.log c (todo_next done fr.instance s (bind x e) b bs tt h)) u')
  todo_reads done m fr (blocks (step s (enter x Call f es) b ∷ bs)) t h u =
      let o = values tables (map seen fr.env) es in
      let c = calm_values tables (map seen fr.env) es in
      value_reads done fr t _ o _ c u (λ u' vs. depth_reads (done ++ o.log) fr t _ fr.left _ u' (λ d. child_reads (done ++ o.log) fr d false x (instance f vs) (blocks (b ∷ bs)) t (todo_enters done fr.instance s (enter x Call f es) b bs h) (on_next done fr t (blocks (b ∷ bs)) o.log c (todo_next done fr.instance s (enter x Call f es) b bs tt h)) u'))
  todo_reads done m fr (blocks (step s (enter x Spawn f es) b ∷ bs)) t h u =
      let o = values tables (map seen fr.env) es in
      value_reads done fr t _ o _ (calm_values tables (map seen fr.env) es) u (λ u' vs. depth_reads (done ++ o.log) fr t _ fr.left _ u' (λ d. ((todo_enters done fr.instance s (enter x Spawn f es) b bs h, spawn_next done fr.instance s x f es b bs h), under_on (done ++ o.log) [] tt t u')))
  todo_reads done m fr (blocks (step s (read x r) b ∷ bs)) t h u = on_same done fr.instance (blocks (b ∷ bs)) t (todo_next done fr.instance s (read x r) b bs tt h) u
  todo_reads done m fr (blocks (step s (update r es) b ∷ bs)) t h u =
      let o = update_of tables (reducers program) (map seen fr.env) r es in
      let c = calm_update tables (reducers program) (map seen fr.env) r es in
      value_reads done fr t _ o _ c u (λ u' v. on_same (done ++ o.log) fr.instance (blocks (b ∷ bs)) t (on_next done fr t (blocks (b ∷ bs)) o.log c (todo_next done fr.instance s (update r es) b bs tt h)) u')
  todo_reads done m fr (blocks (step s (choose e x y) b ∷ bs)) t h u =
      let o = value tables (map seen fr.env) e in
      let c = calm_value tables (map seen fr.env) e in
      value_reads done fr t _ o _ c u (λ u' v. on_same (done ++ o.log) fr.instance (blocks (cond (int_eq v (pos 0)) y x ∷ b ∷ bs)) t (on_next done fr t (blocks (cond (int_eq v (pos 0)) y x ∷ b ∷ bs)) o.log c (choose_next done fr.instance s e x y b bs (int_eq v (pos 0)) h)) u')
  todo_reads done m fr (blocks (step s (loop x e e' grain f es) b ∷ bs)) t h u =
      let o = bounds tables (map seen fr.env) e e' in
      let c = calm_bounds tables (map seen fr.env) e e' in
      value_reads done fr t _ o _ c u (λ u' range. child_reads (done ++ o.log) fr fr.left false None (half halvings (job_of (record { procedure = fr.here; statement = s }) (map seen fr.env) x f es grain range.0) range.1 0) (blocks (b ∷ bs)) t (todo_enters done fr.instance s (loop x e e' grain f es) b bs h) (on_next done fr t (blocks (b ∷ bs)) o.log c (todo_next done fr.instance s (loop x e e' grain f es) b bs tt h)) u')
  todo_reads done m fr (blocks (step s (give e) b ∷ bs)) t h u =
      let o = value tables (map seen fr.env) e in
      value_reads done fr t _ o _ (calm_value tables (map seen fr.env) e) u (λ u' v. (tt, under_on (done ++ o.log) [] tt t u'))
  todo_reads done m fr (halves zero job count i) t h u =
      let q = loop_other done fr.instance (halves zero job count i) (λ b r. r) h in
      on_same done fr.instance (turns job count i) t (of_other q.0 q.1) u
  todo_reads done m fr (halves (suc k) job count i) t h u =
      let q = loop_other done fr.instance (halves (suc k) job count i) (λ b r. r) h in
      cond_reads done (nat_le count job.grain) _ _ (on_same done fr.instance (turns job count i) t (of_other q.0 q.1) u) ((q.1, past_other q.0 q.1), under_on done [] tt t u)
  todo_reads done m fr (second k job count i) t h u =
      let q = loop_other done fr.instance (second k job count i) (λ b r. r) h in
      child_reads done fr fr.left false None (half k job count i) (blocks []) t q.1 (of_other q.0 tt) u
  todo_reads done m fr (turns job zero i) t h u = (tt, under_on done [] tt t u)
  todo_reads done m fr (turns job (suc count) i) t h u =
      let q = loop_other done fr.instance (turns job (suc count) i) (λ b r. r) h in
      let o = turn_values tables job i in
      value_reads done fr t job.site o _ (calm_values tables (put job.env job.variable _) job.args) u (λ u' vs. depth_reads (done ++ o.log) fr t job.site fr.left _ u' (λ d. child_reads (done ++ o.log) fr d false None (instance job.callee vs) (turns job count (suc i)) t q.1 (of_other q.0 q.1) u'))

  pub micro_reads : (done : Log) (m : Start) (fr : Frame) (ph : Phase) (t : List Parent) → TaskReads done fr.instance ph t → StepReads done (micro program tables lookup kit acc m fr ph t)
  micro_reads done m fr (entering child) t h = enter_reads done fr child t h.0 h.1
  micro_reads done m fr (running todo) t h = todo_reads done m fr todo t h.0 h.1
  micro_reads done m fr (spawning d x child todo) t h = tt
  micro_reads done m fr (returning v) t h = unless_reads done (is_entry m fr.instance) _ (tt, under_on done (Syncs fr.instance ∷ []) (tt, tt) t h.1)
  micro_reads done m fr (leaving v) [] h = tt
  micro_reads done m fr (leaving v) (p ∷ t) h = under_on done (Leaves fr.instance (Ok v) ∷ []) (tt, tt) (p ∷ t) h.1
  micro_reads done m fr (broken k) t h = tt
