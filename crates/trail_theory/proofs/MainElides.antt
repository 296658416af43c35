-- The elision of main is its stretch of the trail, where a read sees what the elision has in the end.
use Rattle.std.proofs.Common.{ℕ, suc, ◌-◌, List, [], ◌∷◌, ◌++◌, Option, Some, None, Result, Ok, Err, ℤ, pos, ◌≡◌, refl, sym, ◌∙◌, subst, true, false, Bool, cond, ◌&&◌}
use Rattle.std.specs.Ordering.{int_eq}
use Rattle.meaning.specs.Tree.{Name, Term, number, name, cell, has as has_row, limit, sum, negate, binary, Deed, bind, enter, read, sync, update, choose, loop, give, Body, end, step, Tree}
use Rattle.meaning.specs.declared.tree.Operator.{Operator}
use Rattle.meaning.specs.declared.tree.Operator.TheVariants as o
use Rattle.meaning.specs.declared.FaultKind.{FaultKind}
use Rattle.meaning.specs.declared.FaultKind.TheVariants.{DivideByZero}
use Rattle.meaning.specs.Tables.{Tables, cell_of}
use Rattle.meaning.specs.Outcome.{Log, Accumulators, Event, Fault, Site, Outcome, Place, Reads, Enters, Updates, Reuses, Begins, Syncs, Leaves, Faults, Marks, Spawns, Out, onward, after}
use Rattle.meaning.specs.Outcome as outcome
use Rattle.meaning.specs.Run.{Run, placed, at, pure, ◌>>=◌}
use Rattle.meaning.specs.Values.{Env, put, value, apply, look}
use Rattle.meaning.specs.Statements.{reducers, numbered, reading, proc_of, fresh, identities, beginning, initial_values}
use Rattle.meaning.specs.Elision.{Enter, Next, On, Back, back_or_zero, deed, body, elide, main, start, depth_limit}
use Rattle.meaning.specs.Trail.{Trace, over, Look, opening, inner, body_walk, Runner, run_inside, runner, run, sight_of, trail}
use Rattle.trail_theory.specs.ElisionBeside.{Fits, Matches}
use Rattle.trail_theory.specs.Waiting.{NoReadsDeed, NoReads, HasNoReads}
use Rattle.trail_theory.specs.ReadsAtEnd.{IsOther, EntersOnlyDeed, EntersOnly, IsPlainDeed, IsPlain, IsEnding, spawns_nothing_deed, spawns_nothing, ReadsAtEnd, ReadsAtMainsEnd, MainIsAlone}
use Rattle.trail_theory.specs.Order.{Every}
use Rattle.trail_theory.proofs.Places.{every_append}
use Rattle.trail_theory.proofs.Inside.{doomed}
use Rattle.trail_theory.proofs.Walks.{Opens, half_opens, GoodRuns, good_runs}
use Rattle.trail_theory.proofs.FirstFaults.{told_none}
use Rattle.trail_theory.proofs.Beginnings.{beginning_told}
use Rattle.trail_theory.proofs.Elides.{after_append, forgotten_told, bind_assoc, step_apart, fits_led, GoesOn, Elides, finish, fits_closed, Goes, step_fits, rest_doomed, deed_fits, AreQuiet, same_back, forgotten_opening, quiet_opening, over_doomed, elide_fits, quiet_fits}

-- ---- evaluations update, enter and mark nothing

abbrev pub ChangesNothing : Event → Type 0
ChangesNothing (Updates n kind w) = ⊥
ChangesNothing (Reuses f args ws) = ⊥
ChangesNothing (Reads r) = Unit {0}
ChangesNothing (Enters f args d) = ⊥
ChangesNothing (Begins n d) = Unit {0}
ChangesNothing (Syncs n) = Unit {0}
ChangesNothing (Spawns n) = Unit {0}
ChangesNothing (Leaves n v) = Unit {0}
ChangesNothing (Faults k) = Unit {0}
ChangesNothing (Marks f args c) = ⊥

abbrev pub Still : Log → Type 0
Still log = Every ChangesNothing log

still_after : (es : Log) → Still es → (acc : Accumulators) → after es acc ≡ acc
still_after [] h acc = refl
still_after (Updates n kind w ∷ es) h acc = absurd h.0
still_after (Reuses f args ws ∷ es) h acc = absurd h.0
still_after (Reads r ∷ es) h acc = still_after es h.1 acc
still_after (Enters f args d ∷ es) h acc = still_after es h.1 acc
still_after (Begins n d ∷ es) h acc = still_after es h.1 acc
still_after (Syncs n ∷ es) h acc = still_after es h.1 acc
still_after (Spawns n ∷ es) h acc = still_after es h.1 acc
still_after (Leaves n v ∷ es) h acc = still_after es h.1 acc
still_after (Faults k ∷ es) h acc = still_after es h.1 acc
still_after (Marks f args c ∷ es) h acc = still_after es h.1 acc

still_onward : {F A B : Type 0} (log : Log) (r : Result A F) (f : A → Out F B) → Still log → ((a : A) → Still (f a).log) → Still (onward log r f).log
still_onward log (Err e) f h k = h
still_onward log (Ok a) f h k = every_append ChangesNothing log (f a).log h (k a)

still_cond : {F A : Type 0} (b : Bool) (x y : Out F A) → Still x.log → Still y.log → Still (cond b x y).log
still_cond true x y h k = h
still_cond false x y h k = k

still_apply : (op : Operator) (x y : ℤ) → Still (apply op x y).log
still_apply o.Add x y = tt
still_apply o.Subtract x y = tt
still_apply o.Multiply x y = tt
still_apply o.Divide x y = still_cond (int_eq y (pos 0)) (outcome.fail DivideByZero) (outcome.pure _) tt tt
still_apply o.Remainder x y = still_cond (int_eq y (pos 0)) (outcome.fail DivideByZero) (outcome.pure _) tt tt
still_apply o.Equal x y = tt
still_apply o.Unequal x y = tt
still_apply o.Less x y = tt
still_apply o.AtMost x y = tt
still_apply o.Greater x y = tt
still_apply o.AtLeast x y = tt

still_look : (t : Name) (row : ℤ) (c : Name) (v : Option ℤ) → Still (look t row c v).log
still_look t row c None = tt
still_look t row c (Some v) = (tt, tt)

pub still_value : (tables : Tables) (env : Env) (e : Term) → Still (value tables env e).log
still_value tables env (number n) = tt
still_value tables env (name x) = tt
still_value tables env (cell t e c) = still_onward _ (value tables env e).answer _ (still_value tables env e) (λ row. still_look t row c (cell_of tables t row c))
still_value tables env (has_row t e) = still_onward _ (value tables env e).answer _ (still_value tables env e) (λ row. (tt, tt))
still_value tables env (limit t) = (tt, tt)
still_value tables env (sum t c) = (tt, tt)
still_value tables env (negate e) = still_onward _ (value tables env e).answer _ (still_value tables env e) (λ row. tt)
still_value tables env (binary op e f) = still_onward _ (value tables env e).answer _ (still_value tables env e) (λ x. still_onward _ (value tables env f).answer _ (still_value tables env f) (λ y. still_apply op x y))

-- ---- nor does what stands after a read

abbrev pub Stays : Accumulators → Out Fault ℤ → Type 0
Stays acc o = Still o.log

eval_stays : {A : Type 0} (site : Site) (o : Out FaultKind A) (f : A → Run ℤ) (acc : Accumulators) → Still o.log → ((a : A) (acc : Accumulators) → Stays acc (f a acc)) → Stays acc ((at site o >>= f) acc)
eval_stays site o f acc still h = at_stays o.log o.answer still
  where
    at_stays : (log : Log) (r : Result _ FaultKind) → Still log → Stays acc (onward log (placed site r) (λ a. f a (after log acc)))
    at_stays log (Err k) t = t
    at_stays log (Ok a) t = every_append ChangesNothing log (f a (after log acc)).log t (h a (after log acc))

cond_stays : (b : Bool) (x y : Run Next) (kont : Env → Run ℤ) (acc : Accumulators) → Stays acc ((x >>= finish kont) acc) → Stays acc ((y >>= finish kont) acc) → Stays acc ((cond b x y >>= finish kont) acc)
cond_stays true x y kont acc h k = h
cond_stays false x y kont acc h k = k

module _ (program : Tree) (tables : Tables) (enters : Enter) where
  abbrev pub AllStay : (Env → Run ℤ) → Type 0
  AllStay kont = (env : Env) (acc : Accumulators) → Stays acc (kont env acc)

  mutual
    deed_stays : (site : Site) (d : Deed) → IsPlainDeed d → (env : Env) (acc : Accumulators) (kont : Env → Run ℤ) → AllStay kont → Stays acc ((deed program tables enters site env d >>= finish kont) acc)
    deed_stays site (bind x e) p env acc kont h =
        subst (Stays acc) (sym (bind_assoc (at site (value tables env e)) (λ v. pure (On (put env x v))) (finish kont) acc)) (eval_stays site (value tables env e) (λ v. pure (On (put env x v)) >>= finish kont) acc (still_value tables env e) (λ v acc'. h (put env x v) acc'))
    deed_stays site (enter x way f es) p env acc kont h = absurd p
    deed_stays site (read x r) p env acc kont h = absurd p
    deed_stays site sync p env acc kont h = absurd p
    deed_stays site (update r es) p env acc kont h = absurd p
    deed_stays site (choose e a b) p env acc kont h =
        let F = λ (v : ℤ). cond (int_eq v (pos 0)) (body program tables enters site.procedure env b) (body program tables enters site.procedure env a) in
        subst (Stays acc) (sym (bind_assoc (at site (value tables env e)) F (finish kont) acc)) (eval_stays site (value tables env e) (λ v. F v >>= finish kont) acc (still_value tables env e) (λ v acc'.
        cond_stays (int_eq v (pos 0)) (body program tables enters site.procedure env b) (body program tables enters site.procedure env a) kont acc' (block_stays site.procedure b p.1 env acc' kont h) (block_stays site.procedure a p.0 env acc' kont h)))
    deed_stays site (loop x e f grain g es) p env acc kont h = absurd p
    deed_stays site (give e) p env acc kont h =
        subst (Stays acc) (sym (bind_assoc (at site (value tables env e)) (λ v. pure (Back v)) (finish kont) acc)) (eval_stays site (value tables env e) (λ v. pure (Back v) >>= finish kont) acc (still_value tables env e) (λ v acc'. tt))

    block_stays : (here : Name) (b : Body) → IsPlain b → (env : Env) (acc : Accumulators) (kont : Env → Run ℤ) → AllStay kont → Stays acc ((body program tables enters here env b >>= finish kont) acc)
    block_stays here end p env acc kont h = h env acc
    block_stays here (step s d b) p env acc kont h =
        subst (Stays acc) (sym (step_apart program tables enters here s d b env kont acc)) (deed_stays (record { procedure = here; statement = s }) d p.0 env acc (λ env'. body program tables enters here env' b >>= finish kont) (λ env' acc'. block_stays here b p.1 env' acc' kont h))

  plain_stays : (here : Name) (s : ℕ) (d : Deed) (b : Body) → IsPlainDeed d → (env : Env) (acc : Accumulators) (kont : Env → Run ℤ) → AllStay (λ env'. body program tables enters here env' b >>= finish kont) → Stays acc ((body program tables enters here env (step s d b) >>= finish kont) acc)
  plain_stays here s d b p env acc kont h =
      subst (Stays acc) (sym (step_apart program tables enters here s d b env kont acc)) (deed_stays (record { procedure = here; statement = s }) d p env acc (λ env'. body program tables enters here env' b >>= finish kont) h)

  -- what stands after a read updates nothing
  pub ending_stays : (here : Name) (b : Body) → IsEnding b → (env : Env) (acc : Accumulators) (kont : Env → Run ℤ) → AllStay kont → Stays acc ((body program tables enters here env b >>= finish kont) acc)
  ending_stays here end p env acc kont h = h env acc
  ending_stays here (step s (bind x e) b) p env acc kont h = plain_stays here s (bind x e) b p.0 env acc kont (λ env' acc'. ending_stays here b p.1 env' acc' kont h)
  ending_stays here (step s (enter x way f es) b) p env acc kont h = absurd p.0
  ending_stays here (step s (read x r) b) p env acc kont h =
      subst (Stays acc) (sym (step_apart program tables enters here s (read x r) b env kont acc)) (ending_stays here b p (put env x (reading acc (numbered 0 (reducers program) r))) acc kont h)
  ending_stays here (step s sync b) p env acc kont h = absurd p.0
  ending_stays here (step s (update r es) b) p env acc kont h = absurd p.0
  ending_stays here (step s (choose e x y) b) p env acc kont h = plain_stays here s (choose e x y) b p.0 env acc kont (λ env' acc'. ending_stays here b p.1 env' acc' kont h)
  ending_stays here (step s (loop x e f grain g es) b) p env acc kont h = absurd p.0
  ending_stays here (step s (give e) b) p env acc kont h = plain_stays here s (give e) b p.0 env acc kont (λ env' acc'. ending_stays here b p.1 env' acc' kont h)

-- ---- what may stand after a read may stand before one

mutual
  plain_reads_deed : (d : Deed) → IsPlainDeed d → NoReadsDeed d
  plain_reads_deed (bind x e) p = tt
  plain_reads_deed (enter x way f es) p = tt
  plain_reads_deed (read x r) p = p
  plain_reads_deed sync p = tt
  plain_reads_deed (update r es) p = tt
  plain_reads_deed (choose e a b) p = (plain_reads a p.0, plain_reads b p.1)
  plain_reads_deed (loop x e f grain g es) p = tt
  plain_reads_deed (give e) p = tt

  plain_reads : (b : Body) → IsPlain b → NoReads b
  plain_reads end p = tt
  plain_reads (step s d b) p = (plain_reads_deed d p.0, plain_reads b p.1)

pub both_true : (a b : Bool) → a ≡ true → b ≡ true → a && b ≡ true
both_true a b h k = rw (h, k) refl

mutual
  plain_spawns_deed : (d : Deed) → IsPlainDeed d → spawns_nothing_deed d ≡ true
  plain_spawns_deed (bind x e) p = refl
  plain_spawns_deed (enter x way f es) p = absurd p
  plain_spawns_deed (read x r) p = refl
  plain_spawns_deed sync p = refl
  plain_spawns_deed (update r es) p = refl
  plain_spawns_deed (choose e a b) p = both_true (spawns_nothing a) (spawns_nothing b) (plain_spawns a p.0) (plain_spawns b p.1)
  plain_spawns_deed (loop x e f grain g es) p = refl
  plain_spawns_deed (give e) p = refl

  plain_spawns : (b : Body) → IsPlain b → spawns_nothing b ≡ true
  plain_spawns end p = refl
  plain_spawns (step s d b) p = both_true (spawns_nothing_deed d) (spawns_nothing b) (plain_spawns_deed d p.0) (plain_spawns b p.1)

pub ending_reads : (b : Body) → IsEnding b → ReadsAtEnd true b
ending_reads end h = tt
ending_reads (step s (bind x e) b) h = (tt, ending_reads b h.1)
ending_reads (step s (enter x way f es) b) h = absurd h.0
ending_reads (step s (read x r) b) h = (refl, h)
ending_reads (step s sync b) h = absurd h.0
ending_reads (step s (update r es) b) h = absurd h.0
ending_reads (step s (choose e x y) b) h = (plain_reads_deed (choose e x y) h.0, subst (λ w. ReadsAtEnd w b) (sym (plain_spawns_deed (choose e x y) h.0)) (ending_reads b h.1))
ending_reads (step s (loop x e f grain g es) b) h = absurd h.0
ending_reads (step s (give e) b) h = (tt, ending_reads b h.1)

-- a block that reads nothing
reads_of_none : (b : Body) (synced : Bool) → NoReads b → ReadsAtEnd synced b
reads_of_none end synced h = tt
reads_of_none (step s (bind x e) b) synced h = (tt, reads_of_none b _ h.1)
reads_of_none (step s (enter x way f es) b) synced h = (tt, reads_of_none b _ h.1)
reads_of_none (step s (read x r) b) synced h = absurd h.0
reads_of_none (step s sync b) synced h = reads_of_none b true h.1
reads_of_none (step s (update r es) b) synced h = (tt, reads_of_none b _ h.1)
reads_of_none (step s (choose e x y) b) synced h = (h.0, reads_of_none b _ h.1)
reads_of_none (step s (loop x e f grain g es) b) synced h = (tt, reads_of_none b _ h.1)
reads_of_none (step s (give e) b) synced h = (tt, reads_of_none b _ h.1)

pub ruled_of_none : (program : Tree) → HasNoReads program → MainIsAlone program → ReadsAtMainsEnd program
ruled_of_none program calm alone = record { in_main = reads_of_none (proc_of program main).body true (calm main); elsewhere = λ f other. calm f; alone = alone.0; unrecorded = alone.1 }

-- ---- main

module _ (program : Tree) (tables : Tables) (sight : Accumulators) (enters : Enter) (sub : Runner) (good : Elides IsOther program tables sight enters sub sub) (left : ℕ) (sound : GoodRuns (Every Opens) (λ n c d r. (k : Fault) → d ≡ Some k → r.outcome ≡ Err k) (λ n r. Unit {0}) doomed half_opens program tables sight sub) where
  -- the piece ends with what a read sees
  abbrev Seen : Accumulators → Out Fault ℤ → Type 0
  Seen acc o = after o.log acc ≡ sight

  seen : GoesOn Seen
  seen log acc o g = sym (after_append log o.log acc) ∙ g

  abbrev GoesSeen : Place → (Env → Run ℤ) → (Env → ℕ → Option Fault → Trace) → Type 0
  GoesSeen n kont k = Goes IsOther program tables sight enters sub good Seen seen left sound n kont k

  module _ (n : Place) (here : Name) (kont : Env → Run ℤ) (k : Env → ℕ → Option Fault → Trace) (stays : AllStay program tables enters kont) (g : GoesSeen n kont k) where
    abbrev BlockFits : Body → Env → ℕ → Accumulators → Type 0
    BlockFits b env c acc = Seen acc ((body program tables enters here env b >>= finish kont) acc) → Matches ((body program tables enters here env b >>= finish kont) acc) (body_walk program tables sight sub left n here b env c None k)

    before_read : (s : ℕ) (d : Deed) (b : Body) → NoReadsDeed d → EntersOnlyDeed IsOther d → ((env : Env) (c : ℕ) (acc : Accumulators) → BlockFits b env c acc) → (env : Env) (c : ℕ) (acc : Accumulators) → BlockFits (step s d b) env c acc
    before_read s d b nr en h env c acc known =
        step_fits IsOther program tables sight enters sub good Seen seen left sound n here s d b env c kont k acc
        (deed_fits IsOther program tables sight enters sub good Seen seen left sound n (record { procedure = here; statement = s }) d nr en env c (λ env'. body program tables enters here env' b >>= finish kont) (λ env' c' d'. body_walk program tables sight sub left n here b env' c' d' k) (h, rest_doomed IsOther program tables sight enters sub good Seen seen left sound n here b k g.1) acc) known

    main_fits : (b : Body) (synced : Bool) → ReadsAtEnd synced b → EntersOnly IsOther b → (env : Env) (c : ℕ) (acc : Accumulators) → BlockFits b env c acc
    main_fits end synced h en env c acc known = g.0 env c acc known
    main_fits (step s (bind x e) b) synced h en env c acc known = before_read s (bind x e) b h.0 en.0 (main_fits b _ h.1 en.1) env c acc known
    main_fits (step s (enter x way f es) b) synced h en env c acc known = before_read s (enter x way f es) b h.0 en.0 (main_fits b _ h.1 en.1) env c acc known
    main_fits (step s (read x r) b) synced h en env c acc known =
        let num = numbered 0 (reducers program) r in
        let env1 = put env x (reading acc num) in
        step_fits IsOther program tables sight enters sub good Seen seen left sound n here s (read x r) b env c kont k acc
        (λ seen_then.
        let e : acc ≡ sight = sym (still_after _ (ending_stays program tables enters here b h.1 env1 acc kont stays) acc) ∙ seen_then in
        subst (λ a. Matches ((body program tables enters here env1 b >>= finish kont) acc) (body_walk program tables sight sub left n here b (put env x (reading a num)) c None k)) e (main_fits b true (ending_reads b h.1) en.1 env1 c acc seen_then)) known
    main_fits (step s sync b) synced h en env c acc known = before_read s sync b tt en.0 (main_fits b true h en.1) env c acc known
    main_fits (step s (update r es) b) synced h en env c acc known = before_read s (update r es) b h.0 en.0 (main_fits b _ h.1 en.1) env c acc known
    main_fits (step s (choose e x y) b) synced h en env c acc known = before_read s (choose e x y) b h.0 en.0 (main_fits b _ h.1 en.1) env c acc known
    main_fits (step s (loop x e f grain q es) b) synced h en env c acc known = before_read s (loop x e f grain q es) b h.0 en.0 (main_fits b _ h.1 en.1) env c acc known
    main_fits (step s (give e) b) synced h en env c acc known = before_read s (give e) b h.0 en.0 (main_fits b _ h.1 en.1) env c acc known

module _ (program : Tree) (tables : Tables) (sight : Accumulators) (ruled : ReadsAtMainsEnd program) where
  pub others_quiet : AreQuiet IsOther program
  others_quiet f other = (ruled.elsewhere f other, ruled.alone f)

  -- every other procedure's elision is its stretch of the trail, whatever a read sees
  pub other_fits : (left : ℕ) (look : Look) (site : Site) (f : Name) → IsOther f → (vs : List ℤ) (n : Place) (acc : Accumulators) → Matches (elide program tables (suc left) site f vs acc) (run program tables sight left look f vs n)
  other_fits left look site f other vs n acc = quiet_fits IsOther program tables sight others_quiet left look site f other vs n acc

  -- main's is too, where a read sees what the reducers have at its end
  pub main_run_fits : (left : ℕ) (look : Look) (site : Site) (vs : List ℤ) (n : Place) (acc : Accumulators) → after (elide program tables (suc left) site main vs acc).log acc ≡ sight → Matches (elide program tables (suc left) site main vs acc) (run program tables sight left look main vs n)
  unfolding runner elide
  main_run_fits left look site vs n acc known =
      let k = inner program look left main vs in
      let sub = runner program tables sight left k in
      let enters = elide program tables left in
      let p = proc_of program main in
      let w = run_inside program tables sight sub left main vs n in
      let env = fresh p.names vs in
      let b = body program tables enters p.called env p.body in
      let o = (b >>= (λ next. pure (back_or_zero next))) acc in
      let good = elide_fits IsOther program tables sight others_quiet left k in
      let sound = good_runs _ _ doomed program tables sight left k in
      let fit : Matches o w = subst (λ m. after m.log acc ≡ sight → Matches m w) (λ q. (b >>= (λ x. sym (same_back IsOther program tables sight x) q)) acc)
      (main_fits program tables sight enters sub good left sound n p.called (λ env'. pure (pos 0)) (λ env' c d. over n d (pos 0)) (λ env' acc'. tt) ((λ env' c acc' q. (refl, refl)), (λ env' c d e q. over_doomed IsOther program tables sight n d e q)) p.body true ruled.in_main (ruled.alone main) env 1 acc) known in
      fits_led (Enters main vs (depth_limit - left) ∷ []) (w.events ++ Leaves n w.outcome ∷ []) o (opening program look left main vs n) w.outcome (sym (forgotten_opening IsOther program tables sight look left main vs n p.memo)) (quiet_opening IsOther program tables sight look left main vs n p.memo) (fits_closed o n w.events w.outcome fit)

-- main from scratch
pub main_from_scratch : (program : Tree) (tables : Tables) → ReadsAtMainsEnd program → (look : Look) → Matches (elide program tables depth_limit start main [] (initial_values program)) (run program tables (sight_of program tables) (depth_limit - 1) look main [] [])
main_from_scratch program tables ruled look = main_run_fits program tables (sight_of program tables) ruled (depth_limit - 1) look start [] [] (initial_values program) refl

-- ---- the whole trail begins with the updates by the initial values

-- a piece from the initial values, behind these updates
abbrev pub begun : Tree → Out Fault ℤ → Out Fault ℤ
begun program o = record { log = beginning program ++ o.log; answer = o.answer }

pub begun_after : (program : Tree) (o : Out Fault ℤ) → after (begun program o).log (identities program) ≡ after o.log (initial_values program)
begun_after program o = after_append (beginning program) o.log (identities program)

pub begun_fits : (program : Tree) (o : Out Fault ℤ) (es : Log) (w : Outcome) → Fits o es w → Fits (begun program o) (beginning program ++ es) w
begun_fits program o es w h =
    let told = beginning_told program in
    fits_led (beginning program) es o (beginning program) w (sym (forgotten_told (beginning program) told)) (told_none (beginning program) told) h

pub trail_from_scratch : (program : Tree) (tables : Tables) → ReadsAtMainsEnd program → (look : Look) → Fits (begun program (elide program tables depth_limit start main [] (initial_values program))) (trail program tables look) (run program tables (sight_of program tables) (depth_limit - 1) look main [] []).outcome
trail_from_scratch program tables ruled look =
    let w = run program tables (sight_of program tables) (depth_limit - 1) look main [] [] in
    begun_fits program (elide program tables depth_limit start main [] (initial_values program)) w.events w.outcome (main_from_scratch program tables ruled look)
