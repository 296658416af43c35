-- The trail marks the instances that are needed: those that no valid record answers are executed, the others reused.
use Rattle.std.proofs.Common.{ℕ, zero, suc, ◌-◌, ◌<◌, ◌≤◌, List, [], ◌∷◌, ◌++◌, Option, Some, None, Ok, Err, ℤ, pos, ◌≡◌, refl, sym, ap, ◌∙◌, subst, arith, append-nil, true, false, Bool, cond}
use Rattle.meaning.specs.Tree.{Name, Deed, bind, enter, read, sync, update, choose, loop, give, Body, end, step, Tree, Proc}
use Rattle.meaning.specs.Tables.{Tables, is_there}
use Rattle.meaning.specs.Outcome.{Log, Accumulators, Fault, Site, Outcome, Place, Reads, Enters, Updates, Reuses, Begins, Syncs, Leaves, Faults, Marks, Spawns, Out}
use Rattle.meaning.specs.Run.{Run, pure, ◌>>=◌}
use Rattle.meaning.specs.Values.{Env}
use Rattle.meaning.specs.Statements.{reducers, identities, beginning, initial_values, procedure_of, proc_of, found, fresh}
use Rattle.meaning.specs.Elision.{Enter, elide, instance, body, back_or_zero, start, main, depth_limit}
use Rattle.meaning.specs.Records.{Revised, Kept, is_memo, with_kinds, if_valid, record_of, answered, needing, executed, reused}
use Rattle.meaning.specs.Trail.{Trace, over, closed, Runner, Look, answers, within, mark, opening, inner, run_inside, runner, run, deed_walk, body_walk}
use Rattle.meaning.specs.SmallStep.{Lookup, look_of}
use Rattle.meaning.specs.Tallies.{executions, valid_record}
use Rattle.trail_theory.specs.ElisionBeside.{first_fault, before_fault, Fits, Matches}
use Rattle.trail_theory.specs.Waiting.{NoReadsDeed}
use Rattle.trail_theory.specs.ReadsAtEnd.{IsOther, EntersOnlyDeed, EntersOnly, ReadsAtEnd, ReadsAtMainsEnd}
use Rattle.trail_theory.specs.Right.{RecordedAreSound}
use Rattle.trail_theory.specs.Counts.{reuses, SameKeys, MarksAreNeeded}
use Rattle.trail_theory.proofs.Places.{every_append}
use Rattle.trail_theory.proofs.Beginnings.{beginning_told}
use Rattle.trail_theory.proofs.Walks.{good_runs}
use Rattle.trail_theory.proofs.Inside.{doomed}
use Rattle.trail_theory.proofs.Elides.{finish, step_apart, same_back, quiet_opening, over_doomed}
use Rattle.trail_theory.proofs.MainElides.{Still, ending_stays, other_fits}
use Rattle.trail_theory.proofs.FirstFaults.{told_none, before_append, before_first}
use Rattle.trail_theory.proofs.ReadPoints.{still_before}
use Rattle.trail_theory.proofs.AfterReads.{ending_block}
use Rattle.trail_theory.proofs.Keys.{IsUnmarked, keys_join, unmarked_keys}
use Rattle.trail_theory.proofs.Unmarked.{told_unmarked, unmarked_inside}
use Rattle.trail_theory.proofs.Needs.{NeedsAs, Needs, needs_led, needs_goal, keys_goal, KeysOnly, needs_closed, NeedsRuns, rest_doomed, deed_goal, body_goal}

-- ---- what changes nothing executes and reuses nothing

still_marks : (es : Log) → Still es → (executions es ≡ []) × (reuses es ≡ [])
still_marks [] h = (refl, refl)
still_marks (Reads r ∷ es) h = still_marks es h.1
still_marks (Enters f args d ∷ es) h = absurd h.0
still_marks (Updates n kind w ∷ es) h = absurd h.0
still_marks (Reuses f args ws ∷ es) h = absurd h.0
still_marks (Begins n d ∷ es) h = still_marks es h.1
still_marks (Syncs n ∷ es) h = still_marks es h.1
still_marks (Spawns n ∷ es) h = still_marks es h.1
still_marks (Leaves n v ∷ es) h = still_marks es h.1
still_marks (Faults k ∷ es) h = still_marks es h.1
still_marks (Marks f args c ∷ es) h = absurd h.0

module _ (program : Tree) where
  still_log : (es : Log) → Still es → (executed program es ≡ []) × (reused es ≡ [])
  still_log [] h = (refl, refl)
  still_log (Reads r ∷ es) h = still_log es h.1
  still_log (Enters f args d ∷ es) h = absurd h.0
  still_log (Updates n kind w ∷ es) h = absurd h.0
  still_log (Reuses f args ws ∷ es) h = absurd h.0
  still_log (Begins n d ∷ es) h = still_log es h.1
  still_log (Syncs n ∷ es) h = still_log es h.1
  still_log (Spawns n ∷ es) h = still_log es h.1
  still_log (Leaves n v ∷ es) h = still_log es h.1
  still_log (Faults k ∷ es) h = still_log es h.1
  still_log (Marks f args c ∷ es) h = absurd h.0

-- ---- an instance that is entered

memo_is : (p : Option Proc) → is_memo p ≡ (found p).memo
memo_is None = refl
memo_is (Some p) = refl

module _ (program : Revised) (tables : Tables) (sight : Accumulators) (records : List Kept) where
  abbrev P : Tree
  P = program.tree

  abbrev lookup : Lookup
  lookup = valid_record program tables records

  abbrev L : Look
  L = look_of lookup

  still_keys : (log es : Log) → Still log → Still es → SameKeys P log es
  still_keys log es h k =
      let a = still_log P log h in
      let b = still_marks es k in
      record { executed_are = a.0 ∙ sym b.0; reused_are = a.1 ∙ sym b.1 }

  pub quiet_before : (es : Log) → first_fault es ≡ None → before_fault es ≡ es
  quiet_before es z = ap before_fault (sym (append-nil es)) ∙ before_append es [] z ∙ append-nil es

  keys_closed : (log es : Log) (n : Place) (o : Outcome) (fault : Option Fault) → first_fault es ≡ fault → SameKeys P log (before_fault es) → SameKeys P log (before_fault (es ++ Leaves n o ∷ []))
  keys_closed log es n o None z h =
      let last : SameKeys P [] (Leaves n o ∷ []) = record { executed_are = refl; reused_are = refl } in
      let whole : SameKeys P (log ++ []) (es ++ Leaves n o ∷ []) = keys_join P log [] es (Leaves n o ∷ []) (subst (SameKeys P log) (quiet_before es z) h) last in
      subst (SameKeys P log) (sym (before_append es (Leaves n o ∷ []) z)) (subst (λ l. SameKeys P l (es ++ Leaves n o ∷ [])) (append-nil log) whole)
  keys_closed log es n o (Some k) z h = subst (SameKeys P log) (sym (before_first es (Leaves n o ∷ []) k z)) h

  pub valid_at : (f : Name) (vs : List ℤ) (d : ℕ) → 0 < d → lookup f vs d ≡ if_valid program tables d (record_of records f vs)
  valid_at f vs zero h = absurd (omega (arith, h))
  valid_at f vs (suc d) h = refl

  entered_keys : (f : Name) (vs : List ℤ) (d : ℕ) (n : Place) (b : Bool) (ans : Option Kept) → is_memo (procedure_of P f) ≡ b → lookup f vs d ≡ ans → cond b ans None ≡ None → SameKeys P (Enters f vs d ∷ []) (Begins n d ∷ (mark L f vs d b ++ Enters f vs d ∷ []))
  entered_keys f vs d n false ans q e z = record { executed_are = ap (λ c. cond c ((f, vs) ∷ []) []) q; reused_are = refl }
  entered_keys f vs d n true None q e z =
      record {
        executed_are = ap (λ c. cond c ((f, vs) ∷ []) []) q ∙ ap (λ o. executions (Begins n d ∷ (Marks f vs (is_there o) ∷ Enters f vs d ∷ []))) (sym e);
        reused_are = ap (λ o. reuses (Begins n d ∷ (Marks f vs (is_there o) ∷ Enters f vs d ∷ []))) (sym e);
      }
  entered_keys f vs d n true (Some k) q e z = absurd cc

  reused_keys : (f : Name) (vs : List ℤ) (d : ℕ) (n : Place) (ws : _) (k : Kept) → lookup f vs d ≡ Some k → SameKeys P (Reuses f vs ws ∷ []) (Begins n d ∷ (mark L f vs d true ++ Enters f vs d ∷ []))
  reused_keys f vs d n ws k e =
      record {
        executed_are = ap (λ o. executions (Begins n d ∷ (Marks f vs (is_there o) ∷ Enters f vs d ∷ []))) (sym e);
        reused_are = ap (λ o. reuses (Begins n d ∷ (Marks f vs (is_there o) ∷ Enters f vs d ∷ []))) (sym e);
      }

  unanswered : (f : Name) (vs : List ℤ) (d : ℕ) (b : Bool) (ans : Option Kept) → lookup f vs d ≡ ans → cond b ans None ≡ None → answers L f vs d b ≡ false
  unanswered f vs d false ans e z = refl
  unanswered f vs d true None e z = ap is_there e
  unanswered f vs d true (Some k) e z = absurd cc

  module _ (ruled : ReadsAtMainsEnd P) (is_sound : RecordedAreSound P tables sight lookup) where
    abbrev entered_run : ℕ → Name → List ℤ → Run ℤ
    entered_run left f vs = instance P tables (needing program tables records left) f vs (depth_limit - left) (proc_of P f)

    -- an instance that no record answers
    enters_need : (left : ℕ) → NeedsRuns P tables sight (needing program tables records left) (runner P tables sight left L) (runner P tables sight left L) → (f : Name) → IsOther f → (vs : List ℤ) (n : Place) (acc : Accumulators) → (ans : Option Kept) → lookup f vs (depth_limit - left) ≡ ans → cond (proc_of P f).memo ans None ≡ None
        → Needs P (entered_run left f vs acc) (run P tables sight left L f vs n)
    enters_need left good f other vs n acc ans e z =
        let p = proc_of P f in
        let d = depth_limit - left in
        let enters = needing program tables records left in
        let sub = runner P tables sight left L in
        let w = run_inside P tables sight sub left f vs n in
        let env = fresh p.names vs in
        let b = body P tables enters p.called env p.body in
        let o = (b >>= (λ next. pure (back_or_zero next))) acc in
        let ops = opening P L left f vs n in
        let same : inner P L left f vs ≡ L = ap (within L) (unanswered f vs d p.memo ans e z) in
        let fit : Needs P o w = subst (λ m. Needs P m w) (λ q. (b >>= (λ x. sym (same_back IsOther P tables sight x) q)) acc)
        (body_goal P tables sight enters sub good (Needs P) (needs_goal P) left (good_runs _ _ doomed P tables sight left L) n p.called p.body (ruled.elsewhere f other) (ruled.alone f) env 1 (λ env'. pure (pos 0)) (λ env' c d. over n d (pos 0)) ((λ env' c acc'. (needs_goal P).overs n (pos 0)), (λ env' c d e q. over_doomed IsOther P tables sight n d e q)) acc) in
        subst (λ k. Needs P (entered_run left f vs acc) (closed ops n (run_inside P tables sight (runner P tables sight left k) left f vs n))) (sym same)
        (needs_led P (Enters f vs d ∷ []) ops o (w.events ++ Leaves n w.outcome ∷ []) w.outcome (entered_keys f vs d n p.memo ans (memo_is (procedure_of P f)) e z) (quiet_opening IsOther P tables sight L left f vs n p.memo) (needs_closed P o n w.events w.outcome fit))

    no_fault : (o : Out Fault ℤ) (es : Log) (w : Outcome) (v : ℤ) → Fits o es w → w ≡ Ok v → first_fault es ≡ None
    no_fault o es (Ok u) v h e = h.1
    no_fault o es (Err j) v h e = absurd cc

    -- one that a record answers
    reuse_needs : (left : ℕ) (f : Name) → IsOther f → (vs : List ℤ) (n : Place) (acc : Accumulators) (k : Kept) → (proc_of P f).memo ≡ true → lookup f vs (depth_limit - left) ≡ Some k → Needs P (answered program tables records f vs (Some k) (entered_run left f vs) acc) (run P tables sight left L f vs n)
    reuse_needs left f other vs n acc k memo e =
        let d = depth_limit - left in
        let ops = opening P L left f vs n in
        let ws = with_kinds (reducers P) k.contribution in
        let out = elide P tables (suc left) start f vs (identities P) in
        let within_it = λ (look : Look). closed ops n (run_inside P tables sight (runner P tables sight left look) left f vs n) in
        let w = run_inside P tables sight (runner P tables sight left None) left f vs n in
        let rest = w.events ++ Leaves n w.outcome ∷ [] in
        let same : inner P L left f vs ≡ None = ap (λ b. within L (answers L f vs d b)) memo ∙ ap (λ o. within L (is_there o)) e in
        let q : w.outcome ≡ Ok k.value = is_sound.runs f vs left n k memo e in
        let fits : Matches out (within_it None) = subst (λ look. Matches out (within_it look)) same (other_fits P tables sight ruled left L start f other vs n (identities P)) in
        let front : SameKeys P (Reuses f vs ws ∷ []) ops = subst (λ b. SameKeys P (Reuses f vs ws ∷ []) (Begins n d ∷ (mark L f vs d b ++ Enters f vs d ∷ []))) (sym memo) (reused_keys f vs d n ws k e) in
        let back : SameKeys P [] rest = unmarked_keys P rest (every_append IsUnmarked w.events (Leaves n w.outcome ∷ []) (unmarked_inside P tables sight left f vs n) (tt, tt)) in
        let keys : SameKeys P (Reuses f vs ws ∷ []) (ops ++ rest) = keys_join P (Reuses f vs ws ∷ []) [] ops rest front back in
        subst (λ look. Needs P (record { log = Reuses f vs ws ∷ []; answer = Ok k.value }) (within_it look)) (sym same)
        (subst (λ u. NeedsAs P (record { log = Reuses f vs ws ∷ []; answer = Ok k.value }) (ops ++ rest) u) (sym q) (refl, (keys, no_fault out (ops ++ rest) w.outcome k.value fits q)))

    need_by : (left : ℕ) → NeedsRuns P tables sight (needing program tables records left) (runner P tables sight left L) (runner P tables sight left L) → (f : Name) → IsOther f → (vs : List ℤ) (n : Place) (acc : Accumulators) → (memo : Bool) → (proc_of P f).memo ≡ memo → (ans : Option Kept) → lookup f vs (depth_limit - left) ≡ ans
        → Needs P (answered program tables records f vs (cond memo ans None) (entered_run left f vs) acc) (run P tables sight left L f vs n)
    need_by left good f other vs n acc false q ans e = enters_need left good f other vs n acc ans e (ap (λ b. cond b ans None) q)
    need_by left good f other vs n acc true q None e = enters_need left good f other vs n acc None e (ap (λ b. cond b None None) q)
    need_by left good f other vs n acc true q (Some k) e = reuse_needs left f other vs n acc k q e

    needs_runs : (left : ℕ) → left ≤ depth_limit → NeedsRuns P tables sight (needing program tables records left) (runner P tables sight left L) (runner P tables sight left L)
    unfolding needing runner
    needs_runs zero l = λ site f vs acc. refl
    needs_runs (suc left) l = λ site f vs n acc other.
        let d = depth_limit - left in
        let out : 0 < d = omega (arith, l) in
        let asked : cond (proc_of P f).memo (lookup f vs d) None ≡ cond (is_memo (procedure_of P f)) (if_valid program tables d (record_of records f vs)) None = λ i. cond (sym (memo_is (procedure_of P f)) i) (valid_at f vs d out i) None in
        subst (λ o. Needs P (answered program tables records f vs o (entered_run left f vs) acc) (run P tables sight left L f vs n)) asked
        (need_by left (needs_runs left (omega (arith, l))) f other vs n acc (proc_of P f).memo refl (lookup f vs d) refl)

    -- ---- main: what stands after a read executes and reuses nothing

    module _ (left : ℕ) (l : left ≤ depth_limit) (n : Place) (here : Name) where
      abbrev enters : Enter
      enters = needing program tables records left

      abbrev sub : Runner
      sub = runner P tables sight left L

      abbrev kont : Env → Run ℤ
      kont env = pure (pos 0)

      abbrev ending : Env → ℕ → Option Fault → Trace
      ending env c d = over n d (pos 0)

      abbrev MainKeys : Body → Type 0
      MainKeys b = (env : Env) (c : ℕ) (acc : Accumulators) → KeysOnly P ((body P tables enters here env b >>= finish kont) acc) (body_walk P tables sight sub left n here b env c None ending)

      before_read : (s : ℕ) (d : Deed) (b : Body) → NoReadsDeed d → EntersOnlyDeed IsOther d → MainKeys b → MainKeys (step s d b)
      before_read s d b nr en h env c acc =
          let good = needs_runs left l in
          let sound = good_runs _ _ doomed P tables sight left L in
          let site : Site = record { procedure = here; statement = s } in
          let k' = λ (env' : Env) (c' : ℕ) (d' : Option Fault). body_walk P tables sight sub left n here b env' c' d' ending in
          subst (λ m. KeysOnly P m (deed_walk P tables sight sub left n site d env c None k')) (sym (step_apart P tables enters here s d b env kont acc))
          (deed_goal P tables sight enters sub good (KeysOnly P) (keys_goal P) left sound n site d nr en env c (λ env'. body P tables enters here env' b >>= finish kont) k'
          (h, rest_doomed P tables sight enters sub good (KeysOnly P) (keys_goal P) left sound n here b ending (λ env' c' d' e q. over_doomed IsOther P tables sight n d' e q)) acc)

      main_keys : (b : Body) (synced : Bool) → ReadsAtEnd synced b → EntersOnly IsOther b → MainKeys b
      main_keys end synced h en = λ env c acc. (keys_goal P).overs n (pos 0)
      main_keys (step s (bind x e) b) synced h en = before_read s (bind x e) b h.0 en.0 (main_keys b _ h.1 en.1)
      main_keys (step s (enter x way f es) b) synced h en = before_read s (enter x way f es) b h.0 en.0 (main_keys b _ h.1 en.1)
      main_keys (step s (read x r) b) synced h en = λ env c acc.
          still_keys _ _ (ending_stays P tables enters here (step s (read x r) b) h.1 env acc kont (λ env' acc'. tt))
          (still_before _ (ending_block P tables sight sub left n here (step s (read x r) b) h.1 env c None ending (λ env' c' doom. (tt, tt))))
      main_keys (step s sync b) synced h en = before_read s sync b tt en.0 (main_keys b true h en.1)
      main_keys (step s (update r es) b) synced h en = before_read s (update r es) b h.0 en.0 (main_keys b _ h.1 en.1)
      main_keys (step s (choose e x y) b) synced h en = before_read s (choose e x y) b h.0 en.0 (main_keys b _ h.1 en.1)
      main_keys (step s (loop x e f grain q es) b) synced h en = before_read s (loop x e f grain q es) b h.0 en.0 (main_keys b _ h.1 en.1)
      main_keys (step s (give e) b) synced h en = before_read s (give e) b h.0 en.0 (main_keys b _ h.1 en.1)

    main_needs : (left : ℕ) → suc left ≤ depth_limit → (site : Site) (vs : List ℤ) (n : Place) (acc : Accumulators) → KeysOnly P (needing program tables records (suc left) site main vs acc) (run P tables sight left L main vs n)
    unfolding needing
    main_needs left l site vs n acc =
        let p = proc_of P main in
        let d = depth_limit - left in
        let asked : None ≡ cond (is_memo (procedure_of P main)) (if_valid program tables d (record_of records main vs)) None = sym (ap (λ b. cond b (if_valid program tables d (record_of records main vs)) None) (memo_is (procedure_of P main) ∙ ruled.unrecorded)) in
        let same : inner P L left main vs ≡ L = ap (λ b. within L (answers L main vs d b)) ruled.unrecorded in
        let ops = opening P L left main vs n in
        let w = run_inside P tables sight (runner P tables sight left L) left main vs n in
        let env = fresh p.names vs in
        let b = body P tables (needing program tables records left) p.called env p.body in
        let o = (b >>= (λ next. pure (back_or_zero next))) acc in
        let fit : KeysOnly P o w = subst (λ m. KeysOnly P m w) (λ q. (b >>= (λ x. sym (same_back IsOther P tables sight x) q)) acc) (main_keys left (omega (arith, l)) n p.called p.body true ruled.in_main (ruled.alone main) env 1 acc) in
        let front : SameKeys P (Enters main vs d ∷ []) ops = entered_keys main vs d n p.memo (lookup main vs d) (memo_is (procedure_of P main)) refl (ap (λ b. cond b (lookup main vs d) None) ruled.unrecorded) in
        subst (λ a. KeysOnly P (answered program tables records main vs a (entered_run left main vs) acc) (run P tables sight left L main vs n)) asked
        (subst (λ k. KeysOnly P (entered_run left main vs acc) (closed ops n (run_inside P tables sight (runner P tables sight left k) left main vs n))) (sym same)
        ((keys_goal P).leads (Enters main vs d ∷ []) ops o (record { events = w.events ++ Leaves n w.outcome ∷ []; outcome = w.outcome }) front (quiet_opening IsOther P tables sight L left main vs n p.memo) (keys_closed o.log w.events n w.outcome (first_fault w.events) refl fit)))

    pub marks_needed : MarksAreNeeded program tables records sight
    marks_needed =
        let first = beginning P in
        let told = beginning_told P in
        let es = (run P tables sight (depth_limit - 1) L main [] []).events in
        let front : SameKeys P [] first = unmarked_keys P first (told_unmarked first told) in
        subst (SameKeys P _) (sym (before_append first es (told_none first told))) (keys_join P [] _ first (before_fault es) front (main_needs (depth_limit - 1) (omega arith) start [] [] (initial_values P)))
