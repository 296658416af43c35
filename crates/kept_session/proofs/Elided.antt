-- What an instance's elision makes of the reducers' identities: a value of each kind, where numbers fit 64 bits.
use Rattle.std.proofs.Common.{ℕ, zero, suc, ◌+◌, ◌-◌, ◌<◌, ◌≤◌, List, [], ◌∷◌, ◌++◌, Result, Ok, Err, ℤ, pos, ◌≡◌, refl, sym, ◌∙◌, subst, arith, append-nil, true, false, Bool, cond}
use Rattle.std.specs.Prelude.{◌+ℤ◌}
use Rattle.std.specs.List.{AllByRecursion}
use Rattle.std.specs.Ordering.{int_eq}
use Rattle.std.specs.Str.{bytes_eq}
use Rattle.monoid_laws.specs.declared.Kind.{Kind}
use Rattle.monoid_laws.specs.Kinds.{Fits, AreWorths}
use Rattle.meaning.specs.Tree.{Name, Deed, bind, enter, read, sync, update, choose, loop, give, Body, end, step, Tree}
use Rattle.meaning.specs.declared.FaultKind.{FaultKind}
use Rattle.meaning.specs.Tables.{Tables}
use Rattle.meaning.specs.Outcome.{Log, Accumulators, Event, Fault, Site, Reads, Enters, Updates, Reuses, Begins, Syncs, Leaves, Faults, Marks, Spawns, Out, onward, after}
use Rattle.meaning.specs.Run.{Run, ◌>>=◌, ◌>>◌, pure, note, placed, at}
use Rattle.meaning.specs.Values.{Env, put, value, values}
use Rattle.meaning.specs.Statements.{reducers, proc_of, identities, fresh, Job, job_of, put_into, turn_values, update_of, bounds}
use Rattle.meaning.specs.Elision.{Enter, Next, On, Back, go_on, back_or_zero, turns, all_turns, deed, body, elide, main, depth_limit}
use Rattle.meaning.specs.Fitting.{FitsTerm, FitsDeed, FitsBody, ProgramFits}
use Rattle.meaning.specs.Layers.{blank}
use Rattle.trail_theory.specs.Order.{Every}
use Rattle.trail_theory.specs.Waiting.{NoReadsDeed, NoReads}
use Rattle.trail_theory.specs.ReadsAtEnd.{IsOther, EntersOnlyDeed, EntersOnly, IsEnding, ReadsAtEnd, ReadsAtMainsEnd}
use Rattle.trail_theory.specs.ElisionBeside.{forgotten}
use Rattle.trail_theory.specs.Typed.{kinds_of, HasMonoids, IsTyped, TablesFit}
use Rattle.trail_theory.proofs.Places.{every_append}
use Rattle.trail_theory.proofs.Evaluations.{Told, calm_value, calm_values, calm_update, calm_bounds}
use Rattle.trail_theory.proofs.FitNumbers.{zero_fits}
use Rattle.trail_theory.proofs.FitValues.{FitsEnv, put_fits, put_into_fits, fresh_fits, Gives, FitsOut, value_fits, values_fits, FitsRange, bounds_fits, update_fits}
use Rattle.trail_theory.proofs.Elides.{finish}
use Rattle.trail_theory.proofs.MainElides.{Still, ending_stays}
use Rattle.trail_theory.proofs.Products.{blank_worthy, worthy}
use Rattle.trail_theory.proofs.Ends.{worth_of}
use Rattle.trail_theory.proofs.SameTrees.{name_true}

-- ---- updates of a reducer's kind, and no record's

module _ (kinds : List Kind) where
  abbrev pub Right : Event → Type 0
  Right (Updates n kind w) = IsTyped kinds (Updates n kind w)
  Right (Reuses f args ws) = ⊥
  Right (Reads r) = Unit {0}
  Right (Enters f args d) = Unit {0}
  Right (Begins n d) = Unit {0}
  Right (Syncs n) = Unit {0}
  Right (Spawns n) = Unit {0}
  Right (Leaves n v) = Unit {0}
  Right (Faults k) = Unit {0}
  Right (Marks f args b) = Unit {0}

  right_told : (es : Log) → Every Told es → Every (IsTyped kinds) es → Every Right es
  right_told [] h t = tt
  right_told (Reads r ∷ es) h t = (tt, right_told es h.1 t.1)
  right_told (Updates n kind w ∷ es) h t = (t.0, right_told es h.1 t.1)
  right_told (Enters f args d ∷ es) h t = absurd h.0
  right_told (Reuses f args ws ∷ es) h t = absurd h.0
  right_told (Begins n d ∷ es) h t = absurd h.0
  right_told (Syncs n ∷ es) h t = absurd h.0
  right_told (Spawns n ∷ es) h t = absurd h.0
  right_told (Leaves n v ∷ es) h t = absurd h.0
  right_told (Faults k ∷ es) h t = absurd h.0
  right_told (Marks f args c ∷ es) h t = absurd h.0

  right_still : (es : Log) → Still es → Every Right es
  right_still [] h = tt
  right_still (Updates n kind w ∷ es) h = absurd h.0
  right_still (Reuses f args ws ∷ es) h = absurd h.0
  right_still (Reads r ∷ es) h = (tt, right_still es h.1)
  right_still (Enters f args d ∷ es) h = (tt, right_still es h.1)
  right_still (Begins n d ∷ es) h = (tt, right_still es h.1)
  right_still (Syncs n ∷ es) h = (tt, right_still es h.1)
  right_still (Spawns n ∷ es) h = (tt, right_still es h.1)
  right_still (Leaves n v ∷ es) h = (tt, right_still es h.1)
  right_still (Faults k ∷ es) h = (tt, right_still es h.1)
  right_still (Marks f args c ∷ es) h = (tt, right_still es h.1)

  typed_right : (es : Log) → Every Right es → Every (IsTyped kinds) es
  typed_right [] h = tt
  typed_right (Updates n kind w ∷ es) h = (h.0, typed_right es h.1)
  typed_right (Reuses f args ws ∷ es) h = absurd h.0
  typed_right (Reads r ∷ es) h = (tt, typed_right es h.1)
  typed_right (Enters f args d ∷ es) h = (tt, typed_right es h.1)
  typed_right (Begins n d ∷ es) h = (tt, typed_right es h.1)
  typed_right (Syncs n ∷ es) h = (tt, typed_right es h.1)
  typed_right (Spawns n ∷ es) h = (tt, typed_right es h.1)
  typed_right (Leaves n v ∷ es) h = (tt, typed_right es h.1)
  typed_right (Faults k ∷ es) h = (tt, typed_right es h.1)
  typed_right (Marks f args c ∷ es) h = (tt, typed_right es h.1)

  after_right : (es : Log) (acc : Accumulators) → Every Right es → after es acc ≡ after (forgotten es) acc
  after_right [] acc h = refl
  after_right (Updates n kind w ∷ es) acc h = after_right es _ h.1
  after_right (Reuses f args ws ∷ es) acc h = absurd h.0
  after_right (Reads r ∷ es) acc h = after_right es acc h.1
  after_right (Enters f args d ∷ es) acc h = after_right es acc h.1
  after_right (Begins n d ∷ es) acc h = after_right es acc h.1
  after_right (Syncs n ∷ es) acc h = after_right es acc h.1
  after_right (Spawns n ∷ es) acc h = after_right es acc h.1
  after_right (Leaves n v ∷ es) acc h = after_right es acc h.1
  after_right (Faults k ∷ es) acc h = after_right es acc h.1
  after_right (Marks f args c ∷ es) acc h = after_right es acc h.1

-- so from the identities on there are values of the kinds
worths_right : (program : Tree) (es : Log) → HasMonoids program → Every (Right (kinds_of program)) es → AreWorths (kinds_of program) (after es (identities program))
worths_right program es good h =
    subst (AreWorths (kinds_of program)) (sym (after_right (kinds_of program) es (identities program) h ∙ worth_of (blank program) es))
    (worthy program good (blank program) es (typed_right (kinds_of program) es h) (blank_worthy program good))

-- ---- pieces of the elision

module _ (program : Tree) (tables : Tables) (numbers : ProgramFits program) (held : TablesFit tables) where
  abbrev cs : List Kind
  cs = kinds_of program

  abbrev RightOut : {A : Type 0} → (A → Type 0) → Out Fault A → Type 0
  RightOut P o = Every (Right cs) o.log × Gives P o.answer

  abbrev RightRun : {A : Type 0} → (A → Type 0) → Run A → Type 0
  RightRun P m = (acc : Accumulators) → RightOut P (m acc)

  right_onward : {A B : Type 0} (P : A → Type 0) (R : B → Type 0) (log : Log) (r : Result A Fault) (f : A → Out Fault B) → Every (Right cs) log → Gives P r → ((a : A) → P a → RightOut R (f a)) → RightOut R (onward log r f)
  right_onward P R log (Err e) f h p k = (h, tt)
  right_onward P R log (Ok a) f h p k = let q = k a p in (every_append (Right cs) log (f a).log h q.0, q.1)

  right_then : {A B : Type 0} (P : A → Type 0) (R : B → Type 0) (m : Run A) (f : A → Run B) → RightRun P m → ((a : A) → P a → RightRun R (f a)) → RightRun R (m >>= f)
  right_then P R m f h k acc = right_onward P R (m acc).log (m acc).answer (λ a. f a (after (m acc).log acc)) (h acc).0 (h acc).1 (λ a p. k a p (after (m acc).log acc))

  placed_gives : {A : Type 0} (P : A → Type 0) (site : Site) (r : Result A FaultKind) → Gives P r → Gives P (placed site r)
  placed_gives P site (Ok a) h = h
  placed_gives P site (Err k) h = tt

  right_at : {A : Type 0} (P : A → Type 0) (site : Site) (o : Out FaultKind A) → Every Told o.log → FitsOut cs P o → RightRun P (at site o)
  right_at P site o told fits acc = (right_told cs o.log told fits.0, placed_gives P site o.answer fits.1)

  right_cond : {A : Type 0} (P : A → Type 0) (b : Bool) (m n : Run A) → RightRun P m → RightRun P n → RightRun P (cond b m n)
  right_cond P true m n h k = h
  right_cond P false m n h k = k

  abbrev Done : Unit {0} → Type 0
  Done u = Unit {0}

  -- what a statement or a block leaves
  abbrev FitsNext : Next → Type 0
  FitsNext (On env) = FitsEnv env
  FitsNext (Back v) = Fits v

  back_fits : (n : Next) → FitsNext n → Fits (back_or_zero n)
  back_fits (On env) h = zero_fits
  back_fits (Back v) h = h

  abbrev AnyNext : Next → Type 0
  AnyNext n = Unit {0}

  abbrev RightEnter : Enter → Type 0
  RightEnter enters = (site : Site) (f : Name) (vs : List ℤ) → IsOther f → Every Fits vs → RightRun Fits (enters site f vs)

  module _ (enters : Enter) (good : RightEnter enters) where
    right_turns : (job : Job) (count i : ℕ) → IsOther job.callee → FitsEnv job.env → AllByRecursion FitsTerm job.args → ((j : ℕ) → i ≤ j → j < i + count → Fits (job.low +ℤ pos j)) → RightRun Done (turns program tables enters job count i)
    right_turns job zero i other env args range = λ acc. (tt, tt)
    right_turns job (suc count) i other env args range =
        let low : Fits (job.low +ℤ pos i) = range i (omega arith) (omega arith) in
        right_then (Every Fits) Done (at job.site (turn_values tables job i)) (λ vs. enters job.site job.callee vs >> turns program tables enters job count (suc i))
        (right_at (Every Fits) job.site (turn_values tables job i) (calm_values tables (put job.env job.variable (job.low +ℤ pos i)) job.args) (values_fits cs tables held (put job.env job.variable (job.low +ℤ pos i)) job.args (put_fits job.env job.variable (job.low +ℤ pos i) low env) args))
        (λ vs fs. right_then Fits Done (enters job.site job.callee vs) (λ v. turns program tables enters job count (suc i)) (good job.site job.callee vs other fs)
        (λ v fv. right_turns job count (suc i) other env args (λ j l h. range j (omega arith) (omega arith))))

    right_all : (job : Job) (count : ℕ) → IsOther job.callee → FitsEnv job.env → AllByRecursion FitsTerm job.args → ((j : ℕ) → j < count → Fits (job.low +ℤ pos j)) → RightRun Done (all_turns program tables enters job count)
    unfolding all_turns
    right_all job count other env args range = right_turns job count 0 other env args (λ j l h. range j (omega arith))

    right_go_on : (R : Next → Type 0) (n : Next) (f : Env → Run Next) → FitsNext n → ((v : ℤ) → Fits v → R (Back v)) → ((env : Env) → FitsEnv env → RightRun R (f env)) → RightRun R (go_on n f)
    right_go_on R (On env) f h back k = k env h
    right_go_on R (Back v) f h back k = λ acc. (tt, back v h)

    mutual
      right_deed : (site : Site) (env : Env) (d : Deed) → FitsDeed d → NoReadsDeed d → EntersOnlyDeed IsOther d → FitsEnv env → RightRun FitsNext (deed program tables enters site env d)
      right_deed site env (bind x e) f quiet only h =
          right_then Fits FitsNext (at site (value tables env e)) (λ v. pure (On (put env x v))) (right_at Fits site (value tables env e) (calm_value tables env e) (value_fits cs tables held env e h f)) (λ v fv acc. (tt, put_fits env x v fv h))
      right_deed site env (enter x way g es) f quiet only h =
          right_then (Every Fits) FitsNext (at site (values tables env es)) (λ vs. enters site g vs >>= (λ v. pure (On (put_into x env v)))) (right_at (Every Fits) site (values tables env es) (calm_values tables env es) (values_fits cs tables held env es h f))
          (λ vs fs. right_then Fits FitsNext (enters site g vs) (λ v. pure (On (put_into x env v))) (good site g vs only fs) (λ v fv acc. (tt, put_into_fits x env v fv h)))
      right_deed site env (read x r) f quiet only h = absurd quiet
      right_deed site env sync f quiet only h = λ acc. (tt, h)
      right_deed site env (update r es) f quiet only h =
          right_then Done FitsNext (at site (update_of tables (reducers program) env r es)) (λ u. pure (On env)) (right_at Done site (update_of tables (reducers program) env r es) (calm_update tables (reducers program) env r es) (update_fits program tables held env r es h f)) (λ u p acc. (tt, h))
      right_deed site env (choose e a b) f quiet only h =
          right_then Fits FitsNext (at site (value tables env e)) (λ v. cond (int_eq v (pos 0)) (body program tables enters site.procedure env b) (body program tables enters site.procedure env a)) (right_at Fits site (value tables env e) (calm_value tables env e) (value_fits cs tables held env e h f.0))
          (λ v fv. right_cond FitsNext (int_eq v (pos 0)) (body program tables enters site.procedure env b) (body program tables enters site.procedure env a) (right_body site.procedure env b f.1.1 quiet.1 only.1 h) (right_body site.procedure env a f.1.0 quiet.0 only.0 h))
      right_deed site env (loop x e e' grain g es) f quiet only h =
          right_then (FitsRange cs tables held) FitsNext (at site (bounds tables env e e')) (λ range. all_turns program tables enters (job_of site env x g es grain range.0) range.1 >> pure (On env)) (right_at (FitsRange cs tables held) site (bounds tables env e e') (calm_bounds tables env e e') (bounds_fits cs tables held env e e' h f.0 f.1.0))
          (λ range p. right_then Done FitsNext (all_turns program tables enters (job_of site env x g es grain range.0) range.1) (λ u. pure (On env)) (right_all (job_of site env x g es grain range.0) range.1 only h f.1.1 p.1) (λ u q acc. (tt, h)))
      right_deed site env (give e) f quiet only h =
          right_then Fits FitsNext (at site (value tables env e)) (λ v. pure (Back v)) (right_at Fits site (value tables env e) (calm_value tables env e) (value_fits cs tables held env e h f)) (λ v fv acc. (tt, fv))

      right_body : (here : Name) (env : Env) (b : Body) → FitsBody b → NoReads b → EntersOnly IsOther b → FitsEnv env → RightRun FitsNext (body program tables enters here env b)
      right_body here env end f quiet only h = λ acc. (tt, h)
      right_body here env (step n d rest) f quiet only h =
          right_then FitsNext FitsNext (deed program tables enters (record { procedure = here; statement = n }) env d) (λ next. go_on next (λ env'. body program tables enters here env' rest)) (right_deed (record { procedure = here; statement = n }) env d f.0 quiet.0 only.0 h)
          (λ next q. right_go_on FitsNext next (λ env'. body program tables enters here env' rest) q (λ v fv. fv) (λ env' h'. right_body here env' rest f.1 quiet.1 only.1 h'))

    -- main reads at its end
    abbrev Over : Env → Run ℤ
    Over env = pure (pos 0)

    still_next : (log : Log) (n : Next) (acc : Accumulators) → Still (log ++ (finish Over n acc).log) → Still log
    still_next log (On env) acc h = subst Still (append-nil log) h
    still_next log (Back v) acc h = subst Still (append-nil log) h

    still_of : (log : Log) (r : Result Next Fault) (acc : Accumulators) → Still (onward log r (λ n. finish Over n acc)).log → Still log
    still_of log (Ok n) acc h = still_next log n acc h
    still_of log (Err k) acc h = h

    any_next : (r : Result Next Fault) → Gives AnyNext r
    any_next (Ok n) = tt
    any_next (Err k) = tt

    right_ending : (here : Name) (b : Body) → IsEnding b → (env : Env) → RightRun AnyNext (body program tables enters here env b)
    right_ending here b ending env acc =
        let o = body program tables enters here env b acc in
        (right_still cs o.log (still_of o.log o.answer (after o.log acc) (ending_stays program tables enters here b ending env acc Over (λ env' acc'. tt))), any_next o.answer)

    abbrev RightBlock : Name → Body → Type 0
    RightBlock here b = (env : Env) → FitsEnv env → RightRun AnyNext (body program tables enters here env b)

    right_step : (here : Name) (n : ℕ) (d : Deed) (rest : Body) → FitsDeed d → NoReadsDeed d → EntersOnlyDeed IsOther d → RightBlock here rest → RightBlock here (step n d rest)
    right_step here n d rest f quiet only later env h =
        right_then FitsNext AnyNext (deed program tables enters (record { procedure = here; statement = n }) env d) (λ next. go_on next (λ env'. body program tables enters here env' rest)) (right_deed (record { procedure = here; statement = n }) env d f quiet only h)
        (λ next q. right_go_on AnyNext next (λ env'. body program tables enters here env' rest) q (λ v fv. tt) later)

    right_main : (here : Name) (b : Body) (synced : Bool) → ReadsAtEnd synced b → EntersOnly IsOther b → FitsBody b → RightBlock here b
    right_main here end synced h only f = λ env e acc. (tt, tt)
    right_main here (step n (read x r) b) synced h only f = λ env e. right_ending here (step n (read x r) b) h.1 env
    right_main here (step n (bind x e) b) synced h only f = right_step here n (bind x e) b f.0 h.0 only.0 (right_main here b _ h.1 only.1 f.1)
    right_main here (step n (enter x way g es) b) synced h only f = right_step here n (enter x way g es) b f.0 h.0 only.0 (right_main here b _ h.1 only.1 f.1)
    right_main here (step n sync b) synced h only f = right_step here n sync b f.0 tt only.0 (right_main here b true h only.1 f.1)
    right_main here (step n (update r es) b) synced h only f = right_step here n (update r es) b f.0 h.0 only.0 (right_main here b _ h.1 only.1 f.1)
    right_main here (step n (choose e a c) b) synced h only f = right_step here n (choose e a c) b f.0 h.0 only.0 (right_main here b _ h.1 only.1 f.1)
    right_main here (step n (loop x e e' grain g es) b) synced h only f = right_step here n (loop x e e' grain g es) b f.0 h.0 only.0 (right_main here b _ h.1 only.1 f.1)
    right_main here (step n (give e) b) synced h only f = right_step here n (give e) b f.0 h.0 only.0 (right_main here b _ h.1 only.1 f.1)

  module _ (ruled : ReadsAtMainsEnd program) where
    right_elide : (left : ℕ) → RightEnter (elide program tables left)
    unfolding elide
    right_elide zero site f vs other h = λ acc. (tt, tt)
    right_elide (suc left) site f vs other h =
        let p = proc_of program f in
        let inside = right_body (elide program tables left) (right_elide left) p.called (fresh p.names vs) p.body (numbers.bodies f) (ruled.elsewhere f other) (ruled.alone f) (fresh_fits p.names vs h) in
        right_then Done Fits (note (Enters f vs (depth_limit - left))) (λ u. body program tables (elide program tables left) p.called (fresh p.names vs) p.body >>= (λ next. pure (back_or_zero next))) (λ acc. ((tt, tt), tt))
        (λ u q. right_then FitsNext Fits (body program tables (elide program tables left) p.called (fresh p.names vs) p.body) (λ next. pure (back_or_zero next)) inside (λ next w acc. (tt, back_fits next w)))

    abbrev AnyNumber : ℤ → Type 0
    AnyNumber v = Unit {0}

    right_elide_main : (left : ℕ) (site : Site) (vs : List ℤ) → Every Fits vs → RightRun AnyNumber (elide program tables left site main vs)
    unfolding elide
    right_elide_main zero site vs h = λ acc. (tt, tt)
    right_elide_main (suc left) site vs h =
        let p = proc_of program main in
        let inside = right_main (elide program tables left) (right_elide left) p.called p.body true ruled.in_main (ruled.alone main) (numbers.bodies main) (fresh p.names vs) (fresh_fits p.names vs h) in
        right_then Done AnyNumber (note (Enters main vs (depth_limit - left))) (λ u. body program tables (elide program tables left) p.called (fresh p.names vs) p.body >>= (λ next. pure (back_or_zero next))) (λ acc. ((tt, tt), tt))
        (λ u q. right_then AnyNext AnyNumber (body program tables (elide program tables left) p.called (fresh p.names vs) p.body) (λ next. pure (back_or_zero next)) inside (λ next w acc. (tt, tt)))

    by_name : (left : ℕ) (site : Site) (f : Name) (vs : List ℤ) (b : Bool) → bytes_eq f main ≡ b → Every Fits vs → (acc : Accumulators) → Every (Right cs) (elide program tables left site f vs acc).log
    by_name left site f vs true e h acc = subst (λ g. Every (Right cs) (elide program tables left site g vs acc).log) (sym (name_true f main e)) (right_elide_main left site vs h acc).0
    by_name left site f vs false e h acc = (right_elide left site f vs (λ q. absurd (let z : bytes_eq main main ≡ false = subst (λ g. bytes_eq g main ≡ false) q e in cc)) h acc).0

    -- an instance gives each reducer a value of its kind
    pub worths_elided : HasMonoids program → (left : ℕ) (site : Site) (f : Name) (vs : List ℤ) → Every Fits vs → AreWorths cs (after (elide program tables left site f vs (identities program)).log (identities program))
    worths_elided good left site f vs h = worths_right program (elide program tables left site f vs (identities program)).log good (by_name left site f vs (bytes_eq f main) refl h (identities program))
