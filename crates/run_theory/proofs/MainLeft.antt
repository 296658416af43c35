-- What is left to do of main beside what the trail has left of it: where main reads, it has what a read sees on the trail.
use Rattle.std.proofs.Common.{ℕ, List, [], ◌∷◌, ◌++◌, Some, None, Result, Ok, Err, ℤ, pos, ◌≡◌, refl, sym, ap, ◌∙◌, subst, true, Bool}
use Rattle.meaning.specs.Tree.{Name, Deed, bind, enter, read, sync, update, choose, loop, give, Body, end, step, Tree}
use Rattle.meaning.specs.Tables.{Tables}
use Rattle.meaning.specs.Outcome.{Log, Accumulators, Fault, Outcome, Place, Reads, Enters, Updates, Reuses, Begins, Syncs, Leaves, Faults, Marks, Spawns, Out, onward, after}
use Rattle.meaning.specs.Run.{Run, pure, ◌>>=◌}
use Rattle.meaning.specs.Values.{Env, put}
use Rattle.meaning.specs.Statements.{reducers, numbered, reading}
use Rattle.meaning.specs.Elision.{Enter, Next, On, Back, deed, body, elide}
use Rattle.meaning.specs.Trail.{over, Look, body_walk, blocks_walk, Runner, runner}
use Rattle.meaning.specs.Rest.{blocks_left}
use Rattle.trail_theory.specs.Order.{Every}
use Rattle.trail_theory.specs.ElisionBeside.{forgotten, before_fault, Fits, Matches}
use Rattle.trail_theory.specs.Waiting.{NoReadsDeed}
use Rattle.trail_theory.specs.ReadsAtEnd.{IsOther, EntersOnlyDeed, EntersOnly, IsEnding, ReadsAtEnd, ReadsAtMainsEnd}
use Rattle.trail_theory.specs.MainReads.{ReadBlocks}
use Rattle.trail_theory.proofs.Walks.{Opens, half_opens, GoodRuns, good_runs, has_blocks}
use Rattle.trail_theory.proofs.Inside.{doomed}
use Rattle.trail_theory.proofs.FirstFaults.{before_all}
use Rattle.trail_theory.proofs.Elides.{after_append, step_apart, Anything, anything, Elides, finish, deed_fits, body_fits, rest_doomed, over_doomed, elide_fits}
use Rattle.trail_theory.proofs.MainElides.{Still, Stays, AllStay, ending_stays, ending_reads, others_quiet}
use Rattle.run_theory.proofs.Serial.{blocks_run, blocks_course, Came, came}

still_after : (es : Log) → Still es → (acc : Accumulators) → after es acc ≡ acc
still_after [] h acc = refl
still_after (Updates n kind w ∷ es) h acc = absurd h.0
still_after (Reuses f args ws ∷ es) h acc = absurd h.0
still_after (Reads r ∷ es) h acc = still_after es h.1 acc
still_after (Enters f args d ∷ es) h acc = still_after es h.1 acc
still_after (Begins n d ∷ es) h acc = still_after es h.1 acc
still_after (Syncs n ∷ es) h acc = still_after es h.1 acc
still_after (Spawns n ∷ es) h acc = still_after es h.1 acc
still_after (Leaves n v ∷ es) h acc = still_after es h.1 acc
still_after (Faults k ∷ es) h acc = still_after es h.1 acc
still_after (Marks f args c ∷ es) h acc = still_after es h.1 acc

pub fits_log : (o : Out Fault ℤ) (es : Log) (out : Outcome) → Fits o es out → o.log ≡ forgotten (before_fault es)
fits_log o es (Ok v) h = ap (λ x. x.log) h.0 ∙ ap forgotten (sym (before_all es h.1))
fits_log o es (Err k) h = h.1.0

abbrev zero_left : Env → Run ℤ
zero_left env = pure (pos 0)

module _ (program : Tree) (tables : Tables) (sight : Accumulators) (enters : Enter) where
  -- a block in which a read gives what is seen on the trail
  abbrev seen_body : Name → Body → Env → Run ℤ
  seen_body here end env = zero_left env
  seen_body here (step s (read x r) b) env = seen_body here b (put env x (reading sight (numbered 0 (reducers program) r)))
  seen_body here (step s d b) env = deed program tables enters (record { procedure = here; statement = s }) env d >>= finish (seen_body here b)

  -- the outermost block alone reads
  abbrev seen_blocks : Name → List Body → Env → Run ℤ
  seen_blocks here [] env = pure (pos 0)
  seen_blocks here (b ∷ []) env = seen_body here b env
  seen_blocks here (b ∷ c ∷ bs) env = body program tables enters here env b >>= finish (seen_blocks here (c ∷ bs))

  -- ---- it is the elision's where it ends with what is seen

  abbrev Sees : (Env → Run ℤ) → (Env → Run ℤ) → Type 0
  Sees f g = (env : Env) (acc : Accumulators) → after (g env acc).log acc ≡ sight → f env acc ≡ g env acc

  next_from : (f g : Env → Run ℤ) → Sees f g → (x : Next) (acc : Accumulators) → after (finish g x acc).log acc ≡ sight → finish f x acc ≡ finish g x acc
  next_from f g h (On env) acc e = h env acc e
  next_from f g h (Back v) acc e = refl

  then_from : (m : Run Next) (f g : Env → Run ℤ) → Sees f g → (acc : Accumulators) → after ((m >>= finish g) acc).log acc ≡ sight → (m >>= finish f) acc ≡ (m >>= finish g) acc
  then_from m f g h acc e = by (m acc).log (m acc).answer e
    where
      by : (log : Log) (r : Result Next Fault) → after (onward log r (λ a. finish g a (after log acc))).log acc ≡ sight → onward log r (λ a. finish f a (after log acc)) ≡ onward log r (λ a. finish g a (after log acc))
      by log (Err k) e = refl
      by log (Ok a) e = ap (λ o. record { log = log ++ o.log; answer = o.answer }) (next_from f g h a (after log acc) (sym (after_append log (finish g a (after log acc)).log acc) ∙ e))

  plain_stays : (here : Name) (s : ℕ) (d : Deed) → IsEnding (step s d end) → (env : Env) (acc : Accumulators) (kont : Env → Run ℤ) → AllStay program tables enters kont → Stays acc ((deed program tables enters (record { procedure = here; statement = s }) env d >>= finish kont) acc)
  plain_stays here s d p env acc kont h = subst (Stays acc) (step_apart program tables enters here s d end env kont acc) (ending_stays program tables enters here (step s d end) p env acc kont h)

  seen_stays : (here : Name) (b : Body) → IsEnding b → (env : Env) (acc : Accumulators) → Stays acc (seen_body here b env acc)
  seen_stays here end p env acc = tt
  seen_stays here (step s (bind x e) b) p env acc = plain_stays here s (bind x e) (p.0, tt) env acc (seen_body here b) (λ env' acc'. seen_stays here b p.1 env' acc')
  seen_stays here (step s (enter x way f es) b) p env acc = absurd p.0
  seen_stays here (step s (read x r) b) p env acc = seen_stays here b p (put env x (reading sight (numbered 0 (reducers program) r))) acc
  seen_stays here (step s sync b) p env acc = absurd p.0
  seen_stays here (step s (update r es) b) p env acc = absurd p.0
  seen_stays here (step s (choose e x y) b) p env acc = plain_stays here s (choose e x y) (p.0, tt) env acc (seen_body here b) (λ env' acc'. seen_stays here b p.1 env' acc')
  seen_stays here (step s (loop x e f grain g es) b) p env acc = absurd p.0
  seen_stays here (step s (give e) b) p env acc = plain_stays here s (give e) (p.0, tt) env acc (seen_body here b) (λ env' acc'. seen_stays here b p.1 env' acc')

  abbrev real_body : Name → Body → Env → Run ℤ
  real_body here b env = body program tables enters here env b >>= finish zero_left

  one_more : (here : Name) (s : ℕ) (d : Deed) (b : Body) → Sees (real_body here b) (seen_body here b) → (env : Env) (acc : Accumulators) → after ((deed program tables enters (record { procedure = here; statement = s }) env d >>= finish (seen_body here b)) acc).log acc ≡ sight
      → real_body here (step s d b) env acc ≡ (deed program tables enters (record { procedure = here; statement = s }) env d >>= finish (seen_body here b)) acc
  one_more here s d b h env acc e = step_apart program tables enters here s d b env zero_left acc ∙ then_from (deed program tables enters (record { procedure = here; statement = s }) env d) (real_body here b) (seen_body here b) h acc e

  body_same : (here : Name) (b : Body) (synced : Bool) → ReadsAtEnd synced b → Sees (real_body here b) (seen_body here b)
  body_same here end synced h env acc e = refl
  body_same here (step s (bind x t) b) synced h env acc e = one_more here s (bind x t) b (body_same here b _ h.1) env acc e
  body_same here (step s (enter x way f es) b) synced h env acc e = one_more here s (enter x way f es) b (body_same here b _ h.1) env acc e
  body_same here (step s (read x r) b) synced h env acc e =
      let num = numbered 0 (reducers program) r in
      let seen = put env x (reading sight num) in
      let a : acc ≡ sight = sym (still_after (seen_body here b seen acc).log (seen_stays here b h.1 seen acc) acc) ∙ e in
      step_apart program tables enters here s (read x r) b env zero_left acc
      ∙ ap (λ u. real_body here b (put env x (reading u num)) acc) a
      ∙ body_same here b true (ending_reads b h.1) seen acc e
  body_same here (step s sync b) synced h env acc e = one_more here s sync b (body_same here b true h) env acc e
  body_same here (step s (update r es) b) synced h env acc e = one_more here s (update r es) b (body_same here b _ h.1) env acc e
  body_same here (step s (choose t x y) b) synced h env acc e = one_more here s (choose t x y) b (body_same here b _ h.1) env acc e
  body_same here (step s (loop x t f grain g es) b) synced h env acc e = one_more here s (loop x t f grain g es) b (body_same here b _ h.1) env acc e
  body_same here (step s (give t) b) synced h env acc e = one_more here s (give t) b (body_same here b _ h.1) env acc e

  -- ---- it is the trail's

  module _ (sub : Runner) (good : Elides IsOther program tables sight enters sub sub) (left : ℕ) (sound : GoodRuns (Every Opens) (λ n c d r. (k : Fault) → d ≡ Some k → r.outcome ≡ Err k) (λ n r. Unit {0}) doomed half_opens program tables sight sub) (n : Place) (here : Name) where
    abbrev BodyFits : Body → Type 0
    BodyFits b = (env : Env) (c : ℕ) (acc : Accumulators) → Matches (seen_body here b env acc) (body_walk program tables sight sub left n here b env c None (λ env' c' d. over n d (pos 0)))

    deed_seen : (s : ℕ) (d : Deed) (b : Body) → NoReadsDeed d → EntersOnlyDeed IsOther d → BodyFits b → (env : Env) (c : ℕ) (acc : Accumulators)
        → Matches ((deed program tables enters (record { procedure = here; statement = s }) env d >>= finish (seen_body here b)) acc) (body_walk program tables sight sub left n here (step s d b) env c None (λ env' c' d'. over n d' (pos 0)))
    deed_seen s d b nr en h env c acc =
        deed_fits IsOther program tables sight enters sub good Anything anything left sound n (record { procedure = here; statement = s }) d nr en env c (seen_body here b) (λ env' c' d'. body_walk program tables sight sub left n here b env' c' d' (λ env'' c'' d''. over n d'' (pos 0)))
        ((λ env' c' acc' g. h env' c' acc'), rest_doomed IsOther program tables sight enters sub good Anything anything left sound n here b (λ env'' c'' d''. over n d'' (pos 0)) (λ env' c' d' e q. over_doomed IsOther program tables sight n d' e q)) acc tt

    body_seen : (b : Body) (synced : Bool) → ReadsAtEnd synced b → EntersOnly IsOther b → BodyFits b
    body_seen end synced h en env c acc = (refl, refl)
    body_seen (step s (bind x e) b) synced h en env c acc = deed_seen s (bind x e) b h.0 en.0 (body_seen b _ h.1 en.1) env c acc
    body_seen (step s (enter x way f es) b) synced h en env c acc = deed_seen s (enter x way f es) b h.0 en.0 (body_seen b _ h.1 en.1) env c acc
    body_seen (step s (read x r) b) synced h en env c acc = body_seen b true (ending_reads b h.1) en.1 (put env x (reading sight (numbered 0 (reducers program) r))) c acc
    body_seen (step s sync b) synced h en env c acc = deed_seen s sync b tt en.0 (body_seen b true h en.1) env c acc
    body_seen (step s (update r es) b) synced h en env c acc = deed_seen s (update r es) b h.0 en.0 (body_seen b _ h.1 en.1) env c acc
    body_seen (step s (choose e x y) b) synced h en env c acc = deed_seen s (choose e x y) b h.0 en.0 (body_seen b _ h.1 en.1) env c acc
    body_seen (step s (loop x e f grain g es) b) synced h en env c acc = deed_seen s (loop x e f grain g es) b h.0 en.0 (body_seen b _ h.1 en.1) env c acc
    body_seen (step s (give e) b) synced h en env c acc = deed_seen s (give e) b h.0 en.0 (body_seen b _ h.1 en.1) env c acc

    blocks_seen : (bs : List Body) (synced : Bool) → ReadBlocks synced bs → (env : Env) (c : ℕ) (acc : Accumulators) → Matches (seen_blocks here bs env acc) (blocks_walk program tables sight sub left n here bs env c None)
    blocks_seen [] synced h env c acc = (refl, refl)
    blocks_seen (b ∷ []) synced h env c acc = body_seen b synced h.0 h.1 env c acc
    blocks_seen (b ∷ d ∷ bs) synced h env c acc =
        body_fits IsOther program tables sight enters sub good Anything anything left sound n here b h.0.0 h.0.1 env c (seen_blocks here (d ∷ bs)) (λ env' c' d'. blocks_walk program tables sight sub left n here (d ∷ bs) env' c' d')
        ((λ env' c' acc' g. blocks_seen (d ∷ bs) _ h.1 env' c' acc'), (λ env' c' d' e z. has_blocks (Every Opens) _ _ doomed half_opens program tables sight sub sound left n here (d ∷ bs) env' c' d' e z)) acc tt

module _ (program : Tree) (tables : Tables) (sight : Accumulators) (ruled : ReadsAtMainsEnd program) (left : ℕ) where
  blocks_same : (here : Name) (bs : List Body) (synced : Bool) → ReadBlocks synced bs → (env : Env) (acc : Accumulators) → after (seen_blocks program tables sight (elide program tables left) here bs env acc).log acc ≡ sight
      → blocks_run program tables sight ruled left here bs env acc ≡ seen_blocks program tables sight (elide program tables left) here bs env acc
  blocks_same here [] synced h env acc e = refl
  blocks_same here (b ∷ []) synced h env acc e = body_same program tables sight (elide program tables left) here b synced h.0 env acc e
  blocks_same here (b ∷ c ∷ bs) synced h env acc e =
      then_from program tables sight (elide program tables left) (body program tables (elide program tables left) here env b) (blocks_run program tables sight ruled left here (c ∷ bs)) (seen_blocks program tables sight (elide program tables left) here (c ∷ bs))
      (λ env' acc' e'. blocks_same here (c ∷ bs) _ h.1 env' acc' e') acc e

  -- main's blocks, where the trail goes on to what is seen
  pub main_came : (look : Look) (n : Place) (here : Name) (bs : List Body) (synced : Bool) → ReadBlocks synced bs → (env : Env) (c : ℕ) (acc : Accumulators)
      → (let r = blocks_walk program tables sight (runner program tables sight left look) left n here bs env c None in after (forgotten (before_fault r.events)) acc ≡ sight → Came (blocks_left program tables left here bs env acc) acc r.events r.outcome)
  main_came look n here bs synced h env c acc known =
      let enters = elide program tables left in
      let sub = runner program tables sight left look in
      let r = blocks_walk program tables sight sub left n here bs env c None in
      let o = seen_blocks program tables sight enters here bs env acc in
      let m : Matches o r = blocks_seen program tables sight enters sub (elide_fits IsOther program tables sight (others_quiet program tables sight ruled) left look) left (good_runs _ _ doomed program tables sight left look) n here bs synced h env c acc in
      let z = blocks_same here bs synced h env acc (ap (λ l. after l acc) (fits_log o r.events r.outcome m) ∙ known) in
      let real : Matches (blocks_run program tables sight ruled left here bs env acc) r = subst (λ x. Matches x r) (sym z) m in
      subst (λ x. Came x acc r.events r.outcome) (sym (blocks_course program tables sight ruled left here bs env acc)) (came (blocks_run program tables sight ruled left here bs env acc) acc r.events r.outcome real)
