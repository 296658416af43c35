-- After a finished run in which each executed instance was recorded, with no edit since, nothing is executed.
use Rattle.std.proofs.Common.{ℕ, suc, ◌+◌, ◌-◌, ◌<◌, ◌≤◌, List, [], ◌∷◌, Some, None, Result, Ok, Err, ℤ, ◌≡◌, sym, ap, ◌∙◌, subst, arith, map, length, true, Bool, cond}
use Rattle.std.specs.Prelude.{nat_le}
use Rattle.std.proofs.lemmas.Bool.{le-leb}
use Rattle.meaning.specs.Tree.{Name, Tree}
use Rattle.meaning.specs.Tables.{Tables, is_there}
use Rattle.meaning.specs.Outcome.{Log, Accumulators, Fault, Outcome, Out}
use Rattle.meaning.specs.Statements.{identities, initial_values}
use Rattle.meaning.specs.Elision.{elide, start, main, depth_limit, answer_of, Finished, from_scratch}
use Rattle.meaning.specs.Records.{Revised, Kept, Key, IsSound, is_valid, holds_now, if_valid, record_of, needed, executed}
use Rattle.meaning.specs.Commits.{committed, kept_after}
use Rattle.meaning.specs.Tallies.{executions, valid_record}
use Rattle.meaning.specs.Trail.{Look, sight_of, trail_at}
use Rattle.meaning.specs.SmallStep.{look_of}
use Rattle.trail_theory.specs.Order.{In, Every}
use Rattle.trail_theory.specs.ReadsAtEnd.{ReadsAtMainsEnd}
use Rattle.trail_theory.specs.ElisionBeside.{first_fault, Fits}
use Rattle.trail_theory.specs.Right.{IsRecorded}
use Rattle.trail_theory.specs.OpenLayers.{IsNumbered, IsNewRecord}
use Rattle.trail_theory.specs.Counts.{HasRecord, NothingNeeded}
use Rattle.trail_theory.specs.TalliedTheorems.{RerunExecutesNone, RecordsEach, NoneAfterEach, EndLeavesNone}
use Rattle.trail_theory.proofs.Places.{every_in}
use Rattle.trail_theory.proofs.FirstFaults.{before_all}
use Rattle.trail_theory.proofs.MainElides.{both_true, begun, trail_from_scratch}
use Rattle.trail_theory.proofs.Contributions.{commits_sound}
use Rattle.trail_theory.proofs.Needed.{valid_at}
use Rattle.trail_theory.proofs.Counts.{needed_marks, end_counts, end_kept}
use Rattle.trail_theory.proofs.Remade.{made, then_found, IsMadeIn, all_found, IsRemade, remade, has_key, has_own, key_of, later_found, new_found, new_fits}
use Rattle.trail_theory.proofs.TwoLooks.{AnswersAfter, twin_trail}

-- an elision that ends without a fault has a trail without one
quiet_trail : (o : Out Fault ℤ) (es : Log) (w : Outcome) (v : ℤ) → Fits o es w → o.answer ≡ Ok v → first_fault es ≡ None
quiet_trail o es (Ok u) v h e = h.1
quiet_trail o es (Err k) v h e = absurd (let q = sym h.0 ∙ e in cc)

finished_answer : (initial : Accumulators) (o : Out Fault ℤ) (r : Result ℤ Fault) (v : ℤ) (acc : Accumulators) → answer_of initial (record { log = o.log; answer = r }) ≡ Finished v acc → r ≡ Ok v
finished_answer initial o (Ok w) v acc e = let q : w ≡ v = cc in ap Ok q
finished_answer initial o (Err k) v acc e = absurd cc

module _ (program : Revised) (tables : Tables) where
  sound_each : (keys : List Key) → Every (λ key. IsNewRecord program tables (made program tables key)) keys → Every (IsSound program) (map (made program tables) keys)
  sound_each [] h = tt
  sound_each (key ∷ keys) h = (h.0.sound, sound_each keys h.1)

  scratch_answer : (v : ℤ) (acc : Accumulators) → from_scratch program.tree tables ≡ Finished v acc → (elide program.tree tables depth_limit start main [] (initial_values program.tree)).answer ≡ Ok v
  unfolding from_scratch
  scratch_answer v acc e = let o = elide program.tree tables depth_limit start main [] (initial_values program.tree) in finished_answer (initial_values program.tree) o o.answer v acc e

  fits_there : (d : ℕ) (k : Kept) → holds_now program tables k ≡ true → d + k.height ≤ suc depth_limit → is_there (if_valid program tables d (Some k)) ≡ true
  fits_there d k now fits =
      let q : is_valid program tables d k ≡ true = both_true (holds_now program tables k) (nat_le (d + k.height) (suc depth_limit)) now (le-leb (d + k.height) (suc depth_limit) fits) in
      ap (λ b. is_there (cond b (Some k) None)) q

  there_at : (records : List Kept) (f : Name) (vs : List ℤ) (d : ℕ) → 0 < d → is_there (valid_record program tables records f vs d) ≡ is_there (if_valid program tables d (record_of records f vs))
  there_at records f vs d h = ap is_there (valid_at program tables [] records f vs d h)

  module _ (records : List Kept) (ruled : ReadsAtMainsEnd program.tree) (numbers : IsNumbered program) (sound : Every (IsSound program) records) where
    abbrev P : Tree
    P = program.tree

    abbrev S : Accumulators
    S = sight_of P tables

    abbrev keys : List Key
    keys = executed P (needed program tables records)

    abbrev later : List Kept
    later = kept_after program tables records

    abbrev there : List Kept → Name → List ℤ → ℕ → Bool
    there rs f vs d = is_there (valid_record program tables rs f vs d)

    abbrev Ran : Key → Type 0
    Ran key = IsNewRecord program tables (made program tables key)

    abbrev Found : Key → Type 0
    Found key = IsMadeIn program tables later key

    made_there : (left : ℕ) (f : Name) (vs : List ℤ) → IsRemade program tables ruled numbers left f vs → is_there (if_valid program tables (depth_limit - left) (Some (made program tables (f, vs)))) ≡ true
    made_there left f vs h = fits_there (depth_limit - left) (made program tables (f, vs)) h.is_new.now h.fits

    answers_after : AnswersAfter Ran Found P tables S ruled (there records) (there later)
    answers_after =
        record {
          ran = λ left f vs v deep memo e. (remade program tables ruled numbers left f vs v deep memo e).is_new;
          again = λ left f vs v deep memo e q.
              let d = depth_limit - left in
              let out : 0 < d = omega (arith, deep) in
              let old = sym (there_at records f vs d out) ∙ q in
              let new = made_there left f vs (remade program tables ruled numbers left f vs v deep memo e) in
              there_at later f vs d out ∙ then_found program tables (λ o. is_there (if_valid program tables d o) ≡ true) records keys f vs old new;
          found = λ left f vs v deep memo e k.
              let d = depth_limit - left in
              let out : 0 < d = omega (arith, deep) in
              there_at later f vs d out ∙ ap (λ o. is_there (if_valid program tables d o)) k ∙ made_there left f vs (remade program tables ruled numbers left f vs v deep memo e);
        }

    abbrev trail_by : List Kept → Log
    trail_by rs = trail_at P tables S (look_of (valid_record program tables rs))

    module _ (v : ℤ) (acc : Accumulators) (finished : from_scratch P tables ≡ Finished v acc) where
      quiet : (look : Look) → first_fault (trail_at P tables S look) ≡ None
      quiet look = quiet_trail (begun P (elide P tables depth_limit start main [] (initial_values P))) (trail_at P tables S look) _ v (trail_from_scratch P tables ruled look) (scratch_answer v acc finished)

      marked : (rs : List Kept) → Every (IsSound program) rs → executed P (needed program tables rs) ≡ executions (trail_by rs)
      marked rs all = (needed_marks program tables rs ruled all S).executed_are ∙ ap executions (before_all (trail_by rs) (quiet (look_of (valid_record program tables rs))))

      both : Every Ran (executions (trail_by records)) × (Every Found (executions (trail_by records)) → executions (trail_by later) ≡ [])
      both = twin_trail Ran Found P tables S ruled (there records) (there later) answers_after (quiet (look_of (valid_record program tables records)))

      pub later_sound : Every (IsSound program) later
      later_sound = commits_sound program records (map (made program tables) keys) sound (sound_each keys (subst (Every Ran) (sym (marked records sound)) both.0))

      pub nothing_left : executed P (needed program tables later) ≡ []
      nothing_left = marked later later_sound ∙ both.1 (subst (Every Found) (marked records sound) (all_found program tables records keys))

    pub nothing_needed : NothingNeeded program tables records
    nothing_needed v acc finished = record { sound = later_sound v acc finished; executes_none = nothing_left v acc finished }

    pub rerun_executes_none : RerunExecutesNone program tables records
    rerun_executes_none v acc finished s t w a b c d h =
        (end_counts program tables later ruled (later_sound v acc finished) s t w a b c d h).executed_are ∙ ap length (nothing_left v acc finished)

    -- ---- the same of any new records, where each execution has one

    module _ (new : List Kept) (given : RecordsEach program tables records new) where
      abbrev grown : List Kept
      grown = committed records new

      abbrev Anything : Key → Type 0
      Anything key = Unit {0}

      new_there : (left : ℕ) (f : Name) (vs : List ℤ) (v : ℤ) → left < depth_limit → IsRecorded P f → (elide P tables (suc left) start f vs (identities P)).answer ≡ Ok v → (k : Kept) → In k new → has_key k f vs ≡ true → is_there (if_valid program tables (depth_limit - left) (Some k)) ≡ true
      new_there left f vs v deep memo e k there q =
          let n = every_in (IsNewRecord program tables) k new given.news there in
          fits_there (depth_limit - left) k n.now (new_fits program tables ruled numbers left k f vs v deep memo e q n)

      grown_answers : AnswersAfter Anything (HasRecord new) P tables S ruled (there records) (there grown)
      grown_answers =
          record {
            ran = λ left f vs v deep memo e. tt;
            again = λ left f vs v deep memo e q.
                let d = depth_limit - left in
                let out : 0 < d = omega (arith, deep) in
                there_at grown f vs d out ∙ later_found (λ o. is_there (if_valid program tables d o) ≡ true) records new f vs (sym (there_at records f vs d out) ∙ q) (new_there left f vs v deep memo e);
            found = λ left f vs v deep memo e k.
                let d = depth_limit - left in
                let out : 0 < d = omega (arith, deep) in
                let own : has_key k.it f vs ≡ true = key_of f vs k.it.of k.it.args (sym k.named) (sym k.called) k.it ∙ has_own k.it in
                there_at grown f vs d out ∙ new_found (λ o. is_there (if_valid program tables d o) ≡ true) records new k.it f vs k.is_in own (new_there left f vs v deep memo e);
          }

      new_sound : (ks : List Kept) → Every (IsNewRecord program tables) ks → Every (IsSound program) ks
      new_sound [] h = tt
      new_sound (k ∷ ks) h = (h.0.sound, new_sound ks h.1)

      none_after : (v : ℤ) (acc : Accumulators) → from_scratch P tables ≡ Finished v acc → executed P (needed program tables grown) ≡ []
      none_after v acc finished =
          let walked = twin_trail Anything (HasRecord new) P tables S ruled (there records) (there grown) grown_answers (quiet v acc finished (look_of (valid_record program tables records))) in
          marked v acc finished grown (commits_sound program records new sound (new_sound new given.news)) ∙ walked.1 (subst (Every (HasRecord new)) (marked v acc finished records sound) given.each)

    pub none_after_each : NoneAfterEach program tables records
    none_after_each new v acc finished given = none_after new given v acc finished

    pub end_leaves_none : EndLeavesNone program tables records
    end_leaves_none v acc finished s t w a b c d h e = none_after t.made (record { news = h.made; each = end_kept program tables records ruled sound s t w a b c d h e }) v acc finished
