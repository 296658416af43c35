-- An instance leaves the values that it found, times its contribution; and records stay sound as new ones are put in.
use Rattle.std.proofs.Common.{ℕ, suc, ◌-◌, List, [], ◌∷◌, None, Ok, Err, ℤ, ◌≡◌, inr, sym, ap, ◌∙◌, subst, arith, true, false, Bool, cond}
use Rattle.monoid_laws.specs.Kinds.{Fits as FitsNumber, AreWorths}
use Rattle.meaning.specs.Tree.{Name, Tree}
use Rattle.meaning.specs.Tables.{Tables}
use Rattle.meaning.specs.Outcome.{Log, Accumulators, Fault, Site, Outcome, Out, after, combined}
use Rattle.meaning.specs.Statements.{reducers, identities}
use Rattle.meaning.specs.Elision.{elide, start, depth_limit}
use Rattle.meaning.specs.Records.{Revised, Kept, IsSound, with_kinds}
use Rattle.meaning.specs.Commits.{same_key, replaced, committed}
use Rattle.meaning.specs.Trail.{run}
use Rattle.meaning.specs.Layers.{Notes, blank, noted}
use Rattle.trail_theory.specs.Order.{Every}
use Rattle.trail_theory.specs.ReadsAtEnd.{IsOther, ReadsAtMainsEnd}
use Rattle.trail_theory.specs.ElisionBeside.{forgotten, Fits}
use Rattle.meaning.specs.Fitting.{ProgramFits}
use Rattle.trail_theory.specs.Typed.{kinds_of, HasMonoids, IsTyped, TablesFit}
use Rattle.trail_theory.specs.MadeRecords.{IsLater}
use Rattle.trail_theory.specs.KeptRecords.{CommitsStaySound, RecordsStaySound, ActsByContribution}
use Rattle.trail_theory.proofs.Ends.{worth_of}
use Rattle.trail_theory.proofs.MainElides.{other_fits}
use Rattle.trail_theory.proofs.Products.{product_log, product_blank, blank_worthy}
use Rattle.trail_theory.proofs.TypedWalks.{run_typed}
use Rattle.trail_theory.proofs.MadeRecords.{sound_stays}

-- ---- records

replaced_keeps : (P : Kept → Type 0) (records : List Kept) (k : Kept) → Every P records → P k → Every P (replaced records k)
replaced_keeps P [] k h new = (new, tt)
replaced_keeps P (j ∷ js) k h new = by_key (same_key j k) (replaced_keeps P js k h.1 new)
  where
    by_key : (b : Bool) → Every P (replaced js k) → Every P (cond b (k ∷ js) (j ∷ replaced js k))
    by_key true later = (new, h.1)
    by_key false later = (h.0, later)

committed_keeps : (P : Kept → Type 0) (records new : List Kept) → Every P records → Every P new → Every P (committed records new)
committed_keeps P records [] h new = h
committed_keeps P records (k ∷ ks) h new = committed_keeps P (replaced records k) ks (replaced_keeps P records k h new.0) new.1

pub commits_sound : (program : Revised) → CommitsStaySound program
commits_sound program records new h k = committed_keeps (IsSound program) records new h k

pub records_later : (program later : Revised) → IsLater program later → RecordsStaySound program later
records_later program later l [] h = tt
records_later program later l (k ∷ ks) h = (sound_stays program later k l h.0, records_later program later l ks h.1)

-- ---- contributions

-- two runs beside one stretch of the trail, the first without a fault
same_logs : (o p : Out Fault ℤ) (es : Log) (w : Outcome) (v : ℤ) → Fits o es w → Fits p es w → o.answer ≡ Ok v → (o.log ≡ forgotten es) × (p.log ≡ forgotten es)
same_logs o p es (Ok u) v h k e = (ap (λ x. x.log) h.0, ap (λ x. x.log) k.0)
same_logs o p es (Err j) v h k e = absurd (let z = sym e ∙ h.0 in cc)

module _ (program : Tree) (tables : Tables) (ruled : ReadsAtMainsEnd program) (good : HasMonoids program) (numbers : ProgramFits program) (held : TablesFit tables) where
  updates_multiply : (es : Log) (acc : Accumulators) → Every (IsTyped (kinds_of program)) es → AreWorths (kinds_of program) acc → after (forgotten es) acc ≡ combined acc (with_kinds (reducers program) (after (forgotten es) (identities program)))
  updates_multiply es acc typed worths =
      let a : Notes = record { worth = acc; read = []; entered = []; deepest = 0 } in
      let one = product_log program good a (blank program) es typed worths (blank_worthy program good) in
      let two = product_blank program good a worths in
      worth_of a es ∙ ap (λ l. (noted l es).worth) (sym two) ∙ sym (ap (λ l. l.worth) one) ∙ ap (λ w. combined acc (with_kinds (reducers program) w)) (sym (worth_of (blank program) es))

  acts_at : (left : ℕ) (site : Site) (f : Name) (vs : List ℤ) (acc : Accumulators) (v : ℤ) → IsOther f → Every FitsNumber vs → AreWorths (kinds_of program) acc → (elide program tables (suc left) site f vs acc).answer ≡ Ok v
      → after (elide program tables (suc left) site f vs acc).log acc ≡ combined acc (with_kinds (reducers program) (after (elide program tables (suc left) start f vs (identities program)).log (identities program)))
  acts_at left site f vs acc v other fit worths e =
      let o = elide program tables (suc left) site f vs acc in
      let p = elide program tables (suc left) start f vs (identities program) in
      let r = run program tables [] left None f vs [] in
      let logs = same_logs o p r.events r.outcome v (other_fits program tables [] ruled left None site f other vs [] acc) (other_fits program tables [] ruled left None start f other vs [] (identities program)) e in
      let typed : Every (IsTyped (kinds_of program)) r.events = (run_typed program tables [] numbers held IsOther (λ g q. (inr (ruled.elsewhere g q), ruled.alone g)) left None f vs [] other fit).0 in
      ap (λ l. after l acc) logs.0 ∙ updates_multiply r.events acc typed worths ∙ ap (λ l. combined acc (with_kinds (reducers program) (after l (identities program)))) (sym logs.1)

  pub acts_by_contribution : ActsByContribution program tables
  acts_by_contribution depth site f vs acc v out deep other fit worths =
      let levels : suc (depth_limit - depth) ≡ suc depth_limit - depth = omega (arith, out, deep) in
      subst (λ z. (elide program tables z site f vs acc).answer ≡ Ok v → after (elide program tables z site f vs acc).log acc ≡ combined acc (with_kinds (reducers program) (after (elide program tables z start f vs (identities program)).log (identities program)))) levels
      (acts_at (depth_limit - depth) site f vs acc v other fit worths)
