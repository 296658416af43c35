-- Sound records that hold now answer only with the runs that they stand for.
use Rattle.std.proofs.Common.{ℕ, suc, ◌+◌, ◌-◌, ◌<◌, List, Some, [], ◌∷◌, ◌++◌, None, Ok, Err, ℤ, ◌≡◌, sym, ap, ◌∙◌, subst, arith, append_assoc, append-nil}
use Rattle.std.specs.Prelude.{max, ◌↔◌}
use Rattle.std.specs.List.{Contains}
use Rattle.meaning.specs.Tree.{Name, Tree}
use Rattle.meaning.specs.Tables.{Tables}
use Rattle.meaning.specs.Outcome.{Log, Accumulators, Fault, Outcome, Place, Reads, Enters, Updates, Reuses, Begins, Syncs, Leaves, Faults, Marks, Spawns, Out, after}
use Rattle.meaning.specs.Statements.{identities}
use Rattle.meaning.specs.Elision.{elide, reads, entered, deepest, start, depth_limit}
use Rattle.meaning.specs.Records.{Revised, Kept}
use Rattle.meaning.specs.Trail.{run}
use Rattle.meaning.specs.SmallStep.{Lookup}
use Rattle.meaning.specs.Layers.{Notes, blank, notes, noted, noted_one, notes_of}
use Rattle.trail_theory.specs.Waiting.{HasNoReads}
use Rattle.trail_theory.specs.ReadsAtEnd.{ReadsAtMainsEnd}
use Rattle.trail_theory.specs.Right.{AnswersFor, LookupIsSound, IsRecorded, RecordedAreSound}
use Rattle.trail_theory.specs.ElisionBeside.{forgotten, Fits, Matches, SaysElision}
use Rattle.trail_theory.specs.MadeRecords.{SaysOf, IsAnswer, RecordedBySound, AnswersBySound}
use Rattle.trail_theory.proofs.Elides.{run_fits}
use Rattle.trail_theory.proofs.Ends.{worth_of}
use Rattle.trail_theory.proofs.Records.{notes_forgotten, sound_for, recorded_other}
use Rattle.trail_theory.proofs.MainElides.{other_fits}

pub noted_reads : (l : Notes) (es : Log) → (noted l es).read ≡ l.read ++ reads es
noted_reads l [] = sym (append-nil l.read)
noted_reads l (Reads r ∷ es) = noted_reads (noted_one l (Reads r)) es ∙ append_assoc l.read (r ∷ []) (reads es)
noted_reads l (Enters f args d ∷ es) = noted_reads (noted_one l (Enters f args d)) es
noted_reads l (Updates n kind w ∷ es) = noted_reads (noted_one l (Updates n kind w)) es
noted_reads l (Reuses f args ws ∷ es) = noted_reads l es
noted_reads l (Begins n d ∷ es) = noted_reads l es
noted_reads l (Syncs n ∷ es) = noted_reads l es
noted_reads l (Spawns n ∷ es) = noted_reads l es
noted_reads l (Leaves n v ∷ es) = noted_reads l es
noted_reads l (Faults k ∷ es) = noted_reads l es
noted_reads l (Marks f args b ∷ es) = noted_reads l es

pub noted_entered : (l : Notes) (es : Log) → (noted l es).entered ≡ l.entered ++ entered es
noted_entered l [] = sym (append-nil l.entered)
noted_entered l (Enters f args d ∷ es) = noted_entered (noted_one l (Enters f args d)) es ∙ append_assoc l.entered (f ∷ []) (entered es)
noted_entered l (Reads r ∷ es) = noted_entered (noted_one l (Reads r)) es
noted_entered l (Updates n kind w ∷ es) = noted_entered (noted_one l (Updates n kind w)) es
noted_entered l (Reuses f args ws ∷ es) = noted_entered l es
noted_entered l (Begins n d ∷ es) = noted_entered l es
noted_entered l (Syncs n ∷ es) = noted_entered l es
noted_entered l (Spawns n ∷ es) = noted_entered l es
noted_entered l (Leaves n v ∷ es) = noted_entered l es
noted_entered l (Faults k ∷ es) = noted_entered l es
noted_entered l (Marks f args b ∷ es) = noted_entered l es

pub noted_deepest : (l : Notes) (es : Log) → (noted l es).deepest ≡ max l.deepest (deepest es)
noted_deepest l [] = omega arith
noted_deepest l (Enters f args d ∷ es) = let h : (noted (noted_one l (Enters f args d)) es).deepest ≡ max (max l.deepest d) (deepest es) = noted_deepest (noted_one l (Enters f args d)) es in omega arith
noted_deepest l (Reads r ∷ es) = noted_deepest (noted_one l (Reads r)) es
noted_deepest l (Updates n kind w ∷ es) = noted_deepest (noted_one l (Updates n kind w)) es
noted_deepest l (Reuses f args ws ∷ es) = noted_deepest l es
noted_deepest l (Begins n d ∷ es) = noted_deepest l es
noted_deepest l (Syncs n ∷ es) = noted_deepest l es
noted_deepest l (Spawns n ∷ es) = noted_deepest l es
noted_deepest l (Leaves n v ∷ es) = noted_deepest l es
noted_deepest l (Faults k ∷ es) = noted_deepest l es
noted_deepest l (Marks f args b ∷ es) = noted_deepest l es

-- the worth of an elision's log, in a layer
plain_worth : (program : Tree) (v : ℤ) (o : Out Fault ℤ) (es : Log) (w : Outcome) → o.answer ≡ Ok v → Fits o es w → (notes program o.log).worth ≡ after o.log (identities program)
plain_worth program v o es (Err k) q e = absurd (let z = sym q ∙ e.0 in cc)
plain_worth program v o es (Ok u) q e =
    let h : o.log ≡ forgotten es = ap (λ x. x.log) e.0 in
    ap (λ l. (notes program l).worth) h ∙ ap (λ x. x.worth) (sym (notes_forgotten (blank program) es)) ∙ sym (worth_of (blank program) es) ∙ ap (λ l. after l (identities program)) (sym h)

module _ (program : Revised) (tables : Tables) (sight : Accumulators) (P : Name → Type 0) (fits : (left : ℕ) (f : Name) (vs : List ℤ) (n : Place) → P f → Matches (elide program.tree tables (suc left) start f vs (identities program.tree)) (run program.tree tables sight left None f vs n)) where
  abbrev eliding : ℕ → Kept → Out Fault ℤ
  eliding left k = elide program.tree tables (suc left) start k.of k.args (identities program.tree)

  says : (k : Kept) (left depth : ℕ) → P k.of → 0 < depth → SaysOf program.tree depth k (eliding left k) → SaysElision program.tree k (eliding left k) depth
  says k left depth p out n =
      let o = eliding left k in
      let r = run program.tree tables sight left None k.of k.args [] in
      let d : (notes program.tree o.log).deepest ≡ max 0 (deepest o.log) = noted_deepest (blank program.tree) o.log in
      let h : deepest o.log + 1 ≡ depth + k.height = n.height in (
        n.value,
        record {
          worth = plain_worth program.tree k.value o r.events r.outcome n.value (fits left k.of k.args [] p) ∙ n.contribution;
          deepest = omega (arith, d, h);
          read = λ s. subst (λ rs. Contains rs s ↔ Contains k.read s) (sym (noted_reads (blank program.tree) o.log)) (n.read s);
          entered = λ f. subst (λ fs. Contains fs f ↔ Contains (notes_of k depth).entered f) (sym (noted_entered (blank program.tree) o.log)) (n.entered_are f);
        },
      )

  valid_for : (lookup : Lookup) → ((f : Name) (vs : List ℤ) (depth : ℕ) (k : Kept) → P f → lookup f vs depth ≡ Some k → IsAnswer program tables f vs depth k) → AnswersFor program.tree tables sight lookup P
  valid_for lookup h =
      sound_for program.tree tables sight lookup P fits (λ f vs left k p e.
      let a = h f vs (depth_limit - left) k p e in
      let out : 0 < depth_limit - left = a.outermost in
      let g = a.sound.gives tables (depth_limit - left) out a.now a.fits in
      let q : suc depth_limit - (depth_limit - left) ≡ suc left = omega (arith, out) in
      let n : SaysOf program.tree (depth_limit - left) k (eliding left k) = subst (λ z. SaysOf program.tree (depth_limit - left) k (elide program.tree tables z start k.of k.args (identities program.tree))) q (record { value = g.0; contribution = g.1; height = g.2; read = g.3; entered_are = g.4 }) in
      subst (λ x. SaysElision program.tree k (elide program.tree tables (suc left) start x vs (identities program.tree)) (depth_limit - left)) a.named
      (subst (λ xs. SaysElision program.tree k (elide program.tree tables (suc left) start k.of xs (identities program.tree)) (depth_limit - left)) a.called (says k left (depth_limit - left) (subst P (sym a.named) p) out n)))

pub valid_records_are_sound : (program : Revised) (tables : Tables) (sight : Accumulators) → HasNoReads program.tree → (lookup : Lookup) → AnswersBySound program tables lookup → LookupIsSound program.tree tables sight lookup
valid_records_are_sound program tables sight calm lookup h =
    valid_for program tables sight (λ f. Unit {0}) (λ left f vs n p. run_fits program.tree tables sight calm left None start f vs n (identities program.tree)) lookup (λ f vs depth k p e. h f vs depth k e)

pub valid_recorded_are_sound : (program : Revised) (tables : Tables) (sight : Accumulators) → ReadsAtMainsEnd program.tree → (lookup : Lookup) → RecordedBySound program tables lookup → RecordedAreSound program.tree tables sight lookup
valid_recorded_are_sound program tables sight ruled lookup h =
    valid_for program tables sight (IsRecorded program.tree) (λ left f vs n memo. other_fits program.tree tables sight ruled left None start f (recorded_other program.tree tables sight lookup ruled f memo) vs n (identities program.tree)) lookup h
