-- The record of a layer that closes is sound and holds now: the layer has noted its instance's whole run.
use Rattle.std.proofs.Common.{Option, Some, None, ℕ, zero, suc, ◌+◌, ◌-◌, ◌<◌, ◌≤◌, List, [], ◌∷◌, ◌++◌, Ok, ℤ, ◌≡◌, refl, sym, ap, ◌∙◌, subst, arith, append_assoc, map, true, Bool}
use Rattle.std.specs.Prelude.{◌&&◌, max, length, slice_index_or, ◌↔◌}
use Rattle.std.specs.List.{Contains}
use Rattle.std.proofs.lemmas.List.{append_cancel_left}
use Rattle.meaning.specs.Tree.{Name, Proc, Tree}
use Rattle.meaning.specs.Tables.{Tables, is_there}
use Rattle.meaning.specs.Outcome.{Log, Accumulators, Event, Fault, Outcome, Place, Out, Reads, Enters, Updates, Reuses, Begins, Syncs, Leaves, Faults, Marks, Spawns, after}
use Rattle.meaning.specs.Statements.{identities, found, procedure_of}
use Rattle.meaning.specs.Elision.{elide, reads, entered, deepest, start, depth_limit}
use Rattle.meaning.specs.Records.{Revised, agrees, is_current, holds_now}
use Rattle.meaning.specs.Every.{every}
use Rattle.meaning.specs.Commits.{revision_of}
use Rattle.meaning.specs.Trail.{Look, opening, inner, run_inside, runner, run, trail_at}
use Rattle.meaning.specs.SmallStep.{Lookup, look_of}
use Rattle.meaning.specs.Layers.{SameNotes, Notes, blank, notes}
use Rattle.meaning.specs.Tallies.{Opened, record_by}
use Rattle.trail_theory.specs.ReadsAtEnd.{ReadsAtMainsEnd}
use Rattle.trail_theory.specs.ElisionBeside.{forgotten, Fits, Matches}
use Rattle.trail_theory.specs.MadeRecords.{SaysOf}
use Rattle.trail_theory.specs.Right.{stretch}
use Rattle.trail_theory.specs.OpenLayers.{RunsBehind, HasNumber, IsNumbered, IsNewRecord}
use Rattle.trail_theory.specs.Order.{Every}
use Rattle.trail_theory.proofs.Order.{trail_ordered, same_split}
use Rattle.trail_theory.proofs.Stepping.{noted_append}
use Rattle.trail_theory.proofs.Ends.{worth_of}
use Rattle.trail_theory.proofs.Records.{notes_forgotten, recorded_other}
use Rattle.trail_theory.proofs.ValidRecords.{noted_reads, noted_entered, noted_deepest}
use Rattle.trail_theory.proofs.MadeRecords.{tested, all_tested, first_deep, made_is_sound}
use Rattle.trail_theory.proofs.HoldNow.{Now, now_elide}
use Rattle.trail_theory.proofs.Depths.{other_depth}
use Rattle.trail_theory.proofs.MainElides.{both_true, other_fits}

-- a procedure that is recorded is there
pub recorded_there : (p : Option Proc) → (found p).memo ≡ true → is_there p ≡ true
recorded_there None e = absurd cc
recorded_there (Some p) e = refl

run_regroup : (x ops es later : Log) (e : Event) → (x ++ (ops ++ es)) ++ e ∷ later ≡ x ++ ((ops ++ (es ++ e ∷ [])) ++ later)
run_regroup x ops es later e = simp append_assoc

-- what an instance's leaving leaves as it was
leaving_unnoted : (program : Tree) (a b : Log) (n : Place) (o : Outcome) → notes program (a ++ (b ++ Leaves n o ∷ [])) ≡ notes program (a ++ b)
leaving_unnoted program a b n o = ap (notes program) (sym (append_assoc a b (Leaves n o ∷ []))) ∙ noted_append (blank program) (a ++ b) (Leaves n o ∷ [])

pub reads_hold : (program : Revised) (tables : Tables) (es : Log) → Every (Now tables (HasNumber program)) es → every (agrees tables) (reads es) ≡ true
reads_hold program tables [] h = refl
reads_hold program tables (Reads r ∷ es) h = both_true _ _ h.0 (reads_hold program tables es h.1)
reads_hold program tables (Enters f args d ∷ es) h = reads_hold program tables es h.1
reads_hold program tables (Updates n kind w ∷ es) h = reads_hold program tables es h.1
reads_hold program tables (Reuses f args ws ∷ es) h = reads_hold program tables es h.1
reads_hold program tables (Begins n d ∷ es) h = reads_hold program tables es h.1
reads_hold program tables (Syncs n ∷ es) h = reads_hold program tables es h.1
reads_hold program tables (Spawns n ∷ es) h = reads_hold program tables es h.1
reads_hold program tables (Leaves n o ∷ es) h = reads_hold program tables es h.1
reads_hold program tables (Faults k ∷ es) h = reads_hold program tables es h.1
reads_hold program tables (Marks f args c ∷ es) h = reads_hold program tables es h.1

pub entered_known : (program : Revised) (tables : Tables) (es : Log) → Every (Now tables (HasNumber program)) es → every (λ f. is_current program.revisions (f, revision_of program.revisions f)) (entered es) ≡ true
entered_known program tables [] h = refl
entered_known program tables (Reads r ∷ es) h = entered_known program tables es h.1
entered_known program tables (Enters f args d ∷ es) h = both_true _ _ h.0 (entered_known program tables es h.1)
entered_known program tables (Updates n kind w ∷ es) h = entered_known program tables es h.1
entered_known program tables (Reuses f args ws ∷ es) h = entered_known program tables es h.1
entered_known program tables (Begins n d ∷ es) h = entered_known program tables es h.1
entered_known program tables (Syncs n ∷ es) h = entered_known program tables es h.1
entered_known program tables (Spawns n ∷ es) h = entered_known program tables es h.1
entered_known program tables (Leaves n o ∷ es) h = entered_known program tables es h.1
entered_known program tables (Faults k ∷ es) h = entered_known program tables es h.1
entered_known program tables (Marks f args c ∷ es) h = entered_known program tables es h.1

module _ (program : Revised) where
  abbrev pub with_number : Name → Name × ℕ
  with_number f = (f, revision_of program.revisions f)

  pub names_of : (fs : List Name) → map (λ (p : Name × ℕ). p.0) (map with_number fs) ≡ fs
  names_of [] = refl
  names_of (f ∷ fs) = ap (λ l. f ∷ l) (names_of fs)

  pub every_numbered : (test : Name × ℕ → Bool) (fs : List Name) → every test (map with_number fs) ≡ every (λ f. test (with_number f)) fs
  every_numbered test [] = refl
  every_numbered test (f ∷ fs) = ap (λ b. test (with_number f) && b) (every_numbered test fs)

  pub number_below : IsNumbered program → (fs : List Name) (f : Name) (n i : ℕ) → i < length (map with_number fs) → slice_index_or (map with_number fs) i (f, n) ≡ (f, n) → n < program.counter
  number_below numbers [] f n i l q = absurd (omega arith)
  number_below numbers (g ∷ fs) f n zero l q = let e : revision_of program.revisions g ≡ n = ap (λ (p : Name × ℕ). p.1) q in subst (λ w. w < program.counter) e (numbers.below g)
  number_below numbers (g ∷ fs) f n (suc i) l q = number_below numbers fs f n i (omega arith) q

module _ (program : Revised) (tables : Tables) (sight : Accumulators) (lookup : Lookup) (ruled : ReadsAtMainsEnd program.tree) (numbers : IsNumbered program) where
  abbrev P : Tree
  P = program.tree

  abbrev L : Look
  L = look_of lookup

  -- a layer that has noted what the elision of its instance notes
  says_run : (o : Opened) (l : Notes) (v : ℤ) (es : Log) → o.left < depth_limit → Fits (elide P tables (suc o.left) start o.of o.args (identities P)) es (Ok v) → SameNotes l (notes P es) → SaysOf P (depth_limit - o.left) (record_by program o l v) (elide P tables (suc o.left) start o.of o.args (identities P))
  says_run o l v es deep fits same =
      let out = elide P tables (suc o.left) start o.of o.args (identities P) in
      let here = forgotten es in
      let log : out.log ≡ here = ap (λ x. x.log) fits.0 in
      let alike : SameNotes l (notes P here) = subst (SameNotes l) (notes_forgotten (blank P) es) same in
      let d : l.deepest ≡ max 0 (deepest here) = alike.deepest ∙ noted_deepest (blank P) here in
      let top : depth_limit - o.left ≤ deepest out.log = first_deep P tables o.left o.of o.args (identities P) in
      let q : deepest out.log ≡ deepest here = ap deepest log in
      record {
        value = ap (λ x. x.answer) fits.0;
        contribution = ap (λ w. after w (identities P)) log ∙ worth_of (blank P) es ∙ sym same.worth;
        height = omega (arith, d, top, q, deep);
        read = λ r. subst (λ rs. Contains rs r ↔ Contains l.read r) (noted_reads (blank P) here ∙ sym (ap reads log)) ((alike.read r).1, (alike.read r).0);
        entered_are = λ f. subst (λ fs. Contains (entered out.log) f ↔ Contains fs f) (sym (names_of program l.entered)) (subst (λ fs. Contains fs f ↔ Contains l.entered f) (noted_entered (blank P) here ∙ sym (ap entered log)) ((alike.entered f).1, (alike.entered f).0));
      }

  -- what it has noted holds now
  new_holds : (o : Opened) (l : Notes) (v : ℤ) (out : Out Fault ℤ) → SaysOf P (depth_limit - o.left) (record_by program o l v) out → Every (Now tables (HasNumber program)) out.log → holds_now program tables (record_by program o l v) ≡ true
  new_holds o l v out n h =
      let current = λ (f : Name). is_current program.revisions (f, revision_of program.revisions f) in
      let here : (f : Name) → Contains (entered out.log) f ↔ Contains l.entered f = λ f. subst (λ fs. Contains (entered out.log) f ↔ Contains fs f) (names_of program l.entered) (n.entered_are f) in
      both_true (every (agrees tables) l.read) (every (is_current program.revisions) (map (with_number program) l.entered))
      (all_tested (agrees tables) l.read (λ r c. tested (agrees tables) (reads out.log) r (reads_hold program tables out.log h) ((n.read r).1 c)))
      (every_numbered program (is_current program.revisions) l.entered ∙ all_tested current l.entered (λ f c. tested current (entered out.log) f (entered_known program tables out.log h) ((here f).1 c)))

  -- the record of an instance that is over, where its layer begins with its run on the trail and has noted up to its last sync
  pub closing_sound : (B s : Log) (ss : List Log) (o : Opened) (v : ℤ) (y : Log) (l : Notes) → RunsBehind P tables sight lookup (B ++ stretch ss) o → B ++ ((stretch ss ++ s) ++ (Syncs o.instance ∷ Leaves o.instance (Ok v) ∷ y)) ≡ trail_at P tables sight L → SameNotes l (notes P (s ++ Syncs o.instance ∷ []))
      → IsNewRecord program tables (record_by program o l v)
  closing_sound B s ss o v y l r e same =
      let n = o.instance in
      let depth = depth_limit - o.left in
      let k = record_by program o l v in
      let ops = opening P L o.left o.of o.args n in
      let w = run_inside P tables sight (runner P tables sight o.left (inner P L o.left o.of o.args)) o.left o.of o.args n in
      let base = B ++ stretch ss in
      let f : (base ++ (s ++ Syncs n ∷ [])) ++ Leaves n (Ok v) ∷ y ≡ trail_at P tables sight L = simp append_assoc (simp append_assoc at e) in
      let f' : (base ++ (ops ++ w.events)) ++ Leaves n w.outcome ∷ r.later ≡ trail_at P tables sight L = run_regroup base ops w.events r.later (Leaves n w.outcome) ∙ r.is_trail in
      let ordered = trail_ordered P tables sight L in
      let q = same_split n (base ++ (s ++ Syncs n ∷ [])) y (base ++ (ops ++ w.events)) r.later (Ok v) w.outcome (rw f ordered) (rw f' ordered) (f ∙ sym f') in
      let whole : s ++ Syncs n ∷ [] ≡ ops ++ w.events = append_cancel_left base (s ++ Syncs n ∷ []) (ops ++ w.events) q.sooner in
      let m : Matches (elide P tables (suc o.left) start o.of o.args (identities P)) (run P tables sight o.left L o.of o.args n) = other_fits P tables sight ruled o.left L start o.of (recorded_other P tables sight lookup ruled o.of r.memo) o.args n (identities P) in
      let es = ops ++ (w.events ++ Leaves n (Ok v) ∷ []) in
      let fits : Fits (elide P tables (suc o.left) start o.of o.args (identities P)) es (Ok v) = subst (λ u. Fits (elide P tables (suc o.left) start o.of o.args (identities P)) (ops ++ (w.events ++ Leaves n u ∷ [])) u) (sym q.value) m in
      let alike : SameNotes l (notes P es) = subst (SameNotes l) (ap (notes P) whole ∙ sym (leaving_unnoted P ops w.events n (Ok v))) same in
      let deep : o.left < depth_limit = r.deep in
      let levels : suc o.left ≡ suc depth_limit - depth = omega (arith, deep) in
      let says = says_run o l v es deep fits alike in
      let high : deepest (elide P tables (suc o.left) start o.of o.args (identities P)).log + 1 ≡ depth + k.height = says.height in
      let bound : deepest (elide P tables (suc o.left) start o.of o.args (identities P)).log ≤ depth_limit = other_depth P tables sight ruled o.left o.of (recorded_other P tables sight lookup ruled o.of r.memo) o.args (identities P) v says.value in
      record {
        sound = made_is_sound program tables depth k (record {
          below = λ g i c. number_below program numbers l.entered g i c.0 c.1 c.2;
          outermost = omega (arith, deep);
          deep = omega arith;
          noted = subst (λ z. SaysOf P depth k (elide P tables z start o.of o.args (identities P))) levels says;
        });
        now = new_holds o l v (elide P tables (suc o.left) start o.of o.args (identities P)) says (now_elide tables (HasNumber program) P numbers.entered (suc o.left) start o.of o.args (numbers.named o.of (recorded_there (procedure_of P o.of) r.memo)) (identities P));
        low = omega (arith, high, bound, deep);
      }
