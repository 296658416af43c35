-- Records as they answer, are taken over and are made, by numbers and by names.
use Rattle.std.proofs.Common.{◌≡◌, ℕ, zero, suc, ◌-◌, ℤ, true, List, [], ◌∷◌, ◌++◌, length, map, refl, sym, ◌∙◌, ap, subst, arith}
use Rattle.std.specs.Prelude.{nat_eq}
use Rattle.meaning.specs.Tree.{Name}
use Rattle.meaning.specs.Elision.{depth_limit}
use Rattle.meaning.specs.Every.{every}
use Rattle.meaning.specs.Outcome.{Place}
use Rattle.meaning.specs.Records.{Kept, agrees, is_current, holds_now}
use Rattle.meaning.specs.SmallStep.{leaving}
use Rattle.meaning.specs.Layers.{Notes}
use Rattle.meaning.specs.Tallies as definitions
use Rattle.meaning.specs.Tallies.{Opened, Tally, opened_all, passed_all, answered_one, closed_by, valid_record}
use Rattle.record_theory.specs.Record.{PlainRecord}
use Rattle.record_theory.specs.Named.{NameReducersFrom, SameMembers, IsRecord, AreRecords, IsAnswer, filled, number_of, numbered_entry}
use Rattle.record_theory.proofs.Lookups.{looks_up}
use Rattle.trail_theory.specs.Order.{Every}
use Rattle.trail_theory.specs.OwnLayers.{is_top_by_length}
use Rattle.monoid_laws.specs.Kinds.{identities}
use Rattle.positions.specs.Setting.{Setting, IsLinked, HasItsTables, HasItsRecords}
use Rattle.positions.specs.Layers.{PlainLayer}
use Rattle.positions.specs.Tallies.{PlainOpened, PlainTally, touched_from, entries_from, record_by, is_own, closing_by, closing}
use Rattle.positions.specs.Advance.{record_for}
use Rattle.positions.specs.declared.start.Start.{Start}
use Rattle.positions.specs.Stands.{IsKept, IsNotes, IsOpened, AreOpened, IsTally}
use Rattle.positions.specs.Simulation.{HoldNow}
use Rattle.record_theory.proofs.Same.{second_is}
use Rattle.position_theory.proofs.Once.{touched_is, touched_named}
use Rattle.position_theory.proofs.Products.{kept_reads_are}
use Rattle.position_theory.proofs.Entries.{entries_are}

every_last : {A : Type 0} (P : A → Type 0) (xs : List A) (x : A) → Every P (xs ++ x ∷ []) → P x
every_last P [] x h = h.0
every_last P (y ∷ xs) x h = every_last P xs x h.1

module _ (setting : Setting) where
  -- what answers an instance by its procedure's number is what answers it by name
  pub answered : HasItsTables setting → HasItsRecords setting → (f : Name) (vs : List ℤ) (d : ℕ)
      → IsAnswer setting.program.tree setting.names setting.kinds (valid_record setting.program setting.tables setting.memory.records f vs d) (record_for setting d (number_of setting.program.tree f) vs)
  answered tables h f vs zero = tt
  answered tables h f vs (suc d) = looks_up setting.program setting.names setting.kinds setting.tables h.in_order (sym tables) (suc d) f vs setting.memory.records setting.records h.records

  -- the topmost open layer is the instance's of that name
  pub own_is : (os : List PlainOpened) (ks : List Opened) (n : Place) → AreOpened setting os ks → is_own os (length n) ≡ is_top_by_length ks n
  own_is [] [] n h = refl
  own_is [] (k ∷ ks) n h = absurd h
  own_is (o ∷ os) [] n h = absurd h
  own_is (o ∷ os) (k ∷ ks) n h = ap (λ d. nat_eq d (length n)) h.0.depth

  pub records_append : (ks js : List Kept) (rs ss : List PlainRecord) → AreRecords setting.program.tree setting.names setting.kinds ks rs → AreRecords setting.program.tree setting.names setting.kinds js ss
      → AreRecords setting.program.tree setting.names setting.kinds (ks ++ js) (rs ++ ss)
  records_append [] js [] ss h i = i
  records_append [] js (r ∷ rs) ss h i = absurd h
  records_append (k ∷ ks) js [] ss h i = absurd h
  records_append (k ∷ ks) js (r ∷ rs) ss h i = (h.0, records_append ks js rs ss h.1 i)

  -- ---- an instance that is over becomes a record

  module _ (linked : IsLinked setting) (records : HasItsRecords setting) {st : Start} {lower : List PlainLayer} (l : PlainLayer) (n : Notes) (v : ℤ) (h : IsNotes setting st lower l n) where
    -- a layer above others keeps what was read
    kept_above : (ls : List PlainLayer) (k : ℕ) → suc k ≡ length ls → IsKept setting st ls l.keeps → l.keeps ≡ true
    kept_above [] k e i = absurd (omega (arith, e))
    kept_above (m ∷ ls) k e i = i

    pub made_is : (o : PlainOpened) (k : Opened) → l.keeps ≡ true → IsOpened setting o k → holds_now setting.program setting.tables (definitions.record_by setting.program k n v) ≡ true
        → IsRecord setting.program.tree setting.names setting.kinds (definitions.record_by setting.program k n v) (record_by setting.program.revisions o l v)
    made_is o k keeps i now =
        let same_kinds : setting.kinds ≡ l.kinds = linked.kinds ∙ sym h.kinds in
        let current = second_is (every (agrees setting.tables) n.read) (every (is_current setting.program.revisions) (definitions.record_by setting.program k n v).revisions) now in
        record {
          known = i.known;
          procedure = i.procedure;
          arguments = i.arguments;
          value = refl;
          contribution = h.worths ∙ sym (touched_is l.kinds l.worths h.each) ∙ ap (λ ks. filled (identities ks) (touched_from 0 l.kinds l.worths)) (sym same_kinds);
          named = subst (λ ks. NameReducersFrom 0 (length ks) (touched_from 0 l.kinds l.worths)) (sym same_kinds) (touched_named l.kinds l.worths);
          reads = kept_reads_are setting l n h keeps;
          entered =
              subst (λ flags. SameMembers (entries_from 0 setting.program.revisions flags) (map (numbered_entry setting.program.tree) (definitions.record_by setting.program k n v).revisions)) (sym h.entered)
              (entries_are setting.program.tree setting.program.revisions records.in_order n.entered current);
          height = ap (λ d. suc d - (depth_limit - o.left)) (sym h.deepest) ∙ ap (λ d. suc n.deepest - (depth_limit - d)) i.left;
        }

    closed_at : (ns : List Notes) (t : PlainTally) (u : Tally) (os : List PlainOpened) (ks : List Opened) → length os ≡ length lower → IsTally setting t u → AreOpened setting os ks
        → HoldNow setting (closed_by setting.program ks (n ∷ ns) (leaving v) u)
        → IsTally setting (closing_by setting.program.revisions os l v t) (closed_by setting.program ks (n ∷ ns) (leaving v) u)
    closed_at ns t u [] [] long i a now = i
    closed_at ns t u [] (k ∷ ks) long i a now = absurd a
    closed_at ns t u (o ∷ os) [] long i a now = absurd a
    closed_at ns t u (o ∷ os) (k ∷ ks) long i a now = record {
      opened = a.1;
      made =
          records_append u.made (definitions.record_by setting.program k n v ∷ []) t.made (record_by setting.program.revisions o l v ∷ []) i.made
          (made_is o k (kept_above lower (length os) long h.keeps) a.0 (every_last (λ r. holds_now setting.program setting.tables r ≡ true) u.made (definitions.record_by setting.program k n v) now), tt);
      executed = i.executed;
      reused = i.reused;
      unrecorded = i.unrecorded;
    }

    -- the topmost layer becomes a record, which holds now
    pub closed_tally : (ns : List Notes) (t : PlainTally) (u : Tally) → length t.opened ≡ length lower → IsTally setting t u → HoldNow setting (closed_by setting.program u.opened (n ∷ ns) (leaving v) u)
        → IsTally setting (closing setting.program.revisions l v t) (closed_by setting.program u.opened (n ∷ ns) (leaving v) u)
    closed_tally ns t u long i now = closed_at ns t u t.opened u.opened long i i.opened now
