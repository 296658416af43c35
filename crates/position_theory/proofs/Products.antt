-- A layer put behind another one, and what a record has put behind a layer, by numbers and by names.
use Rattle.std.proofs.Common.{◌≡◌, ℕ, zero, suc, ◌+◌, ◌-◌, Bool, true, false, ◌||◌, List, [], ◌∷◌, ◌++◌, map, max, length, replicate, refl, sym, ◌∙◌, ap, subst, arith, append_assoc}
use Rattle.std.specs.Prelude.{slice_set}
use Rattle.std.proofs.lemmas.List.{map-append, length-set, length-map, length-replicate}
use Rattle.monoid_laws.specs.declared.Kind.{Kind}
use Rattle.monoid_laws.specs.Worth.{Worth}
use Rattle.monoid_laws.specs.Kinds.{operate, operate_all, identities, identity_of}
use Rattle.meaning.specs.Tree.{Name, Red}
use Rattle.meaning.specs.Records.{Kept, with_kinds}
use Rattle.meaning.specs.Outcome.{combined, Reading}
use Rattle.meaning.specs.Statements.{reducers}
use Rattle.meaning.specs.Layers as definitions
use Rattle.meaning.specs.Layers.{Notes, notes_of, closed_top}
use Rattle.linked_program.specs.Procedures.{procedures}
use Rattle.evaluation.specs.declared.note.Note.{Note}
use Rattle.evaluation.specs.Numbers.{numbered}
use Rattle.record_theory.specs.Record.{PlainRecord}
use Rattle.record_theory.specs.Named.{SameMembers, IsRecord, filled, number_of, numbered_entry}
use Rattle.positions.specs.Setting.{Setting, IsLinked}
use Rattle.positions.specs.Layers.{PlainLayer, kept_behind, either, flagged, multiplied, kept_reads, covered, absorbing, closed_onto, below_top}
use Rattle.positions.specs.Values.{once}
use Rattle.positions.specs.declared.start.Start.{Start}
use Rattle.positions.specs.Stands.{IsNotes, AreNotes}
use Rattle.position_theory.proofs.Members.{members_same, members_then, members_append, members_by_parts, members_mapped, map_map}
use Rattle.position_theory.proofs.Once.{once_is}
use Rattle.position_theory.proofs.Entries.{flagged_more, length_flagged, flagged_same}

-- ---- flags of both

either_none : (xs : List Bool) (n : ℕ) → length xs ≡ n → either xs (replicate n false) ≡ xs
either_none [] zero e = refl
either_none [] (suc n) e = refl
either_none (x ∷ xs) zero e = absurd (omega arith)
either_none (true ∷ xs) (suc n) e = ap (λ l. true ∷ l) (either_none xs n (omega arith))
either_none (false ∷ xs) (suc n) e = ap (λ l. false ∷ l) (either_none xs n (omega arith))

either_true : (b : Bool) → (b || true) ≡ true
either_true true = refl
either_true false = refl

either_set : (xs ys : List Bool) (p : ℕ) → length xs ≡ length ys → either xs (slice_set ys p true) ≡ slice_set (either xs ys) p true
either_set [] ys p e = refl
either_set (x ∷ xs) [] p e = absurd (omega arith)
either_set (x ∷ xs) (y ∷ ys) zero e = ap (λ b. b ∷ either xs ys) (either_true x)
either_set (x ∷ xs) (y ∷ ys) (suc p) e = ap (λ l. (x || y) ∷ l) (either_set xs ys p (omega arith))

either_flagged : (xs ys : List Bool) (ps : List ℕ) → length xs ≡ length ys → either xs (flagged ys ps) ≡ flagged (either xs ys) ps
either_flagged xs ys [] e = refl
either_flagged xs ys (p ∷ ps) e =
    either_flagged xs (slice_set ys p true) ps (e ∙ sym (length-set ys p true)) ∙ ap (λ l. flagged l ps) (either_set xs ys p e)

entered_both : (n : ℕ) (ps qs : List ℕ) → either (flagged (replicate n false) ps) (flagged (replicate n false) qs) ≡ flagged (replicate n false) (ps ++ qs)
entered_both n ps qs =
    let long : length (flagged (replicate n false) ps) ≡ n = length_flagged (replicate n false) ps ∙ length-replicate n false in
    either_flagged (flagged (replicate n false) ps) (replicate n false) qs (long ∙ sym (length-replicate n false))
    ∙ ap (λ l. flagged l qs) (either_none (flagged (replicate n false) ps) n long)
    ∙ sym (flagged_more (replicate n false) ps qs)

-- ---- values of both

combined_both : (reds : List Red) (xs ys : List Worth) → length xs ≡ length reds → length ys ≡ length reds → combined xs (with_kinds reds ys) ≡ operate_all (map (λ r. r.kind) reds) xs ys
combined_both [] [] ys e f = refl
combined_both [] (x ∷ xs) ys e f = absurd (omega arith)
combined_both (r ∷ reds) [] ys e f = absurd (omega arith)
combined_both (r ∷ reds) (x ∷ xs) [] e f = absurd (omega arith)
combined_both (r ∷ reds) (x ∷ xs) (y ∷ ys) e f = ap (λ l. operate r.kind x y ∷ l) (combined_both reds xs ys (omega arith) (omega arith))

length_operated : (kinds : List Kind) (xs ys : List Worth) → length xs ≡ length kinds → length ys ≡ length kinds → length (operate_all kinds xs ys) ≡ length kinds
length_operated [] xs ys e f = refl
length_operated (c ∷ cs) [] ys e f = absurd (omega arith)
length_operated (c ∷ cs) (x ∷ xs) [] e f = absurd (omega arith)
length_operated (c ∷ cs) (x ∷ xs) (y ∷ ys) e f = ap suc (length_operated cs xs ys (omega arith) (omega arith))

length_filled : (ws : List Worth) (es : List (ℕ × Worth)) → length (filled ws es) ≡ length ws
length_filled ws [] = refl
length_filled ws (e ∷ es) = length_filled (slice_set ws e.0 e.1) es ∙ length-set ws e.0 e.1

module _ (setting : Setting) where
  abbrev none_entered : List Bool
  none_entered = replicate (length (procedures setting.program.tree)) false

  -- what a record keeps of a layer's readings
  pub kept_reads_are : {st : Start} {lower : List PlainLayer} (l : PlainLayer) (n : Notes) → IsNotes setting st lower l n → l.keeps ≡ true → SameMembers (kept_reads l) (map (numbered setting.names) n.read)
  kept_reads_are l n h keeps =
      members_then (kept_reads l) (l.notes ++ l.shared) (map (numbered setting.names) n.read)
      (members_append (once l.notes) l.notes l.shared l.shared (once_is l.notes) (members_same l.shared l.shared refl)) (h.notes keeps)

  module _ {st : Start} {lower : List PlainLayer} (l : PlainLayer) (n : Notes) (h : IsNotes setting st lower l n) where
    length_kinds : length l.kinds ≡ length (reducers setting.program.tree)
    length_kinds = ap length h.kinds ∙ length-map (reducers setting.program.tree) (λ x. x.kind)

    -- the values of those noted behind it
    worths_behind : (ws vs : List Worth) → vs ≡ ws → length ws ≡ length l.kinds → combined n.worth (with_kinds (reducers setting.program.tree) vs) ≡ operate_all l.kinds l.worths ws
    worths_behind ws vs e f =
        ap (λ us. combined us (with_kinds (reducers setting.program.tree) vs)) h.worths
        ∙ ap (λ us. combined l.worths (with_kinds (reducers setting.program.tree) us)) e
        ∙ combined_both (reducers setting.program.tree) l.worths ws (h.each ∙ length_kinds) (f ∙ length_kinds)
        ∙ ap (λ ks. operate_all ks l.worths ws) (sym h.kinds)

    -- readings behind all that the layer has
    read_behind : l.keeps ≡ true → (rs us : List Note) → SameMembers rs us → SameMembers ((l.notes ++ l.shared) ++ rs) (map (numbered setting.names) n.read ++ us)
    read_behind keeps rs us = members_append (l.notes ++ l.shared) (map (numbered setting.names) n.read) rs us (h.notes keeps)

    -- readings that it shares
    shared_behind : l.keeps ≡ true → (rs : List Note) (us : List Reading) → SameMembers rs (map (numbered setting.names) us) → SameMembers (l.notes ++ kept_behind l.keeps l.shared rs) (map (numbered setting.names) (n.read ++ us))
    shared_behind keeps rs us e =
        subst (λ b. SameMembers (l.notes ++ kept_behind b l.shared rs) (map (numbered setting.names) (n.read ++ us))) (sym keeps)
        (subst (SameMembers (l.notes ++ (l.shared ++ rs))) (sym (map-append (numbered setting.names) n.read us))
        (subst (λ vs. SameMembers vs (map (numbered setting.names) n.read ++ map (numbered setting.names) us)) (append_assoc l.notes l.shared rs) (read_behind keeps rs (map (numbered setting.names) us) e)))

    pub notes_multiplied : {from : Start} {under : List PlainLayer} (r : PlainLayer) (m : Notes) → (l.keeps ≡ true → r.keeps ≡ true) → IsNotes setting from under r m
        → IsNotes setting st lower (multiplied l r) (definitions.multiplied setting.program.tree n m)
    notes_multiplied r m too i = record {
      keeps = h.keeps;
      kinds = h.kinds;
      worths = worths_behind r.worths m.worth i.worths (i.each ∙ ap length (i.kinds ∙ sym h.kinds));
      each = length_operated l.kinds l.worths r.worths h.each (i.each ∙ ap length (i.kinds ∙ sym h.kinds));
      notes = λ keeps.
          subst (λ b. SameMembers (kept_behind b l.notes r.notes ++ kept_behind b l.shared r.shared) (map (numbered setting.names) (n.read ++ m.read))) (sym keeps)
          (subst (SameMembers ((l.notes ++ r.notes) ++ (l.shared ++ r.shared))) (sym (map-append (numbered setting.names) n.read m.read))
          (members_then ((l.notes ++ r.notes) ++ (l.shared ++ r.shared)) ((l.notes ++ l.shared) ++ (r.notes ++ r.shared)) (map (numbered setting.names) n.read ++ map (numbered setting.names) m.read)
          (members_by_parts l.notes l.shared r.notes r.shared) (read_behind keeps (r.notes ++ r.shared) (map (numbered setting.names) m.read) (i.notes (too keeps)))));
      entered =
          ap (λ fs. either fs r.entered) h.entered
          ∙ ap (either (flagged none_entered (map (number_of setting.program.tree) n.entered))) i.entered
          ∙ entered_both (length (procedures setting.program.tree)) (map (number_of setting.program.tree) n.entered) (map (number_of setting.program.tree) m.entered)
          ∙ ap (flagged none_entered) (sym (map-append (number_of setting.program.tree) n.entered m.entered));
      deepest = ap (λ d. max d m.deepest) h.deepest ∙ ap (max l.deepest) i.deepest;
    }

    -- the layer of an instance that becomes a record, which keeps what was read
    pub notes_covered : (r : PlainLayer) (m : Notes) → IsNotes setting st (l ∷ lower) r m → IsNotes setting st lower (covered l r) (definitions.multiplied setting.program.tree n m)
    notes_covered r m i =
        let both : IsNotes setting st lower (multiplied l r) (definitions.multiplied setting.program.tree n m) = notes_multiplied r m (λ keeps. i.keeps) i in
        record {
          keeps = both.keeps;
          kinds = both.kinds;
          worths = both.worths;
          each = both.each;
          notes = λ keeps. shared_behind keeps (kept_reads r) m.read (kept_reads_are r m i i.keeps);
          entered = both.entered;
          deepest = both.deepest;
        }

    -- what a record has of an instance at that depth
    pub absorbed : IsLinked setting → (k : Kept) (r : PlainRecord) (depth : ℕ) → IsRecord setting.program.tree setting.names setting.kinds k r
        → IsNotes setting st lower (absorbing r depth l) (definitions.multiplied setting.program.tree n (notes_of k depth))
    absorbed linked k r depth i =
        let values : List Worth = filled (identities l.kinds) r.contribution in
        let same_kinds : setting.kinds ≡ l.kinds = linked.kinds ∙ sym h.kinds in
        let long : length values ≡ length l.kinds = length_filled (identities l.kinds) r.contribution ∙ length-map l.kinds identity_of in
        let both : map (λ (e : ℕ × ℕ). e.0) (map (numbered_entry setting.program.tree) k.revisions) ≡ map (number_of setting.program.tree) (map (λ (e : Name × ℕ). e.0) k.revisions) =
        map_map (λ (e : ℕ × ℕ). e.0) (numbered_entry setting.program.tree) k.revisions ∙ sym (map_map (number_of setting.program.tree) (λ (e : Name × ℕ). e.0) k.revisions) in
        record {
          keeps = h.keeps;
          kinds = h.kinds;
          worths = worths_behind values k.contribution (i.contribution ∙ ap (λ ks. filled (identities ks) r.contribution) same_kinds) long;
          each = length_operated l.kinds l.worths values h.each long;
          notes = λ keeps. shared_behind keeps r.reads k.read i.reads;
          entered =
              ap (λ fs. flagged fs (map (λ (e : ℕ × ℕ). e.0) r.entered)) h.entered
              ∙ flagged_same (flagged none_entered (map (number_of setting.program.tree) n.entered)) (map (λ (e : ℕ × ℕ). e.0) r.entered) (map (λ (e : ℕ × ℕ). e.0) (map (numbered_entry setting.program.tree) k.revisions))
              (members_mapped (λ (e : ℕ × ℕ). e.0) r.entered (map (numbered_entry setting.program.tree) k.revisions) i.entered)
              ∙ ap (flagged (flagged none_entered (map (number_of setting.program.tree) n.entered))) both
              ∙ sym (flagged_more none_entered (map (number_of setting.program.tree) n.entered) (map (number_of setting.program.tree) (map (λ (e : Name × ℕ). e.0) k.revisions)))
              ∙ ap (flagged none_entered) (sym (map-append (number_of setting.program.tree) n.entered (map (λ (e : Name × ℕ). e.0) k.revisions)));
          deepest = ap (λ d. max d (depth + k.height - 1)) h.deepest ∙ ap (λ d. max l.deepest (depth + d - 1)) (sym i.height);
        }

  -- the topmost layer goes into the one below it
  pub closed_layers : (st : Start) (l : PlainLayer) (ls : List PlainLayer) (ns : List Notes) → AreNotes setting st (l ∷ ls) ns
      → AreNotes setting st (closed_onto l ls ∷ below_top ls) (closed_top setting.program.tree ns)
  closed_layers st l [] [] h = absurd h
  closed_layers st l [] (n ∷ []) h = h
  closed_layers st l [] (n ∷ m ∷ ns) h = absurd h.1
  closed_layers st l (k ∷ ls) [] h = absurd h
  closed_layers st l (k ∷ ls) (n ∷ []) h = absurd h.1
  closed_layers st l (k ∷ ls) (n ∷ m ∷ ns) h = (notes_covered k m h.1.0 l n h.0, h.1.1)
