-- What the layers of a strand note, by numbers and by names.
use Rattle.std.proofs.Common.{◌≡◌, ℕ, suc, Bool, true, false, List, [], ◌∷◌, ◌++◌, map, max, length, replicate, Option, Some, None, refl, sym, ◌∙◌, ap, subst, append_assoc, append-nil}
use Rattle.std.specs.Prelude.{ℤ, slice_get, slice_set}
use Rattle.std.proofs.lemmas.List.{map-append, length-map, length-set}
use Rattle.monoid_laws.specs.declared.Kind.{Kind}
use Rattle.monoid_laws.specs.Worth.{Worth}
use Rattle.monoid_laws.specs.Kinds.{operate, element_of, identities, identity_of}
use Rattle.meaning.specs.Tree.{Name, Proc, Red}
use Rattle.meaning.specs.Outcome.{Log, Reads, Enters, Updates, Reading, Accumulators, updated}
use Rattle.meaning.specs.Statements.{reducers}
use Rattle.meaning.specs.Layers as definitions
use Rattle.meaning.specs.Layers.{Notes, noted_one, noted_top, bottom, take_top}
use Rattle.linked_program.specs.Procedures.{procedures}
use Rattle.linked_program.specs.Linked.{procedure_number}
use Rattle.linked_program.specs.declared.code.Code.{Code}
use Rattle.linked_program.specs.CodeView.{AreCodesOf}
use Rattle.linked_program.specs.Initials.{PlainInitial, AreUpdatesBy}
use Rattle.evaluation.specs.declared.note.Note.{Note}
use Rattle.evaluation.specs.Numbers.{numbered, readings, OnlyReads}
use Rattle.positions.specs.Setting.{Setting, IsLinked}
use Rattle.record_theory.specs.Named.{SameMembers}
use Rattle.positions.specs.Layers.{PlainLayer, blank, flagged, kept_behind, noting, entering, updated_by, updating, begun_by, begun, lowest}
use Rattle.positions.specs.declared.start.Start.{Start}
use Rattle.positions.specs.Stands.{IsKept, IsNotes, AreNotes}
use Rattle.position_theory.proofs.Members.{members_same, members_then, members_append, members_by_parts}

-- ---- what is noted one behind the other

pub noted_append : (n : Notes) (es fs : Log) → definitions.noted n (es ++ fs) ≡ definitions.noted (definitions.noted n es) fs
noted_append n [] fs = refl
noted_append n (e ∷ es) fs = noted_append (noted_one n e) es fs

pub top_none : (ls : List Notes) → noted_top ls [] ≡ ls
top_none [] = refl
top_none (n ∷ ns) = refl

pub top_append : (ls : List Notes) (es fs : Log) → noted_top ls (es ++ fs) ≡ noted_top (noted_top ls es) fs
top_append [] es fs = refl
top_append (l ∷ ls) es fs = ap (λ n. n ∷ ls) (noted_append l es fs)

abbrev with_read : Notes → List Reading → Notes
with_read n rs = record { worth = n.worth; read = n.read ++ rs; entered = n.entered; deepest = n.deepest }

noted_readings : (n : Notes) (rs : List Reading) → definitions.noted n (map Reads rs) ≡ with_read n rs
noted_readings n [] = ap (λ read. record { worth = n.worth; read = read; entered = n.entered; deepest = n.deepest }) (sym (append-nil n.read))
noted_readings n (r ∷ rs) =
    noted_readings (with_read n (r ∷ [])) rs ∙ ap (λ read. record { worth = n.worth; read = read; entered = n.entered; deepest = n.deepest }) (append_assoc n.read (r ∷ []) rs)

noted_reads : (n : Notes) (log : Log) → OnlyReads log → definitions.noted n log ≡ with_read n (readings log)
noted_reads n log h = ap (definitions.noted n) h ∙ noted_readings n (readings log)

flagged_append : (flags : List Bool) (ps : List ℕ) (p : ℕ) → flagged flags (ps ++ p ∷ []) ≡ slice_set (flagged flags ps) p true
flagged_append flags [] p = refl
flagged_append flags (q ∷ ps) p = flagged_append (slice_set flags q true) ps p

updated_is : (r : ℕ) (kind : Kind) (vs : List ℤ) (worths : List Worth) (w : Option Worth) → updated worths r kind (element_of kind vs) w ≡ updated_by r kind vs worths w
updated_is r kind vs worths None = refl
updated_is r kind vs worths (Some w) = refl

updated_each : (r : ℕ) (kind : Kind) (vs : List ℤ) (worths : List Worth) (w : Option Worth) → length (updated_by r kind vs worths w) ≡ length worths
updated_each r kind vs worths None = refl
updated_each r kind vs worths (Some w) = length-set worths r (operate kind w (element_of kind vs))

same_identities : (reds : List Red) → map (λ r. identity_of r.kind) reds ≡ identities (map (λ r. r.kind) reds)
same_identities [] = refl
same_identities (r ∷ reds) = ap (λ ws. identity_of r.kind ∷ ws) (same_identities reds)

-- ---- a layer by numbers

module _ (setting : Setting) {st : Start} {lower : List PlainLayer} where
  -- readings behind those that the layer has noted itself
  more_read : (l : PlainLayer) (n : Notes) (rs : List Note) → IsNotes setting st lower l n → l.keeps ≡ true → SameMembers ((l.notes ++ rs) ++ l.shared) (map (numbered setting.names) n.read ++ rs)
  more_read l n rs i keeps =
      let old : List Note = map (numbered setting.names) n.read in
      members_then ((l.notes ++ rs) ++ l.shared) ((l.notes ++ l.shared) ++ rs) (old ++ rs)
      (subst (λ us. SameMembers ((l.notes ++ rs) ++ us) ((l.notes ++ l.shared) ++ rs)) (append-nil l.shared)
      (subst (λ us. SameMembers ((l.notes ++ rs) ++ (l.shared ++ [])) ((l.notes ++ l.shared) ++ us)) (append-nil rs) (members_by_parts l.notes l.shared rs [])))
      (members_append (l.notes ++ l.shared) old rs rs (i.notes keeps) (members_same rs rs refl))

  pub notes_read : (l : PlainLayer) (n : Notes) (log : Log) → OnlyReads log → IsNotes setting st lower l n
      → IsNotes setting st lower (noting (map (numbered setting.names) (readings log)) l) (definitions.noted n log)
  notes_read l n log h i =
      subst (IsNotes setting st lower (noting (map (numbered setting.names) (readings log)) l)) (sym (noted_reads n log h))
      (record {
        keeps = i.keeps;
        kinds = i.kinds;
        worths = i.worths;
        each = i.each;
        notes = λ keeps.
            subst (λ b. SameMembers (kept_behind b l.notes (map (numbered setting.names) (readings log)) ++ l.shared) (map (numbered setting.names) (n.read ++ readings log))) (sym keeps)
            (subst (SameMembers ((l.notes ++ map (numbered setting.names) (readings log)) ++ l.shared)) (sym (map-append (numbered setting.names) n.read (readings log)))
            (more_read l n (map (numbered setting.names) (readings log)) i keeps));
        entered = i.entered;
        deepest = i.deepest;
      })

  pub notes_entered : (l : PlainLayer) (n : Notes) (f : Name) (args : List ℤ) (p depth : ℕ) → procedure_number (procedures setting.program.tree) f ≡ p → IsNotes setting st lower l n
      → IsNotes setting st lower (entering p depth l) (noted_one n (Enters f args depth))
  notes_entered l n f args p depth e i = record {
    keeps = i.keeps;
    kinds = i.kinds;
    worths = i.worths;
    each = i.each;
    notes = i.notes;
    entered =
        ap (λ flags. slice_set flags p true) i.entered
        ∙ ap (λ q. slice_set (flagged (replicate (length (procedures setting.program.tree)) false) (map (procedure_number (procedures setting.program.tree)) n.entered)) q true) (sym e)
        ∙ sym (flagged_append (replicate (length (procedures setting.program.tree)) false) (map (procedure_number (procedures setting.program.tree)) n.entered) (procedure_number (procedures setting.program.tree) f))
        ∙ ap (flagged (replicate (length (procedures setting.program.tree)) false)) (sym (map-append (procedure_number (procedures setting.program.tree)) n.entered (f ∷ [])));
    deepest = ap (λ d. max d depth) i.deepest;
  }

  pub notes_updated : (l : PlainLayer) (n : Notes) (r : ℕ) (kind : Kind) (vs : List ℤ) → IsNotes setting st lower l n
      → IsNotes setting st lower (updating r kind vs l) (noted_one n (Updates r kind (element_of kind vs)))
  notes_updated l n r kind vs i = record {
    keeps = i.keeps;
    kinds = i.kinds;
    worths = ap (λ ws. updated ws r kind (element_of kind vs) (slice_get ws r)) i.worths ∙ updated_is r kind vs l.worths (slice_get l.worths r);
    each = updated_each r kind vs l.worths (slice_get l.worths r) ∙ i.each;
    notes = i.notes;
    entered = i.entered;
    deepest = i.deepest;
  }

-- ---- the layers of a strand

module _ (setting : Setting) where
  as_many : (cs : List Code) (ps : List Proc) → AreCodesOf setting.names setting.program.tree cs ps → length cs ≡ length ps
  as_many [] [] h = refl
  as_many [] (p ∷ ps) h = absurd h
  as_many (c ∷ cs) [] h = absurd h
  as_many (c ∷ cs) (p ∷ ps) h = ap suc (as_many cs ps h.1)

  -- the reducers' values of the lowest layer
  pub record IsLowest (l : PlainLayer) (worth : Accumulators) : Type 0 where
    pub kinds : l.kinds ≡ map (λ r. r.kind) (reducers setting.program.tree)
    pub worths : worth ≡ l.worths
    pub each : length l.worths ≡ length l.kinds

module _ (setting : Setting) (st : Start) where
  pub top_noted : (l k : PlainLayer) (lower : List PlainLayer) (ls : List Notes) (es : Log)
      → ((n : Notes) → IsNotes setting st lower l n → IsNotes setting st lower k (definitions.noted n es)) → AreNotes setting st (l ∷ lower) ls → AreNotes setting st (k ∷ lower) (noted_top ls es)
  top_noted l k lower [] es f h = absurd h
  top_noted l k lower (n ∷ ns) es f h = (f n h.0, h.1)

  pub top_read : (l : PlainLayer) (lower : List PlainLayer) (ls : List Notes) (log : Log) → OnlyReads log → AreNotes setting st (l ∷ lower) ls
      → AreNotes setting st (noting (map (numbered setting.names) (readings log)) l ∷ lower) (noted_top ls log)
  top_read l lower ls log h = top_noted l (noting (map (numbered setting.names) (readings log)) l) lower ls log (λ n. notes_read setting l n log h)

  pub bottom_is : (l : PlainLayer) (lower : List PlainLayer) (ls : List Notes) → AreNotes setting st (l ∷ lower) ls → IsLowest setting (lowest l lower) (bottom ls)
  bottom_is l [] [] h = absurd h
  bottom_is l [] (n ∷ []) h = record { kinds = h.0.kinds; worths = h.0.worths; each = h.0.each }
  bottom_is l [] (n ∷ m ∷ ns) h = absurd h.1
  bottom_is l (k ∷ lower) [] h = absurd h
  bottom_is l (k ∷ lower) (n ∷ []) h = absurd h.1
  bottom_is l (k ∷ lower) (n ∷ m ∷ ns) h = bottom_is k lower (m ∷ ns) h.1

-- ---- a layer that begins

module _ (setting : Setting) {st : Start} {lower : List PlainLayer} where
  pub blank_is : (keeps : Bool) → IsKept setting st lower keeps → IsLinked setting → IsNotes setting st lower (blank keeps setting.kinds (length setting.codes)) (definitions.blank setting.program.tree)
  blank_is keeps e linked = record {
    keeps = e;
    kinds = linked.kinds;
    worths = same_identities (reducers setting.program.tree) ∙ ap identities (sym linked.kinds);
    each = length-map setting.kinds identity_of;
    notes = λ k. members_same [] [] refl;
    entered = ap (λ n. replicate n false) (as_many setting setting.codes (procedures setting.program.tree) linked.codes);
    deepest = refl;
  }

  -- a layer that the initial values are put onto
  pub begun_is : (is : List PlainInitial) (es : Log) (l : PlainLayer) (n : Notes) → AreUpdatesBy setting.kinds is es → IsNotes setting st lower l n
      → IsNotes setting st lower (begun setting.kinds is l) (definitions.noted n es)
  begun_is [] [] l n h k = k
  begun_is [] (e ∷ es) l n h k = absurd h
  begun_is (i ∷ is) [] l n h k = absurd h
  begun_is (i ∷ is) (e ∷ es) l n h k =
      begun_is is es (begun_by (slice_get setting.kinds i.reducer) i l) (noted_one n e) h.1
      (subst (λ o. IsNotes setting st lower (begun_by o i l) (noted_one n e)) (sym h.0.there)
      (subst (λ f. IsNotes setting st lower (updating i.reducer h.0.kind i.numbers l) (noted_one n f)) (sym h.0.is)
      (notes_updated setting l n i.reducer h.0.kind i.numbers k)))
