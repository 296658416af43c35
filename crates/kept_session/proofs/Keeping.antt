-- What a session keeps: its records, as procedures are defined anew and as new records are put in, and the names of its tables' columns.
use Rattle.std.proofs.Common.{◌≡◌, ℕ, true, false, Bool, ◌&&◌, cond, List, [], ◌∷◌, map, All, Result, Ok, Err, OnOk, OnErr, refl, sym, ap, subst, ◌∙◌}
use Rattle.std.proofs.lemmas.List.Elements.{All-nil, All-cons, All-head, All-tail, All-weaker}
use Rattle.monoid_laws.specs.declared.Kind.{Kind}
use Rattle.meaning.specs.Tree.{Name, Tree}
use Rattle.meaning.specs.TreeView.{tree}
use Rattle.meaning.specs.Every.{every}
use Rattle.meaning.specs.Tables.{is_there}
use Rattle.meaning.specs.Statements.{procedure_of}
use Rattle.meaning.specs.Records.{Kept, IsSound, agrees, is_current}
use Rattle.meaning.specs.Commits.{same_key, replaced, committed}
use Rattle.trail_theory.specs.Order.{Every}
use Rattle.trail_theory.specs.KeptRecords.{RecordsStaySound}
use Rattle.trail_theory.proofs.Contributions.{commits_sound}
use Rattle.linked_program.specs.TableNames.{Columned}
use Rattle.linked_program.specs.Checked.{PlainChecked, IsChecked, revised_of}
use Rattle.input_tables.specs.Edited.{Edited}
use Rattle.record_theory.specs.Record.{PlainRecord}
use Rattle.record_theory.specs.Named.{IsRecord, AreRecords, SameMembers, numbered_entry, CommitsNamed, HasValuesIfAnswers, HaveValues}
use Rattle.checked_defines.specs.Standings.{KeepsPlaces, KeepsNumbers}
use Rattle.checked_defines.proofs.Numbers.{keeps_numbers, current_are_there}
use Rattle.kept_session.specs.Sessions.{NamesThere, AreKeptFor, IsRightNow, AreNewFor}

-- ---- procedures that keep their numbers

abbrev IsThere : Tree → Name × ℕ → Type 0
IsThere t e = is_there (procedure_of t e.0) ≡ true

module _ (t u : Tree) (keeps : KeepsNumbers t u) where
  entries_stay : (es : List (Name × ℕ)) → All (IsThere t) es → map (numbered_entry u) es ≡ map (numbered_entry t) es
  entries_stay [] there = refl
  entries_stay (e ∷ es) there =
      let first : IsThere t e = All-head (IsThere t) e es there in
      ap (λ (n : ℕ). (n, e.1) ∷ map (numbered_entry u) es) (keeps e.0 first).1
      ∙ ap (λ (ns : List (ℕ × ℕ)). numbered_entry t e ∷ ns) (entries_stay es (All-tail (IsThere t) e es there))

  record_stays : (names : List Columned) (kinds : List Kind) (k : Kept) (r : PlainRecord) → NamesThere t k → IsRecord t names kinds k r → IsRecord u names kinds k r
  record_stays names kinds k r there is = record {
    known = (keeps k.of is.known).0;
    procedure = is.procedure ∙ sym (keeps k.of is.known).1;
    arguments = is.arguments;
    value = is.value;
    contribution = is.contribution;
    named = is.named;
    reads = is.reads;
    entered = subst (SameMembers r.entered) (sym (entries_stay k.revisions there)) is.entered;
    height = is.height;
  }

  records_stay : (names : List Columned) (kinds : List Kind) (ks : List Kept) (rs : List PlainRecord) → Every (NamesThere t) ks → AreRecords t names kinds ks rs → AreRecords u names kinds ks rs
  records_stay names kinds [] [] there is = tt
  records_stay names kinds [] (r ∷ rs) there is = absurd is
  records_stay names kinds (k ∷ ks) [] there is = absurd is
  records_stay names kinds (k ∷ ks) (r ∷ rs) there is = (record_stays names kinds k r there.0 is.0, records_stay names kinds ks rs there.1 is.1)

  names_stay : (ks : List Kept) → Every (NamesThere t) ks → Every (NamesThere u) ks
  names_stay [] there = tt
  names_stay (k ∷ ks) there = (All-weaker (IsThere t) (IsThere u) (λ e h. (keeps e.0 h).0) k.revisions there.0, names_stay ks there.1)

-- records that stand for sound ones do so where procedures are defined anew
pub defined_keeps : (old new : PlainChecked) (records : List PlainRecord) → KeepsPlaces (tree old.program) (tree new.program) → RecordsStaySound (revised_of old) (revised_of new)
    → new.tables ≡ old.tables → new.kinds ≡ old.kinds → AreKeptFor old records → AreKeptFor new records
defined_keeps old new records places sound tables kinds k =
    let t = tree old.program in
    let u = tree new.program in
    let keeps = keeps_numbers t u places in
    let kept = k.sound.kept in
    record {
      sound = record {
        kept = kept;
        stand = subst (λ (ns : List Columned). AreRecords u ns new.kinds kept records) (sym tables)
            (subst (λ (ks : List Kind). AreRecords u old.tables ks kept records) (sym kinds)
            (records_stay t u keeps old.tables old.kinds kept records k.there k.sound.stand));
        sound = sound kept k.sound.sound;
      };
      there = names_stay t u keeps kept k.there;
    }

-- ---- records that are put in

replaced_keeps : (P : Kept → Type 0) (records : List Kept) (k : Kept) → Every P records → P k → Every P (replaced records k)
replaced_keeps P [] k h new = (new, tt)
replaced_keeps P (j ∷ js) k h new =
    elim (same_key j k) as (λ b. Every P (cond b (k ∷ js) (j ∷ replaced js k))) [
      | true ↦ (new, h.1)
      | false ↦ (h.0, replaced_keeps P js k h.1 new)
    ]

committed_keeps : (P : Kept → Type 0) (records new : List Kept) → Every P records → Every P new → Every P (committed records new)
committed_keeps P records [] h new = h
committed_keeps P records (k ∷ ks) h new = committed_keeps P (replaced records k) ks (replaced_keeps P records k h new.0) new.1

and_holds : (a b : Bool) → a && b ≡ true → (a ≡ true) × (b ≡ true)
and_holds true b e = (refl, e)
and_holds false b e = absurd cc

all_current : (revisions es : List (Name × ℕ)) → every (is_current revisions) es ≡ true → All (λ e. is_current revisions e ≡ true) es
all_current revisions [] h = All-nil (λ e. is_current revisions e ≡ true)
all_current revisions (e ∷ es) h =
    let both = and_holds (is_current revisions e) (every (is_current revisions) es) h in
    All-cons (λ e. is_current revisions e ≡ true) e es both.0 (all_current revisions es both.1)

module _ (program : PlainChecked) (is : IsChecked program) (tables : Edited) where
  new_there : (k : Kept) → IsRightNow (revised_of program) tables.tables k → NamesThere (tree program.program) k
  new_there k new =
      let current = (and_holds (every (agrees tables.tables) k.read) (every (is_current program.revisions) k.revisions) new.now).1 in
      All-weaker (λ e. is_current program.revisions e ≡ true) (IsThere (tree program.program)) (λ e h. current_are_there program is e.0 e.1 h) k.revisions
      (all_current program.revisions k.revisions current)

  news_there : (ks : List Kept) → Every (IsRightNow (revised_of program) tables.tables) ks → Every (NamesThere (tree program.program)) ks
  news_there [] news = tt
  news_there (k ∷ ks) news = (new_there k news.0, news_there ks news.1)

  news_sound : (ks : List Kept) → Every (IsRightNow (revised_of program) tables.tables) ks → Every (IsSound (revised_of program)) ks
  news_sound [] news = tt
  news_sound (k ∷ ks) news = (news.0.sound, news_sound ks news.1)

  -- sound records with new ones put in are sound
  pub put_keeps : (old made new : List PlainRecord) → CommitsNamed program old made new → AreKeptFor program old → AreNewFor program tables made → AreKeptFor program new
  put_keeps old made new named k n = record {
    sound = record {
      kept = committed k.sound.kept n.kept;
      stand = named k.sound.kept n.kept k.sound.stand n.stand;
      sound = commits_sound (revised_of program) k.sound.kept n.kept k.sound.sound (news_sound n.kept n.right);
    };
    there = committed_keeps (NamesThere (tree program.program)) k.sound.kept n.kept k.there (news_there n.kept n.right);
  }

  -- whether memory was refused or not
  pub settled_keeps : {E : Type 0} (given : Result Unit E) (old made new : List PlainRecord) → OnOk given (CommitsNamed program old made new) → OnErr given (new ≡ old)
      → AreKeptFor program old → AreNewFor program tables made → AreKeptFor program new
  settled_keeps (Ok u) old made new named same k n = put_keeps old made new named k n
  settled_keeps (Err e) old made new named same k n = subst (AreKeptFor program) (sym same) k

pub settled_values : {E : Type 0} (given : Result Unit E) (kinds : List Kind) (old made new : List PlainRecord) → OnOk given ((ks : List Kind) → HaveValues ks old → HaveValues ks made → HaveValues ks new) → OnErr given (new ≡ old)
    → HaveValues kinds old → HaveValues kinds made → HaveValues kinds new
settled_values (Ok u) kinds old made new values same h k = values kinds h k
settled_values (Err e) kinds old made new values same h k = subst (HaveValues kinds) (sym same) h

-- ---- the beginning

-- no records are sound for every program
pub none_kept : (program : PlainChecked) → AreKeptFor program []
none_kept program = record { sound = record { kept = []; stand = tt; sound = tt }; there = tt }

-- and have values of all kinds
pub none_valued : (kinds : List Kind) → HaveValues kinds []
none_valued kinds = All-nil (HasValuesIfAnswers kinds)

-- a run that has made none has made none that don't hold now
pub none_new : (program : PlainChecked) (tables : Edited) → AreNewFor program tables []
none_new program tables = record { kept = []; stand = tt; right = tt }
