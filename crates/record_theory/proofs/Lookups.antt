-- Records by number stand for those by name, as they are looked up and put in.
use Rattle.std.proofs.Common.{◌≡◌, ℕ, suc, ◌+◌, ℤ, Bool, true, false, cond, List, [], ◌∷◌, map, Some, None, refl, sym, ap, ◌∙◌, subst}
use Rattle.std.specs.Prelude.{◌&&◌, nat_eq, nat_le}
use Rattle.std.specs.Cmp.Lexicographic.{pointwise}
use Rattle.std.specs.List.{find}
use Rattle.std.specs.Ordering.{int_eq}
use Rattle.std.specs.Str.{bytes_eq}
use Rattle.std.proofs.lemmas.Slice.Eq.{bytes_eq-Decides}
use Rattle.monoid_laws.specs.declared.Kind.{Kind}
use Rattle.meaning.specs.Tree.{Name}
use Rattle.meaning.specs.Commits.{replaced, committed, same_key}
use Rattle.meaning.specs.Elision.{depth_limit}
use Rattle.meaning.specs.Every.{every}
use Rattle.meaning.specs.Records.{Revised, Kept, agrees, is_current, holds_now, is_valid, if_valid, record_of, same_args}
use Rattle.meaning.specs.Statements.{procedure_of}
use Rattle.meaning.specs.Tables.{Tables, is_there}
use Rattle.linked_program.specs.TableNames.{Columned, columned_of}
use Rattle.evaluation.specs.Numbers.{numbered}
use Rattle.record_theory.specs.Record.{PlainRecord, is_of, same_instance, as_made}
use Rattle.record_theory.specs.Validity.{note_agrees, has_revision, record_valid, only_valid, valid_at}
use Rattle.record_theory.specs.InStep.{reads_agree, ReadNow}
use Rattle.record_theory.specs.Commits.{put_record, put_records}
use Rattle.record_theory.specs.Named.{number_of, numbered_entry, IsRecord, AreRecords, IsAnswer, IsInOrder}
use Rattle.record_theory.proofs.Members.{every_member, every_mapped, left_is, right_is, both}
use Rattle.record_theory.proofs.Numbers.{same_name, current_is, reading_is, same_arguments}

module _ (program : Revised) (names : List Columned) (kinds : List Kind) where
  -- a record is that of a name and arguments where the one by number is that of the name's number
  is_of_key : (k : Kept) (r : PlainRecord) (f : Name) (args : List ℤ) → IsRecord program.tree names kinds k r → (bytes_eq k.of f && same_args k.args args) ≡ is_of (number_of program.tree f) args r
  is_of_key k r f args h =
      ap (λ b. b && same_args k.args args) (same_name program.tree f k.of h.known)
      ∙ ap (λ b. nat_eq (number_of program.tree f) (number_of program.tree k.of) && b) (same_arguments k.args args)
      ∙ ap (λ n. nat_eq (number_of program.tree f) n && pointwise int_eq args k.args) (sym h.procedure)
      ∙ ap (λ xs. nat_eq (number_of program.tree f) r.procedure && pointwise int_eq args xs) (sym h.arguments)

  as_made_is : (k : Kept) (r : PlainRecord) → IsRecord program.tree names kinds k r → IsRecord program.tree names kinds k (as_made r)
  as_made_is k r h = record {
    known = h.known;
    procedure = h.procedure;
    arguments = h.arguments;
    value = h.value;
    contribution = h.contribution;
    named = h.named;
    reads = h.reads;
    entered = h.entered;
    height = h.height;
  }

  module _ (tables : Tables) (known : columned_of tables ≡ names) where
    reads_hold : (k : Kept) (r : PlainRecord) → IsRecord program.tree names kinds k r → every (agrees tables) k.read ≡ every (note_agrees tables) r.reads
    reads_hold k r h =
        every_mapped (note_agrees tables) (agrees tables) (numbered names) k.read
        (λ x. subst (λ (ts : List Columned). agrees tables x ≡ note_agrees tables (numbered ts x)) known (reading_is tables x))
        ∙ sym (every_member (note_agrees tables) r.reads _ h.reads)

    -- records that stand for those that hold now agree with the tables
    pub agree_now : (ks : List Kept) (rs : List PlainRecord) → AreRecords program.tree names kinds ks rs → every (holds_now program tables) ks ≡ true → ReadNow tables rs
    agree_now [] [] h n = refl
    agree_now [] (r ∷ rs) h n = absurd h
    agree_now (k ∷ ks) [] h n = absurd h
    agree_now (k ∷ ks) (r ∷ rs) h n =
        both (reads_agree tables r) (every (reads_agree tables) rs)
        (sym (reads_hold k r h.0) ∙ left_is (every (agrees tables) k.read) (every (is_current program.revisions) k.revisions) (left_is (holds_now program tables k) (every (holds_now program tables) ks) n))
        (agree_now ks rs h.1 (right_is (holds_now program tables k) (every (holds_now program tables) ks) n))

  module _ (tables : Tables) (listed : IsInOrder program.tree program.revisions) (known : columned_of tables ≡ names) where
    revisions_hold : (k : Kept) (r : PlainRecord) → IsRecord program.tree names kinds k r → every (is_current program.revisions) k.revisions ≡ every (has_revision program.revisions) r.entered
    revisions_hold k r h =
        every_mapped (has_revision program.revisions) (is_current program.revisions) (numbered_entry program.tree) k.revisions (current_is program.tree program.revisions listed)
        ∙ sym (every_member (has_revision program.revisions) r.entered _ h.entered)

    valid_is : (depth : ℕ) (k : Kept) (r : PlainRecord) → IsRecord program.tree names kinds k r → is_valid program tables depth k ≡ record_valid program.revisions tables depth r
    valid_is depth k r h =
        ap (λ b. (b && every (is_current program.revisions) k.revisions) && nat_le (depth + k.height) (suc depth_limit)) (reads_hold tables known k r h)
        ∙ ap (λ b. (every (note_agrees tables) r.reads && b) && nat_le (depth + k.height) (suc depth_limit)) (revisions_hold k r h)
        ∙ ap (λ n. (every (note_agrees tables) r.reads && every (has_revision program.revisions) r.entered) && nat_le (depth + n) (suc depth_limit)) (sym h.height)

    found_one : (b : Bool) (k : Kept) (r : PlainRecord) → IsRecord program.tree names kinds k r → IsAnswer program.tree names kinds (cond b (Some k) None) (cond b (Some (as_made r)) None)
    found_one true k r h = as_made_is k r h
    found_one false k r h = tt

    valid_one : (depth : ℕ) (k : Kept) (r : PlainRecord) → IsRecord program.tree names kinds k r
        → IsAnswer program.tree names kinds (if_valid program tables depth (Some k)) (only_valid program.revisions tables depth (Some r))
    valid_one depth k r h = rw (valid_is depth k r h) (found_one (record_valid program.revisions tables depth r) k r h)

    pub looks_up : (depth : ℕ) (f : Name) (args : List ℤ) (ks : List Kept) (rs : List PlainRecord) → AreRecords program.tree names kinds ks rs
        → IsAnswer program.tree names kinds (if_valid program tables depth (record_of ks f args)) (valid_at program.revisions tables depth rs (number_of program.tree f) args)
    looks_up depth f args [] [] h = tt
    looks_up depth f args [] (r ∷ rs) h = absurd h
    looks_up depth f args (k ∷ ks) [] h = absurd h
    looks_up depth f args (k ∷ ks) (r ∷ rs) h =
        rw (is_of_key k r f args h.0)
        (elim (is_of (number_of program.tree f) args r) as (λ b. IsAnswer program.tree names kinds (if_valid program tables depth (cond b (Some k) (record_of ks f args)))
        (only_valid program.revisions tables depth (cond b (Some r) (find (is_of (number_of program.tree f) args) rs)))) [
          | true ↦ valid_one depth k r h.0
          | false ↦ looks_up depth f args ks rs h.1
        ])

  numbered_is : (k : Kept) (r : PlainRecord) → IsRecord program.tree names kinds k (as_made r) → IsRecord program.tree names kinds k r
  numbered_is k r h = record {
    known = h.known;
    procedure = h.procedure;
    arguments = h.arguments;
    value = h.value;
    contribution = h.contribution;
    named = h.named;
    reads = h.reads;
    entered = h.entered;
    height = h.height;
  }

  as_made_all : (ks : List Kept) (rs : List PlainRecord) → AreRecords program.tree names kinds ks rs → AreRecords program.tree names kinds ks (map as_made rs)
  as_made_all [] [] h = tt
  as_made_all [] (r ∷ rs) h = absurd h
  as_made_all (k ∷ ks) [] h = absurd h
  as_made_all (k ∷ ks) (r ∷ rs) h = (as_made_is k r h.0, as_made_all ks rs h.1)

  numbered_all : (ks : List Kept) (rs : List PlainRecord) → AreRecords program.tree names kinds ks (map as_made rs) → AreRecords program.tree names kinds ks rs
  numbered_all [] [] h = tt
  numbered_all [] (r ∷ rs) h = absurd h
  numbered_all (k ∷ ks) [] h = absurd h
  numbered_all (k ∷ ks) (r ∷ rs) h = (numbered_is k r h.0, numbered_all ks rs h.1)

  -- what records stand for doesn't go by their numbers
  pub same_but_numbers : (ks : List Kept) (rs ss : List PlainRecord) → map as_made ss ≡ map as_made rs → AreRecords program.tree names kinds ks rs → AreRecords program.tree names kinds ks ss
  same_but_numbers ks rs ss e h = numbered_all ks ss (rw e (as_made_all ks rs h))

  none_of_name : (k : Kept) (r : PlainRecord) (f : Name) → IsRecord program.tree names kinds k r → is_there (procedure_of program.tree f) ≡ false → bytes_eq k.of f ≡ false
  none_of_name k r f h unknown =
      elim (bytes_eq k.of f) as (λ b. bytes_eq k.of f ≡ b → b ≡ false) [
        | true ↦ λ e. (let same : is_there (procedure_of program.tree f) ≡ true = subst (λ g. is_there (procedure_of program.tree g) ≡ true) ((bytes_eq-Decides k.of f).0 e) h.known in sym same ∙ unknown)
        | false ↦ λ e. refl
      ] refl

  -- a name that no procedure has, has no record
  none_found : (f : Name) (args : List ℤ) (ks : List Kept) (rs : List PlainRecord) → AreRecords program.tree names kinds ks rs → is_there (procedure_of program.tree f) ≡ false → record_of ks f args ≡ None
  none_found f args [] [] h unknown = refl
  none_found f args [] (r ∷ rs) h unknown = absurd h
  none_found f args (k ∷ ks) [] h unknown = absurd h
  none_found f args (k ∷ ks) (r ∷ rs) h unknown = rw (none_of_name k r f h.0 unknown) (none_found f args ks rs h.1 unknown)

  pub none_valid : (tables : Tables) (depth : ℕ) (f : Name) (args : List ℤ) (ks : List Kept) (rs : List PlainRecord) → AreRecords program.tree names kinds ks rs → is_there (procedure_of program.tree f) ≡ false
      → IsAnswer program.tree names kinds (if_valid program tables depth (record_of ks f args)) None
  none_valid tables depth f args ks rs h unknown = rw (none_found f args ks rs h unknown) tt

  same_is : (k j : Kept) (r s : PlainRecord) → IsRecord program.tree names kinds k r → IsRecord program.tree names kinds j s → same_key k j ≡ same_instance s r
  same_is k j r s h i =
      is_of_key k r j.of j.args h
      ∙ ap (λ n. is_of n j.args r) (sym i.procedure)
      ∙ ap (λ xs. is_of s.procedure xs r) (sym i.arguments)

  put_one : (ks : List Kept) (rs : List PlainRecord) (j : Kept) (s : PlainRecord) → AreRecords program.tree names kinds ks rs → IsRecord program.tree names kinds j s → AreRecords program.tree names kinds (replaced ks j) (put_record rs s)
  put_one [] [] j s h i = (i, tt)
  put_one [] (r ∷ rs) j s h i = absurd h
  put_one (k ∷ ks) [] j s h i = absurd h
  put_one (k ∷ ks) (r ∷ rs) j s h i =
      rw (same_is k j r s h.0 i)
      (elim (same_instance s r) as (λ b. AreRecords program.tree names kinds (cond b (j ∷ ks) (k ∷ replaced ks j)) (cond b (s ∷ rs) (r ∷ put_record rs s))) [
        | true ↦ (i, h.1)
        | false ↦ (h.0, put_one ks rs j s h.1 i)
      ])

  pub put_all : (ks js : List Kept) (rs ss : List PlainRecord) → AreRecords program.tree names kinds ks rs → AreRecords program.tree names kinds js ss → AreRecords program.tree names kinds (committed ks js) (put_records rs ss)
  put_all ks [] rs [] h i = h
  put_all ks [] rs (s ∷ ss) h i = absurd i
  put_all ks (j ∷ js) rs [] h i = absurd i
  put_all ks (j ∷ js) rs (s ∷ ss) h i = put_all (replaced ks j) js (put_record rs s) ss (put_one ks rs j s h i.0) i.1
