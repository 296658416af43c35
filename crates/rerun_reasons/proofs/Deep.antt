-- What a reason says of a record: where nothing that it rests on is another, the depth.
use Rattle.std.proofs.Common.{◌≡◌, ◌≢◌, ℕ, ℤ, Bool, true, false, cond, ◌&&◌, List, [], ◌∷◌, Option, Some, None, refl, ap, ◌∙◌, map, nat_le, suc, ◌+◌}
use Rattle.std.specs.List.{find}
use Rattle.std.specs.Ordering.{int_eq}
use Rattle.meaning.specs.Tree.{Name}
use Rattle.meaning.specs.Elision.{depth_limit}
use Rattle.meaning.specs.Every.{every}
use Rattle.meaning.specs.Records.{same_number, same_bool}
use Rattle.meaning.specs.Tables.{Tables}
use Rattle.input_tables.specs.Edited.{cell_at, has_at, limit_at, sum_at}
use Rattle.evaluation.specs.declared.note.Note.{Note}
use Rattle.evaluation.specs.declared.note.Note.TheVariants as note
use Rattle.record_theory.specs.Record.{PlainRecord, is_of, as_made}
use Rattle.record_theory.specs.Validity.{has_revision, note_agrees, only_valid, record_holds}
use Rattle.record_theory.proofs.Members.{left_is, right_is}
use Rattle.rerun_reasons.specs.Reasons.{cell_change, change_of, first_change, first_defined, or_deep, or_else, reason_by, reason_for}
use Rattle.rerun_reasons.specs.Unanswered.{IsTooDeep}
use Rattle.rerun_reasons.specs.declared.reason.Reason.{Reason}
use Rattle.rerun_reasons.specs.declared.reason.Reason.TheVariants as reason

-- ---- no other reason is the depth

none_or : (b : Bool) (x : Reason) → (x ≢ reason.TooDeep) → cond b None (Some x) ≢ Some reason.TooDeep
none_or true x h = λ e. absurd cc
none_or false x h = λ e. h cc

rest_or : (b : Bool) (x : Reason) (rest : Option Reason) → (x ≢ reason.TooDeep) → (rest ≢ Some reason.TooDeep) → cond b rest (Some x) ≢ Some reason.TooDeep
rest_or true x rest h k = k
rest_or false x rest h k = λ e. h cc

or_other : (a b : Option Reason) → (a ≢ Some reason.TooDeep) → (b ≢ Some reason.TooDeep) → or_else a b ≢ Some reason.TooDeep
or_other None b h k = k
or_other (Some x) b h k = h

cell_other : (t : ℕ) (row : ℤ) (c : ℕ) (v : ℤ) (found : Option ℤ) → cell_change t row c v found ≢ Some reason.TooDeep
cell_other t row c v None = λ e. absurd cc
cell_other t row c v (Some w) = none_or (int_eq w v) (reason.Cell t row c v w) (λ e. absurd cc)

module _ (tables : Tables) where
  change_other : (n : Note) → change_of tables n ≢ Some reason.TooDeep
  change_other (note.Cell t row c v) = cell_other t row c v (cell_at tables t row c)
  change_other (note.Has t row there) = none_or (same_bool (has_at tables t row) there) (reason.Row t row there) (λ e. absurd cc)
  change_other (note.Limit t v) = none_or (int_eq (limit_at tables t) v) (reason.Limit t v (limit_at tables t)) (λ e. absurd cc)
  change_other (note.Sum t c v) = none_or (int_eq (sum_at tables t c) v) (reason.Sum t c v (sum_at tables t c)) (λ e. absurd cc)

  changes_other : (ns : List Note) → first_change tables ns ≢ Some reason.TooDeep
  changes_other [] = λ e. absurd cc
  changes_other (n ∷ ns) = or_other (change_of tables n) (first_change tables ns) (change_other n) (changes_other ns)

defined_other : (revisions : List (Name × ℕ)) (es : List (ℕ × ℕ)) → first_defined revisions es ≢ Some reason.TooDeep
defined_other revisions [] = λ e. absurd cc
defined_other revisions (e ∷ es) = rest_or (has_revision revisions e) (reason.Defined e.0) (first_defined revisions es) (λ s. absurd cc) (defined_other revisions es)

-- ---- where there is none, all is as it was

only_none : (b : Bool) (x : Reason) → cond b None (Some x) ≡ None → b ≡ true
only_none true x e = refl
only_none false x e = absurd cc

first_none : (a b : Option Reason) → or_else a b ≡ None → a ≡ None
first_none None b e = refl
first_none (Some x) b e = absurd cc

second_none : (a b : Option Reason) → or_else a b ≡ None → b ≡ None
second_none None b e = e
second_none (Some x) b e = absurd cc

both_true : (a b : Bool) → a ≡ true → b ≡ true → (a && b) ≡ true
both_true true b h k = k
both_true false b h k = h

cell_agrees : (t : ℕ) (row : ℤ) (c : ℕ) (v : ℤ) (found : Option ℤ) → cell_change t row c v found ≡ None → same_number found v ≡ true
cell_agrees t row c v None e = absurd cc
cell_agrees t row c v (Some w) e = only_none (int_eq w v) (reason.Cell t row c v w) e

module _ (tables : Tables) where
  change_agrees : (n : Note) → change_of tables n ≡ None → note_agrees tables n ≡ true
  change_agrees (note.Cell t row c v) e = cell_agrees t row c v (cell_at tables t row c) e
  change_agrees (note.Has t row there) e = only_none (same_bool (has_at tables t row) there) (reason.Row t row there) e
  change_agrees (note.Limit t v) e = only_none (int_eq (limit_at tables t) v) (reason.Limit t v (limit_at tables t)) e
  change_agrees (note.Sum t c v) e = only_none (int_eq (sum_at tables t c) v) (reason.Sum t c v (sum_at tables t c)) e

  changes_agree : (ns : List Note) → first_change tables ns ≡ None → every (note_agrees tables) ns ≡ true
  changes_agree [] e = refl
  changes_agree (n ∷ ns) e =
      both_true (note_agrees tables n) (every (note_agrees tables) ns) (change_agrees n (first_none (change_of tables n) (first_change tables ns) e))
      (changes_agree ns (second_none (change_of tables n) (first_change tables ns) e))

current_so : (b all : Bool) (x : Reason) (rest : Option Reason) → (rest ≡ None → all ≡ true) → cond b rest (Some x) ≡ None → (b && all) ≡ true
current_so true all x rest h e = h e
current_so false all x rest h e = absurd cc

all_current : (revisions : List (Name × ℕ)) (es : List (ℕ × ℕ)) → first_defined revisions es ≡ None → every (has_revision revisions) es ≡ true
all_current revisions [] e = refl
all_current revisions (p ∷ ps) e =
    current_so (has_revision revisions p) (every (has_revision revisions) ps) (reason.Defined p.0) (first_defined revisions ps) (all_current revisions ps) e

-- ---- where all is as it was, there is none

cell_same : (t : ℕ) (row : ℤ) (c : ℕ) (v : ℤ) (found : Option ℤ) → same_number found v ≡ true → cell_change t row c v found ≡ None
cell_same t row c v None e = absurd cc
cell_same t row c v (Some w) e = ap (λ b. cond b None (Some (reason.Cell t row c v w))) e

or_neither : (a b : Option Reason) → a ≡ None → b ≡ None → or_else a b ≡ None
or_neither None b h k = k
or_neither (Some x) b h k = h

module _ (tables : Tables) where
  change_none : (n : Note) → note_agrees tables n ≡ true → change_of tables n ≡ None
  change_none (note.Cell t row c v) e = cell_same t row c v (cell_at tables t row c) e
  change_none (note.Has t row there) e = ap (λ b. cond b None (Some (reason.Row t row there))) e
  change_none (note.Limit t v) e = ap (λ b. cond b None (Some (reason.Limit t v (limit_at tables t)))) e
  change_none (note.Sum t c v) e = ap (λ b. cond b None (Some (reason.Sum t c v (sum_at tables t c)))) e

  pub changes_none : (ns : List Note) → every (note_agrees tables) ns ≡ true → first_change tables ns ≡ None
  changes_none [] e = refl
  changes_none (n ∷ ns) e =
      or_neither (change_of tables n) (first_change tables ns) (change_none n (left_is (note_agrees tables n) (every (note_agrees tables) ns) e))
      (changes_none ns (right_is (note_agrees tables n) (every (note_agrees tables) ns) e))

-- ---- then it is the depth

none_left : (o : Option Reason) → (o ≢ Some reason.TooDeep) → or_deep o ≡ reason.TooDeep → o ≡ None
none_left None h e = refl
none_left (Some x) h e = absurd (h (ap Some e))

unfit : (a b : Bool) (x : PlainRecord) → a ≡ true → cond (a && b) (Some x) None ≡ None → b ≡ false
unfit true true x h e = absurd cc
unfit true false x h e = refl
unfit false b x h e = absurd cc

module _ (revisions : List (Name × ℕ)) (tables : Tables) (depth : ℕ) where
  pub deep_where_valid : (found : Option PlainRecord) → only_valid revisions tables depth found ≡ None → reason_by revisions tables found ≡ reason.TooDeep → IsTooDeep revisions tables depth found
  deep_where_valid None v e = absurd cc
  deep_where_valid (Some r) v e =
      let none : or_else (first_defined revisions r.entered) (first_change tables r.reads) ≡ None =
      none_left (or_else (first_defined revisions r.entered) (first_change tables r.reads))
      (or_other (first_defined revisions r.entered) (first_change tables r.reads) (defined_other revisions r.entered) (changes_other tables r.reads)) e in
      let holds : record_holds revisions tables r ≡ true =
      both_true (every (note_agrees tables) r.reads) (every (has_revision revisions) r.entered)
      (changes_agree tables r.reads (second_none (first_defined revisions r.entered) (first_change tables r.reads) none))
      (all_current revisions r.entered (first_none (first_defined revisions r.entered) (first_change tables r.reads) none)) in
      (holds, unfit (record_holds revisions tables r) (nat_le (depth + r.height) (suc depth_limit)) _ holds v)

-- ---- the numbers of records say nothing here

module _ (revisions : List (Name × ℕ)) (tables : Tables) (procedure : ℕ) (arguments : List ℤ) where
  as_made_reason : (rs : List PlainRecord) → reason_by revisions tables (find (is_of procedure arguments) (map as_made rs)) ≡ reason_for revisions tables rs procedure arguments
  as_made_reason [] = refl
  as_made_reason (r ∷ rs) =
      elim (is_of procedure arguments r) as (λ b. reason_by revisions tables (cond b (Some (as_made r)) (find (is_of procedure arguments) (map as_made rs)))
      ≡ reason_by revisions tables (cond b (Some r) (find (is_of procedure arguments) rs))) [
        | true ↦ refl
        | false ↦ as_made_reason rs
      ]

  pub found_reason : (rs lent : List PlainRecord) (asked : List ℤ) (found : Option PlainRecord) → asked ≡ arguments → lent ≡ map as_made rs → found ≡ find (is_of procedure asked) lent
      → reason_by revisions tables found ≡ reason_for revisions tables rs procedure arguments
  found_reason rs lent asked found a l f =
      ap (reason_by revisions tables) (f ∙ ap (λ xs. find (is_of procedure xs) lent) a ∙ ap (find (is_of procedure arguments)) l) ∙ as_made_reason rs
