-- What a block answers, its records answer one by one.
use Rattle.std.proofs.Common.{◌≡◌, ℕ, zero, suc, ◌<◌, ◌≤◌, ◌+◌, ℤ, pos, Bool, true, false, true≢false, cond, not, List, [], ◌∷◌, map, length, Some, None, refl, sym, ap, ◌∙◌, subst, arith}
use Rattle.std.specs.Prelude.{◌&&◌, ◌+ℤ◌, max, nat_eq, nat_le, slice_get, slice_set}
use Rattle.std.specs.Cmp.Lexicographic.{pointwise}
use Rattle.std.specs.List.{find, flat_map, position_or_len, AllByRecursion, IsDistinct}
use Rattle.std.specs.Ordering.{int_eq}
use Rattle.std.proofs.lemmas.Bool.{le-leb}
use Rattle.std.proofs.lemmas.Bool.Decides.{Decides-eqb, Decides-int_eq}
use Rattle.std.proofs.lemmas.Slice.Eq.{slice_eq-Decides}
use Rattle.meaning.specs.Tree.{Name}
use Rattle.linked_program.specs.Checked.{PlainChecked}
use Rattle.meaning.specs.Elision.{depth_limit}
use Rattle.meaning.specs.Every.{every}
use Rattle.meaning.specs.Tables.{Tables}
use Rattle.record_theory.specs.Record.{PlainRecord, is_of, same_instance, as_made}
use Rattle.record_theory.specs.Commits.{AreSingle}
use Rattle.record_theory.specs.Numbers.{is_counted}
use Rattle.record_theory.specs.InStep.{IsInStep}
use Rattle.record_theory.specs.Sums.{highest}
use Rattle.record_theory.specs.Validity.{note_agrees, has_revision, record_valid, only_valid, valid_at}
use Rattle.record_theory.specs.Batches.{AreValidFrom, IsBatch}
use Rattle.rerun_records.specs.Sums.{with_reads, IsBatchFor}
use Rattle.rerun_records.specs.Blocks.{PlainBlock, is_fresh, is_fresh_at, AreLeaves, BlockFits, Answers}
use Rattle.record_theory.proofs.Members.{left_is, right_is, both, every_member, every_append}
use Rattle.record_theory.proofs.Singles.{is_le, set_itself}
use Rattle.record_theory.proofs.InStep.{fresh_agrees}
use Rattle.rerun_records.proofs.Homes.{false_if}

-- ---- which record is of a procedure and arguments

same_list : (xs ys : List ℤ) → pointwise int_eq xs ys ≡ true → xs ≡ ys
same_list xs ys e = (slice_eq-Decides Decides-int_eq xs ys true (sym e)).0 refl

list_same : (xs : List ℤ) → pointwise int_eq xs xs ≡ true
list_same [] = refl
list_same (x ∷ xs) = both (int_eq x x) (pointwise int_eq xs xs) ((Decides-int_eq x x).1 refl) (list_same xs)

pub of_itself : (r : PlainRecord) → is_of r.procedure r.arguments r ≡ true
of_itself r = both (nat_eq r.procedure r.procedure) (pointwise int_eq r.arguments r.arguments) ((Decides-eqb r.procedure r.procedure).1 refl) (list_same r.arguments)

pub of_procedure : (procedure : ℕ) (arguments : List ℤ) (r : PlainRecord) → is_of procedure arguments r ≡ true → r.procedure ≡ procedure
of_procedure procedure arguments r e = sym ((Decides-eqb procedure r.procedure).0 (left_is (nat_eq procedure r.procedure) (pointwise int_eq arguments r.arguments) e))

pub of_arguments : (procedure : ℕ) (arguments : List ℤ) (r : PlainRecord) → is_of procedure arguments r ≡ true → r.arguments ≡ arguments
of_arguments procedure arguments r e = sym (same_list arguments r.arguments (right_is (nat_eq procedure r.procedure) (pointwise int_eq arguments r.arguments) e))

-- one behind another is of other arguments
pub other_instance : (x : PlainRecord) (rs : List PlainRecord) (p : ℕ) (m : PlainRecord) → AllByRecursion (λ y. same_instance x y ≡ false) rs → slice_get (map as_made rs) p ≡ Some m → is_of m.procedure m.arguments x ≡ false
other_instance x [] p m h e = absurd cc
other_instance x (r ∷ rs) zero m h e =
    false_if (is_of m.procedure m.arguments x)
    (λ t. (let there : as_made r ≡ m = cc (e) in
    let same : same_instance x m ≡ true = subst (λ (f : ℕ). is_of f x.arguments m ≡ true) (sym (of_procedure m.procedure m.arguments x t)) (subst (λ (xs : List ℤ). is_of m.procedure xs m ≡ true) (sym (of_arguments m.procedure m.arguments x t)) (of_itself m)) in
    true≢false (sym same ∙ subst (λ (y : PlainRecord). same_instance x y ≡ false) there h.0)))
other_instance x (r ∷ rs) (suc p) m h e = other_instance x rs p m h.1 e

-- ---- a fresh record is valid where its procedures and the depth allow it

module _ (revisions : List (Name × ℕ)) (tables : Tables) (depth : ℕ) where
  valid_so : (r m : PlainRecord) → as_made r ≡ m → is_fresh r ≡ true → is_counted tables r ≡ true → every (has_revision revisions) m.entered ≡ true → nat_le (depth + m.height) (suc depth_limit) ≡ true
      → only_valid revisions tables depth (Some r) ≡ Some m
  valid_so r m e s h c f =
      let reads = fresh_agrees tables r h s in
      let entered : every (has_revision revisions) r.entered ≡ true = subst (λ (x : PlainRecord). every (has_revision revisions) x.entered ≡ true) (sym e) c in
      let deep : nat_le (depth + r.height) (suc depth_limit) ≡ true = subst (λ (x : PlainRecord). nat_le (depth + x.height) (suc depth_limit) ≡ true) (sym e) f in
      let valid : record_valid revisions tables depth r ≡ true =
      both (every (note_agrees tables) r.reads && every (has_revision revisions) r.entered) (nat_le (depth + r.height) (suc depth_limit)) (both (every (note_agrees tables) r.reads) (every (has_revision revisions) r.entered) reads entered) deep in
      ap (λ b. cond b (Some (as_made r)) None) valid ∙ ap Some e

  pub leaf_valid : (rs : List PlainRecord) (p : ℕ) (m : PlainRecord) → AreSingle rs → IsInStep tables rs → slice_get (map as_made rs) p ≡ Some m → is_fresh_at rs p ≡ true
      → every (has_revision revisions) m.entered ≡ true → nat_le (depth + m.height) (suc depth_limit) ≡ true → valid_at revisions tables depth rs m.procedure m.arguments ≡ Some m
  unfolding IsDistinct
  leaf_valid [] p m single h e s c f = absurd cc
  leaf_valid (r ∷ rs) zero m single h e s c f =
      let there : as_made r ≡ m = cc (e) in
      let found : is_of m.procedure m.arguments r ≡ true = subst (λ (x : PlainRecord). is_of x.procedure x.arguments r ≡ true) there (of_itself r) in
      ap (λ b. only_valid revisions tables depth (cond b (Some r) (find (is_of m.procedure m.arguments) rs))) found
      ∙ valid_so r m there s (left_is (is_counted tables r) (every (is_counted tables) rs) h) c f
  leaf_valid (r ∷ rs) (suc p) m single h e s c f =
      ap (λ b. only_valid revisions tables depth (cond b (Some r) (find (is_of m.procedure m.arguments) rs))) (other_instance r rs p m single.0 e)
      ∙ leaf_valid rs p m single.1 (right_is (is_counted tables r) (every (is_counted tables) rs) h) e s c f

lower : (a b c : ℕ) → b ≤ c → nat_le (a + c) (suc depth_limit) ≡ true → nat_le (a + b) (suc depth_limit) ≡ true
lower a b c l e = let h = is_le (a + c) (suc depth_limit) e in le-leb (a + b) (suc depth_limit) (below (suc depth_limit) h)
  where
    below : (limit : ℕ) → a + c ≤ limit → a + b ≤ limit
    below limit h = omega (arith, l, h)

left_max : (a b : ℕ) → a ≤ max a b
left_max a b = omega arith

right_max : (a b : ℕ) → b ≤ max a b
right_max a b = omega arith

module _ (program : PlainChecked) (tables : Tables) (depth : ℕ) (rs : List PlainRecord) (single : AreSingle rs) (h : IsInStep tables rs) where
  valid_from : (procedure : ℕ) (arguments : List ℤ) (counted : ℕ) (v : ℤ) (ps : List ℕ) (ms : List PlainRecord) → AreLeaves (map as_made rs) procedure arguments counted v ps ms → every (is_fresh_at rs) ps ≡ true
      → every (has_revision program.revisions) (flat_map (λ r. r.entered) ms) ≡ true → nat_le (depth + highest ms) (suc depth_limit) ≡ true
      → AreValidFrom program tables depth rs procedure arguments counted v ms
  valid_from procedure arguments counted v [] [] a s c f = tt
  valid_from procedure arguments counted v [] (m ∷ ms) a s c f = absurd a
  valid_from procedure arguments counted v (p ∷ ps) [] a s c f = absurd a
  valid_from procedure arguments counted v (p ∷ ps) (m ∷ ms) a s c f =
      let entered : every (has_revision program.revisions) m.entered && every (has_revision program.revisions) (flat_map (λ r. r.entered) ms) ≡ true =
      sym (every_append (has_revision program.revisions) m.entered (flat_map (λ r. r.entered) ms)) ∙ c in
      let one = leaf_valid program.revisions tables depth rs p m single h a.0.there (left_is (is_fresh_at rs p) (every (is_fresh_at rs) ps) s)
      (left_is (every (has_revision program.revisions) m.entered) (every (has_revision program.revisions) (flat_map (λ r. r.entered) ms)) entered)
      (lower depth m.height (max m.height (highest ms)) (left_max m.height (highest ms)) f) in (
        ap (λ (n : ℕ). valid_at program.revisions tables depth rs n (slice_set arguments counted v)) (sym a.0.procedure_is)
            ∙ ap (λ (xs : List ℤ). valid_at program.revisions tables depth rs m.procedure xs) (sym a.0.arguments_are) ∙ one,
        valid_from procedure arguments counted (v +ℤ pos 1) ps ms a.1 (right_is (is_fresh_at rs p) (every (is_fresh_at rs) ps) s)
            (right_is (every (has_revision program.revisions) m.entered) (every (has_revision program.revisions) (flat_map (λ r. r.entered) ms)) entered)
            (lower depth (highest ms) (max m.height (highest ms)) (right_max m.height (highest ms)) f),
      )

-- ---- a block that begins at a record is a batch

as_many : (rs : List PlainRecord) (procedure : ℕ) (arguments : List ℤ) (counted : ℕ) (v : ℤ) (ps : List ℕ) (ms : List PlainRecord) → AreLeaves rs procedure arguments counted v ps ms → length ms ≡ length ps
as_many rs procedure arguments counted v [] [] a = refl
as_many rs procedure arguments counted v [] (m ∷ ms) a = absurd a
as_many rs procedure arguments counted v (p ∷ ps) [] a = absurd a
as_many rs procedure arguments counted v (p ∷ ps) (m ∷ ms) a = ap suc (as_many rs procedure arguments counted (v +ℤ pos 1) ps ms a.1)

first_leaf : (rs : List PlainRecord) (procedure : ℕ) (arguments : List ℤ) (counted : ℕ) (v : ℤ) (ps : List ℕ) (ms : List PlainRecord) (place : ℕ) (k : PlainRecord) → AreLeaves rs procedure arguments counted v ps ms
    → slice_get ps 0 ≡ Some place → slice_get rs place ≡ Some k → (k.procedure ≡ procedure) × (k.arguments ≡ slice_set arguments counted v) × (0 < length ps)
first_leaf rs procedure arguments counted v [] ms place k a e f = absurd cc
first_leaf rs procedure arguments counted v (p ∷ ps) [] place k a e f = absurd a
first_leaf rs procedure arguments counted v (p ∷ ps) (m ∷ ms) place k a e f =
    let same : p ≡ place = cc (e) in
    let there : Some m ≡ Some k = sym a.0.there ∙ ap (slice_get rs) same ∙ f in
    let leaf : m ≡ k = cc (there) in
    (ap (λ (r : PlainRecord). r.procedure) (sym leaf) ∙ a.0.procedure_is, ap (λ (r : PlainRecord). r.arguments) (sym leaf) ∙ a.0.arguments_are, omega arith)

pub batch_of_block : (program : PlainChecked) (tables : Tables) (depth : ℕ) (rs : List PlainRecord) (place counted most : ℕ) (keeps : Bool) (k : PlainRecord) (b : PlainBlock) → AreSingle rs → IsInStep tables rs
    → slice_get (map as_made rs) place ≡ Some k → BlockFits program.kinds rs b → Answers program depth place counted most keeps b
    → IsBatchFor keeps program tables depth rs k.procedure k.arguments counted most (length b.places) b.sum
batch_of_block program tables depth rs place counted most keeps k b single h there fits answers =
    let begun = first_leaf (map as_made rs) fits.procedure fits.arguments b.counted fits.first b.places fits.leaves place k fits.are_leaves answers.begins there in
    let same : k.arguments ≡ fits.arguments = begun.1 ∙ set_itself fits.arguments b.counted fits.first fits.first_is in
    let some : 0 < length b.places = begun.2 in
    let entered : every (has_revision program.revisions) (flat_map (λ r. r.entered) fits.leaves) ≡ true =
    sym (every_member (has_revision program.revisions) b.sum.entered (flat_map (λ r. r.entered) fits.leaves) fits.sum_is.sum_is.entered) ∙ answers.current in
    let deep : nat_le (depth + highest fits.leaves) (suc depth_limit) ≡ true = ap (λ (n : ℕ). nat_le (depth + n) (suc depth_limit)) (sym fits.sum_is.sum_is.height) ∙ answers.fits in
    let valid = valid_from program tables depth rs single h fits.procedure fits.arguments b.counted fits.first b.places fits.leaves fits.are_leaves fits.fresh entered deep in
    let batch : IsBatch program tables depth rs k.procedure k.arguments counted most (length b.places) (with_reads fits.sum_is.reads b.sum) = record {
      first = fits.first;
      first_is = ap (λ (xs : List ℤ). slice_get xs counted) same ∙ ap (slice_get fits.arguments) (sym answers.counts) ∙ fits.first_is;
      members = fits.leaves;
      count_is = as_many (map as_made rs) fits.procedure fits.arguments b.counted fits.first b.places fits.leaves fits.are_leaves;
      some = some;
      few = answers.few;
      valid =
          subst (λ (n : ℕ). AreValidFrom program tables depth rs k.procedure k.arguments n fits.first fits.leaves) answers.counts
          (subst (λ (xs : List ℤ). AreValidFrom program tables depth rs k.procedure xs b.counted fits.first fits.leaves) (sym same)
          (subst (λ (n : ℕ). AreValidFrom program tables depth rs n fits.arguments b.counted fits.first fits.leaves) (sym begun.0) valid));
      sum_is = fits.sum_is.sum_is;
    } in
    record { reads = fits.sum_is.reads; batch = batch; has = λ asked. fits.sum_is.has (answers.read asked) }

-- a record that is a batch has what was read
pub with_all : (keeps : Bool) (program : PlainChecked) (tables : Tables) (depth : ℕ) (rs : List PlainRecord) (procedure : ℕ) (arguments : List ℤ) (counted most count : ℕ) (sum : PlainRecord)
    → IsBatch program tables depth rs procedure arguments counted most count sum → IsBatchFor keeps program tables depth rs procedure arguments counted most count sum
with_all keeps program tables depth rs procedure arguments counted most count sum batch = record { reads = sum.reads; batch = batch; has = λ asked. refl }

-- ---- a record at a place is the one that is found

pub place_at_place : (rs : List PlainRecord) (p : ℕ) (k : PlainRecord) → map as_made rs ≡ rs → AreSingle rs → slice_get rs p ≡ Some k → position_or_len (is_of k.procedure k.arguments) rs ≡ p
unfolding IsDistinct
place_at_place [] p k s single e = absurd cc
place_at_place (r ∷ rs) zero k s single e =
    let there : r ≡ k = cc (e) in ap (λ b. cond (not b) (1 + position_or_len (is_of k.procedure k.arguments) rs) 0) (subst (λ (x : PlainRecord). is_of x.procedure x.arguments r ≡ true) there (of_itself r))
place_at_place (r ∷ rs) (suc p) k s single e =
    let tails : map as_made rs ≡ rs = cc (s) in
    let rest = place_at_place rs p k tails single.1 e in
    let other = other_instance r rs p k single.0 (subst (λ (xs : List PlainRecord). slice_get xs p ≡ Some k) (sym tails) e) in
    ap (λ b. cond (not b) (1 + position_or_len (is_of k.procedure k.arguments) rs) 0) other ∙ (let one : 1 + position_or_len (is_of k.procedure k.arguments) rs ≡ suc p = omega (arith, rest) in one)
