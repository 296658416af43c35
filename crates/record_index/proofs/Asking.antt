-- What a number tells of its record, and by which number a record is found.
use Rattle.std.proofs.Common.{◌≡◌, inl, inr, ℕ, zero, suc, ◌+◌, ◌<◌, ◌≤◌, ℤ, Bool, true, false, cond, List, [], ◌∷◌, map, length, take, Some, None, refl, sym, ap, ap₂, ◌∙◌, subst, arith}
use Rattle.std.specs.Prelude.{◌&&◌, not, nat_eq, nat_lt, slice_get, option_map}
use Rattle.std.specs.Cmp.Lexicographic.{pointwise}
use Rattle.std.specs.List.{find}
use Rattle.std.specs.Ordering.{int_eq}
use Rattle.std.specs.Str.{bytes_eq}
use Rattle.std.proofs.lemmas.Bool.{ltb-true}
use Rattle.std.proofs.lemmas.Bool.Decides.{Decides-eqb}
use Rattle.meaning.specs.Every.{every}
use Rattle.meaning.specs.Tables.{Tables, index_of}
use Rattle.meaning.specs.Tree.{Name, Proc}
use Rattle.meaning.specs.TreeView.{tree}
use Rattle.linked_program.specs.Checked.{PlainChecked, names_in}
use Rattle.linked_program.specs.Linked.{procedure_number}
use Rattle.linked_program.specs.Procedures.{procedures}
use Rattle.record_theory.specs.Record.{PlainRecord, is_of, as_made}
use Rattle.record_theory.specs.Commits.{AreSingle}
use Rattle.record_theory.specs.Counts.{is_among, lapsed_count}
use Rattle.record_theory.specs.Named.{number_of, IsInOrder}
use Rattle.record_numbers.specs.Stale.{most_number}
use Rattle.record_theory.specs.Validity.{has_revision, is_revision}
use Rattle.rerun_records.proofs.Finding.{find_as_made, found_there}
use Rattle.record_theory.proofs.InStep.{IsNumber, number_is, counted_at}
use Rattle.rerun_records.proofs.Leaves.{there_at}
use Rattle.record_theory.proofs.Members.{left_is, right_is}
use Rattle.record_index.specs.Counts.{same_revision, outdated_count}
use Rattle.record_index.specs.Indexed.{PlainIndexed, is_within, IsIndexed, IsStale, record_for}

-- ---- numbers of names

number_is_place : (ps : List Proc) (f : Name) → procedure_number ps f ≡ index_of (map (λ p. p.called) ps) f
number_is_place [] f = refl
number_is_place (p ∷ ps) f = ap (λ (n : ℕ). cond (bytes_eq p.called f) 0 (suc n)) (number_is_place ps f)

number_in_order : (program : PlainChecked) (f : Name) → IsInOrder (tree program.program) program.revisions → number_of (tree program.program) f ≡ index_of (names_in program.revisions) f
number_in_order program f listed = number_is_place (procedures (tree program.program)) f ∙ ap (λ (ns : List Name). index_of ns f) (sym listed)

-- a name that was told has the same number in the program
index_told : (revisions told : List (Name × ℕ)) (f : Name) → told ≡ take (length told) revisions → index_of (names_in told) f < length told → index_of (names_in revisions) f ≡ index_of (names_in told) f
index_told revisions [] f e l = absurd (omega (arith, l))
index_told [] (t ∷ told) f e l = absurd cc
index_told (r ∷ revisions) (t ∷ told) f e l =
    let head : t ≡ r = cc (e) in
    let tail : told ≡ take (length told) revisions = cc (e) in
    subst (λ (x : Name × ℕ). index_of (x.0 ∷ names_in revisions) f ≡ index_of (t.0 ∷ names_in told) f) head
    (elim (bytes_eq t.0 f) as (λ b. cond b 0 (suc (index_of (names_in told) f)) < suc (length told) → cond b 0 (suc (index_of (names_in revisions) f)) ≡ cond b 0 (suc (index_of (names_in told) f))) [
      | true ↦ λ _. refl
      | false ↦ λ m. ap suc (index_told revisions told f tail (omega (arith, m)))
    ] l)

-- one that wasn't has a later one
index_untold : (revisions told : List (Name × ℕ)) (f : Name) → told ≡ take (length told) revisions → index_of (names_in told) f ≡ length told → length told ≤ index_of (names_in revisions) f
index_untold revisions [] f e l = omega arith
index_untold [] (t ∷ told) f e l = absurd cc
index_untold (r ∷ revisions) (t ∷ told) f e l =
    let head : t ≡ r = cc (e) in
    let tail : told ≡ take (length told) revisions = cc (e) in
    subst (λ (x : Name × ℕ). suc (length told) ≤ index_of (x.0 ∷ names_in revisions) f) head
    (elim (bytes_eq t.0 f) as (λ b. cond b 0 (suc (index_of (names_in told) f)) ≡ suc (length told) → suc (length told) ≤ cond b 0 (suc (index_of (names_in revisions) f))) [
      | true ↦ λ m. absurd (omega (arith, m))
      | false ↦ λ m. (let later = index_untold revisions told f tail (omega (arith, m)) in omega (arith, later))
    ] l)

pub number_told : (program : PlainChecked) (told : List (Name × ℕ)) (f : Name) (n : ℕ) → IsInOrder (tree program.program) program.revisions → told ≡ take (length told) program.revisions → n < length told
    → n ≡ index_of (names_in told) f → n ≡ number_of (tree program.program) f
number_told program told f n listed e l i =
    i ∙ sym (index_told program.revisions told f e (subst (λ (k : ℕ). k < length told) i l)) ∙ sym (number_in_order program f listed)

-- ---- records of the procedures that were told

-- no record names a later procedure
none_later : (k n : ℕ) (arguments : List ℤ) (rs : List PlainRecord) → k ≤ n → every (is_within k) rs ≡ true → find (is_of n arguments) rs ≡ None
none_later k n arguments [] l e = refl
none_later k n arguments (r ∷ rs) l e =
    let low = ltb-true r.procedure k (left_is (nat_lt r.procedure k) (every (λ x. nat_lt x.0 k) r.entered) (left_is (is_within k r) (every (is_within k) rs) e)) in
    let others = none_later k n arguments rs l (right_is (is_within k r) (every (is_within k) rs) e) in
    elim (nat_eq n r.procedure) as (λ b. nat_eq n r.procedure ≡ b → cond (b && pointwise int_eq arguments r.arguments) (Some r) (find (is_of n arguments) rs) ≡ None) [
      | true ↦ λ t. (let same : n ≡ r.procedure = (Decides-eqb n r.procedure).0 t in absurd (omega (arith, low, l, same)))
      | false ↦ λ _. others
    ] refl

passes_at : (p : PlainRecord → Bool) (rs : List PlainRecord) (place : ℕ) (r : PlainRecord) → every p rs ≡ true → slice_get rs place ≡ Some r → p r ≡ true
passes_at p [] place r e f = absurd cc
passes_at p (x ∷ xs) zero r e f = let same : x ≡ r = cc (f) in subst (λ y. p y ≡ true) same (left_is (p x) (every p xs) e)
passes_at p (x ∷ xs) (suc place) r e f = passes_at p xs place r (right_is (p x) (every p xs) e) f

same_revision_at : (revisions told : List (Name × ℕ)) (i : ℕ) → told ≡ take (length told) revisions → i < length told → slice_get told i ≡ slice_get revisions i
same_revision_at revisions [] i e l = absurd (omega (arith, l))
same_revision_at [] (t ∷ told) i e l = absurd cc
same_revision_at (r ∷ revisions) (t ∷ told) zero e l = let head : t ≡ r = cc (e) in ap Some head
same_revision_at (r ∷ revisions) (t ∷ told) (suc i) e l = let tail : told ≡ take (length told) revisions = cc (e) in same_revision_at revisions told i tail (omega (arith, l))

-- by what was told as many revisions are outdated as by the program's
outdated_told : (revisions told : List (Name × ℕ)) (entered : List (ℕ × ℕ)) → told ≡ take (length told) revisions → every (λ x. nat_lt x.0 (length told)) entered ≡ true
    → outdated_count told entered ≡ outdated_count revisions entered
outdated_told revisions told [] e w = refl
outdated_told revisions told (x ∷ xs) e w =
    let within = ltb-true x.0 (length told) (left_is (nat_lt x.0 (length told)) (every (λ y. nat_lt y.0 (length told)) xs) w) in
    let same : has_revision told x ≡ has_revision revisions x = ap (λ o. is_revision o x.1) (same_revision_at revisions told x.0 e within) in
    let others = outdated_told revisions told xs e (right_is (nat_lt x.0 (length told)) (every (λ y. nat_lt y.0 (length told)) xs) w) in
    ap₂ (λ (b : Bool) (k : ℕ). cond (not b && not (is_among same_revision xs x)) (suc k) k) same others

-- ---- what is stale

module _ (program : PlainChecked) (tables : Tables) (x : PlainIndexed) (f : Name) (arguments : List ℤ) (indexed : IsIndexed program.revisions tables x) (listed : IsInOrder (tree program.program) program.revisions) where
  -- of a record that is there
  pub stale_there : (n place : ℕ) (m : PlainRecord) (told : ℕ) → AreSingle x.records → n < length x.told → n ≡ index_of (names_in x.told) f → slice_get (map as_made x.records) place ≡ Some m → m.procedure ≡ n → m.arguments ≡ arguments
      → ((r : PlainRecord) → slice_get x.records place ≡ Some r → told ≡ r.stale + outdated_count x.told m.entered) → IsStale program.revisions tables (record_for program (map as_made x.records) (f, arguments)) (Some told)
  stale_there n place m told single l i there procedure_is arguments_are counted =
      let numbered : m.procedure ≡ number_of (tree program.program) f = procedure_is ∙ number_told program x.told f n listed indexed.told.first l i in
      let found : record_for program (map as_made x.records) (f, arguments) ≡ Some m =
      ap (λ (k : ℕ). find (is_of k arguments) (map as_made x.records)) (sym numbered) ∙ ap (λ (xs : List ℤ). find (is_of m.procedure xs) (map as_made x.records)) (sym arguments_are)
      ∙ find_as_made m.procedure m.arguments x.records ∙ found_there x.records place m single there in
      let at = there_at x.records place m there in
      let within = right_is (nat_lt m.procedure (length x.told)) (every (λ e. nat_lt e.0 (length x.told)) m.entered) (passes_at (is_within (length x.told)) (map as_made x.records) place m indexed.told.within there) in
      let outdated = outdated_told program.revisions x.told m.entered indexed.told.first within in
      let is = subst (λ (r : PlainRecord). IsNumber tables r.reads at.0.stale) (sym at.2) (number_is tables at.0 (counted_at tables x.records place at.0 indexed.in_step at.1)) in
      rw found (refl, λ few. ap Some (counted at.0 at.1 ∙ ap₂ (λ (a b : ℕ). a + b) (right_number at.0.stale is few) outdated))
    where
      right_number : (k : ℕ) → IsNumber tables m.reads k → length m.reads < most_number → k ≡ lapsed_count tables m.reads
      right_number k (inl e) few = e
      right_number k (inr h) few = let many = h.1 in absurd (omega (arith, many, few))

  -- no record is of a procedure and arguments
  pub stale_none : (n : ℕ) → n < length x.told → n ≡ index_of (names_in x.told) f → find (is_of n arguments) x.records ≡ None → IsStale program.revisions tables (record_for program (map as_made x.records) (f, arguments)) None
  stale_none n l i none =
      let found : record_for program (map as_made x.records) (f, arguments) ≡ None =
      ap (λ (k : ℕ). find (is_of k arguments) (map as_made x.records)) (sym (number_told program x.told f n listed indexed.told.first l i)) ∙ find_as_made n arguments x.records ∙ ap (option_map as_made) none in
      rw found refl

  -- no procedure of the name was told
  pub stale_untold : index_of (names_in x.told) f ≡ length x.told → IsStale program.revisions tables (record_for program (map as_made x.records) (f, arguments)) None
  stale_untold i =
      let later = index_untold program.revisions x.told f indexed.told.first i in
      let found : record_for program (map as_made x.records) (f, arguments) ≡ None =
      ap (λ (k : ℕ). find (is_of k arguments) (map as_made x.records)) (number_in_order program f listed) ∙ none_later (length x.told) (index_of (names_in program.revisions) f) arguments (map as_made x.records) later indexed.told.within in
      rw found refl
