-- Which record is found, and whether it is valid.
use Rattle.std.proofs.Common.{◌≡◌, ℕ, zero, suc, ℤ, Bool, true, false, cond, List, [], ◌∷◌, length, map, Option, Some, None, refl, sym, ap, ◌∙◌, subst, get_or}
use Rattle.std.specs.Prelude.{slice_get, option_map}
use Rattle.std.proofs.lemmas.Option.{get_or_from_slice_get}
use Rattle.std.specs.List.{find, IsDistinct}
use Rattle.meaning.specs.Tables.{Tables}
use Rattle.meaning.specs.Tree.{Name}
use Rattle.record_theory.specs.Record.{PlainRecord, is_of, as_made}
use Rattle.record_theory.specs.Commits.{AreSingle}
use Rattle.record_theory.specs.InStep.{IsInStep}
use Rattle.record_theory.specs.Numbers.{is_counted, numbered_by, with_numbers}
use Rattle.record_theory.specs.Validity.{record_valid, only_valid, valid_at}
use Rattle.record_theory.proofs.InStep.{IsNumber, number_is, is_number, counted_at}
use Rattle.rerun_records.proofs.Leaves.{there_at}
use Rattle.rerun_records.proofs.WithNumbers.{number_at}
use Rattle.rerun_records.proofs.Wholes.{of_itself, other_instance}

-- of a procedure and arguments, whatever is counted of them
pub find_as_made : (procedure : ℕ) (arguments : List ℤ) (rs : List PlainRecord) → find (is_of procedure arguments) (map as_made rs) ≡ option_map as_made (find (is_of procedure arguments) rs)
find_as_made procedure arguments [] = refl
find_as_made procedure arguments (r ∷ rs) =
    elim (is_of procedure arguments r) as (λ b. cond b (Some (as_made r)) (find (is_of procedure arguments) (map as_made rs)) ≡ option_map as_made (cond b (Some r) (find (is_of procedure arguments) rs))) [
      | true ↦ refl
      | false ↦ find_as_made procedure arguments rs
    ]

-- the record at a place is the one of its procedure and arguments
pub found_there : (rs : List PlainRecord) (place : ℕ) (m : PlainRecord) → AreSingle rs → slice_get (map as_made rs) place ≡ Some m → option_map as_made (find (is_of m.procedure m.arguments) rs) ≡ Some m
unfolding IsDistinct
found_there [] place m single e = absurd cc
found_there (r ∷ rs) zero m single e =
    let there : as_made r ≡ m = cc (e) in
    let found : is_of m.procedure m.arguments r ≡ true = subst (λ (x : PlainRecord). is_of x.procedure x.arguments r ≡ true) there (of_itself r) in
    ap (λ b. option_map as_made (cond b (Some r) (find (is_of m.procedure m.arguments) rs))) found ∙ ap Some there
found_there (r ∷ rs) (suc place) m single e =
    ap (λ b. option_map as_made (cond b (Some r) (find (is_of m.procedure m.arguments) rs))) (other_instance r rs place m single.0 e)
    ∙ found_there rs place m single.1 e

-- ---- valid records

module _ (revisions : List (Name × ℕ)) (tables : Tables) (depth : ℕ) where
  valid_one : (o : Option PlainRecord) (m : PlainRecord) → option_map as_made o ≡ Some m → only_valid revisions tables depth o ≡ cond (record_valid revisions tables depth m) (Some m) None
  valid_one None m e = absurd cc
  valid_one (Some r) m e =
      let there : as_made r ≡ m = cc (e) in
      subst (λ (x : PlainRecord). cond (record_valid revisions tables depth r) (Some (as_made r)) None ≡ cond (record_valid revisions tables depth x) (Some x) None) there refl

  -- the record at a place is valid or not
  valid_there : (rs : List PlainRecord) (place : ℕ) (m : PlainRecord) → AreSingle rs → slice_get (map as_made rs) place ≡ Some m
      → valid_at revisions tables depth rs m.procedure m.arguments ≡ cond (record_valid revisions tables depth m) (Some m) None
  valid_there rs place m single e = valid_one (find (is_of m.procedure m.arguments) rs) m (found_there rs place m single e)

  -- the one that is asked for
  pub valid_so : (rs : List PlainRecord) (place : ℕ) (m : PlainRecord) (valid : Bool) → AreSingle rs → slice_get (map as_made rs) place ≡ Some m → valid ≡ record_valid revisions tables depth m
      → cond valid (Some m) None ≡ valid_at revisions tables depth rs m.procedure m.arguments
  valid_so rs place m valid single there e = ap (λ b. cond b (Some m) None) e ∙ sym (valid_there rs place m single there)

-- ---- a test of three parts

-- ---- numbers by their places

-- the number of the record at a place
pub record HasNumber (tables : Tables) (ns : List ℕ) (place : ℕ) (m : PlainRecord) : Type 0 where
  pub number : ℕ
  pub there : slice_get ns place ≡ Some number
  pub right : IsNumber tables m.reads number

pub number_there : (tables : Tables) (ns : List ℕ) (rs now : List PlainRecord) (place : ℕ) (m : PlainRecord) → with_numbers ns rs ≡ now → length ns ≡ length rs → IsInStep tables now
    → slice_get (map as_made now) place ≡ Some m → HasNumber tables ns place m
number_there tables ns rs now place m view long h there =
    let at = there_at now place m there in
    let r = at.0 in
    record {
      number = r.stale;
      there = number_at ns rs place r long (subst (λ (xs : List PlainRecord). slice_get xs place ≡ Some r) (sym view) at.1);
      right = subst (λ (x : PlainRecord). IsNumber tables x.reads r.stale) (sym at.2) (number_is tables r (counted_at tables now place r h at.1));
    }

-- a number that is found there is right
pub number_asked : (tables : Tables) (ns : List ℕ) (rs now : List PlainRecord) (place n : ℕ) (m : PlainRecord) → with_numbers ns rs ≡ now → length ns ≡ length rs → IsInStep tables now
    → slice_get (map as_made now) place ≡ Some m → n ≡ get_or ns place n → is_counted tables (numbered_by n m) ≡ true
number_asked tables ns rs now place n m view long h there is =
    let has = number_there tables ns rs now place m view long h there in
    let same : n ≡ has.number = is ∙ get_or_from_slice_get ns place has.number n has.there in
    is_number tables (numbered_by n m) (subst (IsNumber tables m.reads) (sym same) has.right)
