-- What is told of procedures to the records that name them: as records are put in, and as procedures are defined.
use Rattle.std.proofs.Common.{◌≡◌, ℕ, ◌≤◌, ◌<◌, true, List, [], ◌∷◌, ◌++◌, length, map, take, min, Option, Some, None, inl, Result, Ok, Err, OnOk, OnErr, refl, sym, ap, ◌∙◌, subst, arith}
use Rattle.std.specs.Prelude.{nat_lt, slice_get}
use Rattle.std.proofs.lemmas.List.{take-map, length-take, length-map, take-append-le}
use Rattle.std.proofs.lemmas.Bool.{lt-ltb}
use Rattle.std.proofs.lemmas.Option.{slice_get_within}
use Rattle.meaning.specs.Tree.{Name, Proc}
use Rattle.meaning.specs.TreeView.{tree}
use Rattle.meaning.specs.Every.{every}
use Rattle.meaning.specs.Statements.{procedure_of}
use Rattle.meaning.specs.Tables.{Tables, is_there}
use Rattle.meaning.specs.Records.{Kept, agrees, is_current}
use Rattle.trail_theory.specs.Order.{Every}
use Rattle.linked_program.specs.Checked.{PlainChecked, IsChecked, names_in, revised_of}
use Rattle.linked_program.specs.Procedures.{procedures}
use Rattle.linked_program.proofs.Numbers.{procedure_is}
use Rattle.input_tables.specs.Edited.{Edited}
use Rattle.record_theory.specs.Record.{PlainRecord}
use Rattle.record_theory.specs.Named.{IsKept, AreKept, number_of, numbered_entry}
use Rattle.record_theory.specs.Validity.{has_revision}
use Rattle.record_theory.proofs.Members.{both, right_is, every_member, every_mapped}
use Rattle.record_theory.proofs.Numbers.{current_is}
use Rattle.checked_defines.specs.Standings.{called_in, KeepsPlaces}
use Rattle.record_index.specs.Indexed.{PlainIndexed, IsIndexed, nothing_indexed, IsLonger, EnteredNow, are_current}
use Rattle.kept_session.specs.Sessions.{IsRightNow, AreNewFor}

-- ---- procedures that are defined anew

first_stay : (n : ℕ) (xs ys more : List Name) → n ≤ length xs → ys ≡ xs ++ more → take n xs ≡ take n ys
first_stay n xs ys more l e = sym (take-append-le n xs more l) ∙ ap (take n) (sym e)

is_shorter : (told revisions : List (Name × ℕ)) → told ≡ take (length told) revisions → length told ≤ length (names_in revisions)
is_shorter told revisions first =
    let few : length told ≡ min (length told) (length revisions) = ap length first ∙ length-take (length told) revisions in
    let all : length (names_in revisions) ≡ length revisions = length-map revisions (λ e. e.0) in
    omega (arith, few, all)

-- what was told of the procedures of a program is told of the first of one where some were defined
pub told_longer : (old new : PlainChecked) (told : List (Name × ℕ)) → names_in old.revisions ≡ called_in (tree old.program) → names_in new.revisions ≡ called_in (tree new.program)
    → KeepsPlaces (tree old.program) (tree new.program) → told ≡ take (length told) old.revisions → IsLonger told new.revisions
told_longer old new told each each_new (more, e) first =
    ap names_in first
    ∙ sym (take-map (λ e. e.0) (length told) old.revisions)
    ∙ first_stay (length told) (names_in old.revisions) (names_in new.revisions) more (is_shorter told old.revisions first)
    (each_new ∙ e ∙ ap (λ (xs : List Name). xs ++ more) (sym each))

-- the records are those that there were
pub told_records : (x y : PlainIndexed) → y ≡ record x { told = y.told } → y.records ≡ x.records
told_records x y same = ap (λ (z : PlainIndexed). z.records) same

-- ---- records that are new

there_within : (ps : List Proc) (n : ℕ) (o : Option Proc) → slice_get ps n ≡ o → is_there o ≡ true → n < length ps
there_within ps n None at there = absurd cc
there_within ps n (Some p) at there = slice_get_within ps n p at

module _ (program : PlainChecked) (is : IsChecked program) (tables : Edited) where
  number_within : (f : Name) → is_there (procedure_of (tree program.program) f) ≡ true → number_of (tree program.program) f < length program.revisions
  number_within f known =
      let t = tree program.program in
      let within : number_of t f < length (procedures t) = there_within (procedures t) (number_of t f) (procedure_of t f) (procedure_is t f) known in
      let as_many : length program.revisions ≡ length (procedures t) = sym (length-map program.revisions (λ e. e.0)) ∙ ap length is.each ∙ length-map (procedures t) (λ p. p.called) in
      subst (λ (n : ℕ). number_of t f < n) (sym as_many) within

  is_current_now : (k : Kept) (r : PlainRecord) → IsKept program k r → IsRightNow (revised_of program) tables.tables k → are_current program.revisions r ≡ true
  is_current_now k r stands right =
      let t = tree program.program in
      let current : every (is_current program.revisions) k.revisions ≡ true = right_is (every (agrees tables.tables) k.read) (every (is_current program.revisions) k.revisions) right.now in
      let entered : every (has_revision program.revisions) r.entered ≡ true =
      every_member (has_revision program.revisions) r.entered (map (numbered_entry t) k.revisions) stands.entered
      ∙ sym (every_mapped (has_revision program.revisions) (is_current program.revisions) (numbered_entry t) k.revisions (current_is t program.revisions is.each))
      ∙ current in
      let within : r.procedure < length program.revisions = subst (λ (n : ℕ). n < length program.revisions) (sym stands.procedure) (number_within k.of stands.known) in
      both (nat_lt r.procedure (length program.revisions)) (every (has_revision program.revisions) r.entered) (lt-ltb r.procedure (length program.revisions) within) entered

  are_current_now : (ks : List Kept) (rs : List PlainRecord) → AreKept program ks rs → Every (IsRightNow (revised_of program) tables.tables) ks → EnteredNow program.revisions rs
  are_current_now [] [] stand right = refl
  are_current_now [] (r ∷ rs) stand right = absurd stand
  are_current_now (k ∷ ks) [] stand right = absurd stand
  are_current_now (k ∷ ks) (r ∷ rs) stand right =
      both (are_current program.revisions r) (every (are_current program.revisions) rs) (is_current_now k r stand.0 right.0) (are_current_now ks rs stand.1 right.1)

  -- the procedures of new records are those of the program, with the revision numbers that they have now
  pub made_entered_now : (made : List PlainRecord) → AreNewFor program tables made → EnteredNow program.revisions made
  made_entered_now made news = are_current_now news.kept made news.stand news.right

-- ---- what is counted and told

-- of no records it is right
pub nothing_is_indexed : (revisions : List (Name × ℕ)) (tables : Tables) (x : PlainIndexed) → x ≡ nothing_indexed → IsIndexed revisions tables x
nothing_is_indexed revisions tables x none =
    subst (IsIndexed revisions tables) (sym none) (record { in_step = refl; told = record { first = refl; within = refl }; room = inl refl })

-- whether memory was refused or not
pub stay_indexed : {E : Type 0} (given : Result Unit E) (revisions : List (Name × ℕ)) (tables : Tables) (old new : PlainIndexed) → OnOk given (IsIndexed revisions tables new) → OnErr given (new ≡ old)
    → IsIndexed revisions tables old → IsIndexed revisions tables new
stay_indexed (Ok u) revisions tables old new right same is = right
stay_indexed (Err e) revisions tables old new right same is = subst (IsIndexed revisions tables) (sym same) is

pub unchanged_if_refused : {E : Type 0} (given : Result Unit E) (old new : PlainIndexed) → OnErr given (new ≡ old) → OnErr given (new.records ≡ old.records)
unchanged_if_refused (Ok u) old new same = tt
unchanged_if_refused (Err e) old new same = ap (λ (x : PlainIndexed). x.records) same
