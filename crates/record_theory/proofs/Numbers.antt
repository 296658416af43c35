-- What goes by name in the definitions, by the numbers of the names.
use Rattle.std.proofs.Common.{◌≡◌, ℕ, suc, ℤ, Bool, true, false, true≢false, cond, List, [], ◌∷◌, map, pos, Option, Some, None, refl, sym, ap, ◌∙◌}
use Rattle.std.specs.Prelude.{◌&&◌, nat_eq, slice_get}
use Rattle.std.specs.Cmp.Lexicographic.{pointwise}
use Rattle.std.specs.Ordering.{int_eq}
use Rattle.std.specs.Str.{bytes_eq}
use Rattle.std.proofs.lemmas.Bool.Decides.{Decides-eqb}
use Rattle.std.proofs.lemmas.Cmp.{int_eq_equiv}
use Rattle.std.proofs.lemmas.Slice.Eq.{bytes_eq-Decides}
use Rattle.meaning.specs.Tree.{Name, Proc, reducer, procedure, Tree}
use Rattle.meaning.specs.Outcome.{Reading, CellHeld, HasHeld, LimitHeld, SumHeld}
use Rattle.meaning.specs.Records.{agrees, is_current, same_number, same_bool, same_args}
use Rattle.meaning.specs.Statements.{procedure_of}
use Rattle.meaning.specs.Tables.{Tables, index_of, is_there, row_of, above_all}
use Rattle.linked_program.specs.Checked.{names_in}
use Rattle.linked_program.specs.Linked.{procedure_number}
use Rattle.linked_program.specs.Procedures.{procedures}
use Rattle.linked_program.specs.TableNames.{columned_of}
use Rattle.linked_program.proofs.Numbers.{procedure_is}
use Rattle.evaluation.specs.Numbers.{numbered}
use Rattle.evaluation.proofs.Meant.{rows_found, cell_found, sum_found}
use Rattle.record_theory.specs.Validity.{note_agrees, has_revision, is_revision}
use Rattle.record_theory.specs.Named.{numbered_entry, IsInOrder}

-- ---- names of procedures

called_so : (t : Tree) (f : Name) (p : Proc) → procedure_of t f ≡ Some p → p.called ≡ f
called_so [] f p e = absurd cc
called_so (reducer r ∷ t) f p e = called_so t f p e
called_so (procedure q ∷ t) f p e =
    elim (bytes_eq q.called f) as (λ b. bytes_eq q.called f ≡ b → cond b (Some q) (procedure_of t f) ≡ Some p → p.called ≡ f) [
      | true ↦ λ s h. (let same : q ≡ p = cc (h) in ap (λ (x : Proc). x.called) (sym same) ∙ (bytes_eq-Decides q.called f).0 s)
      | false ↦ λ s h. called_so t f p h
    ] refl e

one_name : (o : Option Proc) (f g : Name) → ((p : Proc) → o ≡ Some p → p.called ≡ f) → ((p : Proc) → o ≡ Some p → p.called ≡ g) → is_there o ≡ true → g ≡ f
one_name None f g a b h = absurd (true≢false (sym h))
one_name (Some p) f g a b h = sym (b p refl) ∙ a p refl

-- the number of a procedure that there is, is that of no other name
name_of_number : (t : Tree) (f g : Name) → is_there (procedure_of t g) ≡ true → procedure_number (procedures t) f ≡ procedure_number (procedures t) g → g ≡ f
name_of_number t f g known e =
    let same : procedure_of t f ≡ procedure_of t g = sym (procedure_is t f) ∙ ap (slice_get (procedures t)) e ∙ procedure_is t g in
    one_name (procedure_of t g) f g (λ p h. called_so t f p (same ∙ h)) (λ p h. called_so t g p h) known

both_decide : (a b : Bool) → (a ≡ true → b ≡ true) → (b ≡ true → a ≡ true) → a ≡ b
both_decide true b f g = sym (f refl)
both_decide false true f g = g refl
both_decide false false f g = refl

pub same_name : (t : Tree) (f g : Name) → is_there (procedure_of t g) ≡ true → bytes_eq g f ≡ nat_eq (procedure_number (procedures t) f) (procedure_number (procedures t) g)
same_name t f g known =
    both_decide (bytes_eq g f) (nat_eq (procedure_number (procedures t) f) (procedure_number (procedures t) g))
    (λ h. (Decides-eqb (procedure_number (procedures t) f) (procedure_number (procedures t) g)).1 (ap (procedure_number (procedures t)) (sym ((bytes_eq-Decides g f).0 h))))
    (λ h. (bytes_eq-Decides g f).1 (name_of_number t f g known ((Decides-eqb (procedure_number (procedures t) f) (procedure_number (procedures t) g)).0 h)))

number_is_place : (f : Name) (ps : List Proc) → procedure_number ps f ≡ index_of (map (λ p. p.called) ps) f
number_is_place f [] = refl
number_is_place f (p ∷ ps) = ap (λ (n : ℕ). cond (bytes_eq p.called f) 0 (suc n)) (number_is_place f ps)

current_at : (revisions : List (Name × ℕ)) (f : Name) (n : ℕ) → is_current revisions (f, n) ≡ has_revision revisions (index_of (names_in revisions) f, n)
current_at [] f n = refl
current_at (e ∷ es) f n =
    elim (bytes_eq e.0 f) as (λ b. cond b (nat_eq e.1 n) (is_current es (f, n)) ≡ is_revision (slice_get (e ∷ es) (cond b 0 (suc (index_of (names_in es) f)))) n) [
      | true ↦ refl
      | false ↦ current_at es f n
    ]

pub current_is : (t : Tree) (revisions : List (Name × ℕ)) → IsInOrder t revisions → (e : Name × ℕ) → is_current revisions e ≡ has_revision revisions (numbered_entry t e)
current_is t revisions listed e =
    current_at revisions e.0 e.1
    ∙ ap (λ (n : ℕ). has_revision revisions (n, e.1)) (ap (λ (ns : List Name). index_of ns e.0) listed ∙ sym (number_is_place e.0 (procedures t)))

-- ---- readings

pub reading_is : (tables : Tables) (r : Reading) → agrees tables r ≡ note_agrees tables (numbered (columned_of tables) r)
reading_is tables (CellHeld t row c v) = ap (λ (o : Option ℤ). same_number o v) (sym (cell_found tables t row c))
reading_is tables (HasHeld t row there) = ap (λ (rows : List (ℤ × List ℤ)). same_bool (is_there (row_of rows row)) there) (sym (rows_found tables t))
reading_is tables (LimitHeld t v) = ap (λ (rows : List (ℤ × List ℤ)). int_eq (above_all (pos 0) rows) v) (sym (rows_found tables t))
reading_is tables (SumHeld t c v) = ap (λ (n : ℤ). int_eq n v) (sym (sum_found tables t c))

-- ---- arguments

pub same_arguments : (xs ys : List ℤ) → same_args xs ys ≡ pointwise int_eq ys xs
same_arguments [] [] = refl
same_arguments [] (y ∷ ys) = refl
same_arguments (x ∷ xs) [] = refl
same_arguments (x ∷ xs) (y ∷ ys) = ap (λ b. b && same_args xs ys) (int_eq_equiv.symm x y) ∙ ap (λ b. int_eq y x && b) (same_arguments xs ys)
