-- Procedures that stand where they stood have the numbers that they had.
use Rattle.std.proofs.Common.{◌≡◌, ℕ, suc, true, false, nat_eq, cond, ◌||◌, List, [], ◌∷◌, ◌++◌, Some, map, refl, sym, ap, ◌∙◌}
use Rattle.std.specs.Str.{bytes_eq}
use Rattle.meaning.specs.Tree.{Name, Proc, reducer, procedure, Tree}
use Rattle.meaning.specs.Statements.{procedure_of}
use Rattle.meaning.specs.Tables.{is_there}
use Rattle.linked_program.specs.TableNames.{has_name}
use Rattle.linked_program.specs.Procedures.{procedures}
use Rattle.linked_program.specs.Checked.{PlainChecked, IsChecked, names_in}
use Rattle.linked_program.specs.Linked.{procedure_number}
use Rattle.meaning.specs.Records.{is_current}
use Rattle.meaning.specs.TreeView.{tree}
use Rattle.checked_defines.specs.Standings.{called_in, KeepsPlaces, KeepsNumbers, CurrentAreThere}

name_number : List Name → Name → ℕ
name_number [] f = 0
name_number (x ∷ xs) f = cond (bytes_eq x f) 0 (suc (name_number xs f))

number_by_name : (ps : List Proc) (f : Name) → procedure_number ps f ≡ name_number (map (λ p. p.called) ps) f
unfolding name_number
number_by_name [] f = refl
number_by_name (p ∷ ps) f = ap (λ (n : ℕ). cond (bytes_eq p.called f) 0 (suc n)) (number_by_name ps f)

there_by_name : (t : Tree) (f : Name) → is_there (procedure_of t f) ≡ has_name (called_in t) f
there_by_name [] f = refl
there_by_name (reducer r ∷ t) f = there_by_name t f
there_by_name (procedure p ∷ t) f =
    elim (bytes_eq p.called f) as (λ b. is_there (cond b (Some p) (procedure_of t f)) ≡ b || has_name (called_in t) f) [
      | true ↦ refl
      | false ↦ there_by_name t f
    ]

still_there : (xs more : List Name) (f : Name) → has_name xs f ≡ true → has_name (xs ++ more) f ≡ true
still_there [] more f e = absurd cc
still_there (x ∷ xs) more f e =
    elim (bytes_eq x f) as (λ b. b || has_name xs f ≡ true → b || has_name (xs ++ more) f ≡ true) [
      | true ↦ λ h. refl
      | false ↦ λ h. still_there xs more f h
    ] e

same_number : (xs more : List Name) (f : Name) → has_name xs f ≡ true → name_number (xs ++ more) f ≡ name_number xs f
unfolding name_number
same_number [] more f e = absurd cc
same_number (x ∷ xs) more f e =
    elim (bytes_eq x f) as (λ b. b || has_name xs f ≡ true → cond b 0 (suc (name_number (xs ++ more) f)) ≡ cond b 0 (suc (name_number xs f))) [
      | true ↦ λ h. refl
      | false ↦ λ h. ap (λ (n : ℕ). suc n) (same_number xs more f h)
    ] e

pub keeps_numbers : (old new : Tree) → KeepsPlaces old new → KeepsNumbers old new
keeps_numbers old new (more, e) = λ f there.
    let named : has_name (called_in old) f ≡ true = sym (there_by_name old f) ∙ there in
    let here : is_there (procedure_of new f) ≡ true = there_by_name new f ∙ ap (λ (xs : List Name). has_name xs f) e ∙ still_there (called_in old) more f named in
    let number = number_by_name (procedures new) f ∙ ap (λ (xs : List Name). name_number xs f) e ∙ same_number (called_in old) more f named ∙ sym (number_by_name (procedures old) f) in
    (here, number)

-- ---- revision numbers that are current

current_named : (numbers : List (Name × ℕ)) (f : Name) (n : ℕ) → is_current numbers (f, n) ≡ true → has_name (names_in numbers) f ≡ true
current_named [] f n e = absurd cc
current_named ((g, m) ∷ numbers) f n e =
    elim (bytes_eq g f) as (λ b. cond b (nat_eq m n) (is_current numbers (f, n)) ≡ true → b || has_name (names_in numbers) f ≡ true) [
      | true ↦ λ h. refl
      | false ↦ λ h. current_named numbers f n h
    ] e

pub current_are_there : (checked : PlainChecked) → IsChecked checked → CurrentAreThere checked
current_are_there checked is = λ f n e.
    there_by_name (tree checked.program) f ∙ ap (λ (xs : List Name). has_name xs f) (sym is.each) ∙ current_named checked.revisions f n e
