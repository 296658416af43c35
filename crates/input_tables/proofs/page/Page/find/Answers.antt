use Rattle.std.proofs.Common.{◌≡◌, sym, subst, w64, Result, Ok, Err, IfOk, IfErr, ◌∙◌, ap, ◌<◌, ◌≤◌, ℕ}
use Rattle.std.proofs.lemmas.Int.{to_z-of_z}
use Rattle.input_tables.specs.Pages.{AreRising}
use Rattle.input_tables.specs.Rows.{numbers_of}
use Rattle.input_tables.proofs.Laid.{numbers_again, rising_numbers, lower_count-numbers, length_numbers, is_of-numbers, absent-numbers}
use Rattle.input_tables.proofs.page.Page.find.Goals as goal
use Rattle.input_tables.proofs.page.Page.find.Goals.{After-find}

-- what is said of what was found
if_ok : {A B : Type 0} {P Q : A → Type 0} (r : Result A B) → ((a : A) → P a → Q a) → IfOk r P → IfOk r Q
if_ok (Ok a) f p = f a p
if_ok (Err b) f p = tt

if_err : {A B : Type 0} {P Q : B → Type 0} (r : Result A B) → ((b : B) → P b → Q b) → IfErr r P → IfErr r Q
if_err (Ok a) f p = tt
if_err (Err b) f p = f b p

-- the list of numbers is that of the rows
numbers_are : (c : After-find) → c.deref.result.now ≡ numbers_of c.args.self.now
numbers_are c =
    c.deref.ensures.value ∙ sym (numbers_again c.self.inside.width c.self.inside.numbers.items c.self.inside.cells.items) ∙ ap numbers_of c.self.view_is

pub find-requires : goal.find-requires
find-requires c =
    let numbers = numbers_again c.self.inside.width c.self.inside.numbers.items c.self.inside.cells.items in
    rw c.deref.ensures.value (subst AreRising (sym (ap numbers_of c.self.view_is) ∙ numbers) (rising_numbers c.args.self.now c.requires))

pub returns-clause-place : goal.returns-clause-place
returns-clause-place c =
    let found = rw (to_z-of_z w64 _ c.ranges.number, numbers_are c) at c.find.ensures.place in
    if_ok c.find.result (λ place is. is ∙ lower_count-numbers c.args.number c.args.self.now) found

pub returns-clause-within : goal.returns-clause-within
returns-clause-within c =
    let found = rw (numbers_are c) at c.find.ensures.within in
    if_ok c.find.result (λ (place : ℕ) is. subst (λ k. place < k) (length_numbers 0 c.args.self.now) is) found

pub returns-clause-there : goal.returns-clause-there
returns-clause-there c =
    let found = rw (to_z-of_z w64 _ c.ranges.number, numbers_are c) at c.find.ensures.there in
    if_ok c.find.result (λ place is. is_of-numbers c.args.number c.args.self.now place is) found

pub returns-clause-new_place : goal.returns-clause-new_place
returns-clause-new_place c =
    let found = rw (to_z-of_z w64 _ c.ranges.number, numbers_are c) at c.find.ensures.new_place in
    if_err c.find.result (λ place is. is ∙ lower_count-numbers c.args.number c.args.self.now) found

pub returns-clause-upto_end : goal.returns-clause-upto_end
returns-clause-upto_end c =
    let found = rw (numbers_are c) at c.find.ensures.upto_end in
    if_err c.find.result (λ (place : ℕ) is. subst (λ k. place ≤ k) (length_numbers 0 c.args.self.now) is) found

pub returns-clause-absent : goal.returns-clause-absent
returns-clause-absent c =
    let found = rw (to_z-of_z w64 _ c.ranges.number, numbers_are c) at c.find.ensures.absent in
    if_err c.find.result (λ place is. absent-numbers c.args.number c.args.self.now place is) found
