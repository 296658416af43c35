use Rattle.std.proofs.Common.{◌≡◌, ◌<◌, ℕ, sym, ap, ◌∙◌, subst, w64}
use Rattle.std.proofs.lemmas.Int.{to_z-of_z}
use Rattle.input_tables.specs.Rows.{numbers_of}
use Rattle.input_tables.proofs.Laid.{numbers_again, length_numbers, is_of-numbers}
use Rattle.input_tables.proofs.page.Page.is_at.Goals as goal
use Rattle.input_tables.proofs.page.Page.is_at.Goals.{After-stands_at}

-- the list of numbers is that of the rows
numbers_are : (c : After-stands_at) → c.deref.result.now ≡ numbers_of c.args.self.now
numbers_are c =
    c.deref.ensures.value ∙ sym (numbers_again c.self.inside.width c.self.inside.numbers.items c.self.inside.cells.items) ∙ ap numbers_of c.self.view_is

pub returns-clause-within : goal.returns-clause-within
returns-clause-within c = λ is.
    subst (λ (k : ℕ). c.args.place < k) (length_numbers 0 c.args.self.now) (rw (numbers_are c) at (c.stands_at.ensures.within is))

pub returns-clause-there : goal.returns-clause-there
returns-clause-there c = λ is.
    is_of-numbers c.args.number c.args.self.now c.args.place (rw (to_z-of_z w64 _ c.ranges.number, numbers_are c) at (c.stands_at.ensures.there is))
