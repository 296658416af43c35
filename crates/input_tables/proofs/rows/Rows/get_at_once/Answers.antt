use Rattle.std.proofs.Common.{◌≡◌, Option, Some, None, IfSome, refl, w64}
use Rattle.std.proofs.lemmas.Int.{to_z-of_z}
use Rattle.std.proofs.lemmas.Option.{slice_get_read}
use Rattle.std.specs.Prelude.{slice_get}
use Rattle.input_tables.proofs.Guesses.{row_of_page, page_rises}
use Rattle.input_tables.proofs.rows.Rows.get_at_once.Goals as goal

-- what is said of what was found
if_some : {A : Type 0} {P Q : A → Type 0} (o : Option A) → ((a : A) → P a → Q a) → IfSome o P → IfSome o Q
if_some (Some a) f p = f a p
if_some None f p = tt

pub get_at-requires : goal.get_at-requires
get_at-requires c =
    let ps = c.self.inside.pages.items in
    let i = c.place_of_page.result in
    let q = c.in-Some.page.now in
    let within = rw c.deref.ensures.value at c.in-Some.ensures.lookup.3.0 in
    let read = rw c.deref.ensures.value at c.in-Some.ensures.lookup.1 in
    let here : slice_get ps i ≡ Some q = slice_get_read ps _ i q refl within read in
    page_rises ps i q c.self.invariant.1 here

pub returns-in-Some : goal.returns-in-Some
returns-in-Some c =
    let ps = c.self.inside.pages.items in
    let i = c.place_of_page.result in
    let n = c.args.number in
    let q = c.in-Some.page.now in
    let within = rw c.deref.ensures.value at c.in-Some.ensures.lookup.3.0 in
    let read = rw c.deref.ensures.value at c.in-Some.ensures.lookup.1 in
    let here : slice_get ps i ≡ Some q = slice_get_read ps _ i q refl within read in
    let found = rw (to_z-of_z w64 n c.ranges.number) at c.get_at.ensures in
    rw (← c.self.view_is) (if_some c.get_at.result (λ vs row. row_of_page ps n i q vs.now c.self.invariant.0 c.self.invariant.1 here row) found)
