-- An instance that is over and gives its value to the one below it.
use Rattle.std.proofs.Common.{◌≡◌, ℕ, ℤ, List, [], ◌∷◌, ◌++◌, reverse, sym, ap, ◌∙◌}
use Rattle.std.proofs.lemmas.List.{reverse-append}
use Rattle.evaluation.specs.declared.slot.Slot.TheVariants.{Has}
use Rattle.positions.specs.declared.phase.Phase.TheVariants.{Running}
use Rattle.positions.specs.Activations.{PlainActivation, bound}
use Rattle.positions.specs.Strands.{PlainStrand, shorter}
use Rattle.positions.specs.Advance.{left_to}

pub left_popped : (s : PlainStrand) (path : List ℕ) (items rest : List PlainActivation) (p top : PlainActivation) (v : ℤ) → s.below ≡ reverse items → items ≡ rest ++ p ∷ [] → path ≡ shorter s.path
    → top ≡ bound p.into (Has v) p → record s { path = path; top = top; below = reverse rest; phase = Running } ≡ left_to s.below v s
left_popped s path items rest p top v e f short is =
    let down : s.below ≡ p ∷ reverse rest = e ∙ ap reverse f ∙ reverse-append rest (p ∷ []) in
    ap (λ xs. record s { path = xs; top = top; below = reverse rest; phase = Running }) short
    ∙ ap (λ (t : PlainActivation). record s { path = shorter s.path; top = t; below = reverse rest; phase = Running }) is
    ∙ ap (λ (xs : List PlainActivation). left_to xs v s) (sym down)
