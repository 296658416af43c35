-- How many kits the strands have that are laid down in a list, and how many of its strands workers hold.
use Rattle.std.specs.Prelude.{◌≡◌, ◌+◌, ℕ, suc, List, [], ◌∷◌, length}
use Rattle.positions.specs.Strands.{PlainStrand}
use Rattle.sync_fold.specs.Books.{PlainLaid}
use Rattle.sync_fold.specs.declared.laid.Laid.TheVariants.{Nothing, Whole, Half, Paired}

-- a strand has a kit for each of its layers
abbrev pub kits_of : PlainStrand → ℕ
kits_of s = suc (length s.lower)

abbrev pub kits_in : PlainLaid → ℕ
kits_in Nothing = 0
kits_in (Whole p) = kits_of p.strand
kits_in (Half q r) = kits_of q.left + kits_of q.right
kits_in (Paired r) = 0

abbrev pub kits_laid : List PlainLaid → ℕ
kits_laid [] = 0
kits_laid (d ∷ ds) = kits_in d + kits_laid ds

-- while a worker holds a strand nothing is kept of it
abbrev pub held_in : PlainLaid → ℕ
held_in Nothing = 1
held_in (Whole p) = 0
held_in (Half q r) = 0
held_in (Paired r) = 0

abbrev pub held_among : List PlainLaid → ℕ
held_among [] = 0
held_among (d ∷ ds) = held_in d + held_among ds

-- workers hold one strand more
abbrev pub HoldsMore : List PlainLaid → List PlainLaid → Type 0
HoldsMore ds es = (kits_laid es ≡ kits_laid ds) × (held_among es ≡ suc (held_among ds))

-- a strand that a worker held is laid down with its kits
abbrev pub LaysDown : PlainStrand → List PlainLaid → List PlainLaid → Type 0
LaysDown s ds es = (kits_laid es ≡ kits_of s + kits_laid ds) × (suc (held_among es) ≡ held_among ds)

-- two strands that were laid down have become one that a worker holds, which has all their kits but one
abbrev pub TakesUp : PlainStrand → List PlainLaid → List PlainLaid → Type 0
TakesUp s ds es = (suc (kits_of s) + kits_laid es ≡ kits_laid ds) × (held_among es ≡ suc (held_among ds))

-- two strands that are kept have the kits of this one, and one more
abbrev pub HaveOneMore : PlainLaid → PlainLaid → PlainStrand → Type 0
HaveOneMore d e s = kits_in d + kits_in e ≡ suc (kits_of s)

abbrev pub BeginWithOneMore : List PlainLaid → PlainStrand → Type 0
BeginWithOneMore (d ∷ e ∷ ds) s = HaveOneMore d e s
BeginWithOneMore _ s = ⊥
