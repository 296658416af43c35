-- The list of strands with its history: what a step makes of them, and why one is refused.
use Rattle.std.specs.Prelude.{◌≡◌, ◌++◌, ℕ, Bool, true, false, List, [], ◌∷◌, Option, Some, None}
use Rattle.meaning.specs.Outcome.{Place}
use Rattle.meaning.specs.Strands.{BookStep, Book, Split, first_book, is_held_at, stepped}
use Rattle.strand_list.specs.Laying.{laying_step}
use Rattle.strand_lines.specs.Lines.{has_strand}
use Rattle.strand_list.specs.declared.laid_state.LaidState.{LaidState}
use Rattle.strand_list.specs.declared.error.BookError.{BookError}
use Rattle.strand_list.specs.declared.error.BookError.TheVariants as error

-- the list that stands, and what made it
pub record PlainChronicle : Type 0 where
  pub page : Book
  pub history : List BookStep

abbrev pub first_chronicle : PlainChronicle
first_chronicle = record { page = first_book; history = [] }

-- the step is allowed, and was taken and noted
pub record Took (b : PlainChronicle) (s : BookStep) (c : PlainChronicle) : Type 0 where
  pub allowed : stepped b.page s ≡ Some c.page
  pub noted : c.history ≡ b.history ++ s ∷ []

-- it was taken exactly where it is allowed; else nothing changed
abbrev pub Notes : PlainChronicle → BookStep → Bool → PlainChronicle → Type 0
Notes b s true c = Took b s c
Notes b s false c = (stepped b.page s ≡ None) × (c ≡ b)

-- ---- why a step is refused

-- the first of these tests that fails gives the refusal
abbrev pub unless : Bool → BookError → Option BookError → Option BookError
unless false e later = Some e
unless true e later = later

abbrev pub unless_allowed : Option Book → Option BookError
unless_allowed (Some c) = None
unless_allowed None = Some error.NotThere

abbrev pub split_refusal : Book → Place → Place → ℕ → Option BookError
split_refusal b v n w = unless (has_strand v b.lines) error.NoStrand (unless_allowed (stepped b (Split v n w)))

abbrev pub laying_refusal : Book → LaidState → Place → Option BookError
laying_refusal b r p =
    unless (has_strand p b.lines) error.NoStrand
    (unless (is_held_at b.lines p) error.AlreadyLaid (unless_allowed (stepped b (laying_step r p))))

-- for want of memory, or for that reason
abbrev pub IsRefusedBy : Option BookError → BookError → Type 0
IsRefusedBy o error.NoMemory = Unit {0}
IsRefusedBy o e = o ≡ Some e
