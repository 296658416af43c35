-- Why calls of a book are refused.
use Rattle.std.specs.Prelude.{◌≡◌, ℕ, Bool, true, false, Option, Some, None}
use Rattle.meaning.specs.Outcome.{Place}
use Rattle.meaning.specs.Strands.{Book, Split}
use Rattle.right_strands.specs.Laid.{PlainPiece}
use Rattle.strand_list.specs.Pages.{held_place}
use Rattle.strand_list.specs.Chronicled.{PlainChronicle, Took, split_refusal}
use Rattle.strand_list.specs.declared.error.BookError.{BookError}
use Rattle.strand_list.specs.declared.error.BookError.TheVariants as error
use Rattle.sync_fold.specs.Books.{PlainBook, IsBook, lay_refusal, fold_refusal}

-- ---- a split of the strand that a worker holds

-- it was taken
pub record TookHeld (b : PlainChronicle) (victim : ℕ) (new : Place) (thief : ℕ) (c : PlainChronicle) : Type 0 where
  pub from : Place
  pub held : held_place victim b.page.lines ≡ Some from
  pub taken : Took b (Split from new thief) c

abbrev pub refusal_from : Option Place → Book → Place → ℕ → Option BookError
refusal_from None b new thief = Some error.NoStrand
refusal_from (Some from) b new thief = split_refusal b from new thief

-- a worker that holds no strand has none to split
abbrev pub held_refusal : Book → ℕ → Place → ℕ → Option BookError
held_refusal b victim new thief = refusal_from (held_place victim b.lines) b new thief

-- memory was refused, or there is no place
abbrev pub HoldsNone : Option Place → BookError → Type 0
HoldsNone o error.NoMemory = Unit {0}
HoldsNone o e = (o ≡ None) × (e ≡ error.NoStrand)

-- ---- calls of a book

pub data Call : Type 0 where
  Splits : Place → Place → ℕ → Call
  SplitsHeld : ℕ → Place → ℕ → Call
  Lays : PlainPiece → Call
  Folds : Place → Place → ℕ → Call

abbrev pub refusal_of : PlainBook → Call → Option BookError
refusal_of b (Splits victim new thief) = split_refusal b.chronicle.page victim new thief
refusal_of b (SplitsHeld victim new thief) = held_refusal b.chronicle.page victim new thief
refusal_of b (Lays piece) = lay_refusal b piece
refusal_of b (Folds left right worker) = fold_refusal b left right worker

-- a book with a legal history refused a call for that reason
pub record WasRefused (e : BookError) : Type 0 where
  pub book : PlainBook
  pub kept : IsBook book.chronicle book.laid
  pub call : Call
  pub refused : refusal_of book call ≡ Some e

-- so it did, unless memory was refused
abbrev pub WasGiven : BookError → Type 0
WasGiven error.NoMemory = Unit {0}
WasGiven e = WasRefused e

-- two strands weren't neighbours, or might not be one
abbrev pub is_apart : BookError → Bool
is_apart error.NotNeighbour = true
is_apart _ = false
