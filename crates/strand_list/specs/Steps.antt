-- Whether a step was taken, and what it leaves.
use Rattle.std.specs.Prelude.{◌≡◌, ℕ, Bool, true, false, not, ◌&&◌, Some, None}
use Rattle.meaning.specs.Outcome.{Place}
use Rattle.meaning.specs.Strands.{Book, BookStep, Fold, stepped, is_free, is_held_at, is_root, may_fold}
use Rattle.strand_lines.specs.Lines.{is_unused}

-- it is taken exactly where it is allowed; else the list stays as it is
abbrev pub Takes : Book → BookStep → Bool → Book → Type 0
Takes b s true c = stepped b s ≡ Some c
Takes b s false c = (stepped b s ≡ None) × (c ≡ b)

abbrev pub may_split : Book → Place → Place → ℕ → Bool
may_split b v n w = is_held_at b.lines v && not (is_root n) && is_unused n b.split_off && is_free b.lines w

-- the step is a fold, and is allowed
abbrev pub is_allowed_fold : Book → BookStep → Bool
is_allowed_fold b (Fold l r w) = may_fold b.lines l r && is_free b.lines w
is_allowed_fold b _ = false
