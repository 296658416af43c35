-- How many different readings and revisions of a record don't hold.
use Rattle.std.specs.Prelude.{◌+◌, ℕ, nat_eq, Bool, not, ◌&&◌, List}
use Rattle.meaning.specs.Tree.{Name}
use Rattle.meaning.specs.Tables.{Tables}
use Rattle.record_theory.specs.Counts.{count_once, lapsed_count}
use Rattle.record_theory.specs.Record.{PlainRecord}
use Rattle.record_theory.specs.Validity.{has_revision}

abbrev pub same_revision : ℕ × ℕ → ℕ × ℕ → Bool
same_revision e d = nat_eq e.0 d.0 && nat_eq e.1 d.1

-- how many different revisions aren't those of the procedures
abbrev pub outdated_count : List (Name × ℕ) → List (ℕ × ℕ) → ℕ
outdated_count revisions entered = count_once same_revision (λ e. not (has_revision revisions e)) entered

-- how many different readings and revisions of a record don't hold now
abbrev pub stale_count : List (Name × ℕ) → Tables → PlainRecord → ℕ
stale_count revisions tables r = lapsed_count tables r.reads + outdated_count revisions r.entered
