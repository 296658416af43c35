-- Readings that are the same, decided by their parts.
use Rattle.std.specs.Prelude.{nat_eq, Bool, true, false, ◌&&◌, List}
use Rattle.std.specs.List.{list_any}
use Rattle.std.specs.Ordering.{int_eq}
use Rattle.evaluation.specs.declared.note.Note.{Note}
use Rattle.evaluation.specs.declared.note.Note.TheVariants.{Cell, Has, Limit, Sum}

abbrev pub same_flag : Bool → Bool → Bool
same_flag true b = b
same_flag false true = false
same_flag false false = true

abbrev pub same_note : Note → Note → Bool
same_note (Cell t row c v) (Cell u s d w) = nat_eq t u && (int_eq row s && (nat_eq c d && int_eq v w))
same_note (Has t row b) (Has u s d) = nat_eq t u && (int_eq row s && same_flag b d)
same_note (Limit t v) (Limit u w) = nat_eq t u && int_eq v w
same_note (Sum t c v) (Sum u d w) = nat_eq t u && (nat_eq c d && int_eq v w)
same_note _ _ = false

-- the reading is one of these
abbrev pub is_read : List Note → Note → Bool
is_read notes note = list_any (same_note note) notes
