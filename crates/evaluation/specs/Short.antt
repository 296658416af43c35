-- Notes in fewer bytes.
use Rattle.std.specs.Prelude.{nat_le, ℤ, pos, negsuc, Bool, false, ◌&&◌}
use Rattle.evaluation.specs.declared.note.Note.{Note}
use Rattle.evaluation.specs.declared.note.Note.TheVariants as n
use Rattle.evaluation.specs.declared.reading.Reading.{Reading}
use Rattle.evaluation.specs.declared.reading.Reading.TheVariants as r

-- the note that was put into fewer bytes
abbrev pub note_of : Reading → Note
note_of (r.Cell c t row v) = n.Cell t (pos row) c v
note_of (r.Has there t row) = n.Has t row there
note_of (r.Limit t v) = n.Limit t v
note_of (r.Sum c t v) = n.Sum t c v

-- the number of a row takes four bytes at most
abbrev pub fits_row : ℤ → Bool
fits_row (pos n) = nat_le n 4294967295
fits_row (negsuc n) = false

-- the number of its table takes two bytes at most, that of a cell's column one and that of its row four
abbrev pub is_short : Note → Bool
is_short (n.Cell t row c v) = nat_le c 255 && nat_le t 65535 && fits_row row
is_short (n.Has t row there) = nat_le t 65535
is_short (n.Limit t v) = nat_le t 65535
is_short (n.Sum t c v) = nat_le c 255 && nat_le t 65535
