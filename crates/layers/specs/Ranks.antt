-- The order in which an instance reads that goes through rows in order.
use Rattle.std.specs.Prelude.{ℕ, ◌+◌, ◌*◌, pos, negsuc, cond, nat_le}
use Rattle.evaluation.specs.declared.note.Note.{Note}
use Rattle.evaluation.specs.declared.note.Note.TheVariants.{Cell, Has, Limit, Sum}

abbrev pub place_at : ℕ → ℕ → ℕ → ℕ
place_at row t part = row * 4294967296 + t * 65536 + part

-- rows first, then tables, then columns; whether there is a row comes before its cells
abbrev pub rank_of : Note → ℕ
rank_of (Cell t (pos row) c v) = place_at row t (c + 1)
rank_of (Cell t (negsuc row) c v) = 0
rank_of (Has t (pos row) there) = cond (nat_le row 4294967295) (place_at row t 0) 0
rank_of (Has t (negsuc row) there) = 0
rank_of (Limit t v) = place_at 0 t 257
rank_of (Sum t c v) = place_at 0 t (c + 258)
