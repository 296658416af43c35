-- Procedures with room for them, read one in each turn.
use Rattle.std.proofs.Common.{◌≡◌, ℕ, Bool, ◌∷◌, [], ◌++◌, Some, Ok, sym}
use Rattle.meaning.specs.Tree.{Name}
use Rattle.token_scanner.specs.Words.{Words, rest, front_name}
use Rattle.source_tree.specs.Source.{Decl, Source}
use Rattle.token_readers.specs.Reading.{Read}
use Rattle.token_readers.specs.Rooms.{Room, room_behind}
use Rattle.procedure_parser.specs.Reading.{with_front}
use Rattle.procedure_parser.specs.Defining.{behind_name_at, named_at}
use Rattle.procedure_parser.proofs.Many.{regroup}

pub named_turn : (room after : Room) (next : Room → Words → Read Source) (l : ℕ) (m : Bool) (f : Name) (ts us : Words) (all : Source) (d : Decl) → Some f ≡ front_name ts → Some after ≡ room_behind room f → behind_name_at l m f (rest ts) ≡ Ok (d, us) → with_front (all ++ d ∷ []) (next after us) ≡ with_front all (named_at room next l m ts)
unfolding named_at
named_turn room after next l m f ts us all d h e b = rw (← h, ← e, b) (sym (regroup all d (next after us)))
