-- Texts that define procedures of a program: the grammar, and reading by it.
use Rattle.std.specs.Prelude.{◌≡◌, ℕ, zero, suc, List, [], ◌∷◌, Some, Result, Ok, Err, Bool, true, nat_lt, if◌then◌else◌}
use Rattle.meaning.specs.Tree.{Name}
use Rattle.token_scanner.specs.Words.{Word, Over, Words, for_some, rest, front_name, line_of, ended}
use Rattle.token_scanner.specs.Words as word
use Rattle.source_tree.specs.Source.{Stmt, Decl, Defines, Source}
use Rattle.token_readers.specs.Reading.{◌>>=◌, Read}
use Rattle.token_readers.specs.Rooms.{Room, room_behind, turns_of}
use Rattle.procedure_parser.specs.Reading.{over_as, params_at, block_at, procedure_word_at, starts_procedure, and_then}
use Rattle.procedure_parser.specs.Grammar.{Form, Params, Block, ProcedureWord}

-- ---- the grammar

-- behind a procedure's name
pub data BehindName (l : ℕ) (m : Bool) (f : Name) : Decl → Words → Words → Type 0 where
  behind_name : (xs : List Name) (ss : List Stmt) (ts us vs : Words) → Params xs ts us → Block 32 ss us vs → BehindName l m f (Defines l m f xs ss) ts vs

-- procedures, where there is such room
pub data Procedures : Room → Source → Words → Words → Type 0 where
  no_procedure : (room : Room) (ts : Words) → Procedures room [] ts ts
  one_procedure : (room after : Room) (l k : ℕ) (m : Bool) (f : Name) (d : Decl) (ds : Source) (ts us vs ws : Words)
      → ProcedureWord m l ts ((word.Name f, k) ∷ us) → room_behind room f ≡ Some after → BehindName l m f d us vs → Procedures after ds vs ws
      → Procedures room (d ∷ ds) ts ws
  no_room : (known : List Name) (k l : ℕ) (m : Bool) (ts us : Words) → ProcedureWord m k ts ((Over, l) ∷ us) → Procedures (known, 0) [] ts us

-- one procedure at least
abbrev pub Defining : Room → Form Source
Defining room s ts us = (starts_procedure ts ≡ true) × Procedures room s ts us

-- ---- reading

unfoldable pub behind_name_at : ℕ → Bool → Name → Words → Read Decl
behind_name_at l m f ts = params_at ts >>= λ xs. block_at 32 xs.1 >>= λ ss. Ok (Defines l m f xs.0 ss.0, ss.1)

-- where no name is in front
unfoldable pub nameless_at : ℕ → Words → Read Source
nameless_at left ts = if nat_lt 0 left then Err ts else over_as [] ts

-- behind the words in front of a procedure's name
unfoldable pub named_at : Room → (Room → Words → Read Source) → ℕ → Bool → Words → Read Source
named_at room next l m ts =
    for_some (front_name ts) (nameless_at room.1 ts) (λ f.
    for_some (room_behind room f) (Err ts) (λ after.
    and_then (behind_name_at l m f (rest ts)) (next after)))

unfoldable pub one_at : Room → (Room → Words → Read Source) → Words → Read Source
one_at room next ts = procedure_word_at ts >>= λ m. named_at room next (line_of ts) m.0 m.1

-- in at most so many turns
unfoldable pub procedures_at : ℕ → Room → Words → Read Source
procedures_at zero room ts = Err ts
procedures_at (suc k) room ts = if starts_procedure ts then one_at room (procedures_at k) ts else Ok ([], ts)

unfoldable pub defining_at : Room → Words → Read Source
defining_at room ts = if starts_procedure ts then one_at room (procedures_at (turns_of room)) ts else Err ts

-- all of the tokens
unfoldable pub definition_at : Room → Words → Result Source Words
definition_at room ts = defining_at room ts >>= λ ds. if ended ds.1 then Ok ds.0 else Err ds.1
