-- What a session keeps of its records doesn't go by their numbers, and they stay in step with its tables.
use Rattle.std.proofs.Common.{◌≡◌, true, List, [], ◌∷◌, map, refl, sym, ap}
use Rattle.meaning.specs.Every.{every}
use Rattle.meaning.specs.Tables.{Tables}
use Rattle.meaning.specs.Records.{Revised, Kept, holds_now}
use Rattle.trail_theory.specs.Order.{Every}
use Rattle.linked_program.specs.TableNames.{columned_of}
use Rattle.linked_program.specs.Checked.{PlainChecked, revised_of}
use Rattle.input_tables.specs.Edited.{Edited}
use Rattle.record_theory.specs.Record.{PlainRecord, as_made}
use Rattle.record_theory.specs.InStep.{ReadNow}
use Rattle.record_theory.specs.Named.{AreKept}
use Rattle.record_theory.proofs.Members.{both}
use Rattle.record_theory.proofs.Lookups.{same_but_numbers, agree_now}
use Rattle.kept_session.specs.Sessions.{AreKeptFor, IsRightNow, AreNewFor}

pub twice : (rs : List PlainRecord) → map as_made (map as_made rs) ≡ map as_made rs
twice [] = refl
twice (r ∷ rs) = ap (λ xs. as_made r ∷ xs) (twice rs)

pub stand_so : (program : PlainChecked) (ks : List Kept) (rs ss : List PlainRecord) → map as_made ss ≡ map as_made rs → AreKept program ks rs → AreKept program ks ss
stand_so program ks rs ss e h = same_but_numbers (revised_of program) program.tables program.kinds ks rs ss e h

pub kept_so : (program : PlainChecked) (rs ss : List PlainRecord) → map as_made ss ≡ map as_made rs → AreKeptFor program rs → AreKeptFor program ss
kept_so program rs ss e k = record {
  sound = record { kept = k.sound.kept; stand = stand_so program k.sound.kept rs ss e k.sound.stand; sound = k.sound.sound };
  there = k.there;
}

news_hold : (program : Revised) (tables : Tables) (ks : List Kept) → Every (IsRightNow program tables) ks → every (holds_now program tables) ks ≡ true
news_hold program tables [] h = refl
news_hold program tables (k ∷ ks) h = both (holds_now program tables k) (every (holds_now program tables) ks) h.0.now (news_hold program tables ks h.1)

-- what new records have read, the tables hold
pub made_read_now : (program : PlainChecked) (tables : Edited) (made : List PlainRecord) → program.tables ≡ columned_of tables.tables → AreNewFor program tables made → ReadNow tables.tables made
made_read_now program tables made columns n =
    agree_now (revised_of program) program.tables program.kinds tables.tables (sym columns) n.kept made n.stand (news_hold (revised_of program) tables.tables n.kept n.right)
