-- What is in the grammar of defining texts is read.
use Rattle.std.proofs.Common.{◌≡◌, ℕ, zero, suc, ◌<◌, Bool, false, [], Ok, refl, arith}
use Rattle.meaning.specs.Tree.{Name}
use Rattle.token_scanner.specs.Words.{Words}
use Rattle.source_tree.specs.Source.{Decl, Source}
use Rattle.procedure_parser.specs.Reading.{over_as, starts_procedure}
use Rattle.token_readers.specs.Rooms.{Room, turns_of}
use Rattle.procedure_parser.specs.Defining.{BehindName, behind_name, Procedures, no_procedure, one_procedure, no_room, Defining, behind_name_at, nameless_at, named_at, one_at, procedures_at, defining_at}
use Rattle.procedure_parser.proofs.OnlyStatements.{only_block}
use Rattle.procedure_parser.proofs.OnlyDeclarations.{only_params, only_words}
use Rattle.procedure_parser.proofs.DefiningLaw.{less_room}

only_behind_name : (l : ℕ) (m : Bool) (f : Name) (d : Decl) (ts us : Words) → BehindName l m f d ts us → behind_name_at l m f ts ≡ Ok (d, us)
unfolding behind_name_at
only_behind_name l m f _ _ _ (behind_name xs ss ts us vs p b) =
    let e = only_params xs ts us p in
    let i = only_block 32 ss us vs b in
    rw (e, i) refl

only_procedures : (room : Room) (ds : Source) (ts us : Words) → Procedures room ds ts us → (k : ℕ) → turns_of room < k → starts_procedure us ≡ false → procedures_at k room ts ≡ Ok (ds, us)
unfolding procedures_at one_at named_at nameless_at over_as
only_procedures _ _ _ _ d zero fuel h = absurd (omega (arith, fuel))
only_procedures _ _ _ _ (no_procedure room ts) (suc k) fuel h = rw h refl
only_procedures _ _ _ _ (one_procedure room after l n m f d ds ts us vs ws w e b q) (suc k) fuel h =
    let o = only_words m l ts _ w in
    let lt = less_room room after f e in
    let i = only_procedures after ds vs ws q k (omega (arith, fuel, lt)) h in
    let g = only_behind_name l m f d us vs b in
    rw (o.1, o.2, o.3, e, g, i) refl
only_procedures _ _ _ _ (no_room known n l m ts us w) (suc k) fuel h =
    let o = only_words m n ts _ w in
    rw (o.1, o.2, o.3) refl

pub only_defining : (room : Room) (ds : Source) (ts : Words) → Defining room ds ts [] → defining_at room ts ≡ Ok (ds, [])
unfolding defining_at one_at named_at nameless_at over_as
only_defining room _ _ (h, no_procedure _ _) = absurd cc
only_defining room _ _ (h, one_procedure room' after l n m f d ds ts us vs ws w e b q) =
    let o = only_words m l ts _ w in
    let i = only_procedures after ds vs ws q (turns_of room) (less_room room after f e) refl in
    let g = only_behind_name l m f d us vs b in
    rw (o.1, o.2, o.3, e, g, i) refl
only_defining _ _ _ (h, no_room known n l m ts us w) =
    let o = only_words m n ts _ w in
    rw (o.1, o.2, o.3) refl
