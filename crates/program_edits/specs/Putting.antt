-- Procedures put into a program, one after another: each stands in the place of the one of its name, a new name goes last, and
-- a second one of a name stands behind the first.
use Rattle.std.specs.Prelude.{ℕ, suc, ◌+◌, List, [], ◌∷◌, ◌++◌, Option, Some, None, Bool, true, false, bytes_eq, ◌||◌, if◌then◌else◌, insert, slice_set}
use Rattle.meaning.specs.Tree.{Name, Proc, Decl, reducer, procedure, Tree}
use Rattle.meaning.specs.TreeView.{Lined}
use Rattle.source_tree.specs.Source.{Reduces, Defines, Source, stmts_of}
use Rattle.source_tree.specs.Lowering.{lower_proc, body_lines}

abbrev pub is_in : Name → List Name → Bool
is_in x [] = false
is_in x (y ∷ ys) = bytes_eq y x || is_in x ys

abbrev pub is_procedure : Name → Decl → Bool
is_procedure x (reducer r) = false
is_procedure x (procedure p) = bytes_eq p.called x

-- the place of the last procedure of a name, where so many declarations stand in front, and the last one in them is found
abbrev pub last_place : ℕ → Option ℕ → Name → Tree → Option ℕ
last_place n found x [] = found
last_place n found x (d ∷ ds) = last_place (suc n) (if is_procedure x d then Some n else found) x ds

-- where a procedure goes
pub data Spot : Type 0 where
  Last : Spot
  Over : ℕ → Spot
  Behind : ℕ → Spot

-- again says that the text had one of its name before
abbrev pub spot_of : Bool → Option ℕ → Spot
spot_of again None = Last
spot_of true (Some n) = Behind n
spot_of false (Some n) = Over n

abbrev pub put_at : {A : Type 0} → Spot → A → List A → List A
put_at Last x xs = xs ++ x ∷ []
put_at (Over n) x xs = slice_set xs n x
put_at (Behind n) x xs = insert xs (n + 1) x

-- a program's declarations, and their lines
abbrev pub Placed : Type 0
Placed = Tree × List Lined

abbrev pub put_procedure : Bool → Proc → Lined → Placed → Placed
put_procedure again p l done =
    let spot = spot_of again (last_place 0 None p.called done.0) in
    (put_at spot (procedure p) done.0, put_at spot l done.1)

-- the procedures of a source tree, behind those of these names
abbrev pub put_all : List Name → Source → Placed → Placed
put_all seen [] done = done
put_all seen (Reduces l x k vs ∷ ds) done = put_all seen ds done
put_all seen (Defines l m f xs ss ∷ ds) done =
    put_all (seen ++ f ∷ []) ds (put_procedure (is_in f seen) (lower_proc m f xs ss) (record { line = l; statements = body_lines (stmts_of ss) }) done)
