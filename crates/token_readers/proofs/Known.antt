-- A room behind a procedure that is there.
use Rattle.std.proofs.Common.{◌≡◌, ℕ, zero, suc, ◌-◌, cond, ltb, List, [], ◌∷◌, Option, Some, None, refl, ap, subst, ◌∙◌}
use Rattle.std.specs.Prelude.{remove}
use Rattle.std.specs.Global.{Global}
use Rattle.std.specs.declared.string.String.{String}
use Rattle.std.specs.Prelude.{string_bytes}
use Rattle.meaning.specs.Tree.{Name}
use Rattle.token_scanner.specs.Words.{for_some}
use Rattle.source_tree.specs.Source.{texts}
use Rattle.source_tree.specs.Lowering.{found_index}
use Rattle.token_readers.specs.Rooms.{Room, room_behind}

texts_remove : (xs : List (String Global)) (n : ℕ) → texts (remove xs n) ≡ remove (texts xs) n
texts_remove [] zero = refl
texts_remove [] (suc n) = refl
texts_remove (x ∷ xs) zero = refl
texts_remove (x ∷ xs) (suc n) = ap (λ (ys : List Name). string_bytes x ∷ ys) (texts_remove xs n)

abbrev space : List Name → ℕ → Room
space xs p = (xs, p)

pub room_known : (xs ys : List (String Global)) (p n : ℕ) (f : Name) → Some n ≡ found_index f (texts xs) → ys ≡ remove xs n → Some (space (texts ys) p) ≡ room_behind (space (texts xs) p) f
room_known xs ys p n f at e =
    subst (λ (o : Option ℕ). Some (space (texts ys) p) ≡ for_some o (cond (ltb 0 p) (Some (space (texts xs) (p - 1))) None) (λ n. Some (space (remove (texts xs) n) p))) at
    (ap (λ (zs : List Name). Some (space zs p)) (ap texts e ∙ texts_remove xs n))
