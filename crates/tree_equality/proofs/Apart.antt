-- Lists of two lengths are not the same.
use Rattle.std.proofs.Common.{◌≡◌, ℕ, suc, Bool, true, false, ◌&&◌, ◌==◌, List, [], ◌∷◌, length, map, refl, ap, string_bytes}
use Rattle.std.proofs.Math.Dec.{eqb-suc-zero}
use Rattle.std.specs.Global.{Global}
use Rattle.std.specs.declared.string.String.{String}
use Rattle.std.specs.Str.{bytes_eq}
use Rattle.meaning.specs.declared.tree.Expr.{Expr}
use Rattle.meaning.specs.declared.tree.Statement.{Statement}
use Rattle.meaning.specs.Tree.{Body, end}
use Rattle.meaning.specs.TreeView.{term, deed, statements}
use Rattle.meaning.specs.Edits.{same_term, same_terms, same_deed, same_body, same_names}

and_false : (b c : Bool) → false ≡ c → false ≡ (b && c)
and_false true c e = e
and_false false c e = refl

pub apart_terms : (xs ys : List Expr) → (length xs ≡ length ys → ⊥) → false ≡ same_terms (map term xs) (map term ys)
apart_terms [] [] h = absurd (h refl)
apart_terms [] (y ∷ ys) h = refl
apart_terms (x ∷ xs) [] h = refl
apart_terms (x ∷ xs) (y ∷ ys) h = and_false (same_term (term x) (term y)) (same_terms (map term xs) (map term ys)) (apart_terms xs ys (λ e. h (ap suc e)))

pub apart_statements : (f g : ℕ → Body) (xs ys : List Statement) → (length xs ≡ length ys → ⊥) → false ≡ same_body (statements f xs) (statements g ys)
apart_statements f g [] [] h = absurd (h refl)
apart_statements f g [] (y ∷ ys) h = refl
apart_statements f g (x ∷ xs) [] h = refl
apart_statements f g (x ∷ xs) (y ∷ ys) h =
    and_false ((x.number == y.number) && same_deed (deed f x.action) (deed g y.action)) (same_body (statements f xs) (statements g ys)) (apart_statements f g xs ys (λ e. h (ap suc e)))

pub apart_names : (xs ys : List (String Global)) → (length xs ≡ length ys → ⊥) → false ≡ same_names (map string_bytes xs) (map string_bytes ys)
apart_names [] [] h = absurd (h refl)
apart_names [] (y ∷ ys) h = refl
apart_names (x ∷ xs) [] h = refl
apart_names (x ∷ xs) (y ∷ ys) h = and_false (bytes_eq (string_bytes x) (string_bytes y)) (same_names (map string_bytes xs) (map string_bytes ys)) (apart_names xs ys (λ e. h (ap suc e)))

pub empty_right : (g : ℕ → Body) (ys : List Statement) (n : ℕ) → n ≡ length ys → (n == 0) ≡ same_body end (statements g ys)
empty_right g [] n e = rw e refl
empty_right g (y ∷ ys) n e = rw e (eqb-suc-zero (length ys))

pub empty_left : (f : ℕ → Body) (xs : List Statement) (n : ℕ) → n ≡ length xs → (n == 0) ≡ same_body (statements f xs) end
empty_left f [] n e = rw e refl
empty_left f (x ∷ xs) n e = rw e (eqb-suc-zero (length xs))
