-- What was told of procedures beside the program's revisions.
use Rattle.std.proofs.Common.{◌≡◌, ℕ, zero, suc, List, [], ◌∷◌, ◌++◌, length, take, Some, refl, sym, ap, ap₂, ◌∙◌}
use Rattle.std.specs.Prelude.{slice_get, slice_set, IfSome}
use Rattle.meaning.specs.Tree.{Name}
use Rattle.linked_program.specs.Checked.{names_in}
use Rattle.record_index.specs.Indexed.{IsLonger}

-- ---- gathered one by one

-- one more, whose name comes next
pub next_told : (revisions told : List (Name × ℕ)) (name : Name) (number : ℕ) (names : List Name) → told ≡ take (length told) revisions → names_in told ++ name ∷ names ≡ names_in revisions
    → IfSome (slice_get revisions (length told)) (λ e. number ≡ e.1) → told ++ (name, number) ∷ [] ≡ take (length (told ++ (name, number) ∷ [])) revisions
next_told [] [] name number names f e n = absurd cc
next_told (r ∷ revisions) [] name number names f e n = let same : name ≡ r.0 = cc (e) in ap₂ (λ x k. (x, k) ∷ []) same n
next_told [] (t ∷ told) name number names f e n = absurd cc
next_told (r ∷ revisions) (t ∷ told) name number names f e n =
    let head : t ≡ r = cc (f) in
    let tail : told ≡ take (length told) revisions = cc (f) in
    let others : names_in told ++ name ∷ names ≡ names_in revisions = cc (e) in
    ap₂ (λ x xs. x ∷ xs) head (next_told revisions told name number names tail others n)

-- its name goes over to those that were told
pub next_named : (told : List (Name × ℕ)) (name : Name) (number : ℕ) (names : List Name) → names_in (told ++ (name, number) ∷ []) ++ names ≡ names_in told ++ name ∷ names
next_named [] name number names = refl
next_named (t ∷ told) name number names = ap (λ xs. t.0 ∷ xs) (next_named told name number names)

-- ---- told again

-- a name keeps its place, whatever number it gets
pub same_names : (told : List (Name × ℕ)) (i : ℕ) (e : Name × ℕ) (number : ℕ) → slice_get told i ≡ Some e → names_in (slice_set told i (e.0, number)) ≡ names_in told
same_names [] i e number h = refl
same_names (t ∷ told) zero e number h = let same : t ≡ e = cc (h) in ap (λ (x : Name × ℕ). x.0 ∷ names_in told) (sym same)
same_names (t ∷ told) (suc i) e number h = ap (λ xs. t.0 ∷ xs) (same_names told i e number h)

-- one more has the number of the procedure at its place
pub told_more : (revisions told : List (Name × ℕ)) (i : ℕ) (e : Name × ℕ) (number : ℕ) → IsLonger told revisions → take i told ≡ take i revisions → slice_get told i ≡ Some e
    → IfSome (slice_get revisions i) (λ x. number ≡ x.1) → take (suc i) (slice_set told i (e.0, number)) ≡ take (suc i) revisions
told_more revisions [] i e number l f h n = absurd cc
told_more [] (t ∷ told) i e number l f h n = absurd cc
told_more (r ∷ revisions) (t ∷ told) zero e number l f h n =
    let same : t ≡ e = cc (h) in
    let name : t.0 ≡ r.0 = cc (l) in
    ap₂ (λ (x : Name) (k : ℕ). (x, k) ∷ []) (ap (λ (x : Name × ℕ). x.0) (sym same) ∙ name) n
told_more (r ∷ revisions) (t ∷ told) (suc i) e number l f h n =
    let head : t ≡ r = cc (f) in
    let tail : take i told ≡ take i revisions = cc (f) in
    let names : IsLonger told revisions = cc (l) in
    ap₂ (λ x xs. x ∷ xs) head (told_more revisions told i e number names tail h n)
