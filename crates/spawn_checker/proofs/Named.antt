-- The names of tables, table by table.
use Rattle.std.proofs.Common.{◌≡◌, ℕ, zero, suc, ◌+◌, List, [], ◌∷◌, ◌++◌, Some, map, take, string_bytes, slice_get, refl, ap, sym, ◌∙◌, add-one}
use Rattle.meaning.specs.Tables.{Tables}
use Rattle.input_tables.specs.Edited.{names_of, columns_at}
use Rattle.linked_program.specs.declared.tables.TableNames.{TableNames}
use Rattle.linked_program.specs.TableNames.{Columned, columned, columned_of}

one_more : (ts : Tables) (n : ℕ) (c : Columned) → Some c.called ≡ slice_get (names_of ts) n → c.columns ≡ columns_at ts n → columned_of (take (suc n) ts) ≡ columned_of (take n ts) ++ c ∷ []
one_more [] n c e f = cc
one_more (t ∷ ts) zero c e f = let g : c.called ≡ t.called = cc in rw (← g, ← f) refl
one_more (t ∷ ts) (suc n) c e f = ap (λ xs. record { called = t.called; columns = t.columns } ∷ xs) (one_more ts n c e f)

map_push : {A B : Type 0} (f : A → B) (xs : List A) (x : A) → map f (xs ++ x ∷ []) ≡ map f xs ++ f x ∷ []
map_push f [] x = refl
map_push f (y ∷ ys) x = ap (λ zs. f y ∷ zs) (map_push f ys x)

pub named_push : (ts : Tables) (made : List TableNames) (n : ℕ) (x : TableNames) → map columned made ≡ columned_of (take n ts) → Some (string_bytes x.name) ≡ slice_get (names_of ts) n → map string_bytes x.columns.items ≡ columns_at ts n
    → map columned (made ++ x ∷ []) ≡ columned_of (take (n + 1) ts)
named_push ts made n x h e f = map_push columned made x ∙ ap (λ cs. cs ++ columned x ∷ []) h ∙ sym (one_more ts n (columned x) e f) ∙ ap (λ m. columned_of (take m ts)) (sym (add-one n))
