-- The entries of a map with text keys stand in byte order of the keys.
use Rattle.std.proofs.Common.{◌≡◌, ℕ, zero, suc, List, [], ◌∷◌, Some, None, Result, Err, String, Global, Less, nat_cmp, string_bytes, refl, ap, ◌∙◌}
use Rattle.std.specs.Prelude.{slice_get}
use Rattle.std.specs.Cmp.Lexicographic.{slice_cmp}
use Rattle.std.specs.List.Sorted.{IsStrictlySortedBy}
use Rattle.std.specs.Map.{keys_of}
use Rattle.std.specs.String.{string_cmp}
use Rattle.toml.specs.View.{view, members_view}
use Rattle.toml.specs.declared.value.Value.{Value}
use Rattle.meaning.specs.Tables.{Tables}
use Rattle.input_tables.specs.Document.{Named, named, put_named, in_order, unless_many, Refusal, Shape}

abbrev pub Entry : Type 0
Entry = String Global × Value

put_first : (x : Named) (e : Entry) (es : List Entry) → slice_cmp nat_cmp x.0 (string_bytes e.0) ≡ Less → put_named x (named (e ∷ es)) ≡ x ∷ named (e ∷ es)
put_first x e es lower = rw lower refl

pub in_order-named : (es : List Entry) → IsStrictlySortedBy string_cmp (keys_of es) → in_order (members_view es) ≡ named es
unfolding IsStrictlySortedBy
in_order-named [] h = refl
in_order-named (e ∷ []) h = refl
in_order-named (e ∷ f ∷ es) h =
    ap (put_named (string_bytes e.0, view e.1)) (in_order-named (f ∷ es) h.1) ∙ put_first (string_bytes e.0, view e.1) f es h.0.0

-- a key at a place is that of the entry there
pub key_there : (es : List Entry) (i : ℕ) (k : String Global) (r : Result Tables Refusal) → Some k ≡ slice_get (keys_of es) i
    → unless_many (slice_get (named es) i) r ≡ Err (Shape (string_bytes k))
key_there [] i k r at = absurd cc
key_there (e ∷ es) zero k r at =
    let same : k ≡ e.0 = cc in
    rw same refl
key_there (e ∷ es) (suc i) k r at = key_there es i k r at

pub no_key_there : (es : List Entry) (i : ℕ) (r : Result Tables Refusal) → None ≡ slice_get (keys_of es) i → unless_many (slice_get (named es) i) r ≡ r
no_key_there [] i r at = refl
no_key_there (e ∷ es) zero r at = absurd cc
no_key_there (e ∷ es) (suc i) r at = no_key_there es i r at
