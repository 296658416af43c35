-- Amounts by key in a map: what its look-up and insert give is an amount added.
use Rattle.std.proofs.Common.{◌≡◌, ℕ, ◌+◌, ◌<◌, ◌≤◌, ℤ, List, [], ◌∷◌, Option, Some, None, Bool, true, false, cond, Ordering, Less, Equal, Greater, length, map, drop, get_or, refl, ap, sym, subst, ◌∙◌, add-one, arith, ◌<ℤ◌, ◌+ℤ◌}
use Rattle.std.specs.Prelude.{int_lt}
use Rattle.std.specs.Ordering.{int_cmp, is_eq, match_ordering}
use Rattle.std.specs.Map.{lookup}
use Rattle.std.specs.BTreeMap.{insert_entry, is_at}
use Rattle.std.proofs.Math.Seq.{drop-cons}
use Rattle.std.proofs.lemmas.Int.{ints}
use Rattle.std.proofs.lemmas.List.{drop_all}
use Rattle.std.proofs.lemmas.Cmp.{int_ranked}
use Rattle.monoid_laws.specs.Kinds.{wrap, add_at, merge, merged, AreAbove, IsRising}
use Rattle.monoid_laws.proofs.Amounts.{merge_one, merge_assoc, merge_nil, IsRising-merge}
use Rattle.trace_report.specs.Amounts.{summed}

less_apart : (a b : ℤ) → a <ℤ b → is_eq (int_cmp a b) ≡ false
less_apart a b h = let t : int_lt a b ≡ true = grind (arith, ints) in rw t refl

lookup_above : (k : ℤ) (es : List (ℤ × ℤ)) → AreAbove k es → lookup (is_at (int_cmp k)) es ≡ None
lookup_above k [] a = refl
lookup_above k (e ∷ es) a = rw (less_apart k e.0 a.0) (lookup_above k es a.1)

lower : (b c : ℤ) (es : List (ℤ × ℤ)) → b <ℤ c → AreAbove c es → AreAbove b es
lower b c [] h a = tt
lower b c (e ∷ es) h a = (let x : c <ℤ e.0 = a.0 in omega (arith, ints), lower b c es h a.1)

-- the sum stands where the key is, or would be
abbrev placed : Ordering → ℤ → ℤ → ℤ × ℤ → List (ℤ × ℤ) → ℤ → List (ℤ × ℤ)
placed o k v e es s = match_ordering o ((k, s) ∷ e ∷ es) ((e.0, s) ∷ es) (e ∷ insert_entry int_cmp es k s)

placed_is : (o : Ordering) (k v : ℤ) (e : ℤ × ℤ) (es : List (ℤ × ℤ)) (held : Option ℤ) → o ≡ int_cmp k e.0 → (k <ℤ e.0 → held ≡ None)
    → insert_entry int_cmp es k (summed v held) ≡ add_at k v es
    → placed o k v e es (summed v (cond (is_eq o) (Some e.1) held)) ≡ match_ordering o ((k, v) ∷ e ∷ es) ((k, wrap (v +ℤ e.1)) ∷ es) (e ∷ add_at k v es)
placed_is Less k v e es held is none rest = let h : k <ℤ e.0 = int_ranked k e.0 Less is in ap (λ x. (k, summed v x) ∷ e ∷ es) (none h)
placed_is Equal k v e es held is none rest = let same : k ≡ e.0 = int_ranked k e.0 Equal is in ap (λ (x : ℤ). (x, wrap (v +ℤ e.1)) ∷ es) (sym same)
placed_is Greater k v e es held is none rest = ap (λ xs. e ∷ xs) rest

tested : {X : Type 0} (a b : Bool) (x y z : X) → match_ordering (cond a Less (cond b Greater Equal)) x y z ≡ cond a x (cond b z y)
tested true b x y z = refl
tested false true x y z = refl
tested false false x y z = refl

insert_adds : (es : List (ℤ × ℤ)) (k v : ℤ) → IsRising es → insert_entry int_cmp es k (summed v (lookup (is_at (int_cmp k)) es)) ≡ add_at k v es
insert_adds [] k v r = refl
insert_adds (e ∷ es) k v r =
    placed_is (int_cmp k e.0) k v e es (lookup (is_at (int_cmp k)) es) refl (λ h. lookup_above k es (lower k e.0 es h r.0)) (insert_adds es k v r.1)
    ∙ tested (int_lt k e.0) (int_lt e.0 k) ((k, v) ∷ e ∷ es) ((k, wrap (v +ℤ e.1)) ∷ es) (e ∷ add_at k v es)

-- what the map's calls give
pub added_at : (es more : List (ℤ × ℤ)) (m n k v w s t : ℤ) (o : Option ℤ) → m ≡ k → n ≡ k → w ≡ v → t ≡ s → IsRising es → o ≡ lookup (is_at (int_cmp m)) es
    → s ≡ summed w o → more ≡ insert_entry int_cmp es n t → more ≡ add_at k v es
added_at es more m n k v w s t o same same' amount value rises found sum is =
    is ∙ ap (λ x. insert_entry int_cmp es x t) same'
    ∙ ap (insert_entry int_cmp es k) (value ∙ sum ∙ ap (λ x. summed x o) amount ∙ ap (summed v) (found ∙ ap (λ x. lookup (is_at (int_cmp x)) es) same))
    ∙ insert_adds es k v rises

pub rising_added : (es more : List (ℤ × ℤ)) (k v : ℤ) → IsRising es → more ≡ add_at k v es → IsRising more
rising_added es more k v rises is = subst IsRising (sym is) (IsRising-merge ((k, v) ∷ []) es rises)

-- an amount may be added to the sums or to what is merged into them
pub added_before : (es more rest : List (ℤ × ℤ)) (e : ℤ × ℤ) → IsRising es → more ≡ add_at e.0 e.1 es → merge more rest ≡ merge es (add_at e.0 e.1 rest)
added_before es more rest e rises is =
    ap (λ xs. merge xs rest) (is ∙ sym (merge_one es e rises)) ∙ merge_assoc es (e ∷ []) rest

pub one_more_amount : (es more piece : List (ℤ × ℤ)) (i : ℕ) (d : ℤ × ℤ) (m n : ℤ) (whole : List (ℤ × ℤ) → List (ℤ × ℤ)) → i < length piece
    → m ≡ (get_or piece i d).0 → n ≡ (get_or piece i d).1 → IsRising es
    → more ≡ add_at m n es → ((rest : List (ℤ × ℤ)) → merge es (merge (drop i piece) rest) ≡ whole rest)
    → IsRising more × ((rest : List (ℤ × ℤ)) → merge more (merge (drop (i + 1) piece) rest) ≡ whole rest)
one_more_amount es more piece i d m n whole h at at' rises is before =
    let e = get_or piece i d in
    let front : drop i piece ≡ e ∷ drop (i + 1) piece = rw (add-one i) (drop-cons piece i d h) in
    let adds : more ≡ add_at e.0 e.1 es = is ∙ ap (λ x. add_at x n es) at ∙ ap (λ x. add_at e.0 x es) at' in (
      rising_added es more e.0 e.1 rises adds,
      λ rest. added_before es more (merge (drop (i + 1) piece) rest) e rises adds ∙ ap (λ xs. merge es (merge xs rest)) (sym front) ∙ before rest,
    )

pub all_merged : (es all : List (ℤ × ℤ)) → IsRising es → merge es [] ≡ all → es ≡ all
all_merged es all rises is = sym (merge_nil es rises) ∙ is

pub all_pieces : {P : Type 0} (f : P → List (ℤ × ℤ)) (pieces : List P) (i : ℕ) (es all : List (ℤ × ℤ)) → length pieces ≤ i
    → merge es (merged (map f (drop i pieces))) ≡ all → merge es [] ≡ all
all_pieces f pieces i es all h is = subst (λ ps. merge es (merged (map f ps)) ≡ all) (drop_all i pieces h) is
