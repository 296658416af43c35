-- A run begins with the updates by the initial values that a checked program keeps.
use Rattle.std.proofs.Common.{◌≡◌, ℕ, suc, ◌+◌, ◌*◌, ◌/◌, ◌-◌, ◌<◌, ◌≤◌, ℤ, Bool, true, false, not, ◌&&◌, ◌==◌, List, [], ◌∷◌, ◌++◌, map, take, drop, length, Some, slice_get, refl, ap, sym, subst, ◌∙◌, append_assoc, drop-drop, length-append, length-drop, arith}
use Rattle.std.proofs.lemmas.List.{append-nil}
use Rattle.std.proofs.lemmas.Nat.{div-add-mod'}
use Rattle.std.specs.List.{AllByRecursion}
use Rattle.std.specs.Prelude.{◌%◌}
use Rattle.monoid_laws.specs.declared.Kind.{Kind}
use Rattle.monoid_laws.specs.declared.Kind.TheVariants as k
use Rattle.monoid_laws.specs.declared.Table.{Table}
use Rattle.monoid_laws.specs.Kinds.{arity, names_element, element_of}
use Rattle.meaning.specs.declared.tree.Declaration.{Declaration}
use Rattle.meaning.specs.declared.tree.Declaration.TheVariants as d
use Rattle.meaning.specs.declared.tree.Program.{Program}
use Rattle.meaning.specs.Tree.{Red, Tree}
use Rattle.meaning.specs.TreeView.{decl, lined, tree, proc, red, block_lines}
use Rattle.meaning.specs.Outcome.{Log, Updates}
use Rattle.meaning.specs.Tables.{is_there}
use Rattle.meaning.specs.Statements.{reducers, in_pairs, in_groups, updates_by, initial_updates, beginning}
use Rattle.linked_program.specs.declared.violation.Rule.TheVariants.{Monoid, Twice, Initial}
use Rattle.linked_program.specs.Violations.{at, when}
use Rattle.linked_program.specs.TableNames.{Columned}
use Rattle.linked_program.specs.Monoids.{is_monoid_kind}
use Rattle.linked_program.specs.Rules.{reducer_of}
use Rattle.linked_program.specs.Initials.{all_elements, are_elements, is_initial, PlainInitial, initials_by, initials_from, initials_of, IsUpdateBy, AreUpdatesBy}
use Rattle.linked_program.specs.Linked.{kinds_of}
use Rattle.linked_program.specs.Declarations.{IsClean, reducer_rules, procedure_rules, proc_violations, decls_violations, missing_main}
use Rattle.linked_program.proofs.Quiet.{nil_left, nil_right, no_rules, no_when}

-- ---- pairs

-- two numbers, and those behind them
pairs_next : (ys : List ℤ) → 1 < length ys → in_pairs ys ≡ take 2 ys ∷ in_pairs (drop 2 ys)
pairs_next [] lt = absurd (omega (arith, lt))
pairs_next (a ∷ []) lt = absurd (omega (arith, lt))
pairs_next (a ∷ b ∷ ys) lt = refl

few_pairs : (xs : List ℤ) → length xs ≤ 1 → in_pairs xs ≡ []
few_pairs [] h = refl
few_pairs (a ∷ []) h = refl
few_pairs (a ∷ b ∷ xs) h = absurd (omega (arith, h))

no_pairs : (xs : List ℤ) (i : ℕ) → length xs ≤ i + 1 → in_pairs (drop i xs) ≡ []
no_pairs xs i h = few_pairs (drop i xs) (omega (arith, h, length-drop i xs))

-- one pair more
pub pair_put : (n : ℕ) (xs : List ℤ) (i : ℕ) (before new all : List PlainInitial) → i < length xs / 2 → before ++ initials_by n (in_pairs (drop (2 * i) xs)) ≡ all
    → new ≡ before ++ initials_by n (take (2 * i + 2 - 2 * i) (drop (2 * i) xs) ∷ []) → new ++ initials_by n (in_pairs (drop (2 * (i + 1)) xs)) ≡ all
pair_put n xs i before new all lt so_far e =
    let ys = drop (2 * i) xs in
    let h : 1 < length ys = omega (arith, lt, length-drop (2 * i) xs, div-add-mod' (length xs) 2) in
    let two : 2 * i + 2 - 2 * i ≡ 2 = omega arith in
    let m : 2 * i + 2 ≡ 2 * (i + 1) = omega arith in
    let p : in_pairs ys ≡ take 2 ys ∷ in_pairs (drop (2 * (i + 1)) xs) = pairs_next ys h ∙ ap (λ (zs : List ℤ). take 2 ys ∷ in_pairs zs) (drop-drop 2 (2 * i) xs ∙ ap (λ (j : ℕ). drop j xs) m) in
    let put : new ≡ before ++ initials_by n (take 2 ys ∷ []) = e ∙ ap (λ (j : ℕ). before ++ initials_by n (take j ys ∷ [])) two in
    ap (λ (w : List PlainInitial). w ++ initials_by n (in_pairs (drop (2 * (i + 1)) xs))) put
    ∙ append_assoc before (initials_by n (take 2 ys ∷ [])) (initials_by n (in_pairs (drop (2 * (i + 1)) xs)))
    ∙ ap (λ (w : List (List ℤ)). before ++ initials_by n w) (sym p)
    ∙ so_far

pub pairs_over : (n : ℕ) (xs : List ℤ) (i : ℕ) (before all : List PlainInitial) → length xs / 2 ≤ i → before ++ initials_by n (in_pairs (drop (2 * i) xs)) ≡ all → before ≡ all
pairs_over n xs i before all le so_far =
    let none : in_pairs (drop (2 * i) xs) ≡ [] = no_pairs xs (2 * i) (omega (arith, le, div-add-mod' (length xs) 2)) in
    sym (append-nil before) ∙ ap (λ (w : List (List ℤ)). before ++ initials_by n w) (sym none) ∙ so_far

-- ---- what the rules say of initial values

is_true : (b : Bool) → not b ≡ false → b ≡ true
is_true true e = refl
is_true false e = cc

left_true : (b c : Bool) → (b && c) ≡ true → b ≡ true
left_true true c e = refl
left_true false c e = e

right_true : (b c : Bool) → (b && c) ≡ true → c ≡ true
right_true true c e = e
right_true false c e = cc

abbrev Begins : Red → Type 0
Begins r = are_elements r.kind r.initial ≡ true

begins_of : (t : Tree) (ts : List Columned) (n : ℕ) (ds : List Declaration) → decls_violations t ts n (map decl ds) (map lined ds) ≡ [] → AllByRecursion Begins (reducers (map decl ds))
begins_of t ts n [] v = tt
begins_of t ts n (d.Reducer r ∷ ds) v =
    let twice = when (is_there (reducer_of (reducers (take n t)) (red r).called)) Twice in
    let monoid = when (not (is_monoid_kind r.kind)) Monoid in
    let first = when (not (is_initial r.kind r.initial.items)) Initial in
    let here = at (n + 1) r.line (reducer_rules (take n t) (red r)) in
    let more = decls_violations t ts (n + 1) (map decl ds) (map lined ds) in
    let rules = no_rules (n + 1) r.line (reducer_rules (take n t) (red r)) (nil_left here more v) in
    let initial = is_true (is_initial r.kind r.initial.items) (no_when (not (is_initial r.kind r.initial.items)) Initial (nil_right monoid first (nil_right twice (monoid ++ first) rules))) in
    (right_true (length r.initial.items % arity r.kind == 0) (are_elements r.kind r.initial.items) initial, begins_of t ts (n + 1) ds (nil_right here more v))
begins_of t ts n (d.Procedure q ∷ ds) v =
    begins_of t ts (n + 1) ds
    (nil_right (at (n + 1) q.line (procedure_rules (take n t) (proc q)) ++ proc_violations t ts (n + 1) (proc q) (block_lines q.blocks.items)) (decls_violations t ts (n + 1) (map decl ds) (map lined ds)) v)

clean_begins : (ts : List Columned) (p : Program) → IsClean ts p → AllByRecursion Begins (reducers (tree p))
clean_begins ts p clean =
    let ds = p.declarations.items in
    begins_of (tree p) ts 0 ds (nil_right (missing_main (tree p)) (decls_violations (tree p) ts 0 (map decl ds) (map lined ds)) clean)

-- ---- groups

-- as many numbers as an update takes, which name an element
abbrev IsGroup : Kind → List ℤ → Type 0
IsGroup kind vs = (length vs ≡ arity kind) × (names_element kind vs ≡ true)

elements : (t : Table) (vs : List ℤ) → all_elements t vs ≡ true → AllByRecursion (IsGroup (k.Table t)) (map (λ v. v ∷ []) vs)
elements t [] e = tt
elements t (v ∷ vs) e =
    ((refl, left_true (names_element (k.Table t) (v ∷ [])) (all_elements t vs) e), elements t vs (right_true (names_element (k.Table t) (v ∷ [])) (all_elements t vs) e))

singles : (kind : Kind) → arity kind ≡ 1 → ((vs : List ℤ) → names_element kind vs ≡ true) → (vs : List ℤ) → AllByRecursion (IsGroup kind) (map (λ v. v ∷ []) vs)
singles kind one named [] = tt
singles kind one named (v ∷ vs) = ((sym one, named (v ∷ [])), singles kind one named vs)

pairs : (kind : Kind) → arity kind ≡ 2 → ((vs : List ℤ) → names_element kind vs ≡ true) → (vs : List ℤ) → AllByRecursion (IsGroup kind) (in_pairs vs)
pairs kind two named [] = tt
pairs kind two named (a ∷ []) = tt
pairs kind two named (a ∷ b ∷ vs) = ((sym two, named (a ∷ b ∷ [])), pairs kind two named vs)

groups : (kind : Kind) (vs : List ℤ) → are_elements kind vs ≡ true → AllByRecursion (IsGroup kind) (in_groups kind vs)
groups k.Add vs e = singles k.Add refl (λ vs. refl) vs
groups k.Mul vs e = singles k.Mul refl (λ vs. refl) vs
groups k.Min vs e = singles k.Min refl (λ vs. refl) vs
groups k.Max vs e = singles k.Max refl (λ vs. refl) vs
groups k.And vs e = singles k.And refl (λ vs. refl) vs
groups k.Or vs e = singles k.Or refl (λ vs. refl) vs
groups k.Xor vs e = singles k.Xor refl (λ vs. refl) vs
groups k.List vs e = singles k.List refl (λ vs. refl) vs
groups (k.First n) vs e = singles (k.First n) refl (λ vs. refl) vs
groups (k.Last n) vs e = singles (k.Last n) refl (λ vs. refl) vs
groups k.Argmax vs e = pairs k.Argmax refl (λ vs. refl) vs
groups k.Affine vs e = pairs k.Affine refl (λ vs. refl) vs
groups k.Hist vs e = pairs k.Hist refl (λ vs. refl) vs
groups (k.Table t) vs e = elements t vs e

-- ---- the updates

group_updates : (kinds : List Kind) (n : ℕ) (kind : Kind) → slice_get kinds n ≡ Some kind → (vss : List (List ℤ)) → AllByRecursion (IsGroup kind) vss → AreUpdatesBy kinds (initials_by n vss) (updates_by n kind vss)
group_updates kinds n kind there [] h = tt
group_updates kinds n kind there (vs ∷ vss) h =
    let one : IsUpdateBy kinds (record { reducer = n; numbers = vs }) (Updates n kind (element_of kind vs)) = record { kind = kind; there = there; count = h.0.0; named = h.0.1; is = refl } in
    rw h.0.1 (one, group_updates kinds n kind there vss h.1)

joined_updates : (kinds : List Kind) (is js : List PlainInitial) (es fs : Log) → AreUpdatesBy kinds is es → AreUpdatesBy kinds js fs → AreUpdatesBy kinds (is ++ js) (es ++ fs)
joined_updates kinds [] js [] fs h g = g
joined_updates kinds (i ∷ is) js (e ∷ es) fs h g = (h.0, joined_updates kinds is js es fs h.1 g)
joined_updates kinds [] js (e ∷ es) fs h g = absurd h
joined_updates kinds (i ∷ is) js [] fs h g = absurd h

at_front : (front : List Kind) (kind : Kind) (rest : List Kind) → slice_get (front ++ kind ∷ rest) (length front) ≡ Some kind
at_front [] kind rest = refl
at_front (x ∷ front) kind rest = at_front front kind rest

updates_from : (front : List Kind) (rs : List Red) → AllByRecursion Begins rs → AreUpdatesBy (front ++ map (λ r. r.kind) rs) (initials_from (length front) rs) (initial_updates (length front) rs)
updates_from front [] h = tt
updates_from front (r ∷ rs) h =
    let kinds = front ++ r.kind ∷ map (λ r. r.kind) rs in
    let same : (front ++ r.kind ∷ []) ++ map (λ r. r.kind) rs ≡ kinds = append_assoc front (r.kind ∷ []) (map (λ r. r.kind) rs) in
    let count : length (front ++ r.kind ∷ []) ≡ suc (length front) = omega (arith, length-append front (r.kind ∷ [])) in
    let more = updates_from (front ++ r.kind ∷ []) rs h.1 in
    let rest : AreUpdatesBy kinds (initials_from (suc (length front)) rs) (initial_updates (suc (length front)) rs) =
    subst (λ n. AreUpdatesBy kinds (initials_from n rs) (initial_updates n rs)) count (subst (λ ks. AreUpdatesBy ks (initials_from (length (front ++ r.kind ∷ [])) rs) (initial_updates (length (front ++ r.kind ∷ [])) rs)) same more) in
    joined_updates kinds (initials_by (length front) (in_groups r.kind r.initial)) (initials_from (suc (length front)) rs) (updates_by (length front) r.kind (in_groups r.kind r.initial)) (initial_updates (suc (length front)) rs)
    (group_updates kinds (length front) r.kind (at_front front r.kind (map (λ r. r.kind) rs)) (in_groups r.kind r.initial) (groups r.kind r.initial h.0)) rest

pub begun : (ts : List Columned) (p : Program) (kinds : List Kind) (initials : List PlainInitial) → IsClean ts p → kinds ≡ kinds_of (tree p) → initials ≡ initials_of (tree p) → AreUpdatesBy kinds initials (beginning (tree p))
begun ts p kinds initials clean e f = rw (e, f) (updates_from [] (reducers (tree p)) (clean_begins ts p clean))
