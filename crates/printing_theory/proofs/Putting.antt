-- What a program has when a procedure is put into it.
use Rattle.std.proofs.Common.{◌≡◌, ℕ, zero, suc, ◌+◌, ◌≤◌, Bool, true, false, cond, [], ◌∷◌, ◌++◌, Option, Some, None, refl, sym, ap, subst, ◌∙◌, arith, inl, inr, ◌⊎◌}
use Rattle.std.specs.Prelude.{insert, slice_set, bytes_eq}
use Rattle.std.proofs.lemmas.Slice.Eq.{bytes_eq-Decides}
use Rattle.meaning.specs.Tree.{Name, Proc, Decl, reducer, procedure, Tree}
use Rattle.source_tree.specs.Lowering.{lowered_tree}
use Rattle.program_edits.specs.Putting.{is_procedure, last_place, Spot, Last, Over, Behind, spot_of, put_at}
use Rattle.printing_theory.specs.Again.{IsOfSome, AllOfSome, reducer_count, procedure_count}

pub on_bool : (b : Bool) → (b ≡ true) ⊎ (b ≡ false)
on_bool true = inl refl
on_bool false = inr refl

pub on_option : {A : Type 0} (o : Option A) → (o ≡ None) ⊎ ((x : A) × (o ≡ Some x))
on_option None = inl refl
on_option (Some x) = inr (x, refl)

-- a program with a procedure put in
abbrev pub put_in : Bool → Proc → Tree → Tree
put_in again p t = put_at (spot_of again (last_place 0 None p.called t)) (procedure p) t

-- ---- declarations of some text

some_last : (t : Tree) (x : Decl) → IsOfSome x → AllOfSome t → AllOfSome (t ++ x ∷ [])
some_last [] x o a = (o, tt)
some_last (d ∷ t) x o a = (a.0, some_last t x o a.1)

some_over : (t : Tree) (n : ℕ) (x : Decl) → IsOfSome x → AllOfSome t → AllOfSome (slice_set t n x)
some_over [] n x o a = tt
some_over (d ∷ t) zero x o a = (o, a.1)
some_over (d ∷ t) (suc n) x o a = (a.0, some_over t n x o a.1)

some_behind : (t : Tree) (n : ℕ) (x : Decl) → IsOfSome x → AllOfSome t → AllOfSome (insert t n x)
some_behind [] zero x o a = (o, tt)
some_behind [] (suc n) x o a = (o, tt)
some_behind (d ∷ t) zero x o a = (o, a)
some_behind (d ∷ t) (suc n) x o a = (a.0, some_behind t n x o a.1)

pub some_put : (s : Spot) (t : Tree) (x : Decl) → IsOfSome x → AllOfSome t → AllOfSome (put_at s x t)
some_put Last t x o a = some_last t x o a
some_put (Over n) t x o a = some_over t n x o a
some_put (Behind n) t x o a = some_behind t (n + 1) x o a

-- ---- how many there are

-- no more reducers, and at most one procedure more
abbrev pub Grown : Tree → Tree → Type 0
Grown t u = (reducer_count (lowered_tree u) ≤ reducer_count (lowered_tree t)) × (procedure_count (lowered_tree u) ≤ suc (procedure_count (lowered_tree t)))

grown_behind : (d : Decl) (t u : Tree) → Grown t u → Grown (d ∷ t) (d ∷ u)
grown_behind (reducer r) t u g = (omega (arith, g.0), g.1)
grown_behind (procedure p) t u g = (g.0, omega (arith, g.1))

one_more : (t : Tree) (p : Proc) → Grown t (procedure p ∷ t)
one_more t p = (omega arith, omega arith)

last_grows : (t : Tree) (p : Proc) → Grown t (t ++ procedure p ∷ [])
last_grows [] p = one_more [] p
last_grows (d ∷ t) p = grown_behind d t (t ++ procedure p ∷ []) (last_grows t p)

over_grows : (t : Tree) (n : ℕ) (p : Proc) → Grown t (slice_set t n (procedure p))
over_grows [] n p = (omega arith, omega arith)
over_grows (reducer r ∷ t) zero p = (omega arith, omega arith)
over_grows (procedure q ∷ t) zero p = (omega arith, omega arith)
over_grows (d ∷ t) (suc n) p = grown_behind d t (slice_set t n (procedure p)) (over_grows t n p)

behind_grows : (t : Tree) (n : ℕ) (p : Proc) → Grown t (insert t n (procedure p))
behind_grows [] zero p = one_more [] p
behind_grows [] (suc n) p = one_more [] p
behind_grows (d ∷ t) zero p = one_more (d ∷ t) p
behind_grows (d ∷ t) (suc n) p = grown_behind d t (insert t n (procedure p)) (behind_grows t n p)

pub put_grows : (s : Spot) (t : Tree) (p : Proc) → Grown t (put_at s (procedure p) t)
put_grows Last t p = last_grows t p
put_grows (Over n) t p = over_grows t n p
put_grows (Behind n) t p = behind_grows t (n + 1) p

-- ---- the place of a name

-- a procedure of this name is at this place
abbrev IsThere : Name → ℕ → Tree → Type 0
IsThere f n [] = ⊥
IsThere f zero (d ∷ t) = is_procedure f d ≡ true
IsThere f (suc n) (d ∷ t) = IsThere f n t

-- there is a procedure of this name
abbrev pub Has : Name → Tree → Type 0
Has f [] = ⊥
Has f (d ∷ t) = (is_procedure f d ≡ true) ⊎ Has f t

last_found : (k : ℕ) (found : Option ℕ) (f : Name) (t : Tree) (n : ℕ) → last_place k found f t ≡ Some n → (found ≡ Some n) ⊎ ((m : ℕ) × (k + m ≡ n) × IsThere f m t)
last_found k found f [] n e = inl e
last_found k found f (d ∷ t) n e =
    elim (last_found (suc k) (cond (is_procedure f d) (Some k) found) f t n e) [
      | inr (m, q, h) ↦ inr (suc m, omega (arith, q), h)
      | inl q ↦
          elim (on_bool (is_procedure f d)) [
            | inl b ↦
                let g : Some k ≡ Some n = sym (ap (λ (b : Bool). cond b (Some k) found) b) ∙ q in
                let j : k ≡ n = (cc) in
                inr (zero, omega (arith, j), b)
            | inr b ↦ inl (sym (ap (λ (b : Bool). cond b (Some k) found) b) ∙ q)
          ]
    ]

last_there : (f : Name) (t : Tree) (n : ℕ) → last_place 0 None f t ≡ Some n → IsThere f n t
last_there f t n e =
    elim (last_found 0 None f t n e) [
      | inl q ↦ absurd (cc)
      | inr (m, q, h) ↦ let j : m ≡ n = omega (arith, q) in subst (λ (k : ℕ). IsThere f k t) j h
    ]

last_none : (k : ℕ) (found : Option ℕ) (f : Name) (t : Tree) → last_place k found f t ≡ None → (found ≡ None) × (Has f t → ⊥)
last_none k found f [] e = (e, λ h. h)
last_none k found f (d ∷ t) e =
    let i = last_none (suc k) (cond (is_procedure f d) (Some k) found) f t e in
    elim (on_bool (is_procedure f d)) [
      | inl b ↦ let g : Some k ≡ None = sym (ap (λ (b : Bool). cond b (Some k) found) b) ∙ i.0 in absurd (cc)
      | inr b ↦ (
        sym (ap (λ (b : Bool). cond b (Some k) found) b) ∙ i.0,
        λ h. elim h [
          | inl q ↦ let g : true ≡ false = sym q ∙ b in absurd (cc)
          | inr q ↦ i.1 q
        ],
      )
    ]

-- ---- a procedure in the place of one of its name

count_over : (f : Name) (t : Tree) (n : ℕ) (p : Proc) → IsThere f n t → procedure_count (lowered_tree (slice_set t n (procedure p))) ≡ procedure_count (lowered_tree t)
count_over f [] n p i = absurd i
count_over f (reducer r ∷ t) zero p i = let g : false ≡ true = i in absurd (cc)
count_over f (procedure q ∷ t) zero p i = refl
count_over f (reducer r ∷ t) (suc n) p i = count_over f t n p i
count_over f (procedure q ∷ t) (suc n) p i = ap (λ (k : ℕ). suc k) (count_over f t n p i)

pub count_put : (p : Proc) (t : Tree) → Has p.called t → procedure_count (lowered_tree (put_in false p t)) ≡ procedure_count (lowered_tree t)
count_put p t h =
    elim (on_option (last_place 0 None p.called t)) [
      | inl e ↦ absurd ((last_none 0 None p.called t e).1 h)
      | inr (n, e) ↦ subst (λ (o : Option ℕ). procedure_count (lowered_tree (put_at (spot_of false o) (procedure p) t)) ≡ procedure_count (lowered_tree t)) (sym e) (count_over p.called t n p (last_there p.called t n e))
    ]

-- ---- names stay

has_last : (x : Name) (t u : Tree) → Has x t → Has x (t ++ u)
has_last x [] u h = absurd h
has_last x (d ∷ t) u (inl h) = inl h
has_last x (d ∷ t) u (inr h) = inr (has_last x t u h)

has_behind : (x : Name) (t : Tree) (n : ℕ) (d : Decl) → Has x t → Has x (insert t n d)
has_behind x [] n d h = absurd h
has_behind x (e ∷ t) zero d h = inr h
has_behind x (e ∷ t) (suc n) d (inl h) = inl h
has_behind x (e ∷ t) (suc n) d (inr h) = inr (has_behind x t n d h)

same_name : (x : Name) (d : Decl) (p : Proc) → is_procedure p.called d ≡ true → is_procedure x d ≡ true → bytes_eq p.called x ≡ true
same_name x (reducer r) p i h = let g : false ≡ true = i in absurd (cc)
same_name x (procedure q) p i h = (bytes_eq-Decides p.called x).1 (sym ((bytes_eq-Decides q.called p.called).0 i) ∙ (bytes_eq-Decides q.called x).0 h)

has_over : (x : Name) (t : Tree) (n : ℕ) (p : Proc) → IsThere p.called n t → Has x t → Has x (slice_set t n (procedure p))
has_over x [] n p i h = absurd h
has_over x (d ∷ t) zero p i (inl h) = inl (same_name x d p i h)
has_over x (d ∷ t) zero p i (inr h) = inr h
has_over x (d ∷ t) (suc n) p i (inl h) = inl h
has_over x (d ∷ t) (suc n) p i (inr h) = inr (has_over x t n p i h)

has_at : (again : Bool) (x : Name) (t : Tree) (n : ℕ) (p : Proc) → IsThere p.called n t → Has x t → Has x (put_at (spot_of again (Some n)) (procedure p) t)
has_at true x t n p i h = has_behind x t (n + 1) (procedure p) h
has_at false x t n p i h = has_over x t n p i h

pub has_put : (again : Bool) (p : Proc) (t : Tree) (x : Name) → Has x t → Has x (put_in again p t)
has_put again p t x h =
    elim (on_option (last_place 0 None p.called t)) [
      | inl e ↦ subst (λ (o : Option ℕ). Has x (put_at (spot_of again o) (procedure p) t)) (sym e) (has_last x t (procedure p ∷ []) h)
      | inr (n, e) ↦ subst (λ (o : Option ℕ). Has x (put_at (spot_of again o) (procedure p) t)) (sym e) (has_at again x t n p (last_there p.called t n e) h)
    ]
