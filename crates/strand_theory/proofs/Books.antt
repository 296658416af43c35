-- The list of strands by places that differ.
use Rattle.std.proofs.Common.{ℕ, List, [], ◌∷◌, ◌++◌, map, Option, Some, None, ◌≡◌, refl, sym, ap, ◌∙◌, subst, true, false, Bool, cond, bytes_eq}
use Rattle.std.proofs.lemmas.Slice.Eq.{bytes_eq-Decides}
use Rattle.meaning.specs.Outcome.{Place}
use Rattle.meaning.specs.Strands.{State, Held, Line, BookStep, Book, is_held, done, waits, state_of, is_held_at, becomes, splits, may_fold, folds, stepped, replayed_on}
use Rattle.trail_theory.specs.Order.{Every}
use Rattle.strand_theory.proofs.Names.{or_right}

pub same_bytes : (n : Place) → bytes_eq n n ≡ true
same_bytes n = (bytes_eq-Decides n n).1 refl

pub other_bytes : (m n : Place) → (m ≡ n → ⊥) → bytes_eq m n ≡ false
other_bytes m n d = by (bytes_eq m n) refl
  where
    by : (b : Bool) → bytes_eq m n ≡ b → b ≡ false
    by true e = absurd (d ((bytes_eq-Decides m n).0 e))
    by false e = refl

-- no line is at that place
abbrev pub NoneAt : Place → List Line → Type 0
NoneAt n ls = Every (λ l. bytes_eq l.0 n ≡ false) ls

pub state_at : (before : List Line) (n : Place) (s : State) (later : List Line) → NoneAt n before → state_of (before ++ (n, s) ∷ later) n ≡ Some s
state_at [] n s later h = ap (λ b. cond b (Some s) (state_of later n)) (same_bytes n)
state_at ((q, t) ∷ before) n s later h = ap (λ b. cond b (Some t) (state_of (before ++ (n, s) ∷ later) n)) h.0 ∙ state_at before n s later h.1

pub held_at : (before : List Line) (n : Place) (s : State) (later : List Line) → NoneAt n before → is_held s ≡ true → is_held_at (before ++ (n, s) ∷ later) n ≡ true
held_at before n s later h e = subst (λ o. (elim o [ None ↦ false | Some s ↦ is_held s ]) ≡ true) (sym (state_at before n s later h)) e

pub becomes_at : (s' : State) (before : List Line) (n : Place) (s : State) (later : List Line) → NoneAt n before → becomes s' (before ++ (n, s) ∷ later) n ≡ before ++ (n, s') ∷ later
becomes_at s' [] n s later h = ap (λ b. cond b ((n, s') ∷ later) ((n, s) ∷ becomes s' later n)) (same_bytes n)
becomes_at s' ((q, t) ∷ before) n s later h =
    ap (λ b. cond b ((q, s') ∷ (before ++ (n, s) ∷ later)) ((q, t) ∷ becomes s' (before ++ (n, s) ∷ later) n)) h.0 ∙ ap (λ l. (q, t) ∷ l) (becomes_at s' before n s later h.1)

pub splits_at : (n : Place) (w : ℕ) (before : List Line) (v : Place) (s : State) (later : List Line) → NoneAt v before → splits (before ++ (v, s) ∷ later) v n w ≡ before ++ (v, s) ∷ (n, Held w) ∷ later
splits_at n w [] v s later h = ap (λ b. cond b ((v, s) ∷ (n, Held w) ∷ later) ((v, s) ∷ splits later v n w)) (same_bytes v)
splits_at n w ((q, t) ∷ before) v s later h =
    ap (λ b. cond b ((q, t) ∷ (n, Held w) ∷ (before ++ (v, s) ∷ later)) ((q, t) ∷ splits (before ++ (v, s) ∷ later) v n w)) h.0 ∙ ap (λ l. (q, t) ∷ l) (splits_at n w before v s later h.1)

folds_none : (l r : Place) (w : ℕ) (ls : List Line) → NoneAt l ls → NoneAt r ls → folds ls l r w ≡ ls
folds_none l r w [] h k = refl
folds_none l r w ((q, t) ∷ ls) h k =
    ap (λ b. cond b (folds ls l r w) (cond (bytes_eq q l) ((q, Held w) ∷ folds ls l r w) ((q, t) ∷ folds ls l r w))) k.0
    ∙ ap (λ b. cond b ((q, Held w) ∷ folds ls l r w) ((q, t) ∷ folds ls l r w)) h.0
    ∙ ap (λ u. (q, t) ∷ u) (folds_none l r w ls h.1 k.1)

pub folds_at : (l r : Place) (w : ℕ) (s t : State) (before later : List Line) → bytes_eq l r ≡ false → NoneAt l before → NoneAt r before → NoneAt l later → NoneAt r later → folds (before ++ (l, s) ∷ (r, t) ∷ later) l r w ≡ before ++ (l, Held w) ∷ later
folds_at l r w s t [] later d a b c e =
    let rest = cond (bytes_eq r r) (folds later l r w) (cond (bytes_eq r l) ((r, Held w) ∷ folds later l r w) ((r, t) ∷ folds later l r w)) in
    ap (λ x. cond x rest (cond (bytes_eq l l) ((l, Held w) ∷ rest) ((l, s) ∷ rest))) d
    ∙ ap (λ x. cond x ((l, Held w) ∷ rest) ((l, s) ∷ rest)) (same_bytes l)
    ∙ ap (λ x. (l, Held w) ∷ cond x (folds later l r w) (cond (bytes_eq r l) ((r, Held w) ∷ folds later l r w) ((r, t) ∷ folds later l r w))) (same_bytes r)
    ∙ ap (λ u. (l, Held w) ∷ u) (folds_none l r w later c e)
folds_at l r w s t ((q, u) ∷ before) later d a b c e =
    let ls = before ++ (l, s) ∷ (r, t) ∷ later in
    ap (λ x. cond x (folds ls l r w) (cond (bytes_eq q l) ((q, Held w) ∷ folds ls l r w) ((q, u) ∷ folds ls l r w))) b.0
    ∙ ap (λ x. cond x ((q, Held w) ∷ folds ls l r w) ((q, u) ∷ folds ls l r w)) a.0
    ∙ ap (λ x. (q, u) ∷ x) (folds_at l r w s t before later d a.1 b.1 c e)

pub may_fold_at : (l r : Place) (s t : State) (before later : List Line) → done s ≡ true → waits t ≡ true → may_fold (before ++ (l, s) ∷ (r, t) ∷ later) l r ≡ true
may_fold_at l r s t [] later d e = rw (same_bytes l, same_bytes r, d, e)
may_fold_at l r s t ((q, u) ∷ []) later d e = or_right _ _ (may_fold_at l r s t [] later d e)
may_fold_at l r s t ((q, u) ∷ (q', u') ∷ before) later d e = or_right _ _ (may_fold_at l r s t ((q', u') ∷ before) later d e)

pub replayed_append : (o : Option Book) (h g : List BookStep) → replayed_on o (h ++ g) ≡ replayed_on (replayed_on o h) g
replayed_append None h g = refl
replayed_append (Some b) [] g = refl
replayed_append (Some b) (s ∷ h) g = replayed_append (stepped b s) h g

pub map_append : {A B : Type 0} (f : A → B) (a b : List A) → map f (a ++ b) ≡ map f a ++ map f b
map_append f [] b = refl
map_append f (x ∷ a) b = ap (λ l. f x ∷ l) (map_append f a b)
