-- In the list that a legal history leaves no two lines are at one place.
use Rattle.std.proofs.Common.{◌≡◌, ◌⊎◌, inl, inr, ℕ, Bool, true, false, cond, not, ◌&&◌, List, [], ◌∷◌, Option, Some, None, refl, sym, ap, ◌∙◌, subst, bytes_eq}
use Rattle.linked_program.proofs.Named.{bytes_turned}
use Rattle.meaning.specs.Outcome.{Place}
use Rattle.meaning.specs.Strands.{State, Held, Ended, Stalled, Faulted, Finished, Line, BookStep, Split, End, Stall, Fault, Finish, Fold, Book, is_free, is_held_at, is_root, is_alone, may_fold, becomes, splits, folds, if_allowed, stepped, first_book, replayed, replayed_on}
use Rattle.trail_theory.specs.Order.{Every}
use Rattle.strand_theory.proofs.Books.{NoneAt, same_bytes, other_bytes}
use Rattle.strand_list.specs.Pages.{Apart}
use Rattle.strand_lines.specs.Lines.{is_unused}

-- each line is the first one, or was split off
abbrev pub Known : List Place → List Line → Type 0
Known used ls = Every (λ l. (l.0 ≡ []) ⊎ (is_unused l.0 used ≡ false)) ls

pub record IsTidy (b : Book) : Type 0 where
  pub apart : Apart b.lines
  pub known : Known b.split_off b.lines

either : (P : List Line → Type 0) (b : Bool) (x y : List Line) → P x → P y → P (cond b x y)
either P true x y g h = g
either P false x y g h = h

-- ---- a line in another state

every_becomes : (P : Place → Type 0) (s : State) (p : Place) (ls : List Line) → Every (λ l. P l.0) ls → Every (λ l. P l.0) (becomes s ls p)
every_becomes P s p [] h = tt
every_becomes P s p ((q, t) ∷ ls) h = either (Every (λ l. P l.0)) (bytes_eq q p) ((q, s) ∷ ls) ((q, t) ∷ becomes s ls p) h (h.0, every_becomes P s p ls h.1)

apart_becomes : (s : State) (p : Place) (ls : List Line) → Apart ls → Apart (becomes s ls p)
apart_becomes s p [] h = tt
apart_becomes s p ((q, t) ∷ ls) h = either Apart (bytes_eq q p) ((q, s) ∷ ls) ((q, t) ∷ becomes s ls p) h (every_becomes (λ m. bytes_eq m q ≡ false) s p ls h.0, apart_becomes s p ls h.1)

-- ---- a fold

every_folds : (P : Place → Type 0) (l r : Place) (w : ℕ) (ls : List Line) → Every (λ l. P l.0) ls → Every (λ l. P l.0) (folds ls l r w)
every_folds P l r w [] h = tt
every_folds P l r w ((q, t) ∷ ls) h =
    let i = every_folds P l r w ls h.1 in
    let rest = folds ls l r w in
    either (Every (λ l. P l.0)) (bytes_eq q r) rest (cond (bytes_eq q l) ((q, Held w) ∷ rest) ((q, t) ∷ rest)) i (either (Every (λ l. P l.0)) (bytes_eq q l) ((q, Held w) ∷ rest) ((q, t) ∷ rest) (h.0, i) (h.0, i))

apart_folds : (l r : Place) (w : ℕ) (ls : List Line) → Apart ls → Apart (folds ls l r w)
apart_folds l r w [] h = tt
apart_folds l r w ((q, t) ∷ ls) h =
    let i = apart_folds l r w ls h.1 in
    let j = every_folds (λ m. bytes_eq m q ≡ false) l r w ls h.0 in
    let rest = folds ls l r w in
    either Apart (bytes_eq q r) rest (cond (bytes_eq q l) ((q, Held w) ∷ rest) ((q, t) ∷ rest)) i (either Apart (bytes_eq q l) ((q, Held w) ∷ rest) ((q, t) ∷ rest) (j, i) (j, i))

-- ---- a split

every_splits : (P : Place → Type 0) (v n : Place) (w : ℕ) (ls : List Line) → P n → Every (λ l. P l.0) ls → Every (λ l. P l.0) (splits ls v n w)
every_splits P v n w [] g h = tt
every_splits P v n w ((q, t) ∷ ls) g h = either (Every (λ l. P l.0)) (bytes_eq q v) ((q, t) ∷ (n, Held w) ∷ ls) ((q, t) ∷ splits ls v n w) (h.0, (g, h.1)) (h.0, every_splits P v n w ls g h.1)

apart_splits : (v n : Place) (w : ℕ) (ls : List Line) → NoneAt n ls → Apart ls → Apart (splits ls v n w)
apart_splits v n w [] g h = tt
apart_splits v n w ((q, t) ∷ ls) g h =
    let e : bytes_eq n q ≡ false = bytes_turned n q ∙ g.0 in
    either Apart (bytes_eq q v) ((q, t) ∷ (n, Held w) ∷ ls) ((q, t) ∷ splits ls v n w) ((e, h.0), (g.1, h.1)) (every_splits (λ m. bytes_eq m q ≡ false) v n w ls e h.0, apart_splits v n w ls g.1 h.1)

and_false : (b c : Bool) → c ≡ false → (b && c) ≡ false
and_false true c e = e
and_false false c e = refl

known_more : (n : Place) (used : List Place) (ls : List Line) → Known used ls → Known (n ∷ used) ls
known_more n used [] h = tt
known_more n used (l ∷ ls) h = (elim h.0 [ inl e ↦ inl e | inr u ↦ inr (and_false (not (bytes_eq n l.0)) (is_unused l.0 used) u) ], known_more n used ls h.1)

root_no : (n : Place) → is_root n ≡ false → [] ≡ n → ⊥
root_no [] e f = cc
root_no (a ∷ n) e f = cc

fresh_line : (n : Place) (used : List Place) (l : Line) → is_root n ≡ false → is_unused n used ≡ true → (l.0 ≡ []) ⊎ (is_unused l.0 used ≡ false) → l.0 ≡ n → ⊥
fresh_line n used l r u (inl e) f = root_no n r (sym e ∙ f)
fresh_line n used l r u (inr e) f = let g : is_unused n used ≡ false = ap (λ p. is_unused p used) (sym f) ∙ e in cc

fresh : (n : Place) (used : List Place) (ls : List Line) → is_root n ≡ false → is_unused n used ≡ true → Known used ls → NoneAt n ls
fresh n used [] r u h = tt
fresh n used (l ∷ ls) r u h = (other_bytes l.0 n (fresh_line n used l r u h.0), fresh n used ls r u h.1)

used_now : (n : Place) (used : List Place) → is_unused n (n ∷ used) ≡ false
used_now n used = ap (λ b. not b && is_unused n used) (same_bytes n)

split_tidy : (b : Book) (v n : Place) (w : ℕ) → is_root n ≡ false → is_unused n b.split_off ≡ true → IsTidy b → IsTidy (record { lines = splits b.lines v n w; split_off = n ∷ b.split_off })
split_tidy b v n w r u t = record {
  apart = apart_splits v n w b.lines (fresh n b.split_off b.lines r u t.known) t.apart;
  known = every_splits (λ p. (p ≡ []) ⊎ (is_unused p (n ∷ b.split_off) ≡ false)) v n w b.lines (inr (used_now n b.split_off)) (known_more n b.split_off b.lines t.known);
}

-- ---- a step, and a history

allowed : (g : Bool) (ls : List Line) (used : List Place) (c : Book) → (g ≡ true → IsTidy (record { lines = ls; split_off = used })) → if_allowed g ls used ≡ Some c → IsTidy c
allowed true ls used c h e = subst IsTidy (let q : record { lines = ls; split_off = used } ≡ c = cc in q) (h refl)
allowed false ls used c h e = absurd cc

four : (a b c d : Bool) → (a && b && c && d) ≡ true → (b ≡ true) × (c ≡ true)
four true true true d e = (refl, refl)
four true true false d e = absurd cc
four true false c d e = absurd cc
four false b c d e = absurd cc

not_true : (b : Bool) → not b ≡ true → b ≡ false
not_true true e = absurd cc
not_true false e = refl

becomes_tidy : (s : State) (p : Place) (b : Book) → IsTidy b → IsTidy (record { lines = becomes s b.lines p; split_off = b.split_off })
becomes_tidy s p b t = record {
  apart = apart_becomes s p b.lines t.apart;
  known = every_becomes (λ p. (p ≡ []) ⊎ (is_unused p b.split_off ≡ false)) s p b.lines t.known;
}

pub stepped_tidy : (b c : Book) (s : BookStep) → IsTidy b → stepped b s ≡ Some c → IsTidy c
stepped_tidy b c (Split v n w) t e =
    let g = is_held_at b.lines v && not (is_root n) && is_unused n b.split_off && is_free b.lines w in
    allowed g (splits b.lines v n w) (n ∷ b.split_off) c
    (λ i. let f = four (is_held_at b.lines v) (not (is_root n)) (is_unused n b.split_off) (is_free b.lines w) i in split_tidy b v n w (not_true (is_root n) f.0) f.1 t) e
stepped_tidy b c (End p) t e = allowed (is_held_at b.lines p) (becomes Ended b.lines p) b.split_off c (λ i. becomes_tidy Ended p b t) e
stepped_tidy b c (Fault p) t e = allowed (is_held_at b.lines p) (becomes Faulted b.lines p) b.split_off c (λ i. becomes_tidy Faulted p b t) e
stepped_tidy b c (Stall p) t e = allowed (is_held_at b.lines p && not (is_root p)) (becomes Stalled b.lines p) b.split_off c (λ i. becomes_tidy Stalled p b t) e
stepped_tidy b c (Finish p) t e = allowed (is_held_at b.lines p && is_root p && is_alone b.lines) (becomes Finished b.lines p) b.split_off c (λ i. becomes_tidy Finished p b t) e
stepped_tidy b c (Fold l r w) t e = allowed (may_fold b.lines l r && is_free b.lines w) (folds b.lines l r w) b.split_off c (λ i. record {
  apart = apart_folds l r w b.lines t.apart;
  known = every_folds (λ p. (p ≡ []) ⊎ (is_unused p b.split_off ≡ false)) l r w b.lines t.known;
}) e

replayed_on_tidy : (b c : Book) (steps : List BookStep) → IsTidy b → replayed_on (Some b) steps ≡ Some c → IsTidy c
replayed_on_tidy b c [] t e = subst IsTidy (let q : b ≡ c = cc in q) t
replayed_on_tidy b c (s ∷ steps) t e = by (stepped b s) refl e (λ d f g. replayed_on_tidy d c steps (stepped_tidy b d s t f) g)
  where
    by : (o : Option Book) → stepped b s ≡ o → replayed_on o steps ≡ Some c → ((d : Book) → stepped b s ≡ Some d → replayed_on (Some d) steps ≡ Some c → IsTidy c) → IsTidy c
    by None f g r = absurd cc
    by (Some d) f g r = r d f g

pub replayed_apart : (steps : List BookStep) (c : Book) → replayed steps ≡ Some c → Apart c.lines
replayed_apart steps c e = (replayed_on_tidy first_book c steps (record { apart = (tt, tt); known = (inl refl, tt) }) e).apart
