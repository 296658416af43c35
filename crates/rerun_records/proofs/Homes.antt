-- Blocks by numbers, as some are dropped and others added, and the homes of their records.
use Rattle.std.proofs.Common.{◌≡◌, ◌⊎◌, inl, inr, ◌<◌, ◌≤◌, ◌+◌, ℕ, zero, suc, Bool, true, false, true≢false, List, [], ◌∷◌, ◌++◌, Option, Some, None, length, take, refl, sym, ap, ◌∙◌, subst, arith, get_or}
use Rattle.std.proofs.lemmas.Option.{slice_get-get_or}
use Rattle.std.specs.Prelude.{◌||◌, nat_eq, slice_get, slice_set}
use Rattle.std.proofs.lemmas.Bool.Decides.{Decides-eqb}
use Rattle.meaning.specs.Every.{every}
use Rattle.rerun_records.specs.Blocks.{PlainBlock, live_at, Remain, is_place, IsFree, is_number, is_home, AreHoused}
use Rattle.record_theory.proofs.Members.{left_is, right_is, both, every_weaker}

pub false_if : (b : Bool) → (b ≡ true → ⊥) → b ≡ false
false_if true f = absurd (f refl)
false_if false f = refl

same_number : (n : ℕ) → nat_eq n n ≡ true
same_number n = (Decides-eqb n n).1 refl

other_number : (n m : ℕ) → (n ≡ m → ⊥) → nat_eq n m ≡ false
other_number n m d = false_if (nat_eq n m) (λ e. d ((Decides-eqb n m).0 e))

pub or_right : (a b : Bool) → b ≡ true → a || b ≡ true
or_right true b e = refl
or_right false b e = e

left_not : (a b : Bool) → a || b ≡ false → a ≡ false
left_not true b e = absurd (true≢false e)
left_not false b e = refl

right_not : (a b : Bool) → a || b ≡ false → b ≡ false
right_not true b e = absurd (true≢false e)
right_not false b e = e

-- what holds of all places holds of one of them
pub at_place : (q : ℕ → Bool) (ps : List ℕ) (p : ℕ) → every q ps ≡ true → is_place ps p ≡ true → q p ≡ true
at_place q [] p e h = absurd (true≢false (sym h))
at_place q (x ∷ xs) p e h =
    elim (nat_eq p x) as (λ b. nat_eq p x ≡ b → b || is_place xs p ≡ true → q p ≡ true) [
      | true ↦ λ s i. ap q ((Decides-eqb p x).0 s) ∙ left_is (q x) (every q xs) e
      | false ↦ λ s i. at_place q xs p (right_is (q x) (every q xs) e) i
    ] refl h

-- ---- blocks by numbers

pub remain_same : (now before : List (Option PlainBlock)) → now ≡ before → Remain now before
remain_same now before e n b h = subst (λ bs. live_at bs n ≡ Some b) e h

pub remain_then : (now mid before : List (Option PlainBlock)) → Remain now mid → Remain mid before → Remain now before
remain_then now mid before f g n b e = g n b (f n b e)

pub nothing_live : (n : ℕ) (b : PlainBlock) → live_at [] n ≡ Some b → ⊥
nothing_live n b e = cc

pub set_remain : (bs : List (Option PlainBlock)) (i : ℕ) → Remain (slice_set bs i None) bs
set_remain [] i n b e = e
set_remain (x ∷ xs) zero zero b e = absurd cc
set_remain (x ∷ xs) zero (suc n) b e = e
set_remain (x ∷ xs) (suc i) zero b e = e
set_remain (x ∷ xs) (suc i) (suc n) b e = set_remain xs i n b e

pub dropped_remain : (now before : List (Option PlainBlock)) (i : ℕ) → now ≡ slice_set before i None → Remain now before
dropped_remain now before i e = remain_then now (slice_set before i None) before (remain_same now (slice_set before i None) e) (set_remain before i)

pub set_gone : (bs : List (Option PlainBlock)) (i : ℕ) (b : PlainBlock) → live_at (slice_set bs i None) i ≡ Some b → ⊥
set_gone [] i b e = cc
set_gone (x ∷ xs) zero b e = cc
set_gone (x ∷ xs) (suc i) b e = set_gone xs i b e

-- a block that was put in is the one of its number, the others are as they were
pub set_some : (bs : List (Option PlainBlock)) (i n : ℕ) (x b : PlainBlock) → live_at (slice_set bs i (Some x)) n ≡ Some b → ((n ≡ i) × (b ≡ x)) ⊎ (live_at bs n ≡ Some b)
set_some [] i n x b e = inr e
set_some (y ∷ ys) zero zero x b e = inl (refl, cc)
set_some (y ∷ ys) zero (suc n) x b e = inr e
set_some (y ∷ ys) (suc i) zero x b e = inr e
set_some (y ∷ ys) (suc i) (suc n) x b e =
    elim (set_some ys i n x b e) as (λ _. ((suc n ≡ suc i) × (b ≡ x)) ⊎ (live_at ys n ≡ Some b)) [
      | inl h ↦ inl (ap suc h.0, h.1)
      | inr h ↦ inr h
    ]

pub push_remain : (bs : List (Option PlainBlock)) → Remain (bs ++ None ∷ []) bs
push_remain [] zero b e = absurd cc
push_remain [] (suc n) b e = absurd cc
push_remain (x ∷ xs) zero b e = e
push_remain (x ∷ xs) (suc n) b e = push_remain xs n b e

-- ---- homes

pub housed_remain : (homes : List ℕ) (now before : List (Option PlainBlock)) → Remain now before → AreHoused homes before → AreHoused homes now
housed_remain homes now before r h n b e = h n b (r n b e)

pub home_there : (homes : List ℕ) (i home : ℕ) → i < length homes → home ≡ get_or homes i home → slice_get homes i ≡ Some home
home_there homes i home l e = slice_get-get_or homes i home l ∙ ap Some (sym e)

pub home_beyond : (homes : List ℕ) (i : ℕ) → length homes ≤ i → slice_get homes i ≡ None
home_beyond [] i l = refl
home_beyond (h ∷ hs) zero l = absurd (omega (arith, l))
home_beyond (h ∷ hs) (suc i) l = home_beyond hs i (omega (arith, l))

-- the record at a place that has no home is part of no block
pub homeless_free : (homes : List ℕ) (bs : List (Option PlainBlock)) (place : ℕ) → slice_get homes place ≡ None → AreHoused homes bs → IsFree place bs
homeless_free homes bs place none h n b e =
    false_if (is_place b.places place) (λ t. true≢false (sym (at_place (is_home homes n) b.places place (h n b e) t) ∙ ap (is_number n) none))

-- and no more of one that its home's block was dropped of
pub dropped_free : (homes : List ℕ) (now before : List (Option PlainBlock)) (place home : ℕ) → slice_get homes place ≡ Some home → now ≡ slice_set before home None → AreHoused homes before → IsFree place now
dropped_free homes now before place home at new h n b e =
    false_if (is_place b.places place)
    (λ t. (let there : nat_eq home n ≡ true = ap (is_number n) (sym at) ∙ at_place (is_home homes n) b.places place (h n b (dropped_remain now before home new n b e)) t in
    let same : home ≡ n = (Decides-eqb home n).0 there in
    set_gone before home b (subst (λ (m : ℕ). live_at (slice_set before home None) m ≡ Some b) (sym same) (subst (λ bs. live_at bs n ≡ Some b) new e))))

get_set_other : (hs : List ℕ) (i p v : ℕ) → nat_eq i p ≡ false → slice_get (slice_set hs i v) p ≡ slice_get hs p
get_set_other [] i p v d = refl
get_set_other (h ∷ hs) zero zero v d = absurd (true≢false d)
get_set_other (h ∷ hs) zero (suc p) v d = refl
get_set_other (h ∷ hs) (suc i) zero v d = refl
get_set_other (h ∷ hs) (suc i) (suc p) v d = get_set_other hs i p v (other_number i p (λ e. true≢false (sym ((Decides-eqb (suc i) (suc p)).1 (ap suc e)) ∙ d)))

still_home : (homes : List ℕ) (place number n : ℕ) (ps : List ℕ) → every (is_home homes n) ps ≡ true → is_place ps place ≡ false → every (is_home (slice_set homes place number) n) ps ≡ true
still_home homes place number n [] e f = refl
still_home homes place number n (p ∷ ps) e f =
    both (is_home (slice_set homes place number) n p) (every (is_home (slice_set homes place number) n) ps)
    (ap (is_number n) (get_set_other homes place p number (left_not (nat_eq place p) (is_place ps place) f)) ∙ left_is (is_home homes n p) (every (is_home homes n) ps) e)
    (still_home homes place number n ps (right_is (is_home homes n p) (every (is_home homes n) ps) e) (right_not (nat_eq place p) (is_place ps place) f))

pub moved_housed : (homes news : List ℕ) (bs : List (Option PlainBlock)) (place number : ℕ) → news ≡ slice_set homes place number → IsFree place bs → AreHoused homes bs → AreHoused news bs
moved_housed homes news bs place number e free h n b l = rw e (still_home homes place number n b.places (h n b l) (free n b l))

pub moved_kept : (homes : List ℕ) (place number p : ℕ) → is_home homes number p ≡ true → is_home (slice_set homes place number) number p ≡ true
moved_kept [] place number p e = e
moved_kept (h ∷ hs) zero number zero e = same_number number
moved_kept (h ∷ hs) zero number (suc p) e = e
moved_kept (h ∷ hs) (suc i) number zero e = e
moved_kept (h ∷ hs) (suc i) number (suc p) e = moved_kept hs i number p e

pub kept_housed : (homes news : List ℕ) (bs : List (Option PlainBlock)) → ((n p : ℕ) → is_home homes n p ≡ true → is_home news n p ≡ true) → AreHoused homes bs → AreHoused news bs
kept_housed homes news bs kept h n b e = every_weaker (is_home homes n) (is_home news n) b.places (kept n) (h n b e)

-- a block whose records are at home there was put in
pub put_housed : (homes : List ℕ) (now before : List (Option PlainBlock)) (number : ℕ) (block : PlainBlock) → now ≡ slice_set before number (Some block) → every (is_home homes number) block.places ≡ true
    → AreHoused homes before → AreHoused homes now
put_housed homes now before number block new there h n b e =
    elim (set_some before number n block b (subst (λ bs. live_at bs n ≡ Some b) new e)) as (λ _. every (is_home homes n) b.places ≡ true) [
      | inl s ↦ subst (λ (m : ℕ). every (is_home homes m) b.places ≡ true) (sym s.0) (subst (λ (x : PlainBlock). every (is_home homes number) x.places ≡ true) (sym s.1) there)
      | inr l ↦ h n b l
    ]

pub put_added : (now mid before : List (Option PlainBlock)) (number : ℕ) (block : PlainBlock) → now ≡ slice_set mid number (Some block) → Remain mid before
    → (n : ℕ) (b : PlainBlock) → live_at now n ≡ Some b → (b ≡ block) ⊎ (live_at before n ≡ Some b)
put_added now mid before number block new r n b e =
    elim (set_some mid number n block b (subst (λ bs. live_at bs n ≡ Some b) new e)) as (λ _. (b ≡ block) ⊎ (live_at before n ≡ Some b)) [
      | inl s ↦ inl s.1
      | inr l ↦ inr (r n b l)
    ]

-- one more of the places
next_home : (q r : ℕ → Bool) (ps : List ℕ) (i d : ℕ) → i < length ps → ((p : ℕ) → q p ≡ true → r p ≡ true) → every q (take i ps) ≡ true → r (get_or ps i d) ≡ true → every r (take (suc i) ps) ≡ true
next_home q r [] i d l f e t = absurd (omega (arith, l))
next_home q r (p ∷ ps) zero d l f e t = both (r p) true t refl
next_home q r (p ∷ ps) (suc i) d l f e t =
    both (r p) (every r (take (suc i) ps)) (f p (left_is (q p) (every q (take i ps)) e)) (next_home q r ps i d (omega (arith, l)) f (right_is (q p) (every q (take i ps)) e) t)

pub one_more_home : (q r : ℕ → Bool) (ps : List ℕ) (i d : ℕ) → i < length ps → ((p : ℕ) → q p ≡ true → r p ≡ true) → every q (take i ps) ≡ true → r (get_or ps i d) ≡ true → every r (take (i + 1) ps) ≡ true
one_more_home q r ps i d l f e t = let more : i + 1 ≡ suc i = omega arith in ap (λ (n : ℕ). every r (take n ps)) more ∙ next_home q r ps i d l f e t
