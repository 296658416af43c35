-- The names that a text's procedures may still replace, while they are put in one by one.
use Rattle.std.proofs.Common.{◌≡◌, ℕ, zero, suc, ◌+◌, ◌-◌, ◌≤◌, Bool, true, false, cond, ltb, List, [], ◌∷◌, ◌++◌, length, Option, Some, None, refl, sym, ap, subst, ◌∙◌, arith, inl, inr, ◌⊎◌, length-append}
use Rattle.std.specs.Prelude.{remove, bytes_eq}
use Rattle.std.specs.Option.{option_map}
use Rattle.std.proofs.lemmas.Bool.{ltb-true}
use Rattle.std.proofs.lemmas.Slice.Eq.{bytes_eq-Decides}
use Rattle.meaning.specs.Tree.{Name, Proc, reducer, procedure, Tree}
use Rattle.token_scanner.specs.Words.{for_some}
use Rattle.source_tree.specs.Lowering.{found_index, lowered_tree}
use Rattle.program_edits.specs.Putting.{is_in, last_place, spot_of}
use Rattle.token_readers.specs.Rooms.{Room, room_behind, with_new, names_from, procedures_in}
use Rattle.printing_theory.specs.Again.{procedure_count}
use Rattle.printing_theory.proofs.Putting.{on_bool, on_option, put_in, put_grows, Has, count_put, has_put}

-- each is the name of a procedure that stands there, and none is among those that were put in
abbrev pub Stand : List Name → List Name → Tree → Type 0
Stand [] seen t = Unit {0}
Stand (x ∷ xs) seen t = Has x t × (is_in x seen ≡ false) × Stand xs seen t

-- ---- names apart

-- a name is none of these
abbrev IsApart : Name → List Name → Type 0
IsApart x [] = Unit {0}
IsApart x (y ∷ ys) = (bytes_eq x y ≡ false) × IsApart x ys

-- none stands twice
abbrev pub AllApart : List Name → Type 0
AllApart [] = Unit {0}
AllApart (x ∷ xs) = IsApart x xs × AllApart xs

none_apart : (f : Name) (xs : List Name) → found_index f xs ≡ None → IsApart f xs
none_apart f [] e = tt
none_apart f (y ∷ ys) e =
    elim (on_bool (bytes_eq f y)) [
      | inl b ↦ let g : Some zero ≡ None = sym (ap (λ (b : Bool). cond b (Some 0) (option_map (λ n. suc n) (found_index f ys))) b) ∙ e in absurd (cc)
      | inr b ↦
          let g : option_map (λ n. suc n) (found_index f ys) ≡ None = sym (ap (λ (b : Bool). cond b (Some 0) (option_map (λ n. suc n) (found_index f ys))) b) ∙ e in
          elim (on_option (found_index f ys)) [
            | inl h ↦ (b, none_apart f ys h)
            | inr (m, h) ↦ let k : Some (suc m) ≡ None = sym (ap (λ (o : Option ℕ). option_map (λ n. suc n) o) h) ∙ g in absurd (cc)
          ]
    ]

apart_removed : (x : Name) (xs : List Name) (n : ℕ) → IsApart x xs → IsApart x (remove xs n)
apart_removed x [] zero a = tt
apart_removed x [] (suc n) a = tt
apart_removed x (y ∷ ys) zero a = a.1
apart_removed x (y ∷ ys) (suc n) a = (a.0, apart_removed x ys n a.1)

-- a place is the first, or one behind it
placed : (f y : Name) (ys : List Name) (n : ℕ) → found_index f (y ∷ ys) ≡ Some n → ((y ≡ f) × (zero ≡ n)) ⊎ ((m : ℕ) × (bytes_eq f y ≡ false) × (found_index f ys ≡ Some m) × (suc m ≡ n))
placed f y ys n e =
    elim (on_bool (bytes_eq f y)) [
      | inl b ↦
          let g : Some 0 ≡ Some n = sym (ap (λ (b : Bool). cond b (Some 0) (option_map (λ n. suc n) (found_index f ys))) b) ∙ e in
          let k : 0 ≡ n = (cc) in
          inl (sym ((bytes_eq-Decides f y).0 b), k)
      | inr b ↦
          let g : option_map (λ n. suc n) (found_index f ys) ≡ Some n = sym (ap (λ (b : Bool). cond b (Some 0) (option_map (λ n. suc n) (found_index f ys))) b) ∙ e in
          elim (on_option (found_index f ys)) [
            | inl h ↦ let k : None ≡ Some n = sym (ap (λ (o : Option ℕ). option_map (λ n. suc n) o) h) ∙ g in absurd (cc)
            | inr (m, h) ↦
                let k : Some (suc m) ≡ Some n = sym (ap (λ (o : Option ℕ). option_map (λ n. suc n) o) h) ∙ g in
                let j : suc m ≡ n = (cc) in
                inr (m, b, h, j)
          ]
    ]

-- ---- what was put in

seen_last : (x f : Name) (seen : List Name) → is_in x seen ≡ false → bytes_eq f x ≡ false → is_in x (seen ++ f ∷ []) ≡ false
seen_last x f [] h e = rw e refl
seen_last x f (y ∷ ys) h e =
    elim (on_bool (bytes_eq y x)) [
      | inl b ↦ let g : true ≡ false = rw b at h in absurd (cc)
      | inr b ↦ let g : is_in x ys ≡ false = rw b at h in rw b (seen_last x f ys g e)
    ]

apart_stand : (f : Name) (xs seen : List Name) (t u : Tree) → ((x : Name) → Has x t → Has x u) → IsApart f xs → Stand xs seen t → Stand xs (seen ++ f ∷ []) u
apart_stand f [] seen t u go a s = tt
apart_stand f (x ∷ xs) seen t u go a s = (go x s.0, seen_last x f seen s.1 a.0, apart_stand f xs seen t u go a.1 s.2)

-- what is known of a name that is replaced, and of those left
abbrev Replaced : Name → List Name → List Name → Tree → Tree → Type 0
Replaced f rest seen t u = Has f t × (is_in f seen ≡ false) × AllApart rest × Stand rest (seen ++ f ∷ []) u

replaced : (f : Name) (xs : List Name) (n : ℕ) (seen : List Name) (t u : Tree) → ((x : Name) → Has x t → Has x u) → AllApart xs → Stand xs seen t → found_index f xs ≡ Some n → Replaced f (remove xs n) seen t u
replaced f [] n seen t u go a s e = absurd (cc)
replaced f (y ∷ ys) n seen t u go a s e =
    elim (placed f y ys n e) [
      | inl (q, z) ↦
          let b : IsApart f ys = subst (λ (x : Name). IsApart x ys) q a.0 in
          let r : Replaced f (remove (y ∷ ys) zero) seen t u = (subst (λ (x : Name). Has x t) q s.0, subst (λ (x : Name). is_in x seen ≡ false) q s.1, a.1, apart_stand f ys seen t u go b s.2) in
          subst (λ (k : ℕ). Replaced f (remove (y ∷ ys) k) seen t u) z r
      | inr (m, b, h, z) ↦
          let i = replaced f ys m seen t u go a.1 s.2 h in
          let r : Replaced f (remove (y ∷ ys) (suc m)) seen t u = (i.0, i.1, (apart_removed y ys m a.0, i.2), (go y s.0, seen_last y f seen s.1 b, i.3)) in
          subst (λ (k : ℕ). Replaced f (remove (y ∷ ys) k) seen t u) z r
    ]

-- ---- one procedure

-- the room that is left fits a program
pub record Fits (room : Room) (seen : List Name) (t : Tree) : Type 0 where
  pub apart : AllApart room.0
  pub stand : Stand room.0 seen t
  pub few : procedure_count (lowered_tree t) + room.1 ≤ 256

pub fits_behind : (known : List Name) (left : ℕ) (after : Room) (p : Proc) (seen : List Name) (t : Tree) → room_behind (known, left) p.called ≡ Some after → Fits (known, left) seen t → Fits after (seen ++ p.called ∷ []) (put_in (is_in p.called seen) p t)
fits_behind known left after p seen t e fits =
    let u = put_in (is_in p.called seen) p t in
    let go = has_put (is_in p.called seen) p t in
    let g = put_grows (spot_of (is_in p.called seen) (last_place 0 None p.called t)) t p in
    elim (on_option (found_index p.called known)) [
      | inr (n, h) ↦
          let k : Some (remove known n, left) ≡ Some after = sym (ap (λ (o : Option ℕ). for_some o (cond (ltb 0 left) (Some (known, left - 1)) None) (λ n. Some (remove known n, left))) h) ∙ e in
          let q : (remove known n, left) ≡ after = (cc) in
          let r = replaced p.called known n seen t u go fits.apart fits.stand h in
          let c : procedure_count (lowered_tree u) ≡ procedure_count (lowered_tree t) = subst (λ (b : Bool). procedure_count (lowered_tree (put_in b p t)) ≡ procedure_count (lowered_tree t)) (sym r.1) (count_put p t r.0) in
          subst (λ (r : Room). Fits r (seen ++ p.called ∷ []) u) q (record { apart = r.2; stand = r.3; few = omega (arith, c, fits.few) })
      | inl h ↦
          let k : cond (ltb 0 left) (Some (known, left - 1)) None ≡ Some after = sym (ap (λ (o : Option ℕ). for_some o (cond (ltb 0 left) (Some (known, left - 1)) None) (λ n. Some (remove known n, left))) h) ∙ e in
          elim (on_bool (ltb 0 left)) [
            | inl b ↦
                let j : Some (known, left - 1) ≡ Some after = sym (ap (λ (b : Bool). cond b (Some (known, left - 1)) None) b) ∙ k in
                let q : (known, left - 1) ≡ after = (cc) in
                let lt = ltb-true _ _ b in
                subst (λ (r : Room). Fits r (seen ++ p.called ∷ []) u) q (record { apart = fits.apart; stand = apart_stand p.called known seen t u go (none_apart p.called known h) fits.stand; few = omega (arith, lt, g.1, fits.few) })
            | inr b ↦ let j : None ≡ Some after = sym (ap (λ (b : Bool). cond b (Some (known, left - 1)) None) b) ∙ k in absurd (cc)
          ]
    ]

-- ---- a program before

-- what holds of names, and of them with a new one behind, holds of them with any one more
with_any : (P : List Name → Type 0) (xs : List Name) (x : Name) → P xs → (found_index x xs ≡ None → P (xs ++ x ∷ [])) → P (with_new xs x)
with_any P xs x old new =
    elim (on_option (found_index x xs)) [
      | inl e ↦ subst (λ (o : Option ℕ). P (for_some o (xs ++ x ∷ []) (λ n. xs))) (sym e) (new e)
      | inr (n, e) ↦ subst (λ (o : Option ℕ). P (for_some o (xs ++ x ∷ []) (λ n. xs))) (sym e) old
    ]

apart_turned : (x y : Name) → bytes_eq x y ≡ false → bytes_eq y x ≡ false
apart_turned x y h =
    elim (on_bool (bytes_eq y x)) [
      | inl t ↦ let g : bytes_eq x y ≡ true = (bytes_eq-Decides x y).1 (sym ((bytes_eq-Decides y x).0 t)) in absurd (cc)
      | inr f ↦ f
    ]

apart_last : (y x : Name) (ys : List Name) → IsApart y ys → bytes_eq y x ≡ false → IsApart y (ys ++ x ∷ [])
apart_last y x [] a h = (h, tt)
apart_last y x (z ∷ ys) a h = (a.0, apart_last y x ys a.1 h)

all_apart_last : (xs : List Name) (x : Name) → AllApart xs → IsApart x xs → AllApart (xs ++ x ∷ [])
all_apart_last [] x a b = (tt, tt)
all_apart_last (y ∷ ys) x a b = (apart_last y x ys a.0 (apart_turned x y b.0), all_apart_last ys x a.1 b.1)

apart_from : (t : Tree) (xs : List Name) → AllApart xs → AllApart (names_from xs t)
apart_from [] xs a = a
apart_from (reducer r ∷ t) xs a = apart_from t xs a
apart_from (procedure p ∷ t) xs a =
    apart_from t (with_new xs p.called) (with_any AllApart xs p.called a (λ e. all_apart_last xs p.called a (none_apart p.called xs e)))

stand_last : (xs : List Name) (x : Name) (t : Tree) → Stand xs [] t → Has x t → Stand (xs ++ x ∷ []) [] t
stand_last [] x t s h = (h, refl, tt)
stand_last (y ∷ ys) x t s h = (s.0, s.1, stand_last ys x t s.2 h)

stand_from : (t : Tree) (xs : List Name) (all : Tree) → ((x : Name) → Has x t → Has x all) → Stand xs [] all → Stand (names_from xs t) [] all
stand_from [] xs all among s = s
stand_from (reducer r ∷ t) xs all among s = stand_from t xs all (λ x h. among x (inr h)) s
stand_from (procedure p ∷ t) xs all among s =
    let h : Has p.called all = among p.called (inl ((bytes_eq-Decides p.called p.called).1 refl)) in
    stand_from t (with_new xs p.called) all (λ x h. among x (inr h)) (with_any (λ (ys : List Name). Stand ys [] all) xs p.called s (λ e. stand_last xs p.called all s h))

few_from : (t : Tree) (xs : List Name) → length (names_from xs t) ≤ length xs + procedures_in t
few_from [] xs = omega arith
few_from (reducer r ∷ t) xs = few_from t xs
few_from (procedure p ∷ t) xs =
    let one : length (with_new xs p.called) ≤ suc (length xs) = with_any (λ (ys : List Name). length ys ≤ suc (length xs)) xs p.called (omega arith) (λ e. omega (arith, length-append xs (p.called ∷ []))) in
    omega (arith, one, few_from t (with_new xs p.called))

pub names_apart : (t : Tree) → AllApart (names_from [] t)
names_apart t = apart_from t [] tt

pub names_stand : (t : Tree) → Stand (names_from [] t) [] t
names_stand t = stand_from t [] t (λ x h. h) tt

pub names_few : (t : Tree) → length (names_from [] t) ≤ procedures_in t
names_few t = omega (arith, few_from t [])

pub names_count : (t : Tree) → procedure_count (lowered_tree t) ≡ procedures_in t
names_count [] = refl
names_count (reducer r ∷ t) = names_count t
names_count (procedure p ∷ t) = ap (λ (n : ℕ). suc n) (names_count t)
