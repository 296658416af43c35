-- Bytes that are shown are text, in each word of a line.
use Rattle.std.proofs.Common.{◌≡◌, ℕ, zero, suc, ◌<◌, Bool, true, false, ◌&&◌, List, [], ◌∷◌, slice_index, slice_index_or, take, take_all, ◌-◌, codes, Bor, map, drop, length, ◌≤◌, refl, arith, inl, inr, ◌⊎◌}
use Rattle.std.specs.Prelude.{IsUtf8, IsAscii, filter}
use Rattle.std.specs.List.{slice_split, onto_first}
use Rattle.std.proofs.lemmas.Str.{IsUtf8-from_ascii}
use Rattle.meaning.specs.Every.{every}
use Rattle.std.specs.Str.{bytes_eq}
use Rattle.meaning.specs.Script.{is_shown, is_filled, is_blank, words, number_of, edit_of, delete_of}

and_left : (a b : Bool) → (a && b) ≡ true → a ≡ true
and_left true b h = refl
and_left false b h = h

and_right : (a b : Bool) → (a && b) ≡ true → b ≡ true
and_right true b h = h
and_right false b h = absurd cc

small : (b : ℕ) → is_shown b ≡ true → b < 128
small b h = grind arith

ascii : (bs : List ℕ) → every is_shown bs ≡ true → IsAscii bs
ascii [] h i = elim i as (λ i. slice_index [] i < 128) [ zero ↦ omega arith | suc k ↦ omega arith ]
ascii (b ∷ bs) h zero = small b (and_left _ _ h)
ascii (b ∷ bs) h (suc i) = ascii bs (and_right _ _ h) i

pub shown_text : (bs : List ℕ) → every is_shown bs ≡ true → IsUtf8 bs
shown_text bs h = IsUtf8-from_ascii bs (ascii bs h)

on_bool : (b : Bool) → (b ≡ true) ⊎ (b ≡ false)
on_bool true = inl refl
on_bool false = inr refl

both : (a b : Bool) → a ≡ true → b ≡ true → (a && b) ≡ true
both true b h k = k
both false b h k = h

module _ (p : ℕ → Bool) where
  onto : (b : ℕ) (parts : List (List ℕ)) → p b ≡ true → every (every p) parts ≡ true → every (every p) (onto_first b parts) ≡ true
  onto b [] h k = both (p b && true) true (both (p b) true h refl) refl
  onto b (part ∷ parts) h k = both (p b && every p part) (every (every p) parts) (both (p b) (every p part) h (and_left _ _ k)) (and_right _ _ k)

  split : (cut : ℕ → Bool) (bs : List ℕ) → every p bs ≡ true → every (every p) (slice_split cut bs) ≡ true
  split cut [] h = refl
  split cut (b ∷ bs) h =
      let more = split cut bs (and_right _ _ h) in
      elim (on_bool (cut b)) [ inl cuts ↦ rw cuts more | inr stays ↦ rw stays (onto b (slice_split cut bs) (and_left _ _ h) more) ]

  kept : (keep : List ℕ → Bool) (parts : List (List ℕ)) → every (every p) parts ≡ true → every (every p) (filter keep parts) ≡ true
  kept keep [] h = refl
  kept keep (part ∷ parts) h =
      let more = kept keep parts (and_right _ _ h) in
      elim (on_bool (keep part)) [ inl stays ↦ rw stays (both _ _ (and_left _ _ h) more) | inr goes ↦ rw goes more ]

-- the words of a line that is shown
pub shown_words : (line : List ℕ) → every is_shown line ≡ true → every (every is_shown) (words line) ≡ true
shown_words line h = kept is_shown is_filled (slice_split is_blank line) (split is_shown is_blank line h)

-- each of these words is text
pub text_at : (ws : List (Bor (List ℕ))) (i : ℕ) (d : Bor (List ℕ)) → i < length ws → every (every is_shown) (map (λ w. w.now) ws) ≡ true → IsUtf8 (slice_index_or ws i d).now
text_at [] i d lt h = absurd (omega (arith, lt))
text_at (w ∷ ws) zero d lt h = shown_text w.now (and_left _ _ h)
text_at (w ∷ ws) (suc i) d lt h = text_at ws i d (omega (arith, lt)) (and_right _ _ h)

-- the edit that the words of a delete are
pub delete_words : (ws : List (Bor (List ℕ))) (d : Bor (List ℕ)) → 3 ≤ length ws → bytes_eq (slice_index_or ws 0 d).now (codes "put") ≡ false → bytes_eq (slice_index_or ws 0 d).now (codes "del") ≡ true
    → edit_of (map (λ w. w.now) ws) ≡ delete_of (slice_index_or ws 1 d).now (number_of (slice_index_or ws 2 d).now) (map (λ w. w.now) (take (length ws - 3) (drop 3 ws)))
delete_words [] d h put del = absurd (omega (arith, h))
delete_words (w ∷ []) d h put del = absurd (omega (arith, h))
delete_words (w ∷ v ∷ []) d h put del = absurd (omega (arith, h))
delete_words (w ∷ v ∷ u ∷ ws) d h put del =
    let whole : take (length (w ∷ v ∷ u ∷ ws) - 3) ws ≡ ws = take_all _ ws (omega arith) in
    rw (put, del, whole) refl
