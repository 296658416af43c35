-- Numbers in front of the words that are left.
use Rattle.std.proofs.Common.{◌≡◌, ◌≤◌, ◌<◌, ◌+◌, ℕ, ℤ, List, [], ◌∷◌, ◌++◌, Option, Some, None, Bor, drop, get_or, length, refl, sym, ap, ◌∙◌, append_assoc, append-nil}
use Rattle.std.proofs.lemmas.List.{drop_more, drop_all}
use Rattle.std.specs.Prelude.{option_map}
use Rattle.meaning.specs.Script.{number_of, numbers_of, with_first}
use Rattle.script_lines.specs.Words.{bytes_of}
use Rattle.script_reader.specs.Digits.{more_numbers}

-- one number more in front of those of the words behind it
one_first : (found : List ℤ) (v : ℤ) (rest : Option (List ℤ))
    → option_map (λ values. found ++ values) (with_first (Some v) rest) ≡ option_map (λ values. (found ++ v ∷ []) ++ values) rest
one_first found v None = refl
one_first found v (Some vs) = ap Some (sym (append_assoc found (v ∷ []) vs))

module _ (found : List ℤ) (words : List (Bor (List ℕ))) (i : ℕ) where
  word_left : (d : Bor (List ℕ)) → i < length words → bytes_of (drop i words) ≡ (get_or words i d).now ∷ bytes_of (drop (i + 1) words)
  word_left d there = ap bytes_of (drop_more words i d there)

  first_with : (n : Option ℤ) (d : Bor (List ℕ)) → i < length words → number_of (get_or words i d).now ≡ n
      → more_numbers found (bytes_of (drop i words)) ≡ option_map (λ values. found ++ values) (with_first n (numbers_of (bytes_of (drop (i + 1) words))))
  first_with n d there is =
      ap (more_numbers found) (word_left d there)
      ∙ ap (λ m. option_map (λ values. found ++ values) (with_first m (numbers_of (bytes_of (drop (i + 1) words))))) is

  -- the word in front is no number
  pub none_left : (d : Bor (List ℕ)) → i < length words → number_of (get_or words i d).now ≡ None → None ≡ more_numbers found (bytes_of (drop i words))
  none_left d there is = sym (first_with None d there is)

  -- it is this number
  pub one_left : (d : Bor (List ℕ)) (v : ℤ) → i < length words → number_of (get_or words i d).now ≡ Some v
      → more_numbers (found ++ v ∷ []) (bytes_of (drop (i + 1) words)) ≡ more_numbers found (bytes_of (drop i words))
  one_left d v there is = sym (first_with (Some v) d there is ∙ one_first found v (numbers_of (bytes_of (drop (i + 1) words))))

  -- there is no word more
  pub all_found : length words ≤ i → Some found ≡ more_numbers found (bytes_of (drop i words))
  all_found past = ap Some (sym (append-nil found)) ∙ ap (λ l. more_numbers found (bytes_of l)) (sym (drop_all i words past))
