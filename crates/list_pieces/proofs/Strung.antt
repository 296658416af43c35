-- Items in several lists.
use Rattle.std.proofs.Common.{◌≡◌, ℕ, ◌+◌, List, [], ◌∷◌, ◌++◌, ◌∙◌, length, refl, ap, sym, rules, arith}
use Rattle.std.proofs.lemmas.List.{append_assoc, length-append}
use Rattle.std.specs.Prelude.{Vec}
use Rattle.std.specs.declared.alloc.Global.{Global}
use Rattle.list_pieces.specs.Pieces.{all_in}

module _ {T : Type 0} where
  both_in : (xs ys : List (Vec T Global)) → all_in (xs ++ ys) ≡ all_in xs ++ all_in ys
  both_in [] ys = refl
  both_in (x ∷ xs) ys = ap (λ zs. x.items ++ zs) (both_in xs ys) ∙ sym (append_assoc x.items (all_in xs) (all_in ys))

  one_in : (x : Vec T Global) → all_in (x ∷ []) ≡ x.items
  one_in x = search rules

  -- a list, and lists behind it
  between : (xs ys : List (Vec T Global)) (x : Vec T Global) → all_in ((xs ++ x ∷ []) ++ ys) ≡ (all_in xs ++ x.items) ++ all_in ys
  between xs ys x = both_in (xs ++ x ∷ []) ys ∙ ap (λ zs. zs ++ all_in ys) (both_in xs (x ∷ []) ∙ ap (λ zs. all_in xs ++ zs) (one_in x))

  -- three lists and what comes behind them
  four : (a b c d : List T) → ((a ++ b) ++ c) ++ d ≡ a ++ (b ++ (c ++ d))
  four a b c d = append_assoc (a ++ b) c d ∙ append_assoc a b (c ++ d)

  -- lists put behind several
  pub behind_several : (first : List T) (earlier more all : List (Vec T Global)) (y x : Vec T Global) (rest : List T)
      → all ≡ ((earlier ++ y ∷ []) ++ x ∷ []) ++ more → first ++ (all_in all ++ rest) ≡ (first ++ (all_in earlier ++ y.items)) ++ (x.items ++ (all_in more ++ rest))
  behind_several first earlier more all y x rest lists =
      ap (λ ws. first ++ (all_in ws ++ rest)) lists
      ∙ ap (λ ws. first ++ (ws ++ rest)) (between (earlier ++ y ∷ []) more x)
      ∙ ap (λ ws. first ++ (((ws ++ x.items) ++ all_in more) ++ rest)) (both_in earlier (y ∷ []) ∙ ap (λ zs. all_in earlier ++ zs) (one_in y))
      ∙ ap (λ ws. first ++ ws) (four (all_in earlier ++ y.items) x.items (all_in more) rest)
      ∙ sym (append_assoc first (all_in earlier ++ y.items) (x.items ++ (all_in more ++ rest)))

  -- as many as all of these
  pub counted_several : (earlier more all : List (Vec T Global)) (y x : Vec T Global) (f k m n : ℕ) → all ≡ ((earlier ++ y ∷ []) ++ x ∷ []) ++ more
      → k ≡ f + length (all_in earlier) → m ≡ length y.items → n ≡ length x.items + length (all_in more) → k + m + n ≡ f + length (all_in all)
  counted_several earlier more all y x f k m n lists a b c =
      let all_length : length (all_in all) ≡ length (all_in earlier) + length y.items + length x.items + length (all_in more) =
      ap (λ ws. length (all_in ws)) lists ∙ ap length (between (earlier ++ y ∷ []) more x)
      ∙ length-append (all_in (earlier ++ y ∷ []) ++ x.items) (all_in more)
      ∙ ap (λ i. i + length (all_in more)) (length-append (all_in (earlier ++ y ∷ [])) x.items)
      ∙ ap (λ ws. length ws + length x.items + length (all_in more)) (both_in earlier (y ∷ []) ∙ ap (λ zs. all_in earlier ++ zs) (one_in y))
      ∙ ap (λ i. i + length x.items + length (all_in more)) (length-append (all_in earlier) y.items) in
      omega (arith, a, b, c, all_length)
