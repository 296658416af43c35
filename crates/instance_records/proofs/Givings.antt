-- What reducers were given, one after another, as it lies in few bytes.
use Rattle.std.proofs.Common.{◌≡◌, ℕ, ◌<◌, ◌≤◌, List, length, map, get_or, sym, ap, ◌∙◌, subst}
use Rattle.std.proofs.lemmas.List.{get_or-map, length-map}
use Rattle.instance_records.specs.declared.gift.Gift.{Gift}
use Rattle.instance_records.specs.Gifts.{given_by}

module _ (gifts : List Gift) (i : ℕ) where
  pub gift_within : i < length gifts → i < length (map given_by gifts)
  gift_within l = subst (λ n. i < n) (sym (length-map gifts given_by)) l

  pub gift_at : (g : Gift) → i < length gifts → g ≡ get_or gifts i g → given_by g ≡ get_or (map given_by gifts) i (given_by g)
  gift_at g l e = ap given_by e ∙ sym (get_or-map given_by gifts i g (given_by g) l)

  pub gifts_over : length gifts ≤ i → length (map given_by gifts) ≤ i
  gifts_over l = subst (λ n. n ≤ i) (sym (length-map gifts given_by)) l
