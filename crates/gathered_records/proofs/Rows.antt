-- Records in a row, found one after another, and a block of them.
use Rattle.std.proofs.Common.{◌≡◌, ℕ, zero, suc, ◌<◌, ℤ, Bool, true, List, [], ◌∷◌, ◌++◌, length, map, All, refl, sym, ap, ◌∙◌, subst, arith, take, get_or, ◌+◌, ◌-◌}
use Rattle.std.specs.Prelude.{◌+ℤ◌, pos, slice_get, slice_set, Some, None, Option, Result, Ok, Err, IfOk, ◌≤◌}
use Rattle.std.proofs.lemmas.Int.{ints}
use Rattle.std.proofs.lemmas.List.{append-nil, length-set, set-set, take_more}
use Rattle.std.proofs.lemmas.List.Elements.{All-head, All-tail}
use Rattle.monoid_laws.specs.declared.Kind.{Kind}
use Rattle.monoid_laws.specs.Kinds.{IsMonoid}
use Rattle.meaning.specs.Elision.{depth_limit}
use Rattle.meaning.specs.Every.{every}
use Rattle.record_theory.specs.Record.{PlainRecord, as_made}
use Rattle.record_theory.specs.Named.{HasValuesIfAnswers, HaveValues}
use Rattle.record_theory.specs.Sums.{arguments_of_last}
use Rattle.gathered_records.specs.Summing.{PlainSum, at_places, got_before, added, summed, HasSummed}
use Rattle.rerun_records.specs.Sums.{IsSumFor}
use Rattle.rerun_records.specs.Blocks.{PlainBlock, AreLeaves, BlockFits, is_fresh_at}
use Rattle.gathered_records.specs.Gathering.{PlainRow, moved_to, IsThere, AreInRow, IsPart}
use Rattle.record_theory.proofs.Members.{both, every_append}
use Rattle.record_theory.proofs.Puts.{same_values}
use Rattle.gathered_records.proofs.Summed.{one_part_more, one_record_more, sum_is}

-- ---- records at places

pub at_more : (rs : List PlainRecord) (ps qs : List ℕ) → at_places rs (ps ++ qs) ≡ at_places rs ps ++ at_places rs qs
at_more rs [] qs = refl
at_more rs (p ∷ ps) qs = ap (got_before (slice_get rs p)) (at_more rs ps qs) ∙ before_more (slice_get rs p) (at_places rs ps) (at_places rs qs)
  where
    before_more : (o : Option PlainRecord) (xs ys : List PlainRecord) → got_before o (xs ++ ys) ≡ got_before o xs ++ ys
    before_more None xs ys = refl
    before_more (Some x) xs ys = refl

pub got_has : (P : PlainRecord → Type 0) (rs : List PlainRecord) (p : ℕ) (r : PlainRecord) → All P rs → slice_get rs p ≡ Some r → P r
got_has P [] p r a e = absurd cc
got_has P (x ∷ xs) zero r a e = subst P (let s : x ≡ r = cc (e) in s) (All-head P x xs a)
got_has P (x ∷ xs) (suc p) r a e = got_has P xs p r (All-tail P x xs a) e

as_made_twice : (rs : List PlainRecord) → map as_made (map as_made rs) ≡ map as_made rs
as_made_twice [] = refl
as_made_twice (r ∷ rs) = ap (λ xs. as_made r ∷ xs) (as_made_twice rs)

pub values_as_made : (kinds : List Kind) (rs : List PlainRecord) → HaveValues kinds rs → HaveValues kinds (map as_made rs)
values_as_made kinds rs h = same_values kinds rs (map as_made rs) (as_made_twice rs) h

-- ---- leaves

no_further : (v : ℤ) → v +ℤ pos 0 ≡ v
no_further v = omega (arith, ints)

one_further : (v : ℤ) (n : ℕ) → v +ℤ pos (suc n) ≡ (v +ℤ pos 1) +ℤ pos n
one_further v n = omega (arith, ints)

module _ (rs : List PlainRecord) (procedure : ℕ) (arguments : List ℤ) (counted : ℕ) where
  pub leaves_are : (v : ℤ) (ps : List ℕ) (xs : List PlainRecord) → AreLeaves rs procedure arguments counted v ps xs → at_places rs ps ≡ xs
  leaves_are v [] [] h = refl
  leaves_are v [] (x ∷ xs) h = absurd h
  leaves_are v (p ∷ ps) [] h = absurd h
  leaves_are v (p ∷ ps) (x ∷ xs) h = ap (λ o. got_before o (at_places rs ps)) h.0.there ∙ ap (λ ys. x ∷ ys) (leaves_are (v +ℤ pos 1) ps xs h.1)

  pub leaves_count : (v : ℤ) (ps : List ℕ) (xs : List PlainRecord) → AreLeaves rs procedure arguments counted v ps xs → length ps ≡ length xs
  leaves_count v [] [] h = refl
  leaves_count v [] (x ∷ xs) h = absurd h
  leaves_count v (p ∷ ps) [] h = absurd h
  leaves_count v (p ∷ ps) (x ∷ xs) h = ap suc (leaves_count (v +ℤ pos 1) ps xs h.1)

  pub leaves_append : (v : ℤ) (ps qs : List ℕ) (xs ys : List PlainRecord) → AreLeaves rs procedure arguments counted v ps xs → AreLeaves rs procedure arguments counted (v +ℤ pos (length ps)) qs ys
      → AreLeaves rs procedure arguments counted v (ps ++ qs) (xs ++ ys)
  leaves_append v [] qs [] ys h g = subst (λ z. AreLeaves rs procedure arguments counted z qs ys) (no_further v) g
  leaves_append v [] qs (x ∷ xs) ys h g = absurd h
  leaves_append v (p ∷ ps) qs [] ys h g = absurd h
  leaves_append v (p ∷ ps) qs (x ∷ xs) ys h g =
      (h.0, leaves_append (v +ℤ pos 1) ps qs xs ys h.1 (subst (λ z. AreLeaves rs procedure arguments counted z qs ys) (one_further v (length ps)) g))

-- leaves stay such with other arguments that are equal but for the counted one
pub leaves_moved : (rs : List PlainRecord) (f g : ℕ) (a b : List ℤ) (counted : ℕ) (v : ℤ) (ps : List ℕ) (xs : List PlainRecord) → f ≡ g → ((z : ℤ) → slice_set a counted z ≡ slice_set b counted z)
    → AreLeaves rs f a counted v ps xs → AreLeaves rs g b counted v ps xs
leaves_moved rs f g a b counted v [] [] e same h = tt
leaves_moved rs f g a b counted v [] (x ∷ xs) e same h = absurd h
leaves_moved rs f g a b counted v (p ∷ ps) [] e same h = absurd h
leaves_moved rs f g a b counted v (p ∷ ps) (x ∷ xs) e same h =
    (record { there = h.0.there; procedure_is = h.0.procedure_is ∙ e; arguments_are = h.0.arguments_are ∙ same v }, leaves_moved rs f g a b counted (v +ℤ pos 1) ps xs e same h.1)

set_there : (xs : List ℤ) (i : ℕ) (v : ℤ) → i < length xs → slice_get (slice_set xs i v) i ≡ Some v
set_there [] i v l = absurd (omega (arith, l))
set_there (x ∷ xs) zero v l = refl
set_there (x ∷ xs) (suc i) v l = set_there xs i v (omega (arith, l))

got_within : (xs : List ℤ) (i : ℕ) (v : ℤ) → slice_get xs i ≡ Some v → i < length xs
got_within [] i v e = absurd cc
got_within (x ∷ xs) zero v e = omega arith
got_within (x ∷ xs) (suc i) v e = let l : i < length xs = got_within xs i v e in omega (arith, l)

-- where the first is of the row at a number, all are of the row from that number on
part_are : (rs : List PlainRecord) (row : PlainRow) (v : ℤ) (f : ℕ) (args : List ℤ) (u : ℤ) (ps : List ℕ) (xs : List PlainRecord) (place : ℕ) (it : PlainRecord)
    → row.counted < length row.arguments → slice_get args row.counted ≡ Some u → slice_get ps 0 ≡ Some place
    → slice_get rs place ≡ Some it → it.procedure ≡ row.procedure → it.arguments ≡ slice_set row.arguments row.counted v
    → AreLeaves rs f args row.counted u ps xs → AreLeaves rs row.procedure row.arguments row.counted v ps xs
part_are rs row v f args u [] xs place it w g b t p a l = absurd cc
part_are rs row v f args u (q ∷ qs) [] place it w g b t p a l = absurd l
part_are rs row v f args u (q ∷ qs) (x ∷ xs) place it w g b t p a l =
    let at : q ≡ place = cc (b) in
    let found : Some x ≡ Some it = sym l.0.there ∙ ap (slice_get rs) at ∙ t in
    let same : x ≡ it = cc (found) in
    let procedures : f ≡ row.procedure = sym l.0.procedure_is ∙ ap (λ r. r.procedure) same ∙ p in
    let keys : slice_set args row.counted u ≡ slice_set row.arguments row.counted v = sym l.0.arguments_are ∙ ap (λ r. r.arguments) same ∙ a in
    let got : Some u ≡ Some v = sym (set_there args row.counted u (got_within args row.counted u g)) ∙ ap (λ zs. slice_get zs row.counted) keys ∙ set_there row.arguments row.counted v w in
    let numbers : u ≡ v = cc (got) in
    subst (λ z. AreLeaves rs row.procedure row.arguments row.counted z (q ∷ qs) (x ∷ xs)) numbers
    (leaves_moved rs f row.procedure args row.arguments row.counted u (q ∷ qs) (x ∷ xs) procedures
    (λ z. sym (set-set args row.counted u z) ∙ ap (λ zs. slice_set zs row.counted z) keys ∙ set-set row.arguments row.counted v z) l)

-- ---- records in a row

pub none_in_row : (rs : List PlainRecord) (row : PlainRow) (first : ℤ) → AreInRow rs row first []
none_in_row rs row first = record { leaves = tt; fresh = refl }

moved_set : (row other : PlainRow) → ((z : ℤ) → moved_to row z ≡ moved_to other z) → (z : ℤ) → slice_set row.arguments row.counted z ≡ slice_set other.arguments row.counted z
moved_set row other e z =
    let counts : other.counted ≡ row.counted = ap (λ r. r.counted) (sym (e z)) in
    ap (λ r. r.arguments) (e z) ∙ ap (λ n. slice_set other.arguments n z) counts

-- what is in a row is in it where the row has gone on
pub in_row_moved : (rs : List PlainRecord) (row other : PlainRow) (first : ℤ) (ps : List ℕ) → ((z : ℤ) → moved_to row z ≡ moved_to other z) → AreInRow rs row first ps → AreInRow rs other first ps
in_row_moved rs row other first ps e h =
    let counts : row.counted ≡ other.counted = ap (λ r. r.counted) (e first) in
    record {
      leaves = subst (λ n. AreLeaves (map as_made rs) other.procedure other.arguments n first ps (at_places (map as_made rs) ps)) counts
          (leaves_moved (map as_made rs) row.procedure other.procedure row.arguments other.arguments row.counted first ps (at_places (map as_made rs) ps) (ap (λ r. r.procedure) (e first)) (moved_set row other e) h.leaves);
      fresh = h.fresh;
    }

every_more : (p : ℕ → Bool) (ps qs : List ℕ) → every p ps ≡ true → every p qs ≡ true → every p (ps ++ qs) ≡ true
every_more p ps qs e f = every_append p ps qs ∙ both (every p ps) (every p qs) e f

module _ (rs : List PlainRecord) (row : PlainRow) (first : ℤ) (ps : List ℕ) (h : AreInRow rs row first ps) where
  -- more behind them
  in_row_more : (qs : List ℕ) (xs : List PlainRecord) → AreLeaves (map as_made rs) row.procedure row.arguments row.counted (first +ℤ pos (length ps)) qs xs → every (is_fresh_at rs) qs ≡ true → AreInRow rs row first (ps ++ qs)
  in_row_more qs xs l s = record {
    leaves =
        subst (AreLeaves (map as_made rs) row.procedure row.arguments row.counted first (ps ++ qs))
        (ap (λ ys. at_places (map as_made rs) ps ++ ys) (sym (leaves_are (map as_made rs) row.procedure row.arguments row.counted (first +ℤ pos (length ps)) qs xs l)) ∙ sym (at_more (map as_made rs) ps qs))
        (leaves_append (map as_made rs) row.procedure row.arguments row.counted first ps qs (at_places (map as_made rs) ps) xs h.leaves l);
    fresh = every_more (is_fresh_at rs) ps qs h.fresh s;
  }

  -- one record more
  pub in_row_next : (place : ℕ) → IsThere rs (moved_to row (first +ℤ pos (length ps))) place → is_fresh_at rs place ≡ true → AreInRow rs row first (ps ++ place ∷ [])
  in_row_next place t s =
      in_row_more (place ∷ []) (t.it ∷ []) (record { there = t.there; procedure_is = t.procedure_is; arguments_are = t.arguments_are }, tt) (both (is_fresh_at rs place) true s refl)

  pub row_count : length ps ≡ length (at_places (map as_made rs) ps)
  row_count = leaves_count (map as_made rs) row.procedure row.arguments row.counted first ps (at_places (map as_made rs) ps) h.leaves

  -- a block of them
  pub block_fits : (kinds : List Kind) (keeps : Bool) (s : PlainRecord) (counted : ℕ) → counted ≡ row.counted → counted < length row.arguments → IsSumFor keeps kinds (at_places (map as_made rs) ps) s
      → BlockFits kinds rs (record { places = ps; counted = counted; keeps = keeps; sum = s })
  block_fits kinds keeps s counted e within is = record {
    procedure = row.procedure;
    arguments = slice_set row.arguments counted first;
    first = first;
    first_is = set_there row.arguments counted first within;
    leaves = at_places (map as_made rs) ps;
    are_leaves =
        leaves_moved (map as_made rs) row.procedure row.procedure row.arguments (slice_set row.arguments counted first) counted first ps (at_places (map as_made rs) ps) refl
        (λ z. sym (set-set row.arguments counted first z)) (subst (λ n. AreLeaves (map as_made rs) row.procedure row.arguments n first ps (at_places (map as_made rs) ps)) (sym e) h.leaves);
    fresh = h.fresh;
    sum_is = is;
  }

  -- a block more behind them
  module _ (kinds : List Kind) (b : PlainBlock) (part : IsPart kinds rs (moved_to row (first +ℤ pos (length ps))) b) (within : row.counted < length row.arguments) where
    part_leaves : AreLeaves (map as_made rs) row.procedure row.arguments row.counted (first +ℤ pos (length ps)) b.places part.fits.leaves
    part_leaves =
        part_are (map as_made rs) row (first +ℤ pos (length ps)) part.fits.procedure part.fits.arguments part.fits.first b.places part.fits.leaves part.first part.there.it within
        (subst (λ n. slice_get part.fits.arguments n ≡ Some part.fits.first) part.counts part.fits.first_is) part.begins part.there.there part.there.procedure_is part.there.arguments_are
        (subst (λ n. AreLeaves (map as_made rs) part.fits.procedure part.fits.arguments n part.fits.first b.places part.fits.leaves) part.counts part.fits.are_leaves)

    part_in_row : AreInRow rs row first (ps ++ b.places)
    part_in_row = in_row_more b.places part.fits.leaves part_leaves part.fits.fresh

    part_summed : (s : PlainSum) → All IsMonoid kinds → (s.keeps ≡ true → b.keeps ≡ true) → HasSummed kinds (at_places (map as_made rs) ps) s → HasSummed kinds (at_places (map as_made rs) (ps ++ b.places)) (added kinds s b.sum)
    part_summed s monoids read m =
        subst (λ xs. HasSummed kinds xs (added kinds s b.sum))
        (ap (λ ys. at_places (map as_made rs) ps ++ ys) (sym (leaves_are (map as_made rs) row.procedure row.arguments row.counted (first +ℤ pos (length ps)) b.places part.fits.leaves part_leaves)) ∙ sym (at_more (map as_made rs) ps b.places))
        (one_part_more kinds (at_places (map as_made rs) ps) part.fits.leaves s b.sum b.keeps monoids m part.fits.sum_is read)

pub moved_twice : (row : PlainRow) (n z : ℤ) → moved_to (moved_to row n) z ≡ moved_to row z
moved_twice row n z = ap (λ (zs : List ℤ). record row { arguments = zs }) (set-set row.arguments row.counted n z)

-- where there is one argument, it is the number
pub alone_set : (xs : List ℤ) (i : ℕ) (z : ℤ) → i < length xs → length xs ≡ 1 → slice_set xs i z ≡ z ∷ []
alone_set [] i z l n = absurd (omega (arith, n))
alone_set (x ∷ []) zero z l n = refl
alone_set (x ∷ []) (suc i) z l n = absurd (omega (arith, l))
alone_set (x ∷ y ∷ xs) i z l n = absurd (omega (arith, n))

-- the next record of a row was found and is fresh
pub next_stands : (rs : List PlainRecord) (row other : PlainRow) (first : ℤ) (ps more : List ℕ) (n place : ℕ) → other ≡ moved_to row (first +ℤ pos n) → n ≡ length ps → IsThere rs other place → is_fresh_at rs place ≡ true
    → more ≡ ps ++ place ∷ [] → AreInRow rs row first ps → AreInRow rs other first more
next_stands rs row other first ps more n place moved count there stand is h =
    subst (AreInRow rs other first) (sym is)
    (in_row_moved rs row other first (ps ++ place ∷ []) (λ z. sym (ap (λ r. moved_to r z) moved ∙ moved_twice row (first +ℤ pos n) z))
    (in_row_next rs row first ps h place (subst (λ r. IsThere rs r place) (moved ∙ ap (λ m. moved_to row (first +ℤ pos m)) count) there) stand))

-- the same where the row didn't go on
pub next_stays : (rs : List PlainRecord) (row : PlainRow) (first : ℤ) (ps more : List ℕ) (n place : ℕ) → n ≡ length ps → IsThere rs (moved_to row (first +ℤ pos n)) place → is_fresh_at rs place ≡ true
    → more ≡ ps ++ place ∷ [] → AreInRow rs row first ps → AreInRow rs row first more
next_stays rs row first ps more n place count there stand is h =
    subst (AreInRow rs row first) (sym is) (in_row_next rs row first ps h place (subst (λ m. IsThere rs (moved_to row (first +ℤ pos m)) place) count there) stand)

-- it wasn't
pub stopped_in_row : (rs : List PlainRecord) (row other : PlainRow) (first : ℤ) (ps : List ℕ) → ((z : ℤ) → moved_to other z ≡ moved_to row z) → AreInRow rs row first ps → AreInRow rs other first ps
stopped_in_row rs row other first ps moved h = in_row_moved rs row other first ps (λ z. sym (moved z)) h

pub some_there : (rs : List PlainRecord) (row : PlainRow) (first : ℤ) (ps : List ℕ) → AreInRow rs row first ps → 1 < length ps → 0 < length (at_places (map as_made rs) ps)
some_there rs row first ps h l = let e : length ps ≡ length (at_places (map as_made rs) ps) = row_count rs row first ps h in omega (arith, l, e)

pub part_is : (kinds : List Kind) (rs : List PlainRecord) (row : PlainRow) (b : PlainBlock) (counted first : ℕ) → BlockFits kinds rs b → b.counted ≡ counted → counted ≡ row.counted → slice_get b.places 0 ≡ Some first
    → IsThere rs row first → IsPart kinds rs row b
part_is kinds rs row b counted first f c d g t = record { fits = f; counts = c ∙ d; first = first; begins = g; there = t }

within_before : (row other : PlainRow) (v : ℤ) → other ≡ moved_to row v → other.counted < length other.arguments → row.counted < length row.arguments
within_before row other v e l =
    let m : row.counted < length (slice_set row.arguments row.counted v) = subst (λ (r : PlainRow). r.counted < length r.arguments) e l in
    subst (λ n. row.counted < n) (length-set row.arguments row.counted v) m

-- the next block of a row was found, and put behind the others
module _ (rs : List PlainRecord) (row other : PlainRow) (first : ℤ) (ps more : List ℕ) (n : ℕ) (kinds : List Kind) (b : PlainBlock) (moved : other ≡ moved_to row (first +ℤ pos n)) (count : n ≡ length ps)
    (part : IsPart kinds rs other b) (within : other.counted < length other.arguments) (is : more ≡ ps ++ b.places) (h : AreInRow rs row first ps) where
  there : IsPart kinds rs (moved_to row (first +ℤ pos (length ps))) b
  there = subst (λ r. IsPart kinds rs r b) (moved ∙ ap (λ m. moved_to row (first +ℤ pos m)) count) part

  inside : row.counted < length row.arguments
  inside = within_before row other (first +ℤ pos n) moved within

  pub next_part : AreInRow rs other first more
  next_part =
      subst (AreInRow rs other first) (sym is)
      (in_row_moved rs row other first (ps ++ b.places) (λ z. sym (ap (λ r. moved_to r z) moved ∙ moved_twice row (first +ℤ pos n) z)) (part_in_row rs row first ps h kinds b there inside))

  pub next_summed : (s new : PlainSum) → All IsMonoid kinds → (s.keeps ≡ true → b.keeps ≡ true) → new ≡ added kinds s b.sum → HasSummed kinds (at_places (map as_made rs) ps) s → HasSummed kinds (at_places (map as_made rs) more) new
  next_summed s new monoids read e m =
      subst (λ qs. HasSummed kinds (at_places (map as_made rs) qs) new) (sym is)
      (subst (HasSummed kinds (at_places (map as_made rs) (ps ++ b.places))) (sym e) (part_summed rs row first ps h kinds b there inside s monoids read m))

-- ---- the sum of records at places

pub record_more : (kinds : List Kind) (rs : List PlainRecord) (ps : List ℕ) (i p d : ℕ) (s new : PlainSum) → All IsMonoid kinds → HaveValues kinds rs → i < length ps → p ≡ get_or ps i d
    → (slice_get rs p ≡ None → new ≡ s) → ((r : PlainRecord) → slice_get rs p ≡ Some r → new ≡ added kinds s r) → ((r : PlainRecord) → slice_get rs p ≡ Some r → r.height ≤ depth_limit) → HasSummed kinds (at_places rs (take i ps)) s
    → HasSummed kinds (at_places rs (take (i + 1) ps)) new
record_more kinds rs ps i p d s new monoids values l at none some low h =
    let next : take (i + 1) ps ≡ take i ps ++ p ∷ [] = take_more ps i d l ∙ ap (λ q. take i ps ++ q ∷ []) (sym at) in
    subst (λ qs. HasSummed kinds (at_places rs qs) new) (sym next)
    (subst (λ xs. HasSummed kinds xs new) (sym (at_more rs (take i ps) (p ∷ [])))
    (elim (slice_get rs p) as (λ o. slice_get rs p ≡ o → HasSummed kinds (at_places rs (take i ps) ++ got_before o []) new) [
      | None ↦ λ e. subst (λ xs. HasSummed kinds xs new) (sym (append-nil (at_places rs (take i ps)))) (subst (HasSummed kinds (at_places rs (take i ps))) (sym (none e)) h)
      | Some r ↦ λ e. subst (HasSummed kinds (at_places rs (take i ps) ++ r ∷ [])) (sym (some r e))
          (one_record_more kinds (at_places rs (take i ps)) s r monoids (got_has (HasValuesIfAnswers kinds) rs p r values e (low r e)) h)
    ] refl))

-- the record at the last place
pub last_of : (vs : List ℤ) (rs : List PlainRecord) (ps : List ℕ) (p : ℕ) (r : PlainRecord) → Some p ≡ slice_get ps (length ps - 1) → slice_get rs p ≡ Some r → arguments_of_last vs (at_places rs ps) ≡ r.arguments
last_of vs rs [] p r e at = absurd cc
last_of vs rs (q ∷ []) p r e at = ap (λ n. arguments_of_last vs (got_before (slice_get rs n) [])) (let s : q ≡ p = cc in s) ∙ ap (λ o. arguments_of_last vs (got_before o [])) at
last_of vs rs (q ∷ n ∷ ps) p r e at =
    let long : suc (suc (length ps)) - 1 ≡ suc (length ps) = omega arith in
    let less : suc (length ps) - 1 ≡ length ps = omega arith in
    let rest : Some p ≡ slice_get (n ∷ ps) (length (n ∷ ps) - 1) = e ∙ ap (slice_get (q ∷ n ∷ ps)) long ∙ ap (slice_get (n ∷ ps)) (sym less) in
    elim (slice_get rs q) as (λ o. arguments_of_last vs (got_before o (at_places rs (n ∷ ps))) ≡ r.arguments) [
      | None ↦ last_of vs rs (n ∷ ps) p r rest at
      | Some x ↦ last_of x.arguments rs (n ∷ ps) p r rest at
    ]

-- the record made of the sum, where memory for it was there
pub sum_over : {E : Type 0} (made : Result PlainRecord E) (kinds : List Kind) (rs : List PlainRecord) (s : PlainSum) (last : PlainRecord) → 0 < length rs → arguments_of_last [] rs ≡ last.arguments
    → HasSummed kinds rs s → IfOk made (λ x. x ≡ summed s last) → IfOk made (λ x. IsSumFor s.keeps kinds rs x)
sum_over (Err e) kinds rs s last some ends h is = tt
sum_over (Ok x) kinds rs s last some ends h is = subst (IsSumFor s.keeps kinds rs) (sym is) (sum_is kinds rs s last some ends h)

pub some_in_row : (rs : List PlainRecord) (row : PlainRow) (first : ℤ) (ps : List ℕ) → AreInRow rs row first ps → 0 < length ps → 0 < length (at_places (map as_made rs) ps)
some_in_row rs row first ps in_row some = subst (λ n. 0 < n) (row_count rs row first ps in_row) some
