-- A record that takes the place of another.
use Rattle.std.proofs.Common.{◌≡◌, All, ℕ, suc, ◌+◌, ◌≤◌, ◌<◌, true, false, cond, List, [], ◌∷◌, length, map, refl, sym, ap, ◌∙◌, arith}
use Rattle.std.proofs.lemmas.List.Elements.{All-cons, All-head, All-tail}
use Rattle.record_theory.specs.Record.{PlainRecord, same_instance, as_made}
use Rattle.record_theory.specs.Named.{HasValuesIfAnswers, HaveValues}
use Rattle.monoid_laws.specs.declared.Kind.{Kind}
use Rattle.record_theory.specs.Commits.{put_record, put_records}

-- one more record was put in
pub still_put : (before now rest all whole : List PlainRecord) (r : PlainRecord)
    → put_records before all ≡ whole → all ≡ r ∷ rest → now ≡ put_record before r → put_records now rest ≡ whole
still_put before now rest all whole r e s n = ap (λ rs. put_records rs rest) n ∙ ap (put_records before) (sym s) ∙ e

-- what is true of records that are there and of one that is put in, is true of them together
all_put : (P : PlainRecord → Type 0) (rs : List PlainRecord) (r : PlainRecord) → All P rs → P r → All P (put_record rs r)
all_put P [] r a p = All-cons P r [] p a
all_put P (s ∷ ss) r a p =
    elim (same_instance r s) as (λ b. All P (cond b (r ∷ ss) (s ∷ put_record ss r))) [
      | true ↦ All-cons P r ss p (All-tail P s ss a)
      | false ↦ All-cons P s (put_record ss r) (All-head P s ss a) (all_put P ss r (All-tail P s ss a) p)
    ]

pub all_put_in : (P : PlainRecord → Type 0) (rs ss : List PlainRecord) → All P rs → All P ss → All P (put_records rs ss)
all_put_in P rs [] a b = a
all_put_in P rs (s ∷ ss) a b = all_put_in P (put_record rs s) ss (all_put P rs s a (All-head P s ss b)) (All-tail P s ss b)

-- a record is put among others with number 0 as it is among those with any
as_made_put : (rs : List PlainRecord) (r : PlainRecord) → map as_made (put_record rs r) ≡ put_record (map as_made rs) (as_made r)
as_made_put [] r = refl
as_made_put (s ∷ ss) r =
    elim (same_instance r s) as (λ b. map as_made (cond b (r ∷ ss) (s ∷ put_record ss r)) ≡ cond b (as_made r ∷ map as_made ss) (as_made s ∷ put_record (map as_made ss) (as_made r))) [
      | true ↦ refl
      | false ↦ ap (λ xs. as_made s ∷ xs) (as_made_put ss r)
    ]

pub still_as_made : (before now : List PlainRecord) (r : PlainRecord) → map as_made before ≡ before → now ≡ put_record before r → as_made r ≡ r → map as_made now ≡ now
still_as_made before now r b n s = ap (map as_made) n ∙ as_made_put before r ∙ ap (λ xs. put_record xs (as_made r)) b ∙ ap (put_record before) s ∙ sym n

pub place_before : (rest all : List PlainRecord) (r : PlainRecord) (places capacity : ℕ) → places + length all ≤ capacity → all ≡ r ∷ rest → places < capacity
place_before rest all r places capacity l s = let e : length all ≡ suc (length rest) = ap length s in omega (arith, l, e)

pub places_after : (rest all : List PlainRecord) (r : PlainRecord) (before after capacity same : ℕ) → before + length all ≤ capacity → all ≡ r ∷ rest → after ≤ before + 1 → same ≡ capacity → after + length rest ≤ same
places_after rest all r before after capacity same l s m e = let long : length all ≡ suc (length rest) = ap length s in omega (arith, l, long, m, e)

pub still_put_as_made : (before now rest all whole : List PlainRecord) (r : PlainRecord)
    → put_records (map as_made before) all ≡ whole → all ≡ r ∷ rest → now ≡ put_record before r → as_made r ≡ r → put_records (map as_made now) rest ≡ whole
still_put_as_made before now rest all whole r e s n m =
    still_put (map as_made before) (map as_made now) rest all whole r e s (ap (map as_made) n ∙ as_made_put before r ∙ ap (put_record (map as_made before)) m)

-- a test of records that doesn't go by their numbers
as_made_pass : (P : PlainRecord → Type 0) → ((r : PlainRecord) → P r → P (as_made r)) → (rs : List PlainRecord) → All P rs → All P (map as_made rs)
as_made_pass P f [] a = a
as_made_pass P f (r ∷ rs) a = All-cons P (as_made r) (map as_made rs) (f r (All-head P r rs a)) (as_made_pass P f rs (All-tail P r rs a))

numbered_pass : (P : PlainRecord → Type 0) → ((r : PlainRecord) → P (as_made r) → P r) → (rs : List PlainRecord) → All P (map as_made rs) → All P rs
numbered_pass P f [] a = a
numbered_pass P f (r ∷ rs) a = All-cons P r rs (f r (All-head P (as_made r) (map as_made rs) a)) (numbered_pass P f rs (All-tail P (as_made r) (map as_made rs) a))

pub same_values : (kinds : List Kind) (rs ss : List PlainRecord) → map as_made ss ≡ map as_made rs → HaveValues kinds rs → HaveValues kinds ss
same_values kinds rs ss e h = numbered_pass (HasValuesIfAnswers kinds) (λ r v. v) ss (rw e (as_made_pass (HasValuesIfAnswers kinds) (λ r v. v) rs h))
