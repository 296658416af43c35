-- Batches one after another: what is known of each, and what they leave so far.
use Rattle.std.proofs.Common.{◌≡◌, ℕ, suc, ◌+◌, ◌-◌, ◌<◌, ℤ, List, [], ◌∷◌, map, length, drop, get_or, slice_get, All, Some, sym, ap, ◌∙◌, subst, arith}
use Rattle.std.proofs.lemmas.List.{drop_more, get_or-map, length-map}
use Rattle.std.proofs.lemmas.List.Elements.{All-get_or}
use Rattle.rerun_records.specs.declared.batch.Batch.{Batch}
use Rattle.record_theory.specs.Record.{PlainRecord}
use Rattle.record_theory.specs.Sums.{arguments_of_last}
use Rattle.positions.specs.Layers.{PlainLayer, absorbing}
use Rattle.positions.specs.Tallies.{PlainTally}
use Rattle.answered_loops.specs.Answered.{absorbed, answered_more}
use Rattle.loop_answers.specs.Batches.{instances_in}

drop_mapped : {A B : Type 0} (f : A → B) (xs : List A) (i : ℕ) (e : A) → i < length xs → e ≡ get_or xs i e → drop i (map f xs) ≡ f e ∷ drop (i + 1) (map f xs)
drop_mapped f xs i e l at =
    let within : i < length (map f xs) = subst (λ n. i < n) (sym (length-map xs f)) l in
    drop_more (map f xs) i (f e) within ∙ ap (λ d. d ∷ drop (i + 1) (map f xs)) (get_or-map f xs i e (f e) l ∙ ap f (sym at))

pub all_at : {A B : Type 0} (P : B → Type 0) (f : A → B) (xs : List A) (i : ℕ) (e : A) → All P (map f xs) → i < length xs → e ≡ get_or xs i e → P (f e)
all_at P f xs i e h l at =
    let within : i < length (map f xs) = subst (λ n. i < n) (sym (length-map xs f)) l in
    subst P (get_or-map f xs i e (f e) l ∙ ap f (sym at)) (All-get_or P (map f xs) i (f e) within h)

-- one more is absorbed
pub absorbs_more : {A : Type 0} (f : A → PlainRecord) (d : ℕ) (xs : List A) (i : ℕ) (e : A) (l m total : PlainLayer) → i < length xs → e ≡ get_or xs i e → m ≡ absorbing (f e) d l → absorbed d (drop i (map f xs)) l ≡ total
    → absorbed d (drop (i + 1) (map f xs)) m ≡ total
absorbs_more f d xs i e l m total within at is so_far =
    ap (absorbed d (drop (i + 1) (map f xs))) is ∙ ap (λ rs. absorbed d rs l) (sym (drop_mapped f xs i e within at)) ∙ so_far

-- nothing but that count has changed since
pub still_same : (s t u : PlainTally) (n : ℕ) → t ≡ record s { reused = t.reused } → u ≡ record t { reused = n } → u ≡ record s { reused = u.reused }
still_same s t u n e f =
    f ∙ ap (λ (x : PlainTally). record x { reused = n }) e ∙ ap (λ m. record s { reused = m }) (sym (ap (λ (x : PlainTally). x.reused) f))

-- and counted
pub counts_more : (xs : List Batch) (i : ℕ) (b : Batch) (t u total : PlainTally) → i < length xs → b ≡ get_or xs i b → u ≡ record t { reused = t.reused + b.count } → answered_more (instances_in (drop i xs)) t ≡ total
    → answered_more (instances_in (drop (i + 1) xs)) u ≡ total
counts_more xs i b t u total within at is so_far =
    let rest = instances_in (drop (i + 1) xs) in
    let more : (t.reused + b.count) + rest ≡ t.reused + (b.count + rest) = omega arith in
    ap (answered_more rest) is
    ∙ ap (λ n. record t { reused = n }) more
    ∙ ap (λ bs. answered_more (instances_in bs) t) (sym (drop_more xs i b within ∙ ap (λ c. c ∷ drop (i + 1) xs) (sym at)))
    ∙ so_far

-- the arguments of the last one
pub last_at : {A : Type 0} (f : A → PlainRecord) (vs : List ℤ) (xs : List A) (x : A) → Some x ≡ slice_get xs (length xs - 1) → arguments_of_last vs (map f xs) ≡ (f x).arguments
last_at f vs [] x e = absurd cc
last_at f vs (y ∷ []) x e = ap (λ (z : PlainRecord). z.arguments) (ap f (let q : y ≡ x = cc in q))
last_at f vs (y ∷ z ∷ zs) x e =
    let long : suc (suc (length zs)) - 1 ≡ suc (length zs) = omega arith in
    let less : suc (length zs) - 1 ≡ length zs = omega arith in
    last_at f (f y).arguments (z ∷ zs) x (e ∙ ap (slice_get (y ∷ z ∷ zs)) long ∙ ap (slice_get (z ∷ zs)) (sym less))
