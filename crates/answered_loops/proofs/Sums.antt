-- A record in the place of several: a layer that takes it over has what it has after all of them.
use Rattle.std.proofs.Common.{◌≡◌, ℕ, zero, suc, ◌+◌, ◌-◌, Bool, true, false, not, ◌||◌, List, [], ◌∷◌, ◌++◌, map, max, pos, refl, sym, ap, ◌∙◌, arith, append_assoc}
use Rattle.std.specs.Prelude.{slice_set, ◌&&◌}
use Rattle.std.specs.List.{flat_map}
use Rattle.std.proofs.lemmas.List.{append-nil, map-append}
use Rattle.meaning.specs.Every.{every}
use Rattle.monoid_laws.specs.declared.Kind.{Kind}
use Rattle.monoid_laws.specs.Kinds.{AreWorths}
use Rattle.evaluation.specs.declared.note.Note.{Note}
use Rattle.record_theory.specs.Record.{PlainRecord}
use Rattle.record_theory.specs.Named.{SameMembers}
use Rattle.record_theory.specs.Sums.{IsSumOf, highest, contributed}
use Rattle.record_theory.proofs.Members.{every_member}
use Rattle.positions.specs.Layers.{PlainLayer, kept_behind, absorbing, flagged}
use Rattle.answered_loops.specs.Answered.{absorbed}

-- ---- flags

-- the flags that are up, and those of the numbers that pass
abbrev put_up : (ℕ → Bool) → List Bool → List Bool
put_up f [] = []
put_up f (b ∷ bs) = (b || f 0) ∷ put_up (λ i. f (suc i)) bs

put_up_same : (f g : ℕ → Bool) (bs : List Bool) → ((i : ℕ) → f i ≡ g i) → put_up f bs ≡ put_up g bs
put_up_same f g [] h = refl
put_up_same f g (b ∷ bs) h = ap (λ c. (b || c) ∷ put_up (λ i. f (suc i)) bs) (h 0) ∙ ap (λ cs. (b || g 0) ∷ cs) (put_up_same (λ i. f (suc i)) (λ i. g (suc i)) bs (λ i. h (suc i)))

or_false : (b : Bool) → (b || false) ≡ b
or_false true = refl
or_false false = refl

or_true : (b : Bool) → (b || true) ≡ true
or_true true = refl
or_true false = refl

put_up_none : (bs : List Bool) → put_up (λ i. false) bs ≡ bs
put_up_none [] = refl
put_up_none (b ∷ bs) = ap (λ c. c ∷ put_up (λ i. false) bs) (or_false b) ∙ ap (λ cs. b ∷ cs) (put_up_none bs)

abbrev same_number : ℕ → ℕ → Bool
same_number zero zero = true
same_number zero (suc m) = false
same_number (suc n) zero = false
same_number (suc n) (suc m) = same_number n m

-- the number is among those
abbrev named : List ℕ → ℕ → Bool
named ps i = not (every (λ p. not (same_number i p)) ps)

next_named : (a b : Bool) → not (not a && b) ≡ (a || not b)
next_named true b = refl
next_named false b = refl

put_up_set : (f g : ℕ → Bool) (bs : List Bool) (p : ℕ) → ((i : ℕ) → g i ≡ (same_number i p || f i)) → put_up f (slice_set bs p true) ≡ put_up g bs
put_up_set f g [] p h = refl
put_up_set f g (b ∷ bs) zero h =
    ap (λ cs. true ∷ cs) (put_up_same (λ i. f (suc i)) (λ i. g (suc i)) bs (λ i. sym (h (suc i))))
    ∙ ap (λ c. c ∷ put_up (λ i. g (suc i)) bs) (sym (ap (λ c. b || c) (h 0) ∙ or_true b))
put_up_set f g (b ∷ bs) (suc p) h =
    ap (λ c. (b || c) ∷ put_up (λ i. f (suc i)) (slice_set bs p true)) (sym (h 0))
    ∙ ap (λ cs. (b || g 0) ∷ cs) (put_up_set (λ i. f (suc i)) (λ i. g (suc i)) bs p (λ i. h (suc i)))

flagged_is : (bs : List Bool) (ps : List ℕ) → flagged bs ps ≡ put_up (named ps) bs
flagged_is bs [] = sym (put_up_none bs)
flagged_is bs (p ∷ ps) =
    flagged_is (slice_set bs p true) ps ∙ put_up_set (named ps) (named (p ∷ ps)) bs p (λ i. next_named (same_number i p) (every (λ q. not (same_number i q)) ps))

every_mapped : (test : ℕ → Bool) (es : List (ℕ × ℕ)) → every test (map (λ e. e.0) es) ≡ every (λ e. test e.0) es
every_mapped test [] = refl
every_mapped test (e ∷ es) = ap (λ b. test e.0 && b) (every_mapped test es)

-- which flags are put up goes by what the members are
flagged_same : (bs : List Bool) (xs ys : List (ℕ × ℕ)) → SameMembers xs ys → flagged bs (map (λ e. e.0) xs) ≡ flagged bs (map (λ e. e.0) ys)
flagged_same bs xs ys h =
    let same : (i : ℕ) → named (map (λ e. e.0) xs) i ≡ named (map (λ e. e.0) ys) i =
    λ i. ap not (every_mapped (λ p. not (same_number i p)) xs ∙ every_member (λ e. not (same_number i e.0)) xs ys h ∙ sym (every_mapped (λ p. not (same_number i p)) ys)) in
    flagged_is bs (map (λ e. e.0) xs) ∙ put_up_same (named (map (λ e. e.0) xs)) (named (map (λ e. e.0) ys)) bs same ∙ sym (flagged_is bs (map (λ e. e.0) ys))

flagged_append : (bs : List Bool) (ps qs : List ℕ) → flagged bs (ps ++ qs) ≡ flagged (flagged bs ps) qs
flagged_append bs [] qs = refl
flagged_append bs (p ∷ ps) qs = flagged_append (slice_set bs p true) ps qs

-- ---- depths

abbrev deepest_behind : ℕ → List PlainRecord → ℕ → ℕ
deepest_behind d [] m = m
deepest_behind d (r ∷ rs) m = deepest_behind d rs (max m (d + r.height - 1))

one_deep : (m d a : ℕ) → max m (d + a - 1) ≡ max m (d + max a 0 - 1)
one_deep m d a = omega arith

more_deep : (m d a b : ℕ) → max (max m (d + a - 1)) (d + b - 1) ≡ max m (d + max a b - 1)
more_deep m d a b = omega arith

deepest_is : (d : ℕ) (r : PlainRecord) (rs : List PlainRecord) (m : ℕ) → deepest_behind d (r ∷ rs) m ≡ max m (d + highest (r ∷ rs) - 1)
deepest_is d r [] m = one_deep m d r.height
deepest_is d r (q ∷ rs) m = deepest_is d q rs (max m (d + r.height - 1)) ∙ more_deep m d r.height (highest (q ∷ rs))

-- ---- layers

kept_none : (b : Bool) (ns : List Note) → kept_behind b ns [] ≡ ns
kept_none true ns = append-nil ns
kept_none false ns = refl

kept_more : (b : Bool) (ns ms rs : List Note) → kept_behind b (kept_behind b ns ms) rs ≡ kept_behind b ns (ms ++ rs)
kept_more true ns ms rs = append_assoc ns ms rs
kept_more false ns ms rs = refl

kept_same : (b : Bool) (ns ms rs : List Note) → (b ≡ true → ms ≡ rs) → kept_behind b ns ms ≡ kept_behind b ns rs
kept_same true ns ms rs h = ap (λ xs. ns ++ xs) (h refl)
kept_same false ns ms rs h = refl

-- what a record has read counts only where the layer keeps it
pub absorbing_reads : (d : ℕ) (ns : List Note) (r : PlainRecord) (l : PlainLayer) → (l.keeps ≡ true → r.reads ≡ ns) → absorbing r d l ≡ absorbing (record r { reads = ns }) d l
absorbing_reads d ns r l h = ap (λ xs. record (absorbing r d l) { shared = xs }) (kept_same l.keeps l.shared r.reads ns h)

-- what a layer is behind records, part by part
absorbed_is : (d : ℕ) (rs : List PlainRecord) (l : PlainLayer) → absorbed d rs l ≡ record l {
  worths = contributed l.kinds l.worths rs;
  shared = kept_behind l.keeps l.shared (flat_map (λ r. r.reads) rs);
  entered = flagged l.entered (map (λ e. e.0) (flat_map (λ r. r.entered) rs));
  deepest = deepest_behind d rs l.deepest;
}
absorbed_is d [] l = ap (λ ns. record l { shared = ns }) (sym (kept_none l.keeps l.shared))
absorbed_is d (r ∷ rs) l =
    let worths = contributed l.kinds l.worths (r ∷ rs) in
    let deepest = deepest_behind d (r ∷ rs) l.deepest in
    let flags = flagged (flagged l.entered (map (λ e. e.0) r.entered)) (map (λ e. e.0) (flat_map (λ q. q.entered) rs)) in
    absorbed_is d rs (absorbing r d l)
    ∙ ap (λ ns. record l { worths = worths; shared = ns; entered = flags; deepest = deepest }) (kept_more l.keeps l.shared r.reads (flat_map (λ q. q.reads) rs))
    ∙ ap (λ bs. record l { worths = worths; shared = kept_behind l.keeps l.shared (flat_map (λ q. q.reads) (r ∷ rs)); entered = bs; deepest = deepest })
    (sym (ap (flagged l.entered) (map-append (λ e. e.0) r.entered (flat_map (λ q. q.entered) rs)) ∙ flagged_append l.entered (map (λ e. e.0) r.entered) (map (λ e. e.0) (flat_map (λ q. q.entered) rs))))

not_none : (kinds : List Kind) (s : PlainRecord) → IsSumOf kinds [] s → ⊥
not_none kinds s h =
    let clash : pos 0 ∷ [] ≡ [] = h.arguments (pos 0 ∷ []) ∙ sym (h.arguments []) in
    absurd cc

-- a record that has what records have together leaves what they leave
pub absorbing_sum : (d : ℕ) (rs : List PlainRecord) (s : PlainRecord) (l : PlainLayer) → AreWorths l.kinds l.worths → IsSumOf l.kinds rs s → absorbing s d l ≡ absorbed d rs l
absorbing_sum d [] s l are sum = absurd (not_none l.kinds s sum)
absorbing_sum d (r ∷ rs) s l are sum =
    let flags = flagged l.entered (map (λ e. e.0) s.entered) in
    let deepest = max l.deepest (d + s.height - 1) in
    let worths = contributed l.kinds l.worths (r ∷ rs) in
    let shared = kept_behind l.keeps l.shared (flat_map (λ q. q.reads) (r ∷ rs)) in
    let behind = flagged l.entered (map (λ e. e.0) (flat_map (λ q. q.entered) (r ∷ rs))) in
    ap (λ ws. record l { worths = ws; shared = kept_behind l.keeps l.shared s.reads; entered = flags; deepest = deepest }) (sum.worths l.worths are)
    ∙ ap (λ ns. record l { worths = worths; shared = kept_behind l.keeps l.shared ns; entered = flags; deepest = deepest }) sum.reads
    ∙ ap (λ bs. record l { worths = worths; shared = shared; entered = bs; deepest = deepest }) (flagged_same l.entered s.entered (flat_map (λ q. q.entered) (r ∷ rs)) sum.entered)
    ∙ ap (λ m. record l { worths = worths; shared = shared; entered = behind; deepest = m }) (ap (λ h. max l.deepest (d + h - 1)) sum.height ∙ sym (deepest_is d r rs l.deepest))
    ∙ sym (absorbed_is d (r ∷ rs) l)
