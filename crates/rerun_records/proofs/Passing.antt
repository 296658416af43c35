-- Hulls of instances around others, as records are put in and added.
use Rattle.std.proofs.Common.{◌≡◌, ◌⊎◌, inl, inr, ◌<◌, ◌≤◌, ◌+◌, ◌-◌, ℕ, zero, suc, ℤ, true, false, List, [], ◌∷◌, ◌++◌, Some, length, take, refl, sym, ap, ◌∙◌, subst, arith, get_or}
use Rattle.std.proofs.lemmas.Bool.Decides.{Decides-eqb}
use Rattle.std.proofs.lemmas.Option.{slice_get-get_or, slice_get_within, get_or_from_slice_get}
use Rattle.std.specs.Prelude.{nat_eq, slice_get}
use Rattle.std.specs.List.{list_any}
use Rattle.evaluation.specs.declared.note.Note.{Note}
use Rattle.meaning.specs.Every.{every}
use Rattle.record_theory.specs.Record.{PlainRecord}
use Rattle.instance_records.specs.declared.spans.Span.{Span}
use Rattle.instance_records.specs.Spans.{is_covered_by}
use Rattle.record_theory.specs.InStep.{is_apart}
use Rattle.rerun_records.specs.Covers.{PlainCovers, AreCoveredBut, AreKept, AreApart, AreSameBut}
use Rattle.rerun_records.specs.Skips.{PlainSkip, PlainSkips, IsInHull, LiesIn, PassBut, Reaches}
use Rattle.record_theory.proofs.Members.{every_weaker}
use Rattle.instance_records.proofs.Joined.{below}
use Rattle.rerun_records.proofs.Covering.{neither, past_levels, levels_but, appended_same_but, in_neither}

abbrev pub with_done : ℕ → List PlainSkip → PlainSkips
with_done done skips = record { done = done; skips = skips }

-- ---- places

-- the last of so many, and those before it
last_or_before : (i n : ℕ) → i < n → (i ≡ n - 1) ⊎ (i < n - 1)
last_or_before i n l =
    elim (below i (n - 1)) as (λ _. (i ≡ n - 1) ⊎ (i < n - 1)) [
      | inl less ↦ inr less
      | inr more ↦ inl (omega (arith, l, more))
    ]

taken_back : (n i : ℕ) (xs : List PlainSkip) (s : PlainSkip) → slice_get (take n xs) i ≡ Some s → (i < n) × (slice_get xs i ≡ Some s)
taken_back zero i xs s e = absurd cc
taken_back (suc n) i [] s e = absurd cc
taken_back (suc n) zero (x ∷ xs) s e = (omega arith, e)
taken_back (suc n) (suc i) (x ∷ xs) s e =
    let rest = taken_back n i xs s e in
    let less = rest.0 in (omega (arith, less), rest.1)

behind_got : (xs : List PlainSkip) (y s : PlainSkip) (i : ℕ) → slice_get (xs ++ y ∷ []) i ≡ Some s → (slice_get xs i ≡ Some s) ⊎ ((i ≡ length xs) × (s ≡ y))
behind_got [] y s zero e = inr (refl, (let t : y ≡ s = cc (e) in sym t))
behind_got [] y s (suc i) e = absurd cc
behind_got (x ∷ xs) y s zero e = inl e
behind_got (x ∷ xs) y s (suc i) e =
    elim (behind_got xs y s i e) as (λ _. (slice_get xs i ≡ Some s) ⊎ ((suc i ≡ suc (length xs)) × (s ≡ y))) [
      | inl l ↦ inl l
      | inr t ↦ inr (ap suc t.0, t.1)
    ]

same_skip : (xs : List PlainSkip) (i : ℕ) (s t : PlainSkip) → slice_get xs i ≡ Some s → slice_get xs i ≡ Some t → s ≡ t
same_skip xs i s t e f = (let g : Some s ≡ Some t = sym e ∙ f in cc (g))

-- the one that is read at a place is the one that is there
pub there_skip : (xs : List PlainSkip) (i : ℕ) (x s : PlainSkip) → x ≡ get_or xs i x → slice_get xs i ≡ Some s → x ≡ s
there_skip xs i x s e at = e ∙ get_or_from_slice_get xs i s x at

-- one more of which something holds
pub one_more_skip : (P : PlainSkip → Type 0) (xs : List PlainSkip) (n : ℕ) (x : PlainSkip) → x ≡ get_or xs n x → P x → ((i : ℕ) (s : PlainSkip) → i < n → slice_get xs i ≡ Some s → P s)
    → (i : ℕ) (s : PlainSkip) → i < n + 1 → slice_get xs i ≡ Some s → P s
one_more_skip P xs n x e p h i s l at =
    elim (below i n) as (λ _. P s) [
      | inl less ↦ h i s less at
      | inr more ↦ (let here : i ≡ n = omega (arith, l, more) in subst P (there_skip xs n x s e (subst (λ (k : ℕ). slice_get xs k ≡ Some s) here at)) p)
    ]

pub with_got : {R : Type 0} (xs : List PlainSkip) (n : ℕ) → n < length xs → ((t : PlainSkip) → slice_get xs n ≡ Some t → R) → R
with_got [] n l k = absurd (omega (arith, l))
with_got (x ∷ xs) zero l k = k x refl
with_got (x ∷ xs) (suc n) l k = with_got xs n (omega (arith, l)) k

-- ---- records are put in

module _ (records : List PlainRecord) (place : ℕ) (rest : List ℕ) (all : PlainSkips) where
  -- so much is left to do for a place
  put_pass : PassBut (place ∷ rest) records all
      → ((i : ℕ) (s : PlainSkip) (r : PlainRecord) → slice_get all.skips i ≡ Some s → s.first ≤ place → place < s.until → slice_get records place ≡ Some r → every (is_covered_by s.hull) r.reads ≡ true)
      → PassBut rest records all
  put_pass c put = record {
    full = c.full;
    some = c.some;
    ends = c.ends;
    few = c.few;
    order = c.order;
    apart = c.apart;
    inside = c.inside;
    held = λ i p s r at from upto other there.
        elim (nat_eq p place) as (λ b. nat_eq p place ≡ b → every (is_covered_by s.hull) r.reads ≡ true) [
          | true ↦ λ e.
              let here : p ≡ place = (Decides-eqb p place).0 e in
              put i s r at (omega (arith, from, here)) (omega (arith, upto, here)) (subst (λ (n : ℕ). slice_get records n ≡ Some r) here there)
          | false ↦ λ e. c.held i p s r at from upto (neither (nat_eq p place) (list_any (nat_eq p) rest) e other) there
        ] refl;
  }

  -- no hull has a place at which no record is
  pub past_pass : length records ≤ place → PassBut (place ∷ rest) records all → PassBut rest records all
  past_pass past c = put_pass c (λ i s r at from upto there. (let within : place < length records = slice_get_within records place r there in absurd (omega (arith, past, within))))

  -- none is around the place
  pub none_pass : PassBut (place ∷ rest) records all → ((i : ℕ) (s : PlainSkip) → i < length all.skips → slice_get all.skips i ≡ Some s → s.first ≤ place → place < s.until → ⊥) → PassBut rest records all
  none_pass c none = put_pass c (λ i s r at from upto there. absurd (none i s (slice_get_within all.skips i s at) at from upto))

  -- the first one that is around the place holds what was read, so those behind do
  pub kept_pass : (number : ℕ) (t : PlainSkip) (notes : List Note) → PassBut (place ∷ rest) records all → slice_get all.skips number ≡ Some t → t.first ≤ place → place < t.until
      → ((i : ℕ) (s : PlainSkip) → i < number → slice_get all.skips i ≡ Some s → s.first ≤ place → place < s.until → ⊥) → every (is_covered_by t.hull) notes ≡ true
      → ((r : PlainRecord) → slice_get records place ≡ Some r → r.reads ≡ notes) → PassBut rest records all
  kept_pass number t notes c at_t begun until none held is =
      put_pass c
      (λ i s r at from upto there.
      subst (λ ns. every (is_covered_by s.hull) ns ≡ true) (sym (is r there))
      (elim (below i number) as (λ _. every (is_covered_by s.hull) notes ≡ true) [
        | inl less ↦ absurd (none i s less at from upto)
        | inr more ↦
            elim (below number i) as (λ _. every (is_covered_by s.hull) notes ≡ true) [
              | inl behind ↦
                  elim (below number s.before) as (λ _. every (is_covered_by s.hull) notes ≡ true) [
                    | inl before ↦ (let apart = c.apart number i t s before at_t at in absurd (omega (arith, apart, from, until)))
                    | inr not_before ↦ every_weaker (is_covered_by t.hull) (is_covered_by s.hull) notes (c.inside number i t s not_before behind at_t at).held held
                  ]
              | inr not_behind ↦
                  (let here : i ≡ number = omega (arith, more, not_behind) in
                  let same : t ≡ s = same_skip all.skips number t s at_t (subst (λ (n : ℕ). slice_get all.skips n ≡ Some s) here at) in
                  subst (λ (x : PlainSkip). every (is_covered_by x.hull) notes ≡ true) same held)
            ]
      ]))

-- fewer hulls pass as all do
pub fewer_pass : (places : List ℕ) (records : List PlainRecord) (done number : ℕ) (skips : List PlainSkip) → PassBut places records (with_done done skips) → PassBut places records (with_done done (take number skips))
fewer_pass places records done number skips c = record {
  full = c.full;
  some = λ i s at. c.some i s (taken_back number i skips s at).1;
  ends = λ i s at. c.ends i s (taken_back number i skips s at).1;
  few = λ i s at. c.few i s (taken_back number i skips s at).1;
  order = λ i j s t l at behind. c.order i j s t l (taken_back number i skips s at).1 (taken_back number j skips t behind).1;
  apart = λ i j s t l at behind. c.apart i j s t l (taken_back number i skips s at).1 (taken_back number j skips t behind).1;
  inside = λ i j s t m l at behind. c.inside i j s t m l (taken_back number i skips s at).1 (taken_back number j skips t behind).1;
  held = λ i p s r at. c.held i p s r (taken_back number i skips s at).1;
}

-- so where the first one around a place is dropped with those behind it
pub cut_pass : (records : List PlainRecord) (place : ℕ) (rest : List ℕ) (done number : ℕ) (skips : List PlainSkip) → PassBut (place ∷ rest) records (with_done done skips)
    → ((i : ℕ) (s : PlainSkip) → i < number → slice_get skips i ≡ Some s → s.first ≤ place → place < s.until → ⊥) → PassBut rest records (with_done done (take number skips))
cut_pass records place rest done number skips c none =
    none_pass records place rest (with_done done (take number skips)) (fewer_pass (place ∷ rest) records done number skips c)
    (λ i s l at. (let was = taken_back number i skips s at in none i s was.0 was.1))

-- with other records at these places and more behind, hulls hold what the others have read that they held before
pub same_pass : (late places later : List ℕ) (before now : List PlainRecord) (all : PlainSkips) → AreSameBut places before now
    → ((p : ℕ) → list_any (nat_eq p) later ≡ false → (list_any (nat_eq p) late ≡ false) × (list_any (nat_eq p) places ≡ false)) → PassBut late before all → PassBut later now all
same_pass late places later before now all same none c = record {
  full = (let done = c.full in let more = same.no_fewer in omega (arith, done, more));
  some = c.some;
  ends = c.ends;
  few = c.few;
  order = c.order;
  apart = c.apart;
  inside = c.inside;
  held = λ i p s r at from upto other there.
      let done = c.full in
      let ends = c.ends i s at in
      let old : p < length before = omega (arith, upto, ends, done) in
      c.held i p s r at from upto (none p other).0 (same.same p r old (none p other).1 there);
}

-- those before one end no later
pub ends_before : (places : List ℕ) (records : List PlainRecord) (done : ℕ) (skips : List PlainSkip) (middle place : ℕ) (x : PlainSkip) → PassBut places records (with_done done skips) → middle < length skips → x ≡ get_or skips middle x → x.until ≤ place
    → (i : ℕ) (s : PlainSkip) → i < middle + 1 → slice_get skips i ≡ Some s → s.until ≤ place
ends_before places records done skips middle place x c within e until =
    let at_x : slice_get skips middle ≡ Some x = slice_get-get_or skips middle x within ∙ ap Some (sym e) in
    one_more_skip (λ s. s.until ≤ place) skips middle x e until (λ i s l at. (let ordered = c.order i middle s x l at at_x in omega (arith, ordered, until)))

-- ---- one more hull

-- more or fewer places are done
pub done_pass : (places : List ℕ) (records : List PlainRecord) (done new : ℕ) (skips : List PlainSkip) → PassBut places records (with_done done skips) → new ≤ length records
    → ((i : ℕ) (s : PlainSkip) → slice_get skips i ≡ Some s → s.until ≤ new) → PassBut places records (with_done new skips)
done_pass places records done new skips c within ends = record {
  full = within;
  some = c.some;
  ends = ends;
  few = c.few;
  order = c.order;
  apart = c.apart;
  inside = c.inside;
  held = c.held;
}

pub more_pass : (places : List ℕ) (records : List PlainRecord) (done new : ℕ) (skips : List PlainSkip) → PassBut places records (with_done done skips) → done ≤ new → new ≤ length records → PassBut places records (with_done new skips)
more_pass places records done new skips c more within = done_pass places records done new skips c within (λ i s at. (let ends = c.ends i s at in omega (arith, ends, more)))

pub added_pass : (records : List PlainRecord) (place : ℕ) (skips : List PlainSkip) (y : PlainSkip) → PassBut [] records (with_done place skips) → place < length records → y.until ≡ place + 1 → Reaches records skips y.hull place y.first y.before
    → ((r : PlainRecord) → slice_get records place ≡ Some r → every (is_covered_by y.hull) r.reads ≡ true) → PassBut [] records (with_done (place + 1) (skips ++ y ∷ []))
added_pass records place skips y c within until reaches own = record {
  full = omega (arith, within);
  some = λ i s at.
      elim (behind_got skips y s i at) as (λ _. s.first < s.until) [
        | inl old ↦ c.some i s old
        | inr t ↦ (let begun = reaches.within in subst (λ (x : PlainSkip). x.first < x.until) (sym t.1) (omega (arith, begun, until)))
      ];
  ends = λ i s at.
      elim (behind_got skips y s i at) as (λ _. s.until ≤ place + 1) [
        | inl old ↦ (let ends = c.ends i s old in omega (arith, ends))
        | inr t ↦ subst (λ (x : PlainSkip). x.until ≤ place + 1) (sym t.1) (omega (arith, until))
      ];
  few = λ i s at.
      elim (behind_got skips y s i at) as (λ _. s.before ≤ i) [
        | inl old ↦ c.few i s old
        | inr t ↦ (let few = reaches.few in let here = t.0 in subst (λ (x : PlainSkip). x.before ≤ i) (sym t.1) (omega (arith, few, here)))
      ];
  order = λ i j s t l at behind.
      elim (behind_got skips y t j behind) as (λ _. s.until ≤ t.until) [
        | inl old ↦ c.order i j s t l (earlier i j s t l at old) old
        | inr new ↦
            (let first = c.ends i s (first_ones i j s l at new.0) in
            subst (λ (x : PlainSkip). s.until ≤ x.until) (sym new.1) (omega (arith, first, until)))
      ];
  apart = λ i j s t l at behind.
      elim (behind_got skips y t j behind) as (λ _. s.until ≤ t.first) [
        | inl old ↦ (let few = c.few j t old in c.apart i j s t l (earlier i j s t (omega (arith, few, l)) at old) old)
        | inr new ↦
            (let fewer : i < y.before = subst (λ (x : PlainSkip). i < x.before) new.1 l in
            let few = reaches.few in
            let here = new.0 in
            subst (λ (x : PlainSkip). s.until ≤ x.first) (sym new.1) (reaches.apart i s fewer (first_ones i j s (omega (arith, fewer, few, here)) at here)))
      ];
  inside = λ i j s t m l at behind.
      elim (behind_got skips y t j behind) as (λ _. LiesIn s t.first t.hull) [
        | inl old ↦ c.inside i j s t m l (earlier i j s t l at old) old
        | inr new ↦
            (let more : y.before ≤ i = subst (λ (x : PlainSkip). x.before ≤ i) new.1 m in
            subst (λ (x : PlainSkip). LiesIn s x.first x.hull) (sym new.1) (reaches.inside i s more (first_ones i j s l at new.0)))
      ];
  held = λ i p s r at from upto other there.
      elim (behind_got skips y s i at) as (λ _. every (is_covered_by s.hull) r.reads ≡ true) [
        | inl old ↦ c.held i p s r old from upto other there
        | inr t ↦
            (let begun : y.first ≤ p = subst (λ (x : PlainSkip). x.first ≤ p) t.1 from in
            let inside : p < y.until = subst (λ (x : PlainSkip). p < x.until) t.1 upto in
            subst (λ (x : PlainSkip). every (is_covered_by x.hull) r.reads ≡ true) (sym t.1)
            (elim (below p place) as (λ _. every (is_covered_by y.hull) r.reads ≡ true) [
              | inl less ↦ reaches.held p r begun less there
              | inr more ↦ (let here : p ≡ place = omega (arith, more, inside, until) in own r (subst (λ (n : ℕ). slice_get records n ≡ Some r) here there))
            ]))
      ];
}
  where
    -- one before another that is there is there
    earlier : (i j : ℕ) (s t : PlainSkip) → i < j → slice_get (skips ++ y ∷ []) i ≡ Some s → slice_get skips j ≡ Some t → slice_get skips i ≡ Some s
    earlier i j s t l at old =
        elim (behind_got skips y s i at) as (λ _. slice_get skips i ≡ Some s) [
          | inl was ↦ was
          | inr new ↦ (let within = slice_get_within skips j t old in let here = new.0 in absurd (omega (arith, l, within, here)))
        ]

    first_ones : (i j : ℕ) (s : PlainSkip) → i < j → slice_get (skips ++ y ∷ []) i ≡ Some s → j ≡ length skips → slice_get skips i ≡ Some s
    first_ones i j s l at last =
        elim (behind_got skips y s i at) as (λ _. slice_get skips i ≡ Some s) [
          | inl was ↦ was
          | inr new ↦ (let here = new.0 in absurd (omega (arith, l, last, here)))
        ]

-- ---- back from a record to the first one that has read what it has

module _ (records : List PlainRecord) (skips : List PlainSkip) (hull : List Span) (place : ℕ) where
  pub reaches_none : PassBut [] records (with_done place skips) → Reaches records skips hull place place (length skips)
  reaches_none c = record {
    within = omega arith;
    few = omega arith;
    apart = λ i s l at. c.ends i s at;
    inside = λ i s l at. (let within = slice_get_within skips i s at in absurd (omega (arith, l, within)));
    held = λ p r from upto there. absurd (omega (arith, from, upto));
  }

  pub reaches_hull : (first before : ℕ) (t : PlainSkip) → PassBut [] records (with_done place skips) → Reaches records skips hull place first before → 0 < before → slice_get skips (before - 1) ≡ Some t → t.until ≡ first
      → IsInHull t.hull hull → Reaches records skips hull place t.first t.before
  reaches_hull first before t c h some at_t until holds =
      let begins = c.some (before - 1) t at_t in
      let few = c.few (before - 1) t at_t in
      let within = h.within in
      let all = h.few in
      record {
        within = omega (arith, begins, until, within);
        few = omega (arith, few, all);
        apart = λ i s l at. c.apart i (before - 1) s t l at at_t;
        inside = λ i s l at.
            elim (below i before) as (λ _. LiesIn s t.first hull) [
              | inr more ↦
                  (let was = h.inside i s more at in
                  let from = was.from in
                  record { from = omega (arith, from, begins, until); held = was.held })
              | inl less ↦
                  elim (last_or_before i before less) as (λ _. LiesIn s t.first hull) [
                    | inl here ↦
                        (let same : s ≡ t = same_skip skips (before - 1) s t (subst (λ (n : ℕ). slice_get skips n ≡ Some s) here at) at_t in
                        record { from = subst (λ (x : PlainSkip). t.first ≤ x.first) (sym same) (omega arith); held = subst (λ (x : PlainSkip). IsInHull x.hull hull) (sym same) holds })
                    | inr earlier ↦
                        (let lies = c.inside i (before - 1) s t l earlier at at_t in
                        record { from = lies.from; held = λ note e. holds note (lies.held note e) })
                  ]
            ];
        held = λ p r from upto there.
            elim (below p first) as (λ _. every (is_covered_by hull) r.reads ≡ true) [
              | inl less ↦ every_weaker (is_covered_by t.hull) (is_covered_by hull) r.reads holds (c.held (before - 1) p t r at_t from (omega (arith, less, until)) refl there)
              | inr more ↦ h.held p r more upto there
            ];
      }

  pub reaches_record : (first before : ℕ) → PassBut [] records (with_done place skips) → Reaches records skips hull place first before → 0 < first
      → (0 < before → (s : PlainSkip) → slice_get skips (before - 1) ≡ Some s → s.until ≡ first → ⊥) → ((r : PlainRecord) → slice_get records (first - 1) ≡ Some r → every (is_covered_by hull) r.reads ≡ true)
      → Reaches records skips hull place (first - 1) before
  reaches_record first before c h some other own =
      let within = h.within in
      record {
        within = omega (arith, within);
        few = h.few;
        apart = λ i s l at.
            let few = h.few in
            let last = before - 1 in
            let there : last < length skips = omega (arith, few, l) in
            let t = get_or skips last s in
            let at_t : slice_get skips last ≡ Some t = slice_get-get_or skips last s there in
            let ends = h.apart last t (omega (arith, l)) at_t in
            let sooner : t.until ≤ first - 1 = sooner_than t.until first ends (other (omega (arith, l)) t at_t) in
            elim (last_or_before i before l) as (λ _. s.until ≤ first - 1) [
              | inl here ↦
                  (let same : t ≡ s = same_skip skips last t s at_t (subst (λ (n : ℕ). slice_get skips n ≡ Some s) here at) in subst (λ (x : PlainSkip). x.until ≤ first - 1) same sooner)
              | inr earlier ↦ (let ordered = c.order i last s t earlier at at_t in omega (arith, ordered, sooner))
            ];
        inside = λ i s l at. (let was = h.inside i s l at in let from = was.from in record { from = omega (arith, from); held = was.held });
        held = λ p r from upto there.
            elim (below p first) as (λ _. every (is_covered_by hull) r.reads ≡ true) [
              | inl less ↦ (let here : p ≡ first - 1 = omega (arith, less, from) in own r (subst (λ (n : ℕ). slice_get records n ≡ Some r) here there))
              | inr more ↦ h.held p r more upto there
            ];
      }
    where
      sooner_than : (m n : ℕ) → m ≤ n → (m ≡ n → ⊥) → m ≤ n - 1
      sooner_than m n l d =
          elim (below m n) as (λ _. m ≤ n - 1) [
            | inl less ↦ omega (arith, less)
            | inr more ↦ absurd (d (omega (arith, l, more)))
          ]

-- ---- what has read nothing of a change

pub apart_there : (records : List PlainRecord) (done : ℕ) (skips : List PlainSkip) (change : ℕ × ℤ) (i : ℕ) (s : PlainSkip) (first end : ℕ) → PassBut [] records (with_done done skips) → slice_get skips i ≡ Some s
    → ((p : ℕ) (notes : List Note) → first ≤ p → p < end → (s.first ≤ p → p < s.until → every (is_covered_by s.hull) notes ≡ true) → every (is_apart (change ∷ [])) notes ≡ true) → AreApart records change first end
apart_there records done skips change i s first end c at passed p r from upto there = passed p r.reads from upto (λ begun inside. c.held i p s r at begun inside refl there)

-- ---- all hulls together

pub past_covered : (records : List PlainRecord) (place : ℕ) (rest : List ℕ) (covers : PlainCovers) → length records ≤ place → AreCoveredBut (place ∷ rest) records covers → AreCoveredBut rest records covers
past_covered records place rest covers past c = (past_levels records place rest covers.levels past c.0, past_pass records place rest covers.skips past c.1)

pub covered_but : (late places later : List ℕ) (before now : List PlainRecord) (covers : PlainCovers) → AreSameBut places before now
    → ((p : ℕ) → list_any (nat_eq p) later ≡ false → (list_any (nat_eq p) late ≡ false) × (list_any (nat_eq p) places ≡ false)) → AreCoveredBut late before covers → AreCoveredBut later now covers
covered_but late places later before now covers same none c =
    (levels_but late places later before now covers.levels same none c.0, same_pass late places later before now covers.skips same none c.1)

-- the place of one that was put in is late too, at the end or in front
pub noted_late : (place : ℕ) (before now : List PlainRecord) (covers : PlainCovers) → AreSameBut (place ∷ []) before now → AreKept before covers → AreCoveredBut (covers.late ++ place ∷ []) now covers
noted_late place before now covers same = covered_but covers.late (place ∷ []) (covers.late ++ place ∷ []) before now covers same (λ p e. in_neither p covers.late (place ∷ []) e)

pub late_too : (place : ℕ) (before now : List PlainRecord) (covers : PlainCovers) → AreSameBut (place ∷ []) before now → AreKept before covers → AreCoveredBut (place ∷ covers.late) now covers
late_too place before now covers same =
    covered_but covers.late (place ∷ []) (place ∷ covers.late) before now covers same (λ p e. (let none = in_neither p (place ∷ []) covers.late e in (none.1, none.0)))

pub appended_kept : (records more : List PlainRecord) (covers : PlainCovers) → AreKept records covers → AreKept (records ++ more) covers
appended_kept records more covers = covered_but covers.late [] covers.late records (records ++ more) covers (appended_same_but records more) (λ p e. (e, refl))
