-- Hulls over records, as records are put in and added.
use Rattle.std.proofs.Common.{◌≡◌, ◌⊎◌, inl, inr, ◌<◌, ◌≤◌, ◌+◌, ◌-◌, ◌*◌, ◌/◌, ◌%◌, ℕ, zero, suc, ℤ, Bool, true, false, true≢false, not, List, [], ◌∷◌, ◌++◌, Some, None, length, take, drop, refl, sym, ap, ◌∙◌, subst, arith, get_or}
use Rattle.std.proofs.lemmas.Bool.Decides.{Decides-eqb}
use Rattle.std.proofs.lemmas.List.{length-append, length-set}
use Rattle.std.proofs.lemmas.List.Folds.{list_any-append}
use Rattle.std.proofs.Math.Nat.{div-mul-le_self, le-div_iff_mul-le, div-lt_iff_lt-mul, mod-lt}
use Rattle.std.proofs.lemmas.Nat.{mul-le, div-mul-add, div-add-mod'}
use Rattle.std.proofs.lemmas.Option.{slice_get-get_or, slice_get_within, get_or_from_slice_get}
use Rattle.std.specs.Prelude.{◌||◌, nat_eq, slice_get, slice_set, slice_range}
use Rattle.std.specs.List.{list_any}
use Rattle.evaluation.specs.declared.note.Note.{Note}
use Rattle.meaning.specs.Every.{every}
use Rattle.record_theory.specs.Record.{PlainRecord}
use Rattle.instance_records.specs.declared.spans.Span.{Span}
use Rattle.instance_records.specs.Spans.{is_covered_by, is_touched}
use Rattle.record_theory.specs.InStep.{is_apart}
use Rattle.record_theory.proofs.Members.{left_is, right_is, every_weaker}
use Rattle.instance_records.proofs.Touched.{spans_apart}
use Rattle.rerun_records.specs.Covers.{PlainLevel, CoversBut, CoversLevel, AreLevelsBut, AreApart, AreSameBut, is_hull_apart}
use Rattle.instance_records.proofs.Joined.{below}

-- ---- numbers of hulls and places

-- the hull of a place is the place by the width
pub hull_of : (width i p : ℕ) → i * width ≤ p → p < i * width + width → p / width ≡ i
hull_of width i p from upto =
    let behind : p - i * width < width = omega (arith, from, upto) in
    let whole : p ≡ i * width + (p - i * width) = omega (arith, from) in
    ap (λ (n : ℕ). n / width) whole ∙ div-mul-add i width (p - i * width) behind

-- where places are left over by none, a hull of that number begins
pub hull_begins : (width first : ℕ) → first % width ≡ 0 → first / width * width ≡ first
hull_begins width first e =
    let whole : first / width * width + first % width ≡ first = div-add-mod' first width in
    omega (arith, whole, e)

one_more : (i width : ℕ) → (i + 1) * width ≡ i * width + width
one_more i width = omega arith

-- all places of a hull are before the hulls' end
within_hulls : (width i n p : ℕ) → i < n → p < i * width + width → p < n * width
within_hulls width i n p l upto =
    let wide : (i + 1) * width ≤ n * width = mul-le (i + 1) width n width (omega (arith, l)) (omega arith) in
    let more = one_more i width in
    omega (arith, wide, more, upto)

-- ---- tests

pub neither : (a b : Bool) → a ≡ false → b ≡ false → a || b ≡ false
neither true b e f = absurd (true≢false e)
neither false b e f = f

not_so : (b : Bool) → not b ≡ true → b ≡ false
not_so true e = absurd (true≢false (sym e))
not_so false e = refl

-- what was read at a place
abbrev pub reads_of : PlainRecord → List Note
reads_of r = r.reads

-- ---- levels

-- what follows for each level follows for all
pub each_level : (old new : List ℕ) (before now : List PlainRecord) → ((level : PlainLevel) → CoversBut old before level → CoversBut new now level)
    → (levels : List PlainLevel) → AreLevelsBut old before levels → AreLevelsBut new now levels
each_level old new before now step [] h = tt
each_level old new before now step (l ∷ ls) h = (step l h.0, each_level old new before now step ls h.1)

-- a level without hulls holds whatever records there are
pub empty_covers : (records : List PlainRecord) (width : ℕ) → CoversLevel records (record { width = width; hulls = [] })
empty_covers records width = record {
  full = omega arith;
  held = λ i p h r at. absurd cc;
}

-- ---- what has read nothing of a change

-- the records of a hull in which the change doesn't lie rest on none of it
pub passed_apart : (records : List PlainRecord) (level : PlainLevel) (change : ℕ × ℤ) (i first end : ℕ) → CoversLevel records level → i * level.width ≡ first → first + level.width ≡ end
    → is_hull_apart (change ∷ []) (slice_get level.hulls i) ≡ true → AreApart records change first end
passed_apart records level change i first end c begins ends a p r from upto there =
    let after : i * level.width ≤ p = omega (arith, begins, from) in
    let before : p < i * level.width + level.width = omega (arith, begins, ends, upto) in
    elim (slice_get level.hulls i) as (λ o. slice_get level.hulls i ≡ o → is_hull_apart (change ∷ []) o ≡ true → every (is_apart (change ∷ [])) r.reads ≡ true) [
      | None ↦ λ e t. absurd (true≢false (sym t))
      | Some s ↦ λ e t. spans_apart (change ∷ []) s r.reads (not_so (is_touched s (change ∷ [])) t) (c.held i p s r e after before refl there)
    ] refl a

-- ---- records are put in

-- where hulls hold all that they held, and the one of the place what the record there has read, nothing is left to do there
pub put_covers : (old new : PlainLevel) (records : List PlainRecord) (place : ℕ) (rest : List ℕ) (reads : List Note) → new.width ≡ old.width → length new.hulls ≤ length old.hulls
    → ((h : List Span) → slice_get new.hulls (place / old.width) ≡ Some h → every (is_covered_by h) reads ≡ true)
    → ((i : ℕ) (h : List Span) (notes : List Note) → slice_get new.hulls i ≡ Some h → ((g : List Span) → slice_get old.hulls i ≡ Some g → every (is_covered_by g) notes ≡ true) → every (is_covered_by h) notes ≡ true)
    → CoversBut (place ∷ rest) records old → ((r : PlainRecord) → slice_get records place ≡ Some r → r.reads ≡ reads) → CoversBut rest records new
put_covers old new records place rest reads same fewer held kept c is = record {
  full =
      subst (λ (w : ℕ). length new.hulls * w ≤ length records) (sym same)
      (let less = mul-le (length new.hulls) old.width (length old.hulls) old.width fewer (omega arith) in let all = c.full in omega (arith, less, all));
  held = λ i p h r at from upto other there.
      let from_old : i * old.width ≤ p = subst (λ (w : ℕ). i * w ≤ p) same from in
      let upto_old : p < i * old.width + old.width = subst (λ (w : ℕ). p < i * w + w) same upto in
      elim (nat_eq p place) as (λ b. nat_eq p place ≡ b → every (is_covered_by h) r.reads ≡ true) [
        | true ↦ λ e.
            let here : p ≡ place = (Decides-eqb p place).0 e in
            let number : i ≡ place / old.width = sym (hull_of old.width i p from_old upto_old) ∙ ap (λ (n : ℕ). n / old.width) here in
            subst (λ ns. every (is_covered_by h) ns ≡ true) (sym (is r (subst (λ (n : ℕ). slice_get records n ≡ Some r) here there)))
            (held h (subst (λ (n : ℕ). slice_get new.hulls n ≡ Some h) number at))
        | false ↦ λ e. kept i h r.reads at (λ g was. c.held i p g r was from_old upto_old (neither (nat_eq p place) (list_any (nat_eq p) rest) e other) there)
      ] refl;
}

-- no hull has a place at which no record is
past_level : (records : List PlainRecord) (place : ℕ) (rest : List ℕ) (level : PlainLevel) → length records ≤ place → CoversBut (place ∷ rest) records level → CoversBut rest records level
past_level records place rest level past c = record {
  full = c.full;
  held = λ i p h r at from upto other there.
      elim (nat_eq p place) as (λ b. nat_eq p place ≡ b → every (is_covered_by h) r.reads ≡ true) [
        | true ↦ λ e.
            let here : p ≡ place = (Decides-eqb p place).0 e in
            let within : p < length records = slice_get_within records p r there in
            absurd (omega (arith, past, here, within))
        | false ↦ λ e. c.held i p h r at from upto (neither (nat_eq p place) (list_any (nat_eq p) rest) e other) there
      ] refl;
}

pub past_levels : (records : List PlainRecord) (place : ℕ) (rest : List ℕ) (levels : List PlainLevel) → length records ≤ place → AreLevelsBut (place ∷ rest) records levels → AreLevelsBut rest records levels
past_levels records place rest levels past = each_level (place ∷ rest) rest records records (λ level. past_level records place rest level past) levels

-- what is in neither of two lists
left_not : (a b : Bool) → a || b ≡ false → a ≡ false
left_not true b e = absurd (true≢false e)
left_not false b e = refl

right_not : (a b : Bool) → a || b ≡ false → b ≡ false
right_not true b e = absurd (true≢false e)
right_not false b e = e

pub in_neither : (p : ℕ) (xs ys : List ℕ) → list_any (nat_eq p) (xs ++ ys) ≡ false → (list_any (nat_eq p) xs ≡ false) × (list_any (nat_eq p) ys ≡ false)
in_neither p xs ys e =
    let none : list_any (nat_eq p) xs || list_any (nat_eq p) ys ≡ false = sym (list_any-append (nat_eq p) xs ys) ∙ e in
    (left_not (list_any (nat_eq p) xs) (list_any (nat_eq p) ys) none, right_not (list_any (nat_eq p) xs) (list_any (nat_eq p) ys) none)

-- with other records at these places and more behind, hulls hold what the others have read that they held before
same_level : (late places later : List ℕ) (before now : List PlainRecord) (level : PlainLevel) → AreSameBut places before now
    → ((p : ℕ) → list_any (nat_eq p) later ≡ false → (list_any (nat_eq p) late ≡ false) × (list_any (nat_eq p) places ≡ false)) → CoversBut late before level → CoversBut later now level
same_level late places later before now level s none c = record {
  full = (let all = c.full in let more = s.no_fewer in omega (arith, all, more));
  held = λ i p h r at from upto other there.
      let number : i < length level.hulls = slice_get_within level.hulls i h at in
      let hulled : p < length level.hulls * level.width = within_hulls level.width i (length level.hulls) p number upto in
      let all = c.full in
      let old : p < length before = omega (arith, hulled, all) in
      c.held i p h r at from upto (none p other).0 (s.same p r old (none p other).1 there);
}

pub levels_but : (late places later : List ℕ) (before now : List PlainRecord) (levels : List PlainLevel) → AreSameBut places before now
    → ((p : ℕ) → list_any (nat_eq p) later ≡ false → (list_any (nat_eq p) late ≡ false) × (list_any (nat_eq p) places ≡ false)) → AreLevelsBut late before levels → AreLevelsBut later now levels
levels_but late places later before now levels s none = each_level late later before now (λ level. same_level late places later before now level s none) levels

-- the record at a place is the one that is read there
pub there_is : (records : List PlainRecord) (place : ℕ) (r x : PlainRecord) → slice_get records place ≡ Some r → x ≡ get_or records place x → r.reads ≡ x.reads
there_is records place r x e at = ap reads_of (sym (at ∙ get_or_from_slice_get records place r x e))

-- ---- a hull gets wider

got_set : (xs : List (List Span)) (g i : ℕ) (y h : List Span) → slice_get (slice_set xs g y) i ≡ Some h → ((i ≡ g) × (h ≡ y)) ⊎ (slice_get xs i ≡ Some h)
got_set [] g i y h e = absurd cc
got_set (x ∷ xs) zero zero y h e = inl (refl, (let s : y ≡ h = cc (e) in sym s))
got_set (x ∷ xs) zero (suc i) y h e = inr e
got_set (x ∷ xs) (suc g) zero y h e = inr e
got_set (x ∷ xs) (suc g) (suc i) y h e =
    elim (got_set xs g i y h e) as (λ _. ((suc i ≡ suc g) × (h ≡ y)) ⊎ (slice_get xs i ≡ Some h)) [
      | inl s ↦ inl (ap suc s.0, s.1)
      | inr s ↦ inr s
    ]

pub widened_kept : (hulls : List (List Span)) (number : ℕ) (old new : List Span) → number < length hulls → old ≡ get_or hulls number old → ((note : Note) → is_covered_by old note ≡ true → is_covered_by new note ≡ true)
    → (i : ℕ) (h : List Span) (notes : List Note) → slice_get (slice_set hulls number new) i ≡ Some h
    → ((g : List Span) → slice_get hulls i ≡ Some g → every (is_covered_by g) notes ≡ true) → every (is_covered_by h) notes ≡ true
widened_kept hulls number old new within value kept i h notes at was =
    elim (got_set hulls number i new h at) as (λ _. every (is_covered_by h) notes ≡ true) [
      | inl t ↦
          (let there : slice_get hulls i ≡ Some old = ap (slice_get hulls) t.0 ∙ slice_get-get_or hulls number old within ∙ ap Some (sym value) in
          subst (λ (x : List Span). every (is_covered_by x) notes ≡ true) (sym t.1) (every_weaker (is_covered_by old) (is_covered_by new) notes kept (was old there)))
      | inr t ↦ was h t
    ]

-- ---- one more hull, for records that have none

got_behind : (xs : List (List Span)) (y h : List Span) (i : ℕ) → slice_get (xs ++ y ∷ []) i ≡ Some h → (slice_get xs i ≡ Some h) ⊎ ((i ≡ length xs) × (h ≡ y))
got_behind [] y h zero e = inr (refl, (let s : y ≡ h = cc (e) in sym s))
got_behind [] y h (suc i) e = absurd cc
got_behind (x ∷ xs) y h zero e = inl e
got_behind (x ∷ xs) y h (suc i) e =
    elim (got_behind xs y h i e) as (λ _. (slice_get xs i ≡ Some h) ⊎ ((suc i ≡ suc (length xs)) × (h ≡ y))) [
      | inl l ↦ inl l
      | inr s ↦ inr (ap suc s.0, s.1)
    ]

taken_passes : (q : PlainRecord → Bool) (n p : ℕ) (records : List PlainRecord) (r : PlainRecord) → p < n → every q (take n records) ≡ true → slice_get records p ≡ Some r → q r ≡ true
taken_passes q zero p records r l e at = absurd (omega (arith, l))
taken_passes q (suc n) p [] r l e at = absurd cc
taken_passes q (suc n) zero (x ∷ xs) r l e at = (let s : x ≡ r = cc (at) in ap q (sym s)) ∙ left_is (q x) (every q (take n xs)) e
taken_passes q (suc n) (suc p) (x ∷ xs) r l e at = taken_passes q n p xs r (omega (arith, l)) (right_is (q x) (every q (take n xs)) e) at

-- what holds of a stretch of records holds of one in it
pub stretch_passes : (q : PlainRecord → Bool) (first count p : ℕ) (records : List PlainRecord) (r : PlainRecord) → first ≤ p → p < first + count → every q (take count (drop first records)) ≡ true
    → slice_get records p ≡ Some r → q r ≡ true
stretch_passes q zero count p records r from upto e at = taken_passes q count p records r (omega (arith, upto)) e at
stretch_passes q (suc first) count p [] r from upto e at = absurd cc
stretch_passes q (suc first) count zero (x ∷ xs) r from upto e at = absurd (omega (arith, from))
stretch_passes q (suc first) count (suc p) (x ∷ xs) r from upto e at = stretch_passes q first count p xs r (omega (arith, from)) (omega (arith, upto)) e at

pub added_covers : (records : List PlainRecord) (width first end : ℕ) (hulls : List (List Span)) (y : List Span) → first ≡ length hulls * width → end ≡ first + width → end ≤ length records
    → every (λ r. every (is_covered_by y) r.reads) (slice_range records first end) ≡ true
    → CoversLevel records (record { width = width; hulls = hulls }) → CoversLevel records (record { width = width; hulls = hulls ++ y ∷ [] })
added_covers records width first end hulls y begins ends room held c = record {
  full =
      (let long : length (hulls ++ y ∷ []) ≡ length hulls + 1 = length-append hulls (y ∷ []) in
      let more = one_more (length hulls) width in
      subst (λ (n : ℕ). n * width ≤ length records) (sym long) (omega (arith, more, begins, ends, room)));
  held = λ i p h r at from upto other there.
      elim (got_behind hulls y h i at) as (λ _. every (is_covered_by h) r.reads ≡ true) [
        | inl old ↦ c.held i p h r old from upto other there
        | inr new ↦
            (let place : i * width ≡ length hulls * width = ap (λ (n : ℕ). n * width) new.0 in
            subst (λ (x : List Span). every (is_covered_by x) r.reads ≡ true) (sym new.1)
            (stretch_passes (λ s. every (is_covered_by y) s.reads) first (end - first) p records r (omega (arith, begins, place, from)) (omega (arith, begins, ends, place, upto)) held there))
      ];
}

-- ---- one more wide hull, for the narrower ones that lie in it

-- places by the wider hulls are places by the narrower ones
wide_places : (n width wider : ℕ) → wider ≡ width * 32 → n * 32 * width ≡ n * wider
wide_places n width wider factor = (let same : n * 32 * width ≡ n * (width * 32) = omega arith in same) ∙ ap (λ (w : ℕ). n * w) (sym factor)

taken_got : (n q : ℕ) (hulls : List (List Span)) (g : List Span) → q < n → slice_get hulls q ≡ Some g → slice_get (take n hulls) q ≡ Some g
taken_got zero q hulls g l e = absurd (omega (arith, l))
taken_got (suc n) q [] g l e = absurd cc
taken_got (suc n) zero (x ∷ xs) g l e = e
taken_got (suc n) (suc q) (x ∷ xs) g l e = taken_got n q xs g (omega (arith, l)) e

-- where a hull is in a stretch of them
stretch_got : (first count q : ℕ) (hulls : List (List Span)) (g : List Span) → first ≤ q → q < first + count → slice_get hulls q ≡ Some g → slice_get (take count (drop first hulls)) (q - first) ≡ Some g
stretch_got zero count q hulls g from upto e =
    let same : q ≡ q - 0 = omega arith in subst (λ (k : ℕ). slice_get (take count hulls) k ≡ Some g) same (taken_got count q hulls g (omega (arith, upto)) e)
stretch_got (suc first) count q [] g from upto e = absurd cc
stretch_got (suc first) count zero (x ∷ xs) g from upto e = absurd (omega (arith, from))
stretch_got (suc first) count (suc q) (x ∷ xs) g from upto e =
    let same : q - first ≡ suc q - suc first = omega arith in
    subst (λ (k : ℕ). slice_get (take count (drop first xs)) k ≡ Some g) same (stretch_got first count q xs g (omega (arith, from)) (omega (arith, upto)) e)

pub joined_covers : (records : List PlainRecord) (width wider first end : ℕ) (hulls wide : List (List Span)) (y : List Span) → wider ≡ width * 32 → first ≡ length wide * 32 → end ≡ first + 32 → end ≤ length hulls
    → ((i : ℕ) (g : List Span) (note : Note) → slice_get (slice_range hulls first end) i ≡ Some g → is_covered_by g note ≡ true → is_covered_by y note ≡ true)
    → CoversLevel records (record { width = width; hulls = hulls }) → CoversLevel records (record { width = wider; hulls = wide }) → CoversLevel records (record { width = wider; hulls = wide ++ y ∷ [] })
joined_covers records width wider first end hulls wide y factor begins ends room holds narrow c =
    let n = length wide in
    let starts : first * width ≡ n * wider = ap (λ (k : ℕ). k * width) begins ∙ wide_places n width wider factor in
    let stops : end * width ≡ n * wider + wider = (let whole : end * width ≡ (first + 32) * width = ap (λ (k : ℕ). k * width) ends in omega (arith, whole, starts, factor)) in
    record {
      full =
          (let long : length (wide ++ y ∷ []) ≡ n + 1 = length-append wide (y ∷ []) in
          let more = one_more n wider in
          let within = mul-le end width (length hulls) width room (omega arith) in
          let narrower = narrow.full in
          subst (λ (k : ℕ). k * wider ≤ length records) (sym long) (omega (arith, more, stops, within, narrower)));
      held = λ i p h r at from upto other there.
          elim (got_behind wide y h i at) as (λ _. every (is_covered_by h) r.reads ≡ true) [
            | inl old ↦ c.held i p h r old from upto other there
            | inr new ↦
                (let place : i * wider ≡ n * wider = ap (λ (k : ℕ). k * wider) new.0 in
                let some : 0 < width = omega (arith, from, upto, factor) in
                let q = p / width in
                let after : first ≤ q = (le-div_iff_mul-le some).1 (omega (arith, starts, place, from)) in
                let before : q < end = (div-lt_iff_lt-mul some).1 (omega (arith, stops, place, upto)) in
                let within : q < length hulls = omega (arith, before, room) in
                let g = get_or hulls q y in
                let got : slice_get hulls q ≡ Some g = slice_get-get_or hulls q y within in
                let lower : q * width ≤ p = div-mul-le_self p width in
                let upper : p < q * width + width = (let whole = div-add-mod' p width in let part = mod-lt p some in omega (arith, whole, part)) in
                let there_got : slice_get (slice_range hulls first end) (q - first) ≡ Some g = stretch_got first (end - first) q hulls g after (omega (arith, before, after)) got in
                subst (λ (x : List Span). every (is_covered_by x) r.reads ≡ true) (sym new.1)
                (every_weaker (is_covered_by g) (is_covered_by y) r.reads (λ note. holds (q - first) g note there_got) (narrow.held q p g r got lower upper other there)))
          ];
    }

-- ---- records that one is put in the place of, or added to

got_within : (records more : List PlainRecord) (p : ℕ) (r : PlainRecord) → p < length records → slice_get (records ++ more) p ≡ Some r → slice_get records p ≡ Some r
got_within [] more p r w e = absurd (omega (arith, w))
got_within (x ∷ xs) more zero r w e = e
got_within (x ∷ xs) more (suc p) r w e = got_within xs more p r (omega (arith, w)) e

pub appended_same_but : (records more : List PlainRecord) → AreSameBut [] records (records ++ more)
appended_same_but records more = record {
  no_fewer = (let long = length-append records more in omega (arith, long));
  same = λ p r w other there. got_within records more p r w there;
}

got_other : (records : List PlainRecord) (place p : ℕ) (made r : PlainRecord) → (p ≡ place → ⊥) → slice_get (slice_set records place made) p ≡ Some r → slice_get records p ≡ Some r
got_other [] place p made r d e = e
got_other (x ∷ xs) zero zero made r d e = absurd (d refl)
got_other (x ∷ xs) zero (suc p) made r d e = e
got_other (x ∷ xs) (suc i) zero made r d e = e
got_other (x ∷ xs) (suc i) (suc p) made r d e = got_other xs i p made r (λ s. d (ap suc s)) e

pub set_same_but : (records : List PlainRecord) (place : ℕ) (made : PlainRecord) → AreSameBut (place ∷ []) records (slice_set records place made)
set_same_but records place made = record {
  no_fewer = (let long = length-set records place made in omega (arith, long));
  same = λ p r within other there.
      got_other records place p made r (λ s. true≢false (sym ((Decides-eqb p place).1 s) ∙ left_not (nat_eq p place) false other)) there;
}

-- ---- places one after another whose records have read nothing of a change

module _ (records : List PlainRecord) (change : ℕ × ℤ) where
  pub none_between : (end : ℕ) → AreApart records change end end
  none_between end p r from upto there = absurd (omega (arith, from, upto))

  pub apart_then : (first mid end : ℕ) → AreApart records change first mid → AreApart records change mid end → AreApart records change first end
  apart_then first mid end a b p r from upto there =
      elim (below p mid) as (λ _. every (is_apart (change ∷ [])) r.reads ≡ true) [
        | inl less ↦ a p r from less there
        | inr more ↦ b p r more upto there
      ]

  pub apart_later : (first later end : ℕ) → first ≤ later → AreApart records change first end → AreApart records change later end
  apart_later first later end l a p r from upto there = a p r (omega (arith, l, from)) upto there

  pub one_apart : (place next end : ℕ) → next ≤ place + 1 → ((r : PlainRecord) → slice_get records place ≡ Some r → every (is_apart (change ∷ [])) r.reads ≡ true)
      → AreApart records change next end → AreApart records change place end
  one_apart place next end n one a p r from upto there =
      elim (below place p) as (λ _. every (is_apart (change ∷ [])) r.reads ≡ true) [
        | inl more ↦ a p r (omega (arith, n, more)) upto there
        | inr less ↦ (let here : p ≡ place = omega (arith, less, from) in one r (subst (λ (k : ℕ). slice_get records k ≡ Some r) here there))
      ]

-- one hull more in which the change doesn't lie, before those places
pub one_hull_more : (records : List PlainRecord) (hulls : List (List Span)) (change : ℕ × ℤ) (number end : ℕ) → 0 < number → is_hull_apart (change ∷ []) (slice_get hulls (number - 1)) ≡ true
    → CoversLevel records (record { width = 32; hulls = hulls }) → AreApart records change (number * 32) end → AreApart records change ((number - 1) * 32) end
one_hull_more records hulls change number end some apart h rest =
    let ends : (number - 1) * 32 + 32 ≡ number * 32 = omega (arith, some) in
    apart_then records change ((number - 1) * 32) (number * 32) end (passed_apart records (record { width = 32; hulls = hulls }) change (number - 1) ((number - 1) * 32) (number * 32) h refl ends apart) rest
