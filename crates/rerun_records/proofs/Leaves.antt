-- Blocks still fit where their records are the same and fresh.
use Rattle.std.proofs.Common.{◌≡◌, ◌⊎◌, inl, inr, ℕ, zero, suc, ◌+◌, ℤ, pos, true, false, true≢false, cond, not, List, [], ◌∷◌, map, Option, Some, refl, sym, ap, ◌∙◌, subst, arith}
use Rattle.std.specs.Prelude.{◌||◌, ◌+ℤ◌, nat_eq, slice_get, slice_set}
use Rattle.std.specs.List.{position_or_len}
use Rattle.std.proofs.lemmas.Bool.Decides.{Decides-eqb}
use Rattle.meaning.specs.Every.{every}
use Rattle.monoid_laws.specs.declared.Kind.{Kind}
use Rattle.record_theory.specs.Record.{PlainRecord, as_made, same_instance}
use Rattle.record_theory.specs.Commits.{put_record}
use Rattle.record_theory.specs.Numbers.{with_numbers}
use Rattle.rerun_records.specs.Blocks.{PlainBlock, is_some_fresh, is_fresh_at, AreLeaves, BlockFits, live_at, AllFit, is_place, IsFree, PlainBlocks, BlocksFit, BlocksRemain, IsBlock}
use Rattle.record_theory.proofs.Members.{left_is, right_is, both}
use Rattle.rerun_records.proofs.WithNumbers.{same_without_numbers}
use Rattle.rerun_records.proofs.Homes.{false_if, or_right, nothing_live}

-- ---- a record at a place, and the same with nothing counted

pub as_made_at : (rs : List PlainRecord) (p : ℕ) (r : PlainRecord) → slice_get rs p ≡ Some r → slice_get (map as_made rs) p ≡ Some (as_made r)
as_made_at [] p r e = absurd cc
as_made_at (x ∷ xs) zero r e = ap (λ y. Some (as_made y)) (let s : x ≡ r = cc (e) in s)
as_made_at (x ∷ xs) (suc p) r e = as_made_at xs p r e

pub there_at : (rs : List PlainRecord) (p : ℕ) (m : PlainRecord) → slice_get (map as_made rs) p ≡ Some m → (r : PlainRecord) × (slice_get rs p ≡ Some r) × (m ≡ as_made r)
there_at [] p m e = absurd cc
there_at (x ∷ xs) zero m e = (x, refl, (let s : as_made x ≡ m = cc (e) in sym s))
there_at (x ∷ xs) (suc p) m e = there_at xs p m e

-- ---- records that are the same but for their numbers, and fresh, fit as before

abbrev pub Again : List PlainRecord → List PlainRecord → List ℕ → Type 0
Again old new ps =
    (p : ℕ) (m : PlainRecord) → is_place ps p ≡ true → slice_get (map as_made old) p ≡ Some m → is_fresh_at old p ≡ true → (slice_get (map as_made new) p ≡ Some m) × (is_fresh_at new p ≡ true)

here_place : (p : ℕ) (ps : List ℕ) → is_place (p ∷ ps) p ≡ true
here_place p ps = ap (λ b. b || is_place ps p) ((Decides-eqb p p).1 refl)

module _ (old new : List PlainRecord) where
  module _ (procedure : ℕ) (arguments : List ℤ) (counted : ℕ) where
    leaves_again : (v : ℤ) (ps : List ℕ) (ms : List PlainRecord) → AreLeaves (map as_made old) procedure arguments counted v ps ms → every (is_fresh_at old) ps ≡ true
        → Again old new ps → AreLeaves (map as_made new) procedure arguments counted v ps ms × (every (is_fresh_at new) ps ≡ true)
    leaves_again v [] [] a s f = (tt, refl)
    leaves_again v [] (m ∷ ms) a s f = absurd a
    leaves_again v (p ∷ ps) [] a s f = absurd a
    leaves_again v (p ∷ ps) (m ∷ ms) a s f =
        let one = f p m (here_place p ps) a.0.there (left_is (is_fresh_at old p) (every (is_fresh_at old) ps) s) in
        let rest = leaves_again (v +ℤ pos 1) ps ms a.1 (right_is (is_fresh_at old p) (every (is_fresh_at old) ps) s)
        (λ p2 m2 t. f p2 m2 (or_right (nat_eq p2 p) (is_place ps p2) t)) in
        ((record { there = one.0; procedure_is = a.0.procedure_is; arguments_are = a.0.arguments_are }, rest.0), both (is_fresh_at new p) (every (is_fresh_at new) ps) one.1 rest.1)

  pub again : (kinds : List Kind) (b : PlainBlock) → BlockFits kinds old b → Again old new b.places → BlockFits kinds new b
  again kinds b h f =
      let both_so = leaves_again h.procedure h.arguments b.counted h.first b.places h.leaves h.are_leaves h.fresh f in
      record {
        procedure = h.procedure;
        arguments = h.arguments;
        first = h.first;
        first_is = h.first_is;
        leaves = h.leaves;
        are_leaves = both_so.0;
        fresh = both_so.1;
        sum_is = h.sum_is;
      }

  all_again : (kinds : List Kind) (blocks : List (Option PlainBlock)) → AllFit kinds old blocks → ((n : ℕ) (b : PlainBlock) → live_at blocks n ≡ Some b → Again old new b.places) → AllFit kinds new blocks
  all_again kinds blocks h f n b l = again kinds b (h n b l) (f n b l)

  -- blocks whose records are the same
  pub blocks_again : (blocks : PlainBlocks) → BlocksFit old blocks → ((n : ℕ) (b : PlainBlock) → live_at blocks.fine n ≡ Some b → Again old new b.places)
      → ((n : ℕ) (b : PlainBlock) → live_at blocks.middle n ≡ Some b → Again old new b.places) → ((n : ℕ) (b : PlainBlock) → live_at blocks.wide n ≡ Some b → Again old new b.places)
      → ((n : ℕ) (b : PlainBlock) → live_at blocks.vast n ≡ Some b → Again old new b.places) → BlocksFit new blocks
  blocks_again blocks h fine middle wide vast = record {
    fine = all_again blocks.kinds blocks.fine h.fine fine;
    middle = all_again blocks.kinds blocks.middle h.middle middle;
    wide = all_again blocks.kinds blocks.wide h.wide wide;
    vast = all_again blocks.kinds blocks.vast h.vast vast;
  }

-- those that are there still fit
pub remaining_fit : (records : List PlainRecord) (now before : PlainBlocks) → BlocksRemain now before → BlocksFit records before → BlocksFit records now
remaining_fit records now before r h = record {
  fine = λ n b l. subst (λ ks. BlockFits ks records b) (sym r.kinds) (h.fine n b (r.fine n b l));
  middle = λ n b l. subst (λ ks. BlockFits ks records b) (sym r.kinds) (h.middle n b (r.middle n b l));
  wide = λ n b l. subst (λ ks. BlockFits ks records b) (sym r.kinds) (h.wide n b (r.wide n b l));
  vast = λ n b l. subst (λ ks. BlockFits ks records b) (sym r.kinds) (h.vast n b (r.vast n b l));
}

no_live : (bs : List (Option PlainBlock)) (n : ℕ) (b : PlainBlock) → bs ≡ [] → live_at bs n ≡ Some b → ⊥
no_live bs n b e h = nothing_live n b (subst (λ xs. live_at xs n ≡ Some b) e h)

pub none_fit : (records : List PlainRecord) (now : PlainBlocks) → now.fine ≡ [] → now.middle ≡ [] → now.wide ≡ [] → now.vast ≡ [] → BlocksFit records now
none_fit records now e g f v = record {
  fine = λ n b l. absurd (no_live now.fine n b e l);
  middle = λ n b l. absurd (no_live now.middle n b g l);
  wide = λ n b l. absurd (no_live now.wide n b f l);
  vast = λ n b l. absurd (no_live now.vast n b v l);
}

pub all_remain : (blocks : PlainBlocks) → BlocksRemain blocks blocks
all_remain blocks = record { kinds = refl; fine = λ n b l. l; middle = λ n b l. l; wide = λ n b l. l; vast = λ n b l. l }

-- ---- a record is put in, which is part of none

put_elsewhere : (rs : List PlainRecord) (r : PlainRecord) (p : ℕ) (m : PlainRecord) → (p ≡ position_or_len (same_instance r) rs → ⊥) → slice_get rs p ≡ Some m → slice_get (put_record rs r) p ≡ Some m
put_elsewhere [] r p m d e = absurd cc
put_elsewhere (s ∷ ss) r zero m d e =
    elim (same_instance r s) as (λ b. (zero ≡ cond (not b) (1 + position_or_len (same_instance r) ss) 0 → ⊥) → slice_get (cond b (r ∷ ss) (s ∷ put_record ss r)) zero ≡ Some m) [
      | true ↦ λ f. absurd (f refl)
      | false ↦ λ f. e
    ] d
put_elsewhere (s ∷ ss) r (suc p) m d e =
    elim (same_instance r s) as (λ b. (suc p ≡ cond (not b) (1 + position_or_len (same_instance r) ss) 0 → ⊥) → slice_get (cond b (r ∷ ss) (s ∷ put_record ss r)) (suc p) ≡ Some m) [
      | true ↦ λ f. e
      | false ↦ λ f. put_elsewhere ss r p m (λ g. f (let h : suc p ≡ 1 + position_or_len (same_instance r) ss = omega (arith, g) in h)) e
    ] d

put_again : (old new : List PlainRecord) (r : PlainRecord) (place : ℕ) (ps : List ℕ) → new ≡ put_record old r → place ≡ position_or_len (same_instance r) old → is_place ps place ≡ false → Again old new ps
put_again old new r place ps e at free p m t there s =
    let old_there = there_at old p m there in
    let apart : p ≡ position_or_len (same_instance r) old → ⊥ = λ g. true≢false (sym (subst (λ n. is_place ps n ≡ true) (g ∙ sym at) t) ∙ free) in
    let now_there : slice_get new p ≡ Some old_there.0 = ap (λ xs. slice_get xs p) e ∙ put_elsewhere old r p old_there.0 apart old_there.1 in
    (as_made_at new p old_there.0 now_there ∙ ap Some (sym old_there.2), ap is_some_fresh (now_there ∙ sym old_there.1) ∙ s)

pub put_fits : (old new : List PlainRecord) (r : PlainRecord) (place : ℕ) (now before : PlainBlocks) → BlocksFit old before → BlocksRemain now before → IsFree place now.fine → IsFree place now.middle → IsFree place now.wide → IsFree place now.vast
    → new ≡ put_record old r → place ≡ position_or_len (same_instance r) old → BlocksFit new now
put_fits old new r place now before h rem fine middle wide vast e at =
    blocks_again old new now (remaining_fit old now before rem h) (λ n b l. put_again old new r place b.places e at (fine n b l)) (λ n b l. put_again old new r place b.places e at (middle n b l))
    (λ n b l. put_again old new r place b.places e at (wide n b l)) (λ n b l. put_again old new r place b.places e at (vast n b l))

-- ---- a record of which something is counted is part of none

no_place : (records : List PlainRecord) (place : ℕ) → is_fresh_at records place ≡ false → (ps : List ℕ) → every (is_fresh_at records) ps ≡ true → is_place ps place ≡ false
no_place records place counted [] fresh = refl
no_place records place counted (p ∷ ps) fresh =
    let here : is_fresh_at records p ≡ true = left_is (is_fresh_at records p) (every (is_fresh_at records) ps) fresh in
    let other : nat_eq place p ≡ false =
    false_if (nat_eq place p) (λ e. true≢false (sym here ∙ ap (is_fresh_at records) (sym ((Decides-eqb place p).0 e)) ∙ counted)) in
    ap (λ b. b || is_place ps place) other ∙ no_place records place counted ps (right_is (is_fresh_at records p) (every (is_fresh_at records) ps) fresh)

pub counted_free : (records : List PlainRecord) (place : ℕ) (blocks : PlainBlocks) → is_fresh_at records place ≡ false → BlocksFit records blocks
    → IsFree place blocks.fine × IsFree place blocks.middle × IsFree place blocks.wide × IsFree place blocks.vast
counted_free records place blocks counted h = (
  λ n b l. no_place records place counted b.places (h.fine n b l).fresh,
  λ n b l. no_place records place counted b.places (h.middle n b l).fresh,
  λ n b l. no_place records place counted b.places (h.wide n b l).fresh,
  λ n b l. no_place records place counted b.places (h.vast n b l).fresh,
)

-- ---- a record gets another number

-- one that gets 0, or another
set_fresh : (ns : List ℕ) (rs : List PlainRecord) (i v p : ℕ) → (p ≡ i → v ≡ 0) → is_fresh_at (with_numbers ns rs) p ≡ true → is_fresh_at (with_numbers (slice_set ns i v) rs) p ≡ true
set_fresh [] rs i v p f s = s
set_fresh (n ∷ ns) [] i v p f s = s
set_fresh (n ∷ ns) (x ∷ xs) zero v zero f s = (Decides-eqb v 0).1 (f refl)
set_fresh (n ∷ ns) (x ∷ xs) zero v (suc p) f s = s
set_fresh (n ∷ ns) (x ∷ xs) (suc i) v zero f s = s
set_fresh (n ∷ ns) (x ∷ xs) (suc i) v (suc p) f s = set_fresh ns xs i v p (λ e. f (ap suc e)) s

module _ (ns ms : List ℕ) (rs : List PlainRecord) (place v : ℕ) (set : ms ≡ slice_set ns place v) where
  renumbered_again : (ps : List ℕ) → ((p : ℕ) → is_place ps p ≡ true → p ≡ place → v ≡ 0) → Again (with_numbers ns rs) (with_numbers ms rs) ps
  renumbered_again ps f p m t there s = (
    ap (λ (xs : List PlainRecord). slice_get xs p) (same_without_numbers ms rs ∙ sym (same_without_numbers ns rs)) ∙ there,
    subst (λ (ks : List ℕ). is_fresh_at (with_numbers ks rs) p ≡ true) (sym set) (set_fresh ns rs place v p (f p t) s),
  )

  -- of which nothing is counted then
  pub zeroed_fits : (blocks : PlainBlocks) → v ≡ 0 → BlocksFit (with_numbers ns rs) blocks → BlocksFit (with_numbers ms rs) blocks
  zeroed_fits blocks none h =
      blocks_again (with_numbers ns rs) (with_numbers ms rs) blocks h (λ n b l. renumbered_again b.places (λ p t e. none)) (λ n b l. renumbered_again b.places (λ p t e. none))
      (λ n b l. renumbered_again b.places (λ p t e. none)) (λ n b l. renumbered_again b.places (λ p t e. none))

  -- and whose blocks were dropped
  pub dropped_fits : (now before : PlainBlocks) → BlocksFit (with_numbers ns rs) before → BlocksRemain now before → IsFree place now.fine → IsFree place now.middle → IsFree place now.wide → IsFree place now.vast
      → BlocksFit (with_numbers ms rs) now
  dropped_fits now before h rem fine middle wide vast =
      blocks_again (with_numbers ns rs) (with_numbers ms rs) now (remaining_fit (with_numbers ns rs) now before rem h) (λ n b l. renumbered_again b.places (apart b.places (fine n b l)))
      (λ n b l. renumbered_again b.places (apart b.places (middle n b l))) (λ n b l. renumbered_again b.places (apart b.places (wide n b l))) (λ n b l. renumbered_again b.places (apart b.places (vast n b l)))
    where
      apart : (ps : List ℕ) → is_place ps place ≡ false → (p : ℕ) → is_place ps p ≡ true → p ≡ place → v ≡ 0
      apart ps free p t e = absurd (true≢false (sym (subst (λ (n : ℕ). is_place ps n ≡ true) e t) ∙ free))

-- ---- a block is added

pub added_fit : (kinds : List Kind) (records : List PlainRecord) (block : PlainBlock) (now before : List (Option PlainBlock)) → BlockFits kinds records block → AllFit kinds records before
    → ((n : ℕ) (b : PlainBlock) → live_at now n ≡ Some b → (b ≡ block) ⊎ (live_at before n ≡ Some b)) → AllFit kinds records now
added_fit kinds records block now before h all added n b l =
    elim (added n b l) as (λ _. BlockFits kinds records b) [
      | inl e ↦ subst (BlockFits kinds records) (sym e) h
      | inr e ↦ all n b e
    ]

-- a block that is there fits
pub found_fits : (kinds : List Kind) (records : List PlainRecord) (blocks : PlainBlocks) (b : PlainBlock) → BlocksFit records blocks → IsBlock kinds blocks b → BlockFits kinds records b
found_fits kinds records blocks b h is =
    subst (λ ks. BlockFits ks records b) is.kinds_are
    (elim is.live as (λ _. BlockFits blocks.kinds records b) [
      | inl l ↦ h.fine l.number b l.there
      | inr r ↦
          (elim r as (λ _. BlockFits blocks.kinds records b) [
            | inl l ↦ h.middle l.number b l.there
            | inr q ↦
                (elim q as (λ _. BlockFits blocks.kinds records b) [
                  | inl l ↦ h.wide l.number b l.there
                  | inr l ↦ h.vast l.number b l.there
                ])
          ])
    ])

-- they are those that were there, or none
pub still_fit : (records : List PlainRecord) (old mid : PlainBlocks) → BlocksFit records old
    → BlocksRemain mid old ⊎ ((mid.fine ≡ []) × (mid.middle ≡ []) × (mid.wide ≡ []) × (mid.vast ≡ [])) → BlocksFit records mid
still_fit records old mid h rem = elim rem as (λ _. BlocksFit records mid) [
  | inl r ↦ remaining_fit records mid old r h
  | inr e ↦ none_fit records mid e.0 e.1 e.2 e.3
]

-- one more fits, for those kinds
pub added_blocks_fit : (records : List PlainRecord) (old mid new : PlainBlocks) (kinds : List Kind) (block : PlainBlock) → BlocksFit records old → BlocksRemain mid old ⊎ ((mid.fine ≡ []) × (mid.middle ≡ []) × (mid.wide ≡ []) × (mid.vast ≡ [])) → mid.kinds ≡ kinds
    → BlockFits kinds records block → new.kinds ≡ mid.kinds → ((n : ℕ) (b : PlainBlock) → live_at new.fine n ≡ Some b → (b ≡ block) ⊎ (live_at mid.fine n ≡ Some b))
    → ((n : ℕ) (b : PlainBlock) → live_at new.middle n ≡ Some b → (b ≡ block) ⊎ (live_at mid.middle n ≡ Some b))
    → ((n : ℕ) (b : PlainBlock) → live_at new.wide n ≡ Some b → (b ≡ block) ⊎ (live_at mid.wide n ≡ Some b))
    → ((n : ℕ) (b : PlainBlock) → live_at new.vast n ≡ Some b → (b ≡ block) ⊎ (live_at mid.vast n ≡ Some b)) → BlocksFit records new
added_blocks_fit records old mid new kinds block h rem is fits same fine middle wide vast =
    let mid_fit : BlocksFit records mid = still_fit records old mid h rem in
    let one : BlockFits new.kinds records block = subst (λ ks. BlockFits ks records block) (sym (same ∙ is)) fits in
    record {
      fine = added_fit new.kinds records block new.fine mid.fine one (λ n b l. subst (λ ks. BlockFits ks records b) (sym same) (mid_fit.fine n b l)) fine;
      middle = added_fit new.kinds records block new.middle mid.middle one (λ n b l. subst (λ ks. BlockFits ks records b) (sym same) (mid_fit.middle n b l)) middle;
      wide = added_fit new.kinds records block new.wide mid.wide one (λ n b l. subst (λ ks. BlockFits ks records b) (sym same) (mid_fit.wide n b l)) wide;
      vast = added_fit new.kinds records block new.vast mid.vast one (λ n b l. subst (λ ks. BlockFits ks records b) (sym same) (mid_fit.vast n b l)) vast;
    }
