-- A tally's new records, its open layers and what it left without one are the executions of its strand's stretch, each as often.
use Rattle.std.proofs.Common.{suc, ◌+◌, List, [], ◌∷◌, ◌++◌, length, length-append, append_assoc, append-nil, map, IsPermutation, ◌≡◌, refl, sym, ap, ◌∙◌, subst, arith}
use Rattle.std.proofs.lemmas.List.{map-append}
use Rattle.std.proofs.lemmas.List.Sorted.{IsPermutation-refl, IsPermutation-trans, IsPermutation-cons, IsPermutation-middle, IsPermutation-to_front, IsPermutation-sym, IsPermutation-append, IsPermutation-append_left, IsPermutation-append_right, IsPermutation-append_comm}
use Rattle.meaning.specs.Outcome.{Log}
use Rattle.meaning.specs.Records.{Revised, Key}
use Rattle.meaning.specs.Layers.{Notes}
use Rattle.meaning.specs.SmallStep.{Frame, Phase, entering, running, spawning, returning, leaving, broken}
use Rattle.meaning.specs.Tallies.{Opened, Tally, no_tally, executions, passed_all, opened_all, answered_one, record_by, closed_by, tallies_joined}
use Rattle.trail_theory.proofs.Keys.{executions_append}
use Rattle.strand_theory.specs.Recorded.{key_of, AllRecordedBut}

-- ---- lists with the same elements

-- one more, put in at the end or anywhere
put_in : (a b E : List Key) (k : Key) → IsPermutation (a ++ b) E → IsPermutation (a ++ k ∷ b) (E ++ k ∷ [])
put_in a b E k h = IsPermutation-trans _ _ _ (IsPermutation-middle a k b) (IsPermutation-trans _ _ _ (IsPermutation-cons k (a ++ b) E h) (IsPermutation-sym _ _ (IsPermutation-to_front E k)))

regroup : (a b c d : List Key) → (a ++ (b ++ c)) ++ d ≡ a ++ (b ++ (c ++ d))
regroup a b c d = simp append_assoc

-- two lists side by side, each of a part, a rest and what is left
side_by_side : (a b c x y E F : List Key) → IsPermutation (a ++ (b ++ c)) E → IsPermutation (x ++ y) F → IsPermutation ((a ++ x) ++ (b ++ (c ++ y))) (E ++ F)
side_by_side a b c x y E F h k =
    let swapped : IsPermutation (x ++ (b ++ c)) ((b ++ c) ++ x) = IsPermutation-append_comm x (b ++ c) in
    let inner : IsPermutation (a ++ ((x ++ (b ++ c)) ++ y)) (a ++ (((b ++ c) ++ x) ++ y)) = IsPermutation-append_right a _ _ (IsPermutation-append_left y _ _ swapped) in
    let to : a ++ (((b ++ c) ++ x) ++ y) ≡ (a ++ (b ++ c)) ++ (x ++ y) = simp append_assoc in
    let from : a ++ ((x ++ (b ++ c)) ++ y) ≡ (a ++ x) ++ (b ++ (c ++ y)) = simp append_assoc in
    let moved : IsPermutation ((a ++ x) ++ (b ++ (c ++ y))) ((a ++ (b ++ c)) ++ (x ++ y)) = subst (λ w. IsPermutation w ((a ++ (b ++ c)) ++ (x ++ y))) from (subst (λ w. IsPermutation (a ++ ((x ++ (b ++ c)) ++ y)) w) to inner) in
    IsPermutation-trans _ _ _ moved (IsPermutation-append _ _ _ _ h k)

-- ---- tallies

-- an open layer's name and arguments
abbrev pub key_opened : Opened → Key
key_opened o = (o.of, o.args)

pub record IsRecordedBut (y : Tally) (es : Log) : Type 0 where
  pub passed : List Key
  pub counted : length passed ≡ y.unrecorded
  pub each : IsPermutation (map key_of y.made ++ (map key_opened y.opened ++ passed)) (executions es)

pub none_recorded : IsRecordedBut no_tally []
none_recorded = record { passed = []; counted = refl; each = IsPermutation-refl [] }

-- no execution more
pub recorded_on : (y : Tally) (es fs : Log) → IsRecordedBut y es → executions fs ≡ [] → IsRecordedBut y (es ++ fs)
recorded_on y es fs h e = record { passed = h.passed; counted = h.counted; each = subst (IsPermutation _) (sym (executions_append es fs ∙ ap (λ w. executions es ++ w) e ∙ append-nil (executions es))) h.each }

pub recorded_answered : (y : Tally) (es : Log) → IsRecordedBut y es → IsRecordedBut (answered_one y) es
recorded_answered y es h = record { passed = h.passed; counted = h.counted; each = h.each }

-- ---- executions without a layer

passed_unrecorded : (ks : List Key) (t : Tally) → (passed_all ks t).unrecorded ≡ t.unrecorded + length ks
passed_unrecorded [] t = omega arith
passed_unrecorded (k ∷ ks) t =
    let h : (passed_all (k ∷ ks) t).unrecorded ≡ suc t.unrecorded + length ks = passed_unrecorded ks _ in
    let l : length (k ∷ ks) ≡ suc (length ks) = refl in
    omega (arith, h, l)

made_passed : (ks : List Key) (t : Tally) → (passed_all ks t).made ≡ t.made
made_passed [] t = refl
made_passed (k ∷ ks) t = made_passed ks _

opened_passed : (ks : List Key) (t : Tally) → (passed_all ks t).opened ≡ t.opened
opened_passed [] t = refl
opened_passed (k ∷ ks) t = opened_passed ks _

pub recorded_passed : (y : Tally) (es fs : Log) → IsRecordedBut y es → IsRecordedBut (passed_all (executions fs) y) (es ++ fs)
recorded_passed y es fs h =
    let ks = executions fs in
    let z = passed_all ks y in
    let c : length h.passed ≡ y.unrecorded = h.counted in
    let l : length (h.passed ++ ks) ≡ length h.passed + length ks = length-append h.passed ks in
    let u : z.unrecorded ≡ y.unrecorded + length ks = passed_unrecorded ks y in
    let here : map key_of z.made ++ (map key_opened z.opened ++ (h.passed ++ ks)) ≡ (map key_of y.made ++ (map key_opened y.opened ++ h.passed)) ++ ks = ap (λ w. map key_of w ++ (map key_opened z.opened ++ (h.passed ++ ks))) (made_passed ks y) ∙ ap (λ w. map key_of y.made ++ (map key_opened w ++ (h.passed ++ ks))) (opened_passed ks y) ∙ sym (regroup (map key_of y.made) (map key_opened y.opened) h.passed ks) in
    record {
      passed = h.passed ++ ks;
      counted = omega (arith, c, l, u);
      each = subst (λ w. IsPermutation w (executions (es ++ fs))) (sym here) (subst (IsPermutation _) (sym (executions_append es fs)) (IsPermutation-append_left ks _ _ h.each));
    }

-- ---- executions in layers of their own

opened_each : (fr : Frame) (passed ks E : List Key) (y : Tally) → IsPermutation (map key_of y.made ++ (map key_opened y.opened ++ passed)) E
    → (let z = opened_all fr ks y in IsPermutation (map key_of z.made ++ (map key_opened z.opened ++ passed)) (E ++ ks))
opened_each fr passed [] E y h = subst (IsPermutation _) (sym (append-nil E)) h
opened_each fr passed (k ∷ ks) E y h =
    let o : Opened = record { of = k.0; args = k.1; left = fr.left; instance = fr.instance } in
    let z : Tally = record { opened = o ∷ y.opened; made = y.made; executed = suc y.executed; reused = y.reused; unrecorded = y.unrecorded } in
    subst (IsPermutation _) (append_assoc E (k ∷ []) ks) (opened_each fr passed ks (E ++ k ∷ []) z (put_in (map key_of y.made) (map key_opened y.opened ++ passed) E k h))

opened_unrecorded : (fr : Frame) (ks : List Key) (t : Tally) → (opened_all fr ks t).unrecorded ≡ t.unrecorded
opened_unrecorded fr [] t = refl
opened_unrecorded fr (k ∷ ks) t = opened_unrecorded fr ks _

pub recorded_opened : (fr : Frame) (y : Tally) (es fs : Log) → IsRecordedBut y es → IsRecordedBut (opened_all fr (executions fs) y) (es ++ fs)
recorded_opened fr y es fs h = record { passed = h.passed; counted = h.counted ∙ sym (opened_unrecorded fr (executions fs) y); each = subst (IsPermutation _) (sym (executions_append es fs)) (opened_each fr h.passed (executions fs) (executions es) y h.each) }

-- ---- a strand that is folded into the one to its left has no open layer

pub recorded_join : (y z : Tally) (es fs : Log) → z.opened ≡ [] → IsRecordedBut y es → IsRecordedBut z fs → IsRecordedBut (tallies_joined y z) (es ++ fs)
recorded_join y z es fs e h k =
    let c : length h.passed ≡ y.unrecorded = h.counted in
    let d : length k.passed ≡ z.unrecorded = k.counted in
    let l : length (h.passed ++ k.passed) ≡ length h.passed + length k.passed = length-append h.passed k.passed in
    let bare : IsPermutation (map key_of z.made ++ k.passed) (executions fs) = subst (λ w. IsPermutation (map key_of z.made ++ (map key_opened w ++ k.passed)) (executions fs)) e k.each in
    let both = side_by_side (map key_of y.made) (map key_opened y.opened) h.passed (map key_of z.made) k.passed (executions es) (executions fs) h.each bare in
    record {
      passed = h.passed ++ k.passed;
      counted = omega (arith, c, d, l);
      each = subst (λ w. IsPermutation (w ++ (map key_opened y.opened ++ (h.passed ++ k.passed))) (executions (es ++ fs))) (sym (map-append key_of y.made z.made)) (subst (IsPermutation _) (sym (executions_append es fs)) both);
    }

module _ (program : Revised) where
  -- ---- the top layer becomes a record

  closed_recorded : (os : List Opened) (ls : List Notes) (ph : Phase) (y : Tally) (es : Log) → y.opened ≡ os → IsRecordedBut y es → IsRecordedBut (closed_by program os ls ph y) es
  closed_recorded [] ls ph y es e h = h
  closed_recorded (o ∷ os) [] ph y es e h = h
  closed_recorded (o ∷ os) (l ∷ ls) (leaving v) y es e h =
      let made = record_by program o l v in
      let shift : map key_of y.made ++ (map key_opened (o ∷ os) ++ h.passed) ≡ map key_of (y.made ++ made ∷ []) ++ (map key_opened os ++ h.passed) = sym (ap (λ w. w ++ (map key_opened os ++ h.passed)) (map-append key_of y.made (made ∷ [])) ∙ append_assoc (map key_of y.made) (key_of made ∷ []) (map key_opened os ++ h.passed)) in
      record {
        passed = h.passed;
        counted = h.counted;
        each = subst (λ w. IsPermutation w (executions es)) shift (subst (λ w. IsPermutation (map key_of y.made ++ (map key_opened w ++ h.passed)) (executions es)) e h.each);
      }
  closed_recorded (o ∷ os) (l ∷ ls) (entering child) y es e h = h
  closed_recorded (o ∷ os) (l ∷ ls) (running todo) y es e h = h
  closed_recorded (o ∷ os) (l ∷ ls) (spawning d x child todo) y es e h = h
  closed_recorded (o ∷ os) (l ∷ ls) (returning v) y es e h = h
  closed_recorded (o ∷ os) (l ∷ ls) (broken k) y es e h = h

  pub recorded_closed : (ls : List Notes) (ph : Phase) (y : Tally) (es fs : Log) → IsRecordedBut y es → executions fs ≡ [] → IsRecordedBut (closed_by program y.opened ls ph y) (es ++ fs)
  recorded_closed ls ph y es fs h e = closed_recorded y.opened ls ph y (es ++ fs) refl (recorded_on y es fs h e)

-- where nothing is open
pub recorded_end : (y : Tally) (es : Log) (keys : List Key) → y.opened ≡ [] → executions es ≡ keys → IsRecordedBut y es → AllRecordedBut y.unrecorded y.made keys
recorded_end y es keys e q h = record { passed = h.passed; counted = h.counted; each = subst (IsPermutation _) q (subst (λ w. IsPermutation (map key_of y.made ++ (map key_opened w ++ h.passed)) (executions es)) e h.each) }
