-- A tally counts the marks of its strand's stretch.
use Rattle.std.proofs.Common.{suc, ◌+◌, ◌≤◌, List, [], ◌∷◌, ◌++◌, length, length-append, append-nil, ℤ, inl, inr, ◌≡◌, refl, sym, ap, ◌∙◌, subst, arith}
use Rattle.meaning.specs.Tree.{Name}
use Rattle.meaning.specs.Outcome.{Log}
use Rattle.meaning.specs.Records.{Revised, Kept, Key}
use Rattle.meaning.specs.Layers.{Notes}
use Rattle.meaning.specs.SmallStep.{Frame, leaving}
use Rattle.meaning.specs.Tallies.{Opened, Tally, executions, passed_all, opened_all, record_by, closed_by, tallies_joined}
use Rattle.trail_theory.specs.Order.{In, Every}
use Rattle.trail_theory.specs.Counts.{reuses, HasRecord, HasRecordOrLayer, IsCounted}
use Rattle.trail_theory.proofs.Places.{every_append}
use Rattle.trail_theory.proofs.Keys.{executions_append, reuses_append}

pub every_as : {A : Type 0} (Q R : A → Type 0) (xs : List A) → ((x : A) → Q x → R x) → Every Q xs → Every R xs
every_as Q R [] f h = tt
every_as Q R (x ∷ xs) f h = (f x h.0, every_as Q R xs f h.1)

in_left : {A : Type 0} (x : A) (a b : List A) → In x a → In x (a ++ b)
in_left x [] b h = absurd h
in_left x (y ∷ a) b (inl e) = inl e
in_left x (y ∷ a) b (inr h) = inr (in_left x a b h)

in_right : {A : Type 0} (x : A) (a b : List A) → In x b → In x (a ++ b)
in_right x [] b h = h
in_right x (y ∷ a) b h = inr (in_right x a b h)

pub empty : {A : Type 0} (xs : List A) → length xs ≡ 0 → xs ≡ []
empty [] e = refl
empty (x ∷ xs) e = let q : length (x ∷ xs) ≡ suc (length xs) = refl in absurd (omega (arith, e, q))

record_left : (a b : List Kept) (key : Key) → HasRecord a key → HasRecord (a ++ b) key
record_left a b key h = record { it = h.it; is_in = in_left h.it a b h.is_in; named = h.named; called = h.called }

record_right : (a b : List Kept) (key : Key) → HasRecord b key → HasRecord (a ++ b) key
record_right a b key h = record { it = h.it; is_in = in_right h.it a b h.is_in; named = h.named; called = h.called }

kept_left : (a b : List Kept) (os : List Opened) (key : Key) → HasRecordOrLayer a os key → HasRecordOrLayer (a ++ b) os key
kept_left a b os key (inl h) = inl (record_left a b key h)
kept_left a b os key (inr h) = inr h

-- where no layer is open
pub kept_made : (ks : List Kept) (os : List Opened) (key : Key) → os ≡ [] → HasRecordOrLayer ks os key → HasRecord ks key
kept_made ks os key e (inl h) = h
kept_made ks os key e (inr h) = absurd (subst (In h.it) e h.is_in)

kept_under : (ks : List Kept) (o : Opened) (os : List Opened) (key : Key) → HasRecordOrLayer ks os key → HasRecordOrLayer ks (o ∷ os) key
kept_under ks o os key (inl h) = inl h
kept_under ks o os key (inr h) = inr (record { it = h.it; is_in = inr h.is_in; named = h.named; called = h.called })

-- so many more marks
pub counted_more : (y z : Tally) (es fs : Log) → IsCounted y es → z.executed ≡ y.executed + length (executions fs) → z.reused ≡ y.reused + length (reuses fs) → z.made ≡ y.made → z.opened ≡ y.opened → IsCounted z (es ++ fs)
counted_more y z es fs h a b m o =
    let r : length y.made + length y.opened ≤ y.executed = h.room in
    let lm : length z.made ≡ length y.made = ap length m in
    let lo : length z.opened ≡ length y.opened = ap length o in
    record {
      executed_are = a ∙ ap (λ n. n + length (executions fs)) h.executed_are ∙ sym (ap length (executions_append es fs) ∙ length-append (executions es) (executions fs));
      reused_are = b ∙ ap (λ n. n + length (reuses fs)) h.reused_are ∙ sym (ap length (reuses_append es fs) ∙ length-append (reuses es) (reuses fs));
      room = omega (arith, a, r, lm, lo);
      recorded = λ q.
          let none : executions fs ≡ [] = empty (executions fs) (omega (arith, a, r, lm, lo, q)) in
          let old : Every (HasRecordOrLayer y.made y.opened) (executions es) = h.recorded (omega (arith, a, r, lm, lo, q)) in
          let now : Every (HasRecordOrLayer z.made z.opened) (executions es) = subst (λ w. Every (HasRecordOrLayer w z.opened) (executions es)) (sym m) (subst (λ w. Every (HasRecordOrLayer y.made w) (executions es)) (sym o) old) in
          subst (Every (HasRecordOrLayer z.made z.opened)) (sym (executions_append es fs ∙ ap (λ w. executions es ++ w) none ∙ append-nil (executions es))) now;
    }

-- no more
pub counted_on : (y z : Tally) (es fs : Log) → IsCounted y es → executions fs ≡ [] → reuses fs ≡ [] → z.executed ≡ y.executed → z.reused ≡ y.reused → z.made ≡ y.made → z.opened ≡ y.opened → IsCounted z (es ++ fs)
counted_on y z es fs h a b c d m o =
    let k : length (executions fs) ≡ 0 = ap length a in
    let n : length (reuses fs) ≡ 0 = ap length b in
    counted_more y z es fs h (omega (arith, c, k)) (omega (arith, d, n)) m o

-- one more, in a layer of its own
pub counted_opened : (fr : Frame) (f : Name) (vs : List ℤ) (y : Tally) (es fs : Log) → IsCounted y es → executions fs ≡ (f, vs) ∷ [] → reuses fs ≡ [] → IsCounted (opened_all fr ((f, vs) ∷ []) y) (es ++ fs)
counted_opened fr f vs y es fs h a b =
    let o : Opened = record { of = f; args = vs; left = fr.left; instance = fr.instance } in
    let r : length y.made + length y.opened ≤ y.executed = h.room in
    let lo : length (o ∷ y.opened) ≡ suc (length y.opened) = refl in
    let l : length (executions fs) ≡ 1 = ap length a in
    let n : length (reuses fs) ≡ 0 = ap length b in
    let e : y.executed ≡ length (executions es) = h.executed_are in
    let u : y.reused ≡ length (reuses es) = h.reused_are in
    let both : length (executions (es ++ fs)) ≡ length (executions es) + length (executions fs) = ap length (executions_append es fs) ∙ length-append (executions es) (executions fs) in
    let answered : length (reuses (es ++ fs)) ≡ length (reuses es) + length (reuses fs) = ap length (reuses_append es fs) ∙ length-append (reuses es) (reuses fs) in
    record {
      executed_are = omega (arith, e, l, both);
      reused_are = omega (arith, u, n, answered);
      room = omega (arith, r, lo);
      recorded = λ q.
          let old : Every (HasRecordOrLayer y.made y.opened) (executions es) = h.recorded (omega (arith, q, lo)) in
          let first : HasRecordOrLayer y.made (o ∷ y.opened) (f, vs) = inr (record { it = o; is_in = inl refl; named = refl; called = refl }) in
          subst (Every (HasRecordOrLayer y.made (o ∷ y.opened))) (sym (executions_append es fs ∙ ap (λ w. executions es ++ w) a))
          (every_append (HasRecordOrLayer y.made (o ∷ y.opened)) (executions es) ((f, vs) ∷ []) (every_as (HasRecordOrLayer y.made y.opened) (HasRecordOrLayer y.made (o ∷ y.opened)) (executions es) (λ key k. kept_under y.made o y.opened key k) old) (first, tt));
    }

pub counted_join : (y z : Tally) (es fs : Log) → IsCounted y es → IsCounted z fs → IsCounted (tallies_joined y z) (es ++ fs)
counted_join y z es fs h k =
    let ry : length y.made + length y.opened ≤ y.executed = h.room in
    let rz : length z.made + length z.opened ≤ z.executed = k.room in
    let l : length (y.made ++ z.made) ≡ length y.made + length z.made = length-append y.made z.made in
    let both : length (executions (es ++ fs)) ≡ length (executions es) + length (executions fs) = ap length (executions_append es fs) ∙ length-append (executions es) (executions fs) in
    let answered : length (reuses (es ++ fs)) ≡ length (reuses es) + length (reuses fs) = ap length (reuses_append es fs) ∙ length-append (reuses es) (reuses fs) in
    let e : y.executed ≡ length (executions es) = h.executed_are in
    let e' : z.executed ≡ length (executions fs) = k.executed_are in
    let u : y.reused ≡ length (reuses es) = h.reused_are in
    let u' : z.reused ≡ length (reuses fs) = k.reused_are in
    record {
      executed_are = omega (arith, both, e, e');
      reused_are = omega (arith, answered, u, u');
      room = omega (arith, l, ry, rz);
      recorded = λ q.
          let none : z.opened ≡ [] = empty z.opened (omega (arith, q, l, ry, rz)) in
          let a = h.recorded (omega (arith, q, l, ry, rz)) in
          let b = k.recorded (omega (arith, q, l, ry, rz)) in
          let all = y.made ++ z.made in
          subst (Every (HasRecordOrLayer all y.opened)) (sym (executions_append es fs)) (every_append (HasRecordOrLayer all y.opened) (executions es) (executions fs)
          (every_as (HasRecordOrLayer y.made y.opened) (HasRecordOrLayer all y.opened) (executions es) (λ key i. kept_left y.made z.made y.opened key i) a)
          (every_as (HasRecordOrLayer z.made z.opened) (HasRecordOrLayer all y.opened) (executions fs) (λ key i. inl (record_right y.made z.made key (kept_made z.made z.opened key none i))) b));
    }

pub passed_executed : (ks : List Key) (t : Tally) → (passed_all ks t).executed ≡ t.executed + length ks
passed_executed [] t = omega arith
passed_executed (k ∷ ks) t =
    let h : (passed_all (k ∷ ks) t).executed ≡ suc t.executed + length ks = passed_executed ks _ in
    let l : length (k ∷ ks) ≡ suc (length ks) = refl in
    omega (arith, h, l)

pub passed_reused : (ks : List Key) (t : Tally) → (passed_all ks t).reused ≡ t.reused
passed_reused [] t = refl
passed_reused (k ∷ ks) t = passed_reused ks _

module _ (program : Revised) where
  closed_kept : (o : Opened) (os : List Opened) (l : Notes) (v : ℤ) (made : List Kept) (key : Key) → HasRecordOrLayer made (o ∷ os) key → HasRecordOrLayer (made ++ record_by program o l v ∷ []) os key
  closed_kept o os l v made key (inl h) = inl (record_left made (record_by program o l v ∷ []) key h)
  closed_kept o os l v made key (inr h) = by_place h.is_in
    where
      by_place : In h.it (o ∷ os) → HasRecordOrLayer (made ++ record_by program o l v ∷ []) os key
      by_place (inl e) = inl (record { it = record_by program o l v; is_in = in_right (record_by program o l v) made (record_by program o l v ∷ []) (inl refl); named = ap (λ (i : Opened). i.of) (sym e) ∙ h.named; called = ap (λ (i : Opened). i.args) (sym e) ∙ h.called })
      by_place (inr there) = inr (record { it = h.it; is_in = there; named = h.named; called = h.called })

  -- no more, and the top layer becomes a record
  pub counted_closed : (os : List Opened) (ls : List Notes) (v : ℤ) (y : Tally) (es fs : Log) → y.opened ≡ os → IsCounted y es → executions fs ≡ [] → reuses fs ≡ [] → IsCounted (closed_by program os ls (leaving v) y) (es ++ fs)
  counted_closed [] ls v y es fs e h a b = counted_on y y es fs h a b refl refl refl refl
  counted_closed (o ∷ os) [] v y es fs e h a b = counted_on y y es fs h a b refl refl refl refl
  counted_closed (o ∷ os) (l ∷ ls) v y es fs e h a b =
      let g = counted_on y y es fs h a b refl refl refl refl in
      let r : length y.made + length y.opened ≤ y.executed = g.room in
      let lo : length y.opened ≡ suc (length os) = ap length e in
      let lm : length (y.made ++ record_by program o l v ∷ []) ≡ length y.made + 1 = length-append y.made (record_by program o l v ∷ []) in
      record {
        executed_are = g.executed_are;
        reused_are = g.reused_are;
        room = omega (arith, r, lo, lm);
        recorded = λ q. every_as (HasRecordOrLayer y.made (o ∷ os)) (HasRecordOrLayer (y.made ++ record_by program o l v ∷ []) os) (executions (es ++ fs)) (λ key k. closed_kept o os l v y.made key k) (subst (λ w. Every (HasRecordOrLayer y.made w) (executions (es ++ fs))) e (g.recorded (omega (arith, q, lo, lm))));
      }
