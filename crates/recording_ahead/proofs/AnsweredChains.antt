-- Iterations that records answer, one behind another, and among them those that are recorded.
use Rattle.std.proofs.Common.{◌≡◌, ◌∙◌, ℕ, zero, suc, ◌+◌, ◌-◌, ◌≤◌, ◌<◌, ◌==◌, ℤ, pos, ◌+ℤ◌, Bool, false, true, List, [], ◌∷◌, ◌++◌, length, Option, None, Some, slice_get, slice_set, map, refl, sym, ap, subst, arith}
use Rattle.std.proofs.Math.IntN.{+ℤ_assoc, +ℤ_idr}
use Rattle.std.specs.Prelude.{IfNone, ◌&&◌, nat_le}
use Rattle.meaning.specs.Elision.{depth_limit}
use Rattle.meaning.specs.Every.{every}
use Rattle.meaning.specs.Tables.{Tables}
use Rattle.monoid_laws.specs.declared.Kind.{Kind}
use Rattle.monoid_laws.specs.Kinds.{AreWorths}
use Rattle.linked_program.specs.Checked.{PlainChecked}
use Rattle.linked_program.specs.CodeView.{expression, memo_of, slots_of}
use Rattle.linked_program.specs.Linked.{Linked, slot}
use Rattle.evaluation.specs.declared.slot.Slot.{Slot}
use Rattle.evaluation.specs.declared.slot.Slot.TheVariants.{Has}
use Rattle.evaluation.specs.Slots.{number_in}
use Rattle.evaluation.specs.Values.{pure, values_at}
use Rattle.record_theory.specs.Batches.{AreValidFrom}
use Rattle.record_theory.specs.Record.{PlainRecord, is_of, as_made}
use Rattle.record_theory.specs.Sums.{IsSumOf}
use Rattle.record_theory.specs.Validity.{has_revision, valid_at}
use Rattle.record_theory.specs.Commits.{AreSingle}
use Rattle.record_theory.specs.InStep.{IsInStep}
use Rattle.record_theory.specs.Named.{AreValuesFrom, HaveValues}
use Rattle.record_theory.proofs.Members.{left_is, right_is}
use Rattle.record_theory.proofs.Singles.{valid_values}
use Rattle.rerun_records.specs.Sums.{with_reads, IsBatchFor}
use Rattle.rerun_records.specs.Blocks.{is_fresh_at}
use Rattle.rerun_records.proofs.Wholes.{of_procedure, of_arguments, leaf_valid}
use Rattle.positions.specs.declared.phase.Phase.TheVariants.{Running}
use Rattle.positions.specs.declared.work.Loop.{Loop}
use Rattle.positions.specs.declared.work.Share.{Share}
use Rattle.positions.specs.declared.work.Work.{Work}
use Rattle.positions.specs.declared.work.Work.TheVariants.{Turns}
use Rattle.positions.specs.Activations.{PlainActivation, at, waiting}
use Rattle.positions.specs.Code.{PlainLoop, loop_at}
use Rattle.positions.specs.Layers.{PlainLayer, absorbing}
use Rattle.positions.specs.Setting.{Setting, setting_with}
use Rattle.positions.specs.Strands.{PlainStrand}
use Rattle.positions.specs.Tallies.{PlainTally, answering}
use Rattle.positions.specs.Advance.{record_for, rest_of}
use Rattle.own_statements.specs.Fills.{IsCounted}
use Rattle.answered_loops.specs.Ways.{IsWay}
use Rattle.answered_loops.specs.Answered.{IsAnswer, IsOfMemo, absorbed, answered_more, with_work}
use Rattle.answered_loops.proofs.Found.{found_arguments}
use Rattle.answered_loops.proofs.Sums.{absorbing_reads, absorbing_sum}
use Rattle.answered_loops.proofs.Turns.{turn_answered, with_answer}
use Rattle.recording_ahead.specs.AnsweredChains.{AnswerFrom, AreTaken, ArePassed, nothing, recorded, answered}
use Rattle.own_statements.specs.Leaves.{PlainLeaf, IsLeaf, AreLeaves, no_leaf, one_behind}
use Rattle.running_ahead.specs.Leaves.{Gathered, gathered, IsRecorded, AreRecorded, more, arguments_then, gathered_by}
use Rattle.running_ahead.specs.Stepped.{IsStepped}
use Rattle.recording_ahead.proofs.LeafChains.{leaf_of, one_more}
use Rattle.running_ahead.proofs.Stepping.{steps_way}

-- ---- numbers

set_there : (xs : List Slot) (i : ℕ) (x : Slot) → i < length xs → slice_get (slice_set xs i x) i ≡ Some x
set_there [] i x l = absurd (omega arith)
set_there (y ∷ xs) zero x l = refl
set_there (y ∷ xs) (suc i) x l = set_there xs i x (omega arith)

one_slot : (ts : Tables) (slots : List Slot) (x : ℕ) → values_at ts slots (slot x ∷ []) ≡ pure (number_in (slice_get slots x) ∷ [])
one_slot ts slots x = refl

taken : (ts : Tables) (slots : List Slot) (x : ℕ) (es : List Linked) (v : ℤ) → IsCounted slots x es → values_at ts (slice_set slots x (Has v)) es ≡ pure (v ∷ [])
taken ts slots x es v h =
    ap (λ ds. values_at ts (slice_set slots x (Has v)) ds) h.1 ∙ one_slot ts (slice_set slots x (Has v)) x
    ∙ ap (λ o. pure (number_in o ∷ [])) (set_there slots x (Has v) h.0)

next_number : (low : ℤ) (i : ℕ) → (low +ℤ pos i) +ℤ pos 1 ≡ low +ℤ pos (suc i)
next_number low i =
    let e : i + 1 ≡ suc i = omega arith in
    +ℤ_assoc low (pos i) (pos 1) ∙ ap (λ n. low +ℤ pos n) e

-- ---- what a batch stands for

record_is : (setting : Setting) (d f : ℕ) (xs : List ℤ) → 0 < d → valid_at setting.program.revisions setting.tables d setting.records f xs ≡ record_for setting d f xs
record_is setting zero f xs l = absurd (let none : ⊥ = omega arith in none)
record_is setting (suc d) f xs l = refl

-- that none is valid, where nothing is found
pub unknown_from : {A : Type 0} (setting : Setting) (o : Option A) (d f : ℕ) (xs : List ℤ) → 0 < d → IfNone o (valid_at setting.program.revisions setting.tables d setting.records f xs ≡ None)
    → IfNone o (record_for setting d f xs ≡ None)
unknown_from setting None d f xs l h = sym (record_is setting d f xs l) ∙ h
unknown_from setting (Some a) d f xs l h = tt

members_answer : (program : PlainChecked) (tables : Tables) (records : List PlainRecord) (d f : ℕ) (x v : ℤ) (rs : List PlainRecord) → 0 < d → AreValidFrom program tables d records f (x ∷ []) 0 v rs
    → AnswerFrom (setting_with program tables [] records) d f v rs
members_answer program tables records d f x v [] deep h = tt
members_answer program tables records d f x v (r ∷ rs) deep h =
    (sym (record_is (setting_with program tables [] records) d f (v ∷ []) deep) ∙ h.0, members_answer program tables records d f x (v +ℤ pos 1) rs deep h.1)

first_of : (x y : ℤ) → slice_get (x ∷ []) 0 ≡ Some y → y ≡ x
first_of x y e = let same : Some x ≡ Some y = e in let is : y ≡ x = cc in is

pub batch_taken : (keeps : Bool) (program : PlainChecked) (tables : Tables) (records : List PlainRecord) (f : PlainLeaf) (most count : ℕ) (sum : PlainRecord) (l m : PlainLayer) (t u : PlainTally) → 0 < depth_limit - f.left
    → IsBatchFor keeps program tables (depth_limit - f.left) records f.callee (f.number ∷ []) 0 most count sum → keeps ≡ l.keeps → l.kinds ≡ program.kinds → AreWorths l.kinds l.worths
    → m ≡ absorbing sum (depth_limit - f.left) l → u ≡ answered_more count t → AreTaken (setting_with program tables [] records) f count l t m u
batch_taken keeps program tables records f most count sum l m t u deep asked same kinds are layer tally =
    let d : ℕ = depth_limit - f.left in
    let batch = asked.batch in
    let whole : PlainRecord = with_reads asked.reads sum in
    let first : batch.first ≡ f.number = first_of f.number batch.first batch.first_is in
    let sum_is : IsSumOf l.kinds batch.members whole = subst (λ (ks : List Kind). IsSumOf ks batch.members whole) (sym kinds) batch.sum_is in
    record {
      members = batch.members;
      many = batch.count_is;
      answer = members_answer program tables records d f.callee f.number f.number batch.members deep
          (subst (λ (v : ℤ). AreValidFrom program tables d records f.callee (f.number ∷ []) 0 v batch.members) first batch.valid);
      layer = layer ∙ absorbing_reads d asked.reads sum l (λ k. asked.has (same ∙ k)) ∙ absorbing_sum d batch.members whole l are sum_is;
      tally = tally;
    }

-- ---- records one behind another

answer_more : (setting : Setting) (d f : ℕ) (v : ℤ) (ms : List PlainRecord) (r : PlainRecord) → AnswerFrom setting d f v ms → record_for setting d f ((v +ℤ pos (length ms)) ∷ []) ≡ Some r
    → AnswerFrom setting d f v (ms ++ r ∷ [])
answer_more setting d f v [] r h e = (subst (λ (u : ℤ). record_for setting d f (u ∷ []) ≡ Some r) (+ℤ_idr v) e, tt)
answer_more setting d f v (m ∷ ms) r h e =
    let one : 1 + length ms ≡ suc (length ms) = omega arith in
    let number : (v +ℤ pos 1) +ℤ pos (length ms) ≡ v +ℤ pos (suc (length ms)) = +ℤ_assoc v (pos 1) (pos (length ms)) ∙ ap (λ n. v +ℤ pos n) one in
    (h.0, answer_more setting d f (v +ℤ pos 1) ms r h.1 (subst (λ (u : ℤ). record_for setting d f (u ∷ []) ≡ Some r) (sym number) e))

absorbed_more : (d : ℕ) (ms : List PlainRecord) (r : PlainRecord) (l : PlainLayer) → absorbed d (ms ++ r ∷ []) l ≡ absorbing r d (absorbed d ms l)
absorbed_more d [] r l = refl
absorbed_more d (m ∷ ms) r l = absorbed_more d ms r (absorbing m d l)

longer : (ms : List PlainRecord) (r : PlainRecord) → length (ms ++ r ∷ []) ≡ length ms + 1
longer [] r = refl
longer (m ∷ ms) r = (let h = longer ms r in let e : suc (length (ms ++ r ∷ [])) ≡ suc (length ms) + 1 = omega (arith, h) in e)

pub taken_more : (setting : Setting) (f : PlainLeaf) (n : ℕ) (l v w : PlainLayer) (t u y : PlainTally) (r : PlainRecord) → AreTaken setting f n l t v u
    → record_for setting (depth_limit - f.left) f.callee ((f.number +ℤ pos n) ∷ []) ≡ Some r → w ≡ absorbing r (depth_limit - f.left) v → y ≡ answering u → AreTaken setting f (n + 1) l t w y
taken_more setting f n l v w t u y r h found layer tally =
    let d : ℕ = depth_limit - f.left in
    let sums : suc (t.reused + n) ≡ t.reused + (n + 1) = omega arith in
    record {
      members = h.members ++ r ∷ [];
      many = longer h.members r ∙ ap (λ k. k + 1) h.many;
      answer = answer_more setting d f.callee f.number h.members r h.answer (subst (λ (k : ℕ). record_for setting d f.callee ((f.number +ℤ pos k) ∷ []) ≡ Some r) (sym h.many) found);
      layer = layer ∙ ap (absorbing r d) h.layer ∙ sym (absorbed_more d h.members r l);
      tally = tally ∙ ap answering h.tally ∙ ap (λ (k : ℕ). record t { reused = k }) sums;
    }

-- one at a place, of which the tables hold all that was read, and which its procedures and the depth allow to answer
pub alone_answers : (program : PlainChecked) (tables : Tables) (records : List PlainRecord) (d f p : ℕ) (n : ℤ) (r : PlainRecord) → 0 < d → AreSingle records → IsInStep tables records
    → slice_get (map as_made records) p ≡ Some r → is_of f (n ∷ []) r ≡ true → is_fresh_at records p ≡ true
    → (every (has_revision program.revisions) r.entered && nat_le (d + r.height) (suc depth_limit)) ≡ true
    → record_for (setting_with program tables [] records) d f (n ∷ []) ≡ Some r
alone_answers program tables records d f p n r deep single step there of fresh allowed =
    let current : every (has_revision program.revisions) r.entered ≡ true = left_is (every (has_revision program.revisions) r.entered) (nat_le (d + r.height) (suc depth_limit)) allowed in
    let fits : nat_le (d + r.height) (suc depth_limit) ≡ true = right_is (every (has_revision program.revisions) r.entered) (nat_le (d + r.height) (suc depth_limit)) allowed in
    let valid : valid_at program.revisions tables d records r.procedure r.arguments ≡ Some r = leaf_valid program.revisions tables d records p r single step there fresh current fits in
    sym (record_is (setting_with program tables [] records) d f (n ∷ []) deep)
    ∙ subst (λ (g : ℕ). valid_at program.revisions tables d records g (n ∷ []) ≡ Some r) (of_procedure f (n ∷ []) r of)
    (subst (λ (xs : List ℤ). valid_at program.revisions tables d records r.procedure xs ≡ Some r) (of_arguments f (n ∷ []) r of) valid)

-- what one that answers has are values of the reducers' kinds
pub answer_values : (program : PlainChecked) (tables : Tables) (records : List PlainRecord) (d f : ℕ) (xs : List ℤ) (r : PlainRecord) → 0 < d → HaveValues program.kinds records
    → record_for (setting_with program tables [] records) d f xs ≡ Some r → AreValuesFrom 0 program.kinds r.contribution
answer_values program tables records d f xs r deep values e =
    valid_values program.revisions tables program.kinds d f xs records r deep values (sym (record_is (setting_with program tables [] records) d f xs deep ∙ e))

-- ---- iterations

module _ (setting : Setting) (l : Loop) (j : PlainLoop) (p : ℕ) (slots : List Slot) (left : ℕ) (found : j ≡ loop_at setting.codes p l) (memo : memo_of setting.codes j.callee ≡ true) (deep : (left == 0) ≡ false)
    (counted : IsCounted slots j.variable (map expression j.arguments)) where
  abbrev depth_here : ℕ
  depth_here = depth_limit - (left - 1)

  -- one that a record answers goes back to its loop's instance
  is_answered : (i : ℕ) (v : PlainLayer) (t : PlainTally) (xs : List ℤ) (r : PlainRecord) → record_for setting depth_here j.callee ((l.low +ℤ pos i) ∷ []) ≡ Some r
      → IsRecorded setting l p slots left i (gathered_by v t xs) (gathered_by (absorbing r depth_here v) (answering t) ((l.low +ℤ pos i) ∷ []))
  is_answered i v t xs r valid a h procedure same levels there first some s amid =
      let n : ℤ = l.low +ℤ pos i in
      let z : PlainStrand = gathered Running a (gathered_by v t xs) s in
      let arguments : r.arguments ≡ n ∷ [] = found_arguments setting depth_here j.callee (n ∷ []) r valid in
      let answer : IsAnswer setting j slots left n r = record {
        values = taken setting.tables slots j.variable (map expression j.arguments) n counted ∙ ap pure (sym arguments);
        found = subst (λ (vs : List ℤ). record_for setting depth_here j.callee vs ≡ Some r) (sym arguments) valid;
      } in
      let loop : j ≡ loop_at setting.codes a.procedure l = found ∙ ap (λ (f : ℕ). loop_at setting.codes f l) (sym procedure) in
      let of_loop : IsOfMemo setting j a.left = record { memo = memo; room = subst (λ (k : ℕ). (k == 0) ≡ false) (sym levels) deep } in
      let of_memo : IsOfMemo setting (loop_at setting.codes a.procedure l) a.left = subst (λ (k : PlainLoop). IsOfMemo setting k a.left) loop of_loop in
      let answer_here : IsAnswer setting (loop_at setting.codes a.procedure l) a.slots a.left (l.low +ℤ pos h.first) r =
      subst (λ (k : PlainLoop). IsAnswer setting k a.slots a.left (l.low +ℤ pos h.first) r) loop
      (subst (λ (k : ℕ). IsAnswer setting j a.slots a.left (l.low +ℤ pos k) r) (sym first)
      (subst (λ (k : ℕ). IsAnswer setting j a.slots k n r) (sym levels) (subst (λ (zs : List Slot). IsAnswer setting j zs left n r) (sym same) answer))) in
      let b : PlainActivation = waiting false None (Turns l (rest_of h)) a in
      let way : IsWay setting (with_work (Turns l h) a z) (with_work (Turns l (rest_of h)) b (with_answer (depth_limit - (a.left - 1)) r z)) = turn_answered setting l h a z r of_memo some answer_here in
      let begins : with_work (Turns l h) a z ≡ z = ap (λ (w : Work). record z { top = at w a }) (sym there) in
      let ends : with_work (Turns l (rest_of h)) b (with_answer (depth_limit - (a.left - 1)) r z) ≡ gathered Running b (gathered_by (absorbing r depth_here v) (answering t) (n ∷ [])) s =
      ap (λ (k : ℕ). gathered Running b (gathered_by (absorbing r (depth_limit - (k - 1)) v) (answering t) r.arguments) s) levels
      ∙ ap (λ (vs : List ℤ). gathered Running b (gathered_by (absorbing r depth_here v) (answering t) vs) s) arguments in
      subst (λ (y : PlainStrand). IsStepped setting z y) ends (subst (λ (y : PlainStrand). IsStepped setting y (with_work (Turns l (rest_of h)) b (with_answer (depth_limit - (a.left - 1)) r z))) begins
      (steps_way setting (with_work (Turns l h) a z) (with_work (Turns l (rest_of h)) b (with_answer (depth_limit - (a.left - 1)) r z)) way))

  -- so many behind so many
  all_answered : (h : Share) (xs : List ℤ) (x : Gathered) (rs : List PlainRecord) (n : ℕ) (v : PlainLayer) (t : PlainTally) → AreRecorded setting l p slots left h.first x n (gathered_by v t (arguments_then n l h xs))
      → AnswerFrom setting depth_here j.callee (l.low +ℤ pos (h.first + n)) rs
      → AreRecorded setting l p slots left h.first x (n + length rs) (gathered_by (absorbed depth_here rs v) (answered_more (length rs) t) (arguments_then (n + length rs) l h xs))
  all_answered h xs x [] n v t before answer =
      let many : n ≡ n + 0 = omega arith in
      let none : t.reused ≡ t.reused + 0 = omega arith in
      subst (λ (k : ℕ). AreRecorded setting l p slots left h.first x k (gathered_by v (answered_more 0 t) (arguments_then k l h xs))) many
      (subst (λ (k : ℕ). AreRecorded setting l p slots left h.first x n (gathered_by v (record t { reused = k }) (arguments_then n l h xs))) none before)
  all_answered h xs x (r ∷ rs) n v t before answer =
      let w : PlainLayer = absorbing r depth_here v in
      let y : Gathered = gathered_by v t (arguments_then n l h xs) in
      let z : Gathered = gathered_by w (answering t) ((l.low +ℤ pos (h.first + n)) ∷ []) in
      let one : AreRecorded setting l p slots left h.first x (suc n) z = more n y z before refl (is_answered (h.first + n) v t (arguments_then n l h xs) r answer.0) in
      let next : suc (h.first + n) ≡ h.first + suc n = omega arith in
      let number : (l.low +ℤ pos (h.first + n)) +ℤ pos 1 ≡ l.low +ℤ pos (h.first + suc n) = next_number l.low (h.first + n) ∙ ap (λ (k : ℕ). l.low +ℤ pos k) next in
      let rest = all_answered h xs x rs (suc n) w (answering t) one (subst (λ (u : ℤ). AnswerFrom setting depth_here j.callee u rs) number answer.1) in
      let many : suc n + length rs ≡ n + suc (length rs) = omega arith in
      let sums : suc t.reused + length rs ≡ t.reused + suc (length rs) = omega arith in
      subst (λ (k : ℕ). AreRecorded setting l p slots left h.first x k (gathered_by (absorbed depth_here rs w) (answered_more (suc (length rs)) t) (arguments_then k l h xs))) many
      (subst (λ (k : ℕ). AreRecorded setting l p slots left h.first x (suc n + length rs) (gathered_by (absorbed depth_here rs w) (record t { reused = k }) (arguments_then (suc n + length rs) l h xs))) sums rest)

  pub passed_on : (h : Share) (xs : List ℤ) (x : Gathered) (n m : ℕ) (v w : PlainLayer) (t u : PlainTally) → AreRecorded setting l p slots left h.first x n (gathered_by v t (arguments_then n l h xs))
      → ArePassed setting (leaf_of setting l j left (h.first + n)) m v t w u → AreRecorded setting l p slots left h.first x (n + m) (gathered_by w u (arguments_then (n + m) l h xs))
  passed_on h xs x n m v w t u before (nothing none layer tally) =
      let many : n ≡ n + m = omega (arith, none) in
      subst (λ (k : PlainTally). AreRecorded setting l p slots left h.first x (n + m) (gathered_by w k (arguments_then (n + m) l h xs))) (sym tally)
      (subst (λ (k : PlainLayer). AreRecorded setting l p slots left h.first x (n + m) (gathered_by k t (arguments_then (n + m) l h xs))) (sym layer)
      (subst (λ (k : ℕ). AreRecorded setting l p slots left h.first x k (gathered_by v t (arguments_then k l h xs))) many before))
  passed_on h xs x n m v w t u before (recorded one leaf) =
      subst (λ (k : ℕ). AreRecorded setting l p slots left h.first x (n + k) (gathered_by w u (arguments_then (n + k) l h xs))) (sym one)
      (one_more setting l j p slots left found memo deep counted h xs x n v w t u before leaf)
  passed_on h xs x n m v w t u before (answered those) =
      let all = all_answered h xs x those.members n v t before those.answer in
      subst (λ (k : PlainTally). AreRecorded setting l p slots left h.first x (n + m) (gathered_by w k (arguments_then (n + m) l h xs))) (sym those.tally)
      (subst (λ (k : PlainLayer). AreRecorded setting l p slots left h.first x (n + m) (gathered_by k (answered_more m t) (arguments_then (n + m) l h xs))) (sym those.layer)
      (subst (λ (k : ℕ). AreRecorded setting l p slots left h.first x (n + k) (gathered_by (absorbed depth_here those.members v) (answered_more k t) (arguments_then (n + k) l h xs))) those.many all))

-- one leaf at most is recorded
pub leaves_passed : (setting : Setting) (f : PlainLeaf) (n : ℕ) (l m : PlainLayer) (t u : PlainTally) → AreLeaves setting f l t n m u → n ≤ 1 → ArePassed setting f n l t m u
leaves_passed setting f zero l m t u no_leaf few = nothing refl refl refl
leaves_passed setting f (suc zero) l m t u (one_behind i v o w y no_leaf leaf) few =
    recorded refl (subst (λ (z : ℤ). IsLeaf setting (record f { number = z }) l t m u) (+ℤ_idr f.number) leaf)
leaves_passed setting f (suc (suc n)) l m t u those few = absurd (let wrong : ⊥ = omega (arith, few) in wrong)

-- no layer is open that wasn't
pub passed_opened : (setting : Setting) (f : PlainLeaf) (n : ℕ) (l m : PlainLayer) (t u : PlainTally) → ArePassed setting f n l t m u → u.opened ≡ t.opened
passed_opened setting f n l m t u (nothing none layer tally) = ap (λ (o : PlainTally). o.opened) tally
passed_opened setting f n l m t u (recorded one leaf) = ap (λ (o : PlainTally). o.opened) leaf.tally
passed_opened setting f n l m t u (answered those) = ap (λ (o : PlainTally). o.opened) those.tally

-- as they are of an iteration's number in its loop
pub passed_at : (setting : Setting) (l : Loop) (j : PlainLoop) (left i : ℕ) (size levels : ℕ) (number : ℤ) (n : ℕ) (v w : PlainLayer) (t u : PlainTally)
    → size ≡ slots_of setting.codes j.callee → levels ≡ left → number ≡ l.low +ℤ pos i
    → ArePassed setting (record { callee = j.callee; size = size; left = levels - 1; number = number }) n v t w u → ArePassed setting (leaf_of setting l j left i) n v t w u
passed_at setting l j left i size levels number n v w t u slots_is left_is number_is those =
    subst (λ (x : ℤ). ArePassed setting (record { callee = j.callee; size = slots_of setting.codes j.callee; left = left - 1; number = x }) n v t w u) number_is
    (subst (λ (q : ℕ). ArePassed setting (record { callee = j.callee; size = slots_of setting.codes j.callee; left = q - 1; number = number }) n v t w u) left_is
    (subst (λ (q : ℕ). ArePassed setting (record { callee = j.callee; size = q; left = levels - 1; number = number }) n v t w u) slots_is those))
