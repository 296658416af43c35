-- Batches: how more of them are known together, and that they leave what the records leave that they stand for.
use Rattle.std.proofs.Common.{◌≡◌, ℕ, zero, suc, ◌+◌, ◌<◌, ℤ, pos, ◌+ℤ◌, Bool, List, [], ◌∷◌, ◌++◌, length, take, drop, get_or, refl, sym, ap, ◌∙◌, subst, arith, append_assoc}
use Rattle.std.proofs.lemmas.List.{length-append, append-nil, take_more}
use Rattle.monoid_laws.specs.declared.Kind.{Kind}
use Rattle.monoid_laws.specs.Kinds.{AreWorths, operate_all, identities}
use Rattle.monoid_laws.proofs.Rows.{operate_all_right, AreWorths-identities}
use Rattle.evaluation.specs.declared.slot.Slot.{Slot}
use Rattle.rerun_records.specs.declared.batch.Batch.{Batch}
use Rattle.rerun_records.specs.Sums.{with_reads, IsSumFor}
use Rattle.record_theory.specs.Record.{PlainRecord}
use Rattle.record_theory.specs.Named.{filled}
use Rattle.record_theory.specs.Sums.{arguments_of_last}
use Rattle.positions.specs.declared.work.Loop.{Loop}
use Rattle.positions.specs.Setting.{Setting}
use Rattle.positions.specs.Activations.{PlainActivation}
use Rattle.positions.specs.Code.{PlainLoop, loop_at}
use Rattle.positions.specs.Layers.{PlainLayer, absorbing}
use Rattle.positions.specs.Strands.{PlainStrand}
use Rattle.record_theory.proofs.Absorbed.{filled_right}
use Rattle.answered_loops.specs.Answered.{AreAnswers, absorbed, answered_more, with_answers}
use Rattle.answered_loops.proofs.Sums.{absorbing_reads, absorbing_sum}
use Rattle.answered_loops.proofs.Halves.{absorbed_append, last_append, answers_behind}
use Rattle.loop_answers.specs.Batches.{sums_of, SumsHaveValues, instances_in, AreSums, all_in, AreBatches, HasBatches, IsBatchFrom, with_batches}

-- ---- lists

pub instances_more : (bs : List Batch) (b : Batch) → instances_in (bs ++ b ∷ []) ≡ instances_in bs + b.count
instances_more [] b = omega arith
instances_more (c ∷ bs) b =
    let sums : c.count + (instances_in bs + b.count) ≡ (c.count + instances_in bs) + b.count = omega arith in
    ap (λ n. c.count + n) (instances_more bs b) ∙ sums

all_more : (parts : List (List PlainRecord)) (rs : List PlainRecord) → all_in (parts ++ rs ∷ []) ≡ all_in parts ++ rs
all_more [] rs = append-nil rs
all_more (xs ∷ parts) rs = ap (λ ys. xs ++ ys) (all_more parts rs) ∙ sym (append_assoc xs (all_in parts) rs)

all_split : (n : ℕ) (parts : List (List PlainRecord)) → all_in parts ≡ all_in (take n parts) ++ all_in (drop n parts)
all_split zero parts = refl
all_split (suc n) [] = refl
all_split (suc n) (rs ∷ parts) = ap (λ ys. rs ++ ys) (all_split n parts) ∙ sym (append_assoc rs (all_in (take n parts)) (all_in (drop n parts)))

module _ (keeps : Bool) (kinds : List Kind) where
  sums_first : (n : ℕ) (parts : List (List PlainRecord)) (bs : List Batch) → AreSums keeps kinds parts bs → AreSums keeps kinds (take n parts) (take n bs)
  sums_first zero parts bs h = tt
  sums_first (suc n) [] [] h = tt
  sums_first (suc n) [] (b ∷ bs) h = absurd h
  sums_first (suc n) (rs ∷ parts) [] h = absurd h
  sums_first (suc n) (rs ∷ parts) (b ∷ bs) h = (h.0, h.1, sums_first n parts bs h.2)

  sums_rest : (n : ℕ) (parts : List (List PlainRecord)) (bs : List Batch) → AreSums keeps kinds parts bs → AreSums keeps kinds (drop n parts) (drop n bs)
  sums_rest zero parts bs h = h
  sums_rest (suc n) [] [] h = tt
  sums_rest (suc n) [] (b ∷ bs) h = absurd h
  sums_rest (suc n) (rs ∷ parts) [] h = absurd h
  sums_rest (suc n) (rs ∷ parts) (b ∷ bs) h = sums_rest n parts bs h.2

  pub as_many : (parts : List (List PlainRecord)) (bs : List Batch) → AreSums keeps kinds parts bs → length (all_in parts) ≡ instances_in bs
  as_many [] [] h = refl
  as_many [] (b ∷ bs) h = absurd h
  as_many (rs ∷ parts) [] h = absurd h
  as_many (rs ∷ parts) (b ∷ bs) h = length-append rs (all_in parts) ∙ ap (λ n. n + length (all_in parts)) h.1 ∙ ap (λ n. b.count + n) (as_many parts bs h.2)

  sums_more : (parts : List (List PlainRecord)) (bs : List Batch) (rs : List PlainRecord) (b : Batch) → AreSums keeps kinds parts bs → IsSumFor keeps kinds rs b.sum.now → length rs ≡ b.count → AreSums keeps kinds (parts ++ rs ∷ []) (bs ++ b ∷ [])
  sums_more [] [] rs b h sum count = (sum, count, tt)
  sums_more [] (c ∷ bs) rs b h sum count = absurd h
  sums_more (xs ∷ parts) [] rs b h sum count = absurd h
  sums_more (xs ∷ parts) (c ∷ bs) rs b h sum count = (h.0, h.1, sums_more parts bs rs b h.2 sum count)

  pub sums_values : (parts : List (List PlainRecord)) (bs : List Batch) → AreSums keeps kinds parts bs → SumsHaveValues kinds bs
  sums_values [] [] h k d l = absurd (let none : ⊥ = omega arith in none)
  sums_values [] (b ∷ bs) h k d l = absurd h
  sums_values (rs ∷ parts) [] h k d l = absurd h
  sums_values (rs ∷ parts) (b ∷ bs) h zero d l = h.0.sum_is.values
  sums_values (rs ∷ parts) (b ∷ bs) h (suc k) d l = sums_values parts bs h.2 k d (omega arith)

-- one batch more
module _ (setting : Setting) (keeps : Bool) (j : PlainLoop) (slots : List Slot) (left : ℕ) (low : ℤ) (i : ℕ) where
  pub batches_more : (bs : List Batch) (b : Batch) (number : ℤ) (most : ℕ) → AreBatches setting keeps j slots left low i bs → IsBatchFrom setting keeps j slots left number most b → number ≡ low +ℤ pos (i + instances_in bs)
      → AreBatches setting keeps j slots left low i (bs ++ b ∷ [])
  batches_more bs b number most h one at =
      let behind : i + instances_in bs ≡ i + length (all_in h.parts) = ap (λ n. i + n) (sym (as_many keeps setting.kinds h.parts bs h.sums)) in
      record {
        parts = h.parts ++ one.members ∷ [];
        sums = sums_more keeps setting.kinds h.parts bs one.members b h.sums one.sum_is one.count_is;
        answers = subst (AreAnswers setting j slots left low i) (sym (all_more h.parts one.members))
            (answers_behind setting j slots left low i (i + instances_in bs) (all_in h.parts) one.members behind h.answers (one.answers low (i + instances_in bs) at));
      }

  -- those before others
  answers_before : (m : ℕ) (xs ys : List PlainRecord) → AreAnswers setting j slots left low m (xs ++ ys) → AreAnswers setting j slots left low m xs
  answers_before m [] ys h = tt
  answers_before m (x ∷ xs) ys h = (h.0, answers_before (m + 1) xs ys h.1)

  -- the first ones
  pub batches_first : (n : ℕ) (bs : List Batch) → AreBatches setting keeps j slots left low i bs → AreBatches setting keeps j slots left low i (take n bs)
  batches_first n bs h = record {
    parts = take n h.parts;
    sums = sums_first keeps setting.kinds n h.parts bs h.sums;
    answers = answers_before i (all_in (take n h.parts)) (all_in (drop n h.parts)) (subst (AreAnswers setting j slots left low i) (all_split n h.parts) h.answers);
  }

  -- those behind others
  answers_after : (m : ℕ) (xs ys : List PlainRecord) → AreAnswers setting j slots left low m (xs ++ ys) → AreAnswers setting j slots left low (m + length xs) ys
  answers_after m [] ys h = subst (λ n. AreAnswers setting j slots left low n ys) (let e : m ≡ m + 0 = omega arith in e) h
  answers_after m (x ∷ xs) ys h = subst (λ n. AreAnswers setting j slots left low n ys) (let e : (m + 1) + length xs ≡ m + suc (length xs) = omega arith in e) (answers_after (m + 1) xs ys h.1)

  -- all but the first ones, which answer so many iterations
  pub batches_rest : (n m : ℕ) (bs : List Batch) → instances_in (take n bs) ≡ m → AreBatches setting keeps j slots left low i bs → AreBatches setting keeps j slots left low (i + m) (drop n bs)
  batches_rest n m bs e h =
      let many : length (all_in (take n h.parts)) ≡ m = as_many keeps setting.kinds (take n h.parts) (take n bs) (sums_first keeps setting.kinds n h.parts bs h.sums) ∙ e in
      record {
        parts = drop n h.parts;
        sums = sums_rest keeps setting.kinds n h.parts bs h.sums;
        answers = subst (λ q. AreAnswers setting j slots left low (i + q) (all_in (drop n h.parts))) many
            (answers_after i (all_in (take n h.parts)) (all_in (drop n h.parts)) (subst (AreAnswers setting j slots left low i) (all_split n h.parts) h.answers));
      }

pub has_rest : (setting : Setting) (keeps : Bool) (l : Loop) (a : PlainActivation) (i n m : ℕ) (bs : List Batch) → instances_in (take n bs) ≡ m → HasBatches setting keeps l a i bs → HasBatches setting keeps l a (i + m) (drop n bs)
has_rest setting keeps l a i n m bs e h = record { of_memo = h.of_memo; batches = batches_rest setting keeps (loop_at setting.codes a.procedure l) a.slots a.left l.low i n m bs e h.batches }

pub has_first : (setting : Setting) (keeps : Bool) (l : Loop) (a : PlainActivation) (i n : ℕ) (bs : List Batch) → HasBatches setting keeps l a i bs → HasBatches setting keeps l a i (take n bs)
has_first setting keeps l a i n bs h = record { of_memo = h.of_memo; batches = batches_first setting keeps (loop_at setting.codes a.procedure l) a.slots a.left l.low i n bs h.batches }

-- so many together: one batch more
pub first_more : (bs : List Batch) (i : ℕ) (b : Batch) (left rest count : ℕ) → i < length bs → b ≡ get_or bs i b → left ≡ rest + b.count → left + instances_in (take i bs) ≡ count → rest + instances_in (take (i + 1) bs) ≡ count
first_more bs i b left rest count within at is so_far =
    let next : take (i + 1) bs ≡ take i bs ++ b ∷ [] = take_more bs i b within ∙ ap (λ c. take i bs ++ c ∷ []) (sym at) in
    let sum : instances_in (take (i + 1) bs) ≡ instances_in (take i bs) + b.count = ap instances_in next ∙ instances_more (take i bs) b in
    omega arith

-- ---- what they leave

pub absorbed_keeps : (d : ℕ) (rs : List PlainRecord) (l : PlainLayer) → (absorbed d rs l).keeps ≡ l.keeps
absorbed_keeps d [] l = refl
absorbed_keeps d (r ∷ rs) l = absorbed_keeps d rs (absorbing r d l)

-- what records leave that have one in their place
pub absorbed_for : (d : ℕ) (rs : List PlainRecord) (s : PlainRecord) (l : PlainLayer) → AreWorths l.kinds l.worths → IsSumFor l.keeps l.kinds rs s → absorbing s d l ≡ absorbed d rs l
absorbed_for d rs s l are h = absorbing_reads d h.reads s l h.has ∙ absorbing_sum d rs (with_reads h.reads s) l are h.sum_is

absorbed_sums : (d : ℕ) (parts : List (List PlainRecord)) (bs : List Batch) (l : PlainLayer) → AreWorths l.kinds l.worths → AreSums l.keeps l.kinds parts bs → absorbed d (sums_of bs) l ≡ absorbed d (all_in parts) l
absorbed_sums d [] [] l are h = refl
absorbed_sums d [] (b ∷ bs) l are h = absurd h
absorbed_sums d (rs ∷ parts) [] l are h = absurd h
absorbed_sums d (rs ∷ parts) (b ∷ bs) l are h =
    let more : AreWorths l.kinds (operate_all l.kinds l.worths (filled (identities l.kinds) b.sum.now.contribution)) =
    operate_all_right l.kinds l.worths (filled (identities l.kinds) b.sum.now.contribution) are (filled_right 0 l.kinds (identities l.kinds) b.sum.now.contribution (AreWorths-identities l.kinds) h.0.sum_is.values) in
    absorbed_sums d parts bs (absorbing b.sum.now d l) more h.2
    ∙ ap (absorbed d (all_in parts)) (absorbed_for d rs b.sum.now l are h.0)
    ∙ sym (absorbed_append d rs (all_in parts) l)

last_of_sums : (keeps : Bool) (kinds : List Kind) (vs : List ℤ) (parts : List (List PlainRecord)) (bs : List Batch) → AreSums keeps kinds parts bs → arguments_of_last vs (sums_of bs) ≡ arguments_of_last vs (all_in parts)
last_of_sums keeps kinds vs [] [] h = refl
last_of_sums keeps kinds vs [] (b ∷ bs) h = absurd h
last_of_sums keeps kinds vs (rs ∷ parts) [] h = absurd h
last_of_sums keeps kinds vs (rs ∷ parts) (b ∷ bs) h =
    last_of_sums keeps kinds b.sum.now.arguments parts bs h.2 ∙ ap (λ us. arguments_of_last us (all_in parts)) (sym (h.0.sum_is.arguments vs)) ∙ sym (last_append vs rs (all_in parts))

pub batches_leave : (d : ℕ) (parts : List (List PlainRecord)) (bs : List Batch) (s : PlainStrand) → AreWorths s.layer.kinds s.layer.worths → AreSums s.layer.keeps s.layer.kinds parts bs → with_batches d bs s ≡ with_answers d (all_in parts) s
batches_leave d parts bs s are h =
    ap (λ l. record s { layer = l; arguments = arguments_of_last s.arguments (sums_of bs); tally = answered_more (instances_in bs) s.tally }) (absorbed_sums d parts bs s.layer are h)
    ∙ ap (λ vs. record s { layer = absorbed d (all_in parts) s.layer; arguments = vs; tally = answered_more (instances_in bs) s.tally }) (last_of_sums s.layer.keeps s.layer.kinds s.arguments parts bs h)
    ∙ ap (λ n. record s { layer = absorbed d (all_in parts) s.layer; arguments = arguments_of_last s.arguments (all_in parts); tally = answered_more n s.tally }) (sym (as_many s.layer.keeps s.layer.kinds parts bs h))
