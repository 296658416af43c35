-- Iterations of a loop that batches of records answer: what is found, and the way from a strand to the one that it leaves.
use Rattle.std.proofs.Common.{◌≡◌, ℕ, zero, suc, ◌+◌, ◌-◌, ◌/◌, ◌<◌, ◌≤◌, ℤ, pos, ◌+ℤ◌, Bool, true, false, List, [], ◌∷◌, map, length, Option, Some, None, IfSome, Result, Ok, Err, IfOk, OnOk, OnErr, slice_get, slice_set, refl, sym, ap, ◌∙◌, subst, arith}
use Rattle.std.proofs.Math.IntN.{+ℤ_assoc}
use Rattle.monoid_laws.specs.declared.Kind.{Kind}
use Rattle.monoid_laws.specs.Kinds.{AreWorths}
use Rattle.meaning.specs.Tables.{Tables}
use Rattle.meaning.specs.Records.{Kept}
use Rattle.meaning.specs.Elision.{depth_limit}
use Rattle.linked_program.specs.Linked.{Linked}
use Rattle.linked_program.specs.Checked.{PlainChecked}
use Rattle.linked_program.specs.CodeView.{expression}
use Rattle.evaluation.specs.declared.slot.Slot.{Slot}
use Rattle.evaluation.specs.declared.slot.Slot.TheVariants.{Has}
use Rattle.evaluation.specs.Values.{NumberedOut, values_at, pure}
use Rattle.rerun_records.specs.declared.batch.Batch.{Batch}
use Rattle.rerun_records.specs.Sums.{IsBatchFor}
use Rattle.record_theory.specs.Record.{PlainRecord}
use Rattle.record_theory.specs.Named.{HaveValues}
use Rattle.record_theory.specs.Validity.{valid_at}
use Rattle.record_theory.specs.Batches.{AreValidFrom}
use Rattle.record_theory.proofs.Singles.{sum_of_one, valid_values}
use Rattle.positions.specs.declared.work.Loop.{Loop}
use Rattle.positions.specs.declared.work.Share.{Share}
use Rattle.positions.specs.declared.work.Work.TheVariants.{Halves, Second, Turns}
use Rattle.positions.specs.declared.phase.Phase.TheVariants.{Running, Leaving}
use Rattle.positions.specs.Setting.{Setting, setting_with}
use Rattle.positions.specs.Activations.{PlainActivation, waiting}
use Rattle.positions.specs.Code.{PlainLoop}
use Rattle.positions.specs.Layers.{PlainLayer, absorbing}
use Rattle.positions.specs.Strands.{PlainStrand}
use Rattle.positions.specs.Advance.{record_for, right_of}
use Rattle.answered_loops.specs.Ways.{IsWay, here}
use Rattle.answered_loops.specs.Answered.{IsAnswer, AreAnswers, HasAnswers, IsInside, absorbed, ended_by, is_by_turns, half_answered, first_answered, turns_answered, with_answers, iteration_depth, halved_to, turned_to}
use Rattle.answered_loops.proofs.Arguments.{counted_is, other_values}
use Rattle.answered_loops.proofs.Found.{found_arguments}
use Rattle.answered_loops.proofs.Halves.{half_answers, first_answers, begun_answers, turns_answer}
use Rattle.loop_answers.specs.Ahead.{IsAnsweredAhead, IsSameButAnswers, IsRefusedAhead, DoneBy}
use Rattle.loop_answers.specs.Batches.{SumsHaveValues, instances_in, AreSums, all_in, HasBatches, IsBatchFrom, CountsAt, with_batches, halves_left, first_left, last_left, turns_left}
use Rattle.loop_answers.proofs.Batches.{as_many, sums_values, batches_leave}

module _ (setting : Setting) where
  record_is : (d procedure : ℕ) (vs : List ℤ) → 0 < d → record_for setting d procedure vs ≡ valid_at setting.program.revisions setting.tables d setting.records procedure vs
  record_is zero procedure vs l = absurd (let none : ⊥ = omega arith in none)
  record_is (suc d) procedure vs l = refl

-- ---- iterations

next_number : (v low : ℤ) (i : ℕ) → v ≡ low +ℤ pos i → v +ℤ pos 1 ≡ low +ℤ pos (i + 1)
next_number v low i e = ap (λ u. u +ℤ pos 1) e ∙ +ℤ_assoc low (pos i) (pos 1)

-- for a checked program on tables, with these records
module _ (program : PlainChecked) (tables : Tables) (kept : List Kept) (records : List PlainRecord) (j : PlainLoop) (slots : List Slot) (left d : ℕ) (deep : 0 < d) (depth : d ≡ depth_limit - (left - 1)) where
  abbrev setting : Setting
  setting = setting_with program tables kept records

  abbrev values_of : ℤ → NumberedOut (List ℤ)
  values_of v = values_at tables (slice_set slots j.variable (Has v)) (map expression j.arguments)

  -- the record of one
  valid_answers : (v : ℤ) (vs : List ℤ) (r : PlainRecord) → values_of v ≡ pure vs → valid_at program.revisions tables d records j.callee vs ≡ Some r → IsAnswer setting j slots left v r
  valid_answers v vs r values valid =
      let found : record_for setting (depth_limit - (left - 1)) j.callee vs ≡ Some r = ap (λ n. record_for setting n j.callee vs) (sym depth) ∙ record_is setting d j.callee vs deep ∙ valid in
      let same : vs ≡ r.arguments = sym (found_arguments setting (depth_limit - (left - 1)) j.callee vs r found) in
      record { values = values ∙ ap pure same; found = subst (λ xs. record_for setting (depth_limit - (left - 1)) j.callee xs ≡ Some r) same found }

  -- those of a batch
  members_answer : (place : ℕ) (vs : List ℤ) → ((w : ℤ) → values_of w ≡ pure (slice_set vs place w)) → (v : ℤ) (rs : List PlainRecord) → AreValidFrom program tables d records j.callee vs place v rs
      → (low : ℤ) (i : ℕ) → v ≡ low +ℤ pos i → AreAnswers setting j slots left low i rs
  members_answer place vs values v [] valid low i e = tt
  members_answer place vs values v (r ∷ rs) valid low i e = (
    subst (λ u. IsAnswer setting j slots left u r) e (valid_answers v (slice_set vs place v) r (values v) valid.0),
    members_answer place vs values (v +ℤ pos 1) rs valid.1 low (i + 1) (next_number v low i e),
  )

  batch_answers : (keeps : Bool) (b : Batch) (most place : ℕ) (v : ℤ) (vs : List ℤ) → CountsAt slots j.variable (map expression j.arguments) place → values_of v ≡ pure vs
      → IsBatchFor keeps program tables d records j.callee vs place most b.count b.sum.now → IsBatchFrom setting keeps j slots left v most b
  batch_answers keeps b most place v vs at values asked =
      let h = asked.batch in
      let es : List Linked = map expression j.arguments in
      let first : slice_get vs place ≡ Some v = counted_is tables slots j.variable place es v vs at.counts at.has_slot values in
      let others : (w : ℤ) → values_of w ≡ pure (slice_set vs place w) = other_values tables slots j.variable place es v vs at.counts at.has_slot values in
      let same : Some h.first ≡ Some v = sym h.first_is ∙ first in
      record {
        members = h.members;
        sum_is = record { reads = asked.reads; sum_is = h.sum_is; has = asked.has };
        count_is = h.count_is;
        some = h.some;
        few = h.few;
        answers = λ low i e. members_answer place vs others h.first h.members h.valid low i ((let f : h.first ≡ v = cc in f) ∙ e);
      }

  single_answers : (keeps : Bool) (b : Batch) (most : ℕ) (v : ℤ) (vs : List ℤ) → 0 < most → HaveValues program.kinds records → values_of v ≡ pure vs
      → (b.count ≡ 1) × (valid_at program.revisions tables d records j.callee vs ≡ Some b.sum.now) → IsBatchFrom setting keeps j slots left v most b
  single_answers keeps b most v vs some have values h =
      let r = b.sum.now in
      let count : b.count ≡ 1 = h.0 in
      record {
        members = r ∷ [];
        sum_is = record { reads = r.reads; sum_is = sum_of_one program.kinds r (valid_values program.revisions tables program.kinds d j.callee vs records r deep have (sym h.1)); has = λ asked. refl };
        count_is = sym count;
        some = omega arith;
        few = omega arith;
        answers = λ low i e. (subst (λ u. IsAnswer setting j slots left u r) e (valid_answers v vs r values h.1), tt);
      }

  pub batches_answer : (keeps : Bool) (o : Option Batch) (most place : ℕ) (v : ℤ) (vs us : List ℤ) → us ≡ vs → CountsAt slots j.variable (map expression j.arguments) place → values_of v ≡ pure vs
      → IfSome o (λ b. IsBatchFor keeps program tables d records j.callee us place most b.count b.sum.now) → IfSome o (IsBatchFrom setting keeps j slots left v most)
  batches_answer keeps None most place v vs us same at values h = tt
  batches_answer keeps (Some b) most place v vs us same at values h =
      batch_answers keeps b most place v vs at values (subst (λ xs. IsBatchFor keeps program tables d records j.callee xs place most b.count b.sum.now) same h)

  pub singles_answer : (keeps : Bool) (o : Option Batch) (most : ℕ) (v : ℤ) (vs us : List ℤ) → us ≡ vs → 0 < most → HaveValues program.kinds records → values_of v ≡ pure vs
      → IfSome o (λ b. (b.count ≡ 1) × (valid_at program.revisions tables d records j.callee us ≡ Some b.sum.now)) → IfSome o (IsBatchFrom setting keeps j slots left v most)
  singles_answer keeps None most v vs us same some have values h = tt
  singles_answer keeps (Some b) most v vs us same some have values h =
      single_answers keeps b most v vs some have values (subst (λ xs. (b.count ≡ 1) × (valid_at program.revisions tables d records j.callee xs ≡ Some b.sum.now)) same h)

module _ (setting : Setting) where
  -- ---- ways

  pub answered_same : (s t : PlainStrand) → t ≡ s → IsAnsweredAhead setting s t
  answered_same s t e = record {
    way = subst (λ (u : PlainStrand). IsWay setting s u) (sym e) here;
    lower = ap (λ (u : PlainStrand). u.lower) e;
    kinds = ap (λ (u : PlainStrand). u.layer.kinds) e;
    made = ap (λ (u : PlainStrand). u.tally.made) e;
  }

  -- memory is refused where the strand is as it was but for the answers
  pub refused_same : {A E : Type 0} (r : Result A E) (s m t : PlainStrand) → m ≡ s → IsSameButAnswers m t → OnErr r (IsRefusedAhead setting s t)
  refused_same (Ok a) s m t e h = tt
  refused_same (Err x) s m t e h = record { between = m; ahead = answered_same s m e; same = h }

  absorbed_kinds : (d : ℕ) (rs : List PlainRecord) (l : PlainLayer) → (absorbed d rs l).kinds ≡ l.kinds
  absorbed_kinds d [] l = refl
  absorbed_kinds d (r ∷ rs) l = absorbed_kinds d rs (absorbing r d l)

  module _ (s m t : PlainStrand) (l : Loop) (h : Share) (bs : List Batch) (same : m ≡ s) (running : s.phase ≡ Running) (kinds : s.layer.kinds ≡ setting.kinds) (are : AreWorths s.layer.kinds s.layer.worths)
      (has : HasBatches setting s.layer.keeps l s.top h.first bs) where
    abbrev rs : List PlainRecord
    rs = all_in has.batches.parts

    -- of each iteration a record
    each : HasAnswers setting l s.top h.first rs
    each = record { of_memo = has.of_memo; answers = has.batches.answers }

    as_records : with_batches (iteration_depth s.top) bs s ≡ with_answers (iteration_depth s.top) rs s
    as_records = batches_leave (iteration_depth s.top) has.batches.parts bs s are (subst (λ ks. AreSums s.layer.keeps ks has.batches.parts bs) (sym kinds) has.batches.sums)

    many : length rs ≡ instances_in bs
    many = as_many s.layer.keeps setting.kinds has.batches.parts bs has.batches.sums

    turns_are : t ≡ turns_left l h bs m → t ≡ turns_answered l h rs s
    turns_are e =
        e ∙ ap (turns_left l h bs) same
        ∙ ap (λ (x : PlainStrand). record x { top = turned_to (instances_in bs) l h s.top; phase = Running }) as_records
        ∙ ap (λ n. record (with_answers (iteration_depth s.top) rs s) { top = turned_to n l h s.top; phase = Running }) (sym many)

    half_ends : (k : ℕ) (done : Bool) → s.top.work ≡ Halves l k h → IsInside s → instances_in bs ≡ h.count → is_by_turns setting.codes s.top l k h.count ≡ false
        → DoneBy done (t ≡ halves_left bs m) (t ≡ m) → IsAnsweredAhead setting s t
    half_ends k false there inside all halved e = answered_same s t (e ∙ same)
    half_ends k true there inside all halved e =
        let u = half_answered setting.codes l k h rs s in
        let is : t ≡ u = e ∙ ap (halves_left bs) same
        ∙ ap (λ (x : PlainStrand). record x { top = halved_to s.top; phase = Leaving (pos 0) }) as_records
        ∙ ap (λ b. record (with_answers (iteration_depth s.top) rs s) { top = ended_by b l h s.top; phase = Leaving (pos 0) }) (sym halved) in
        subst (λ (x : PlainStrand). IsAnsweredAhead setting s x) (sym is)
        (record { way = half_answers setting s l k h rs running there inside (many ∙ all) each; lower = refl; kinds = absorbed_kinds (iteration_depth s.top) rs s.layer; made = refl })

    pub first_ends : (k : ℕ) (done : Bool) → s.top.work ≡ Halves l k h → IsInside s → instances_in bs ≡ h.count / 2 → is_by_turns setting.codes s.top l k h.count ≡ false
        → DoneBy done (t ≡ first_left l (k - 1) h bs m) (t ≡ m) → IsAnsweredAhead setting s t
    first_ends k false there inside half halved e = answered_same s t (e ∙ same)
    first_ends k true there inside half halved e =
        let u = first_answered l (k - 1) h rs s in
        let is : t ≡ u = e ∙ ap (first_left l (k - 1) h bs) same
        ∙ ap (λ (x : PlainStrand). record x { top = waiting true None (Second l (k - 1) (right_of h)) s.top; phase = Running }) as_records in
        subst (λ (x : PlainStrand). IsAnsweredAhead setting s x) (sym is)
        (record { way = first_answers setting s l k h rs running there halved inside (many ∙ half) each; lower = refl; kinds = absorbed_kinds (iteration_depth s.top) rs s.layer; made = refl })

    last_ends : (k : ℕ) (done : Bool) → s.top.work ≡ Halves l k h → IsInside s → instances_in bs ≡ h.count → is_by_turns setting.codes s.top l k h.count ≡ true
        → DoneBy done (t ≡ last_left l h bs m) (t ≡ m) → IsAnsweredAhead setting s t
    last_ends k false there inside all turns e = answered_same s t (e ∙ same)
    last_ends k true there inside all turns e =
        let u = half_answered setting.codes l k h rs s in
        let is : t ≡ u = e ∙ ap (last_left l h bs) same
        ∙ ap (λ (x : PlainStrand). record x { top = turned_to (instances_in bs) l h s.top; phase = Leaving (pos 0) }) as_records
        ∙ ap (λ n. record (with_answers (iteration_depth s.top) rs s) { top = turned_to n l h s.top; phase = Leaving (pos 0) }) all
        ∙ ap (λ b. record (with_answers (iteration_depth s.top) rs s) { top = ended_by b l h s.top; phase = Leaving (pos 0) }) (sym turns) in
        subst (λ (x : PlainStrand). IsAnsweredAhead setting s x) (sym is)
        (record { way = half_answers setting s l k h rs running there inside (many ∙ all) each; lower = refl; kinds = absorbed_kinds (iteration_depth s.top) rs s.layer; made = refl })

    -- the first ones, where all are done one by one
    begun_ends : (k : ℕ) (done : Bool) → s.top.work ≡ Halves l k h → instances_in bs ≤ h.count → is_by_turns setting.codes s.top l k h.count ≡ true
        → DoneBy done (t ≡ turns_left l h bs m) (t ≡ m) → IsAnsweredAhead setting s t
    begun_ends k false there fits turns e = answered_same s t (e ∙ same)
    begun_ends k true there fits turns e =
        subst (λ (x : PlainStrand). IsAnsweredAhead setting s x) (sym (turns_are e))
        (record { way = begun_answers setting s l k h rs running there turns (subst (λ n. n ≤ h.count) (sym many) fits) each; lower = refl; kinds = absorbed_kinds (iteration_depth s.top) rs s.layer; made = refl })

    turns_end : (done : Bool) → s.top.work ≡ Turns l h → instances_in bs ≤ h.count → DoneBy done (t ≡ turns_left l h bs m) (t ≡ m) → IsAnsweredAhead setting s t
    turns_end false there fits e = answered_same s t (e ∙ same)
    turns_end true there fits e =
        subst (λ (x : PlainStrand). IsAnsweredAhead setting s x) (sym (turns_are e))
        (record { way = turns_answer setting s l h rs running there (subst (λ n. n ≤ h.count) (sym many) fits) each; lower = refl; kinds = absorbed_kinds (iteration_depth s.top) rs s.layer; made = refl })

  -- ---- what a call came to

  pub values_ready : (ks : List Kind) (keeps : Bool) (l : Loop) (a : PlainActivation) (i : ℕ) (bs qs : List Batch) → HasBatches setting keeps l a i bs → qs ≡ bs → ks ≡ setting.kinds → SumsHaveValues ks qs
  values_ready ks keeps l a i bs qs has same kinds =
      subst (λ cs. SumsHaveValues cs qs) (sym kinds) (subst (SumsHaveValues setting.kinds) (sym same) (sums_values keeps setting.kinds has.batches.parts bs has.batches.sums))

  pub half_over : {E : Type 0} (r : Result Bool E) (s m t : PlainStrand) (l : Loop) (h : Share) (bs qs : List Batch) (k : ℕ) → m ≡ s → s.phase ≡ Running → s.layer.kinds ≡ setting.kinds → AreWorths s.layer.kinds s.layer.worths
      → HasBatches setting s.layer.keeps l s.top h.first bs → s.top.work ≡ Halves l k h → IsInside s → instances_in bs ≡ h.count → is_by_turns setting.codes s.top l k h.count ≡ false → qs ≡ bs
      → IfOk r (λ done. DoneBy done (t ≡ halves_left qs m) (t ≡ m)) → OnOk r (IsAnsweredAhead setting s t)
  half_over (Ok done) s m t l h bs qs k same running kinds are has there inside all halved is e =
      half_ends s m t l h bs same running kinds are has k done there inside all halved (subst (λ cs. DoneBy done (t ≡ halves_left cs m) (t ≡ m)) is e)
  half_over (Err x) s m t l h bs qs k same running kinds are has there inside all halved is e = tt

  pub last_over : {E : Type 0} (r : Result Bool E) (s m t : PlainStrand) (l : Loop) (h : Share) (bs : List Batch) (k : ℕ) → m ≡ s → s.phase ≡ Running → s.layer.kinds ≡ setting.kinds → AreWorths s.layer.kinds s.layer.worths
      → HasBatches setting s.layer.keeps l s.top h.first bs → s.top.work ≡ Halves l k h → IsInside s → instances_in bs ≡ h.count → is_by_turns setting.codes s.top l k h.count ≡ true
      → IfOk r (λ done. DoneBy done (t ≡ last_left l h bs m) (t ≡ m)) → OnOk r (IsAnsweredAhead setting s t)
  last_over (Ok done) s m t l h bs k same running kinds are has there inside all turns e = last_ends s m t l h bs same running kinds are has k done there inside all turns e
  last_over (Err x) s m t l h bs k same running kinds are has there inside all turns e = tt

  pub begun_over : {E : Type 0} (r : Result Bool E) (s m t : PlainStrand) (l : Loop) (h : Share) (bs : List Batch) (k : ℕ) → m ≡ s → s.phase ≡ Running → s.layer.kinds ≡ setting.kinds → AreWorths s.layer.kinds s.layer.worths
      → HasBatches setting s.layer.keeps l s.top h.first bs → s.top.work ≡ Halves l k h → instances_in bs ≤ h.count → is_by_turns setting.codes s.top l k h.count ≡ true
      → IfOk r (λ done. DoneBy done (t ≡ turns_left l h bs m) (t ≡ m)) → OnOk r (IsAnsweredAhead setting s t)
  begun_over (Ok done) s m t l h bs k same running kinds are has there fits turns e = begun_ends s m t l h bs same running kinds are has k done there fits turns e
  begun_over (Err x) s m t l h bs k same running kinds are has there fits turns e = tt

  pub turns_over : {E : Type 0} (r : Result Bool E) (s m t : PlainStrand) (l : Loop) (h : Share) (bs qs : List Batch) → m ≡ s → s.phase ≡ Running → s.layer.kinds ≡ setting.kinds → AreWorths s.layer.kinds s.layer.worths
      → HasBatches setting s.layer.keeps l s.top h.first bs → s.top.work ≡ Turns l h → instances_in bs ≤ h.count → qs ≡ bs → IfOk r (λ done. DoneBy done (t ≡ turns_left l h qs m) (t ≡ m)) → OnOk r (IsAnsweredAhead setting s t)
  turns_over (Ok done) s m t l h bs qs same running kinds are has there fits is e =
      turns_end s m t l h bs same running kinds are has done there fits (subst (λ cs. DoneBy done (t ≡ turns_left l h cs m) (t ≡ m)) is e)
  turns_over (Err x) s m t l h bs qs same running kinds are has there fits is e = tt
