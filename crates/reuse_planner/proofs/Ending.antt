-- How a run by given steps ends: where the definitions' steps lead to, and with the elision's answer.
use Rattle.std.proofs.Common.{◌≡◌, ◌≤◌, ℕ, true, false, List, length, Option, Some, None, Result, Ok, Err, OnOk, OnErr, is_err, ap, subst, ◌∙◌}
use Rattle.monoid_laws.specs.declared.Kind.{Kind}
use Rattle.view_pool.specs.Stock.{Stock}
use Rattle.meaning.specs.Elision as elision
use Rattle.linked_program.specs.Checked.{PlainChecked}
use Rattle.input_tables.specs.Edited.{Edited}
use Rattle.record_theory.specs.Record.{PlainRecord}
use Rattle.positions.specs.declared.answer.RunAnswer.{RunAnswer}
use Rattle.positions.specs.declared.answer.RunAnswer.TheVariants as answer
use Rattle.numbered_runs.specs.declared.step.Step.{Step}
use Rattle.worker_core.specs.Strands.{PlainStrands}
use Rattle.worker_core.specs.Cores.{PlainCore, IsFirstCore}
use Rattle.numbered_runs.specs.Sound.{AreSoundFor}
use Rattle.worker_core.specs.Keeps.{IsBeginning, IsEndBy, ComesToEnd}
use Rattle.reuse_planner.specs.Driven.{lender, AreTaken, ComesBy, EndsBy}
use Rattle.reuse_planner.specs.Runs.{IsLedBy, IsLed, IsBegun}

-- ---- the end that the steps lead to

pub comes_by : (c d : PlainCore) (steps : List Step) (n : ℕ) (given : RunAnswer) → c.failed ≡ false → AreTaken steps n c d → ComesToEnd d given → ComesBy c steps n given
comes_by c d steps n given f h comes =
    let at : ComesToEnd (record c { strands = d.strands }) given = subst (λ (z : PlainCore). ComesToEnd z given) h.same comes in
    record { marks = h.marks; placed = h.placed; counted = h.counted; comes = λ k x r s. let l = h.follows f k x r s in at f k _ l.0 l.1 }

pub ends_by : (c d : PlainCore) (steps : List Step) (n : ℕ) (given : RunAnswer) → n ≤ length steps → c.failed ≡ false → AreTaken steps n c d → ComesToEnd d given → EndsBy c steps n given
ends_by c d steps n answer.NoMemory within f h comes = within
ends_by c d steps n answer.NoKit within f h comes = comes_by c d steps n answer.NoKit f h comes
ends_by c d steps n answer.Unfinished within f h comes = comes_by c d steps n answer.Unfinished f h comes
ends_by c d steps n (answer.Fault k) within f h comes = comes_by c d steps n (answer.Fault k) f h comes
ends_by c d steps n (answer.Finished v ws i j k) within f h comes = comes_by c d steps n (answer.Finished v ws i j k) f h comes

-- what holds where there is an error
pub where_err : {E : Type 0} (r : Result Unit E) (P : Type 0) → is_err r ≡ true → OnErr r P → P
where_err (Ok x) P e h = absurd cc
where_err (Err x) P e h = h

-- what holds where there is no error
pub where_ok : {E : Type 0} (r : Result Unit E) (P : Type 0) → is_err r ≡ false → OnOk r P → P
where_ok (Ok x) P e h = h
where_ok (Err x) P e h = absurd cc

-- a run at its beginning
module _ (program : PlainChecked) (tables : Edited) (records : List PlainRecord) (pool : Stock (List Kind)) (workers : ℕ) where
  abbrev first_with : PlainStrands → PlainCore
  first_with s = record { program = program; tables = tables; records = records; strands = s; workers = workers; failed = false }

  is_first : (c : PlainCore) → IsFirstCore program tables records pool workers c → c ≡ first_with c.strands
  is_first c h =
      ap (λ (p : PlainChecked). record c { program = p }) h.program_is ∙ (ap (λ (t : Edited). record c { program = program; tables = t }) h.tables_are
      ∙ (ap (λ (r : List PlainRecord). record c { program = program; tables = tables; records = r }) h.records_are
      ∙ (ap (λ (w : ℕ). record c { program = program; tables = tables; records = records; workers = w }) h.workers_are
      ∙ ap (λ b. record c { program = program; tables = tables; records = records; workers = workers; failed = b }) h.going)))

  module _ (s : PlainStrands) (steps : List Step) (n : ℕ) (beginning : IsBeginning (length pool.kits) (first_with s)) where
    led_by : (given : RunAnswer) → ComesBy (first_with s) steps n given → IsLedBy (lender program tables pool records) workers steps n given
    led_by given h = record { marks = h.marks; placed = h.placed; counted = h.counted; comes = λ k. let b = beginning k in h.comes k _ b.0 b.1 }

    no_end : (o : Option elision.Answer) → IsEndBy program o answer.NoKit → ⊥
    no_end None e = absurd cc
    no_end (Some a) e = e.0

    not_begun : (k : AreSoundFor program records) → ComesBy (first_with s) steps n answer.NoKit → ⊥
    not_begun k h = let b = beginning k in no_end _ (h.comes k _ b.0 b.1)

    begun_at : (k : AreSoundFor program records) (given : RunAnswer) → EndsBy (first_with s) steps n given → IsBegun given
    begun_at k answer.NoKit h = not_begun k h
    begun_at k answer.NoMemory h = tt
    begun_at k answer.Unfinished h = tt
    begun_at k (answer.Fault f) h = tt
    begun_at k (answer.Finished v ws i j m) h = tt

    led_at : (k : AreSoundFor program records) (given : RunAnswer) → EndsBy (first_with s) steps n given → IsLed (lender program tables pool records) workers steps n given
    led_at k answer.NoMemory h = h
    led_at k answer.NoKit h = absurd (not_begun k h)
    led_at k answer.Unfinished h = led_by answer.Unfinished h
    led_at k (answer.Fault f) h = led_by (answer.Fault f) h
    led_at k (answer.Finished v ws i j m) h = led_by (answer.Finished v ws i j m) h

  module _ (c : PlainCore) (first : IsFirstCore program tables records pool workers c) (steps : List Step) (n : ℕ) (given : RunAnswer) (beginning : IsBeginning (length pool.kits) c) (h : EndsBy c steps n given) (k : AreSoundFor program records) where
    pub led_of : IsLed (lender program tables pool records) workers steps n given
    led_of = led_at c.strands steps n (subst (IsBeginning (length pool.kits)) (is_first c first) beginning) k given (subst (λ (z : PlainCore). EndsBy z steps n given) (is_first c first) h)

    pub begun_of : IsBegun given
    begun_of = begun_at c.strands steps n (subst (IsBeginning (length pool.kits)) (is_first c first) beginning) k given (subst (λ (z : PlainCore). EndsBy z steps n given) (is_first c first) h)

-- ---- the elision's answer
