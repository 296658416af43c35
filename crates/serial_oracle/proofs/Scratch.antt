-- The answer and the memo instances, from what the run of main comes to.
use Rattle.std.proofs.Common.{◌≡◌, ℕ, zero, suc, ℤ, List, [], ◌∷◌, ◌++◌, Bool, true, false, cond, Option, None, Result, Ok, Err, refl, ap, ◌∙◌, sym, append_assoc, append-nil, ◌-◌}
use Rattle.std.proofs.Math.Path.{fun_ext}
use Rattle.std.specs.Prelude.{slice_get}
use Rattle.std.specs.Result.{IfOk}
use Rattle.meaning.specs.Tree.{Tree}
use Rattle.meaning.specs.Tables.{Tables}
use Rattle.meaning.specs.Outcome.{Log, Reads, Enters, Updates, Reuses, Begins, Syncs, Leaves, Faults, Marks, Spawns, Fault, updated}
use Rattle.meaning.specs.Statements.{initial_values, procedure_of, found}
use Rattle.meaning.specs.Elision.{Enter, Answer, Finished, Faulted, elide, instance, depth_limit, start, main, from_scratch, answer_of}
use Rattle.meaning.specs.Records.{Key, Kept, Revised, needing, needed, answered, executed, reused, is_memo}
use Rattle.serial_oracle.specs.declared.answer.Answer as code
use Rattle.serial_oracle.specs.declared.stops.NoMemory.{NoMemory}
use Rattle.serial_oracle.specs.declared.stops.Stop.{Stop}
use Rattle.serial_oracle.specs.declared.stops.Stop.TheVariants as stop
use Rattle.serial_oracle.specs.Answers.{answer_plain, finish, IsHalted, needed_answer}
use Rattle.serial_oracle.specs.Results.{Summary, with_worths, with_executed, with_reused, through, results, Gives, fault_plain}
use Rattle.serial_oracle.proofs.Forgetting.{through_worths}

-- ---- what a log leaves of the memo instances

entry_executed : (program : Tree) (b : Bool) (key : Key) (rest : List Key) (now : Summary) → (cond b (with_executed now key) now).executed ++ rest ≡ now.executed ++ cond b (key ∷ rest) rest
entry_executed program true key rest now = append_assoc now.executed (key ∷ []) rest
entry_executed program false key rest now = refl

entry_reused : (b : Bool) (key : Key) (now : Summary) → (cond b (with_executed now key) now).reused ≡ now.reused
entry_reused true key now = refl
entry_reused false key now = refl

through_executed : (program : Tree) (l : Log) (now : Summary) → (through program l now).executed ≡ now.executed ++ executed program l
through_executed program [] now = sym (append-nil now.executed)
through_executed program (Reads r ∷ l) now = through_executed program l now
through_executed program (Enters f args d ∷ l) now = through_executed program l (cond (is_memo (procedure_of program f)) (with_executed now (f, args)) now) ∙ entry_executed program (is_memo (procedure_of program f)) (f, args) (executed program l) now
through_executed program (Reuses f args ws ∷ l) now = through_executed program l (with_reused now ws (f, args))
through_executed program (Begins p d ∷ l) now = through_executed program l now
through_executed program (Syncs p ∷ l) now = through_executed program l now
through_executed program (Leaves p v ∷ l) now = through_executed program l now
through_executed program (Marks f args b ∷ l) now = through_executed program l now
through_executed program (Faults f ∷ l) now = through_executed program l now
through_executed program (Spawns p ∷ l) now = through_executed program l now
through_executed program (Updates n kind w ∷ l) now = through_executed program l (with_worths now (updated now.worths n kind w (slice_get now.worths n)))

through_reused : (program : Tree) (l : Log) (now : Summary) → (through program l now).reused ≡ now.reused ++ reused l
through_reused program [] now = sym (append-nil now.reused)
through_reused program (Reads r ∷ l) now = through_reused program l now
through_reused program (Enters f args d ∷ l) now = through_reused program l (cond (is_memo (procedure_of program f)) (with_executed now (f, args)) now) ∙ ap (λ r. r ++ reused l) (entry_reused (is_memo (procedure_of program f)) (f, args) now)
through_reused program (Reuses f args ws ∷ l) now = through_reused program l (with_reused now ws (f, args)) ∙ append_assoc now.reused ((f, args) ∷ []) (reused l)
through_reused program (Begins p d ∷ l) now = through_reused program l now
through_reused program (Syncs p ∷ l) now = through_reused program l now
through_reused program (Leaves p v ∷ l) now = through_reused program l now
through_reused program (Marks f args b ∷ l) now = through_reused program l now
through_reused program (Faults f ∷ l) now = through_reused program l now
through_reused program (Spawns p ∷ l) now = through_reused program l now
through_reused program (Updates n kind w ∷ l) now = through_reused program l (with_worths now (updated now.worths n kind w (slice_get now.worths n)))

-- ---- the answer

abbrev pub as_answer : Result ℤ Fault × Summary → Answer
as_answer x = elim x.0 [ Ok v ↦ Finished v x.1.worths | Err e ↦ Faulted e ]

answer_is : (program : Tree) (log : Log) (r : Result ℤ Fault) (now : Summary) → answer_of now.worths (record { log = log; answer = r }) ≡ as_answer (r, through program log now)
answer_is program log (Ok v) now = ap (Finished v) (sym (through_worths program log now))
answer_is program log (Err e) now = refl

module _ (revised : Revised) (tables : Tables) (records : List Kept) (now : Summary) (nothing_yet : now ≡ record { worths = initial_values revised.tree; executed = []; reused = [] }) where
  abbrev ended : Result ℤ Fault × Summary
  ended = results revised.tree (needing revised tables records depth_limit start main []) now

  answers : needed_answer revised tables records ≡ as_answer ended
  answers =
      let o = needing revised tables records depth_limit start main [] (initial_values revised.tree) in
      answer_is revised.tree o.log o.answer (record { worths = initial_values revised.tree; executed = []; reused = [] })
      ∙ ap (λ s. as_answer (results revised.tree (needing revised tables records depth_limit start main []) s)) (sym nothing_yet)

  pub executes : (later : Summary) (r : Result ℤ Fault) → ended ≡ (r, later) → later.executed ≡ executed revised.tree (needed revised tables records)
  executes later r h =
      ap (λ x. x.1.executed) (sym h)
      ∙ ap (λ s. (results revised.tree (needing revised tables records depth_limit start main []) s).1.executed) nothing_yet
      ∙ through_executed revised.tree (needing revised tables records depth_limit start main [] (initial_values revised.tree)).log (record { worths = initial_values revised.tree; executed = []; reused = [] })

  pub reuses : (later : Summary) (r : Result ℤ Fault) → ended ≡ (r, later) → later.reused ≡ reused (needed revised tables records)
  reuses later r h =
      ap (λ x. x.1.reused) (sym h)
      ∙ ap (λ s. (results revised.tree (needing revised tables records depth_limit start main []) s).1.reused) nothing_yet
      ∙ through_reused revised.tree (needing revised tables records depth_limit start main [] (initial_values revised.tree)).log (record { worths = initial_values revised.tree; executed = []; reused = [] })

  pub finishes : (v : ℤ) (later : Summary) (r : Result code.Answer NoMemory) → ended ≡ (Ok v, later)
      → IfOk r (λ a. answer_plain a ≡ finish v later.worths) → IfOk r (λ a. answer_plain a ≡ needed_answer revised tables records)
  finishes v later (Ok a) h f = f ∙ sym (answers ∙ ap as_answer h)
  finishes v later (Err e) h f = f

  pub halts : (st : Stop) (later : Summary) (r : Result code.Answer NoMemory) → Gives (Err st) later ended
      → IsHalted st r → IfOk r (λ a. answer_plain a ≡ needed_answer revised tables records)
  halts (stop.Fault f) later (Ok a) g h = h ∙ sym (answers ∙ ap as_answer g)
  halts (stop.Fault f) later (Err e) g h = absurd h
  halts stop.NoMemory later (Ok a) g h = absurd h
  halts stop.NoMemory later (Err e) g h = tt

  pub halt_executes : (st : Stop) (later : Summary) (r : Result code.Answer NoMemory) → Gives (Err st) later ended
      → IsHalted st r → IfOk r (λ a. later.executed ≡ executed revised.tree (needed revised tables records))
  halt_executes (stop.Fault f) later (Ok a) g h = executes later (Err (fault_plain f)) g
  halt_executes (stop.Fault f) later (Err e) g h = absurd h
  halt_executes stop.NoMemory later (Ok a) g h = absurd h
  halt_executes stop.NoMemory later (Err e) g h = tt

  pub halt_reuses : (st : Stop) (later : Summary) (r : Result code.Answer NoMemory) → Gives (Err st) later ended
      → IsHalted st r → IfOk r (λ a. later.reused ≡ reused (needed revised tables records))
  halt_reuses (stop.Fault f) later (Ok a) g h = reuses later (Err (fault_plain f)) g
  halt_reuses (stop.Fault f) later (Err e) g h = absurd h
  halt_reuses stop.NoMemory later (Ok a) g h = absurd h
  halt_reuses stop.NoMemory later (Err e) g h = tt

-- ---- where there are no records

no_record : (b : Bool) → cond b None None ≡ (let o : Option Kept = None in o)
no_record true = refl
no_record false = refl

needing_none : (revised : Revised) (tables : Tables) (left : ℕ) → needing revised tables [] left ≡ elide revised.tree tables left
unfolding needing elide
needing_none revised tables zero = refl
needing_none revised tables (suc left) =
    fun_ext (λ site. fun_ext (λ f. fun_ext (λ args.
    ap (λ o. answered revised tables [] f args o (instance revised.tree tables (needing revised tables [] left) f args (depth_limit - left) (found (procedure_of revised.tree f)))) (no_record (is_memo (procedure_of revised.tree f)))
    ∙ ap (λ enters. instance revised.tree tables enters f args (depth_limit - left) (found (procedure_of revised.tree f))) (needing_none revised tables left))))

pub needed_none : (revised : Revised) (tables : Tables) → needed_answer revised tables [] ≡ from_scratch revised.tree tables
unfolding from_scratch
needed_none revised tables =
    ap (λ (enters : Enter). answer_of (initial_values revised.tree) (enters start main [] (initial_values revised.tree))) (needing_none revised tables depth_limit)

pub from_none : (revised : Revised) (tables : Tables) (r : Result code.Answer NoMemory) → IfOk r (λ a. answer_plain a ≡ needed_answer revised tables []) → IfOk r (λ a. answer_plain a ≡ from_scratch revised.tree tables)
from_none revised tables (Ok a) h = h ∙ needed_none revised tables
from_none revised tables (Err e) h = h

pub always : {T E : Type 0} (r : Result T E) (P : Type 0) → P → IfOk r (λ a. P)
always (Ok t) P p = p
always (Err e) P p = tt
