-- What is left of a piece of a run once its readings are forgotten: the answer, the values of the reducers, and the memo instances.
use Rattle.std.specs.Prelude.{◌≡◌, ℕ, ℤ, cond, List, [], ◌∷◌, ◌++◌, Option, Some, None, Result, Ok, Err, slice_get}
use Rattle.std.specs.Global.{Vec}
use Rattle.monoid_laws.specs.Worth.{Worth}
use Rattle.monoid_laws.specs.declared.Kind.{Kind}
use Rattle.meaning.specs.Tree.{Name, Tree}
use Rattle.meaning.specs.declared.FaultKind.{FaultKind}
use Rattle.serial_oracle.specs.declared.stops.Fault as stopped
use Rattle.serial_oracle.specs.declared.stops.Stop.{Stop}
use Rattle.serial_oracle.specs.declared.stops.Stop.TheVariants as stop
use Rattle.serial_oracle.specs.declared.stops.Trouble.{Trouble}
use Rattle.serial_oracle.specs.declared.stops.Trouble.TheVariants as trouble
use Rattle.meaning.specs.Outcome.{Accumulators, Log, Enters, Updates, Reuses, updated, combined, Out, Fault, Site}
use Rattle.meaning.specs.Statements.{procedure_of}
use Rattle.meaning.specs.Run.{Run}
use Rattle.meaning.specs.Elision.{Next, On, Back}
use Rattle.meaning.specs.Records.{Key, is_memo}
use Rattle.meaning.specs.Values.{Env}

-- the values of the reducers, the memo instances that were run, and those that a record answered
pub record Summary : Type 0 where
  pub worths : Accumulators
  pub executed : List Key
  pub reused : List Key

abbrev pub with_worths : Summary → Accumulators → Summary
with_worths s acc = record { worths = acc; executed = s.executed; reused = s.reused }

abbrev pub with_executed : Summary → Key → Summary
with_executed s key = record { worths = s.worths; executed = s.executed ++ key ∷ []; reused = s.reused }

abbrev pub with_reused : Summary → List (Kind × Worth) → Key → Summary
with_reused s ws key = record { worths = combined s.worths ws; executed = s.executed; reused = s.reused ++ key ∷ [] }

abbrev pub through : Tree → Log → Summary → Summary
through program [] s = s
through program (Enters f args depth ∷ log) s = through program log (cond (is_memo (procedure_of program f)) (with_executed s (f, args)) s)
through program (Updates n kind w ∷ log) s = through program log (with_worths s (updated s.worths n kind w (slice_get s.worths n)))
through program (Reuses f args ws ∷ log) s = through program log (with_reused s ws (f, args))
through program (_ ∷ log) s = through program log s

abbrev pub seen : {A : Type 0} → Tree → Summary → Out Fault A → Result A Fault × Summary
seen program s o = (o.answer, through program o.log s)

abbrev pub results : {A : Type 0} → Tree → Run A → Summary → Result A Fault × Summary
results program m s = seen program s (m s.worths)

abbrev pub fault_plain : stopped.Fault → Fault
fault_plain f = record { kind = f.kind; site = record { procedure = f.procedure.now; statement = f.statement } }

-- the code's result and summary are those, unless memory ran out
abbrev pub Gives : {A : Type 0} → Result A Stop → Summary → Result A Fault × Summary → Type 0
Gives (Ok a) s o = o ≡ (Ok a, s)
Gives (Err (stop.Fault f)) s o = o ≡ (Err (fault_plain f), s)
Gives (Err stop.NoMemory) s o = Unit {0}

-- code that gives no answer had that result and summary, unless memory ran out
abbrev pub Does : Result (Unit {0}) Stop → Summary → Result (Unit {0}) Fault × Summary → Type 0
Does (Ok a) s o = o ≡ (Ok tt, s)
Does (Err (stop.Fault f)) s o = o ≡ (Err (fault_plain f), s)
Does (Err stop.NoMemory) s o = Unit {0}

-- a block gave a value back or went on, with that summary and with these values of the names, unless memory ran out
abbrev pub GivesNext : Result (Option ℤ) Stop → Env → Summary → Result Next Fault × Summary → Type 0
GivesNext (Ok None) env s o = o ≡ (Ok (On env), s)
GivesNext (Ok (Some v)) env s o = o ≡ (Ok (Back v), s)
GivesNext (Err (stop.Fault f)) env s o = o ≡ (Err (fault_plain f), s)
GivesNext (Err stop.NoMemory) env s o = Unit {0}

-- an update, whose statement isn't known yet, had that result and left these accumulators, unless memory ran out
abbrev pub Notes : Result (Unit {0}) Trouble → Accumulators → Result (Unit {0}) FaultKind × Accumulators → Type 0
Notes (Ok a) acc o = o ≡ (Ok tt, acc)
Notes (Err (trouble.Fault kind)) acc o = o ≡ (Err kind, acc)
Notes (Err trouble.NoMemory) acc o = Unit {0}

abbrev pub IsFault : FaultKind → Name → ℕ → Stop → Type 0
IsFault kind f n (stop.Fault e) = fault_plain e ≡ record { kind = kind; site = record { procedure = f; statement = n } }
IsFault kind f n stop.NoMemory = ⊥

abbrev pub IsTrouble : Trouble → Name → ℕ → Stop → Type 0
IsTrouble (trouble.Fault kind) f n (stop.Fault e) = fault_plain e ≡ record { kind = kind; site = record { procedure = f; statement = n } }
IsTrouble trouble.NoMemory f n stop.NoMemory = Unit {0}
IsTrouble _ f n e = ⊥

-- expressions had these values or that fault, unless memory ran out
abbrev pub EvaluatesAll : Result (Vec ℤ) Trouble → Result (List ℤ) FaultKind → Type 0
EvaluatesAll (Ok v) r = r ≡ Ok v.items
EvaluatesAll (Err (trouble.Fault kind)) r = r ≡ Err kind
EvaluatesAll (Err trouble.NoMemory) r = Unit {0}

abbrev pub site_at : Name → ℕ → Site
site_at f n = record { procedure = f; statement = n }
