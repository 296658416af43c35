-- Pieces of a run that begin from given accumulators.
use Rattle.std.specs.Prelude.{Result, Ok, Err}
use Rattle.meaning.specs.declared.FaultKind.{FaultKind}
use Rattle.meaning.specs.Outcome.{Log, Event, Accumulators, after, Out, Site, Fault}
use Rattle.meaning.specs.Outcome as outcome

infixl 20 ◌>>=◌
infixl 20 ◌>>◌
abbrev pub Run : Type 0 → Type 0
Run A = Accumulators → Out Fault A

-- a second piece begins with the accumulators that the first leaves
abbrev pub ◌>>=◌ : {A B : Type 0} → Run A → (A → Run B) → Run B
m >>= f = λ acc. let o = m acc in outcome.onward o.log o.answer (λ a. f a (after o.log acc))

abbrev pub ◌>>◌ : {A B : Type 0} → Run A → Run B → Run B
m >> k = m >>= (λ _. k)

abbrev pub pure : {A : Type 0} → A → Run A
pure a = λ acc. outcome.pure a

abbrev pub fail : {A : Type 0} → Site → FaultKind → Run A
fail site kind = λ acc. outcome.fail (record { kind = kind; site = site })

abbrev pub note : Event → Run (Unit {0})
note event = λ acc. outcome.note event

abbrev pub nothing : Run (Unit {0})
nothing = λ acc. outcome.pure tt

-- the accumulators here
abbrev pub values_here : Run Accumulators
values_here = λ acc. outcome.pure acc

abbrev pub placed : {A : Type 0} → Site → Result A FaultKind → Result A Fault
placed site (Ok a) = Ok a
placed site (Err kind) = Err (record { kind = kind; site = site })

-- an evaluation at a statement
abbrev pub at : {A : Type 0} → Site → Out FaultKind A → Run A
at site o = λ acc. record { log = o.log; answer = placed site o.answer }
