-- The first fault on a stretch of the trail, and what comes before it.
use Rattle.std.proofs.Common.{[], ◌∷◌, ◌++◌, Option, Some, None, ◌≡◌, refl, sym, ap, ◌∙◌, append-nil}
use Rattle.meaning.specs.Outcome.{Log, Fault, Reads, Enters, Updates, Reuses, Begins, Syncs, Leaves, Faults, Marks, Spawns}
use Rattle.meaning.specs.SmallStep.{Start}
use Rattle.trail_theory.specs.Order.{Every}
use Rattle.trail_theory.specs.TaskFits.{SyncInside}
use Rattle.trail_theory.specs.ElisionBeside.{first_fault, before_fault}
use Rattle.trail_theory.proofs.Evaluations.{Told}
use Rattle.trail_theory.proofs.Walks.{Opens}

abbrev pub or_else : Option Fault → Option Fault → Option Fault
or_else None o = o
or_else (Some k) o = Some k

pub fault_append : (a b : Log) → first_fault (a ++ b) ≡ or_else (first_fault a) (first_fault b)
fault_append [] b = refl
fault_append (Faults k ∷ es) b = refl
fault_append (Reads r ∷ es) b = fault_append es b
fault_append (Enters f args d ∷ es) b = fault_append es b
fault_append (Updates n kind w ∷ es) b = fault_append es b
fault_append (Reuses f args ws ∷ es) b = fault_append es b
fault_append (Begins n d ∷ es) b = fault_append es b
fault_append (Syncs n ∷ es) b = fault_append es b
fault_append (Spawns n ∷ es) b = fault_append es b
fault_append (Leaves n v ∷ es) b = fault_append es b
fault_append (Marks f args c ∷ es) b = fault_append es b

-- a stretch without a fault
pub quiet_first : (a b : Log) → first_fault a ≡ None → first_fault (a ++ b) ≡ first_fault b
quiet_first a b h = fault_append a b ∙ ap (λ o. or_else o (first_fault b)) h

pub told_none : (es : Log) → Every Told es → first_fault es ≡ None
told_none [] h = refl
told_none (Reads r ∷ es) h = told_none es h.1
told_none (Updates n kind w ∷ es) h = told_none es h.1
told_none (Enters f args d ∷ es) h = absurd h.0
told_none (Reuses f args ws ∷ es) h = absurd h.0
told_none (Begins n d ∷ es) h = absurd h.0
told_none (Syncs n ∷ es) h = absurd h.0
told_none (Spawns n ∷ es) h = absurd h.0
told_none (Leaves n v ∷ es) h = absurd h.0
told_none (Faults k ∷ es) h = absurd h.0
told_none (Marks f args c ∷ es) h = absurd h.0

pub opens_none : (es : Log) → Every Opens es → first_fault es ≡ None
opens_none [] h = refl
opens_none (Begins n d ∷ es) h = opens_none es h.1
opens_none (Marks f args c ∷ es) h = opens_none es h.1
opens_none (Enters f args d ∷ es) h = opens_none es h.1
opens_none (Reads r ∷ es) h = absurd h.0
opens_none (Updates n kind w ∷ es) h = absurd h.0
opens_none (Reuses f args ws ∷ es) h = absurd h.0
opens_none (Syncs n ∷ es) h = absurd h.0
opens_none (Spawns n ∷ es) h = absurd h.0
opens_none (Leaves n v ∷ es) h = absurd h.0
opens_none (Faults k ∷ es) h = absurd h.0

pub inside_none : (m : Start) (es : Log) → Every (SyncInside m) es → first_fault es ≡ None
inside_none m [] h = refl
inside_none m (Reads r ∷ es) h = inside_none m es h.1
inside_none m (Updates n kind w ∷ es) h = inside_none m es h.1
inside_none m (Enters f args d ∷ es) h = inside_none m es h.1
inside_none m (Reuses f args ws ∷ es) h = inside_none m es h.1
inside_none m (Begins n d ∷ es) h = inside_none m es h.1
inside_none m (Syncs n ∷ es) h = inside_none m es h.1
inside_none m (Spawns n ∷ es) h = inside_none m es h.1
inside_none m (Leaves n v ∷ es) h = inside_none m es h.1
inside_none m (Faults k ∷ es) h = absurd h.0
inside_none m (Marks f args c ∷ es) h = inside_none m es h.1

-- a stretch before the first fault
pub before_append : (a b : Log) → first_fault a ≡ None → before_fault (a ++ b) ≡ a ++ before_fault b
before_append [] b h = refl
before_append (Faults k ∷ es) b h = absurd cc
before_append (Reads r ∷ es) b h = ap (λ l. Reads r ∷ l) (before_append es b h)
before_append (Enters f args d ∷ es) b h = ap (λ l. Enters f args d ∷ l) (before_append es b h)
before_append (Updates n kind w ∷ es) b h = ap (λ l. Updates n kind w ∷ l) (before_append es b h)
before_append (Reuses f args ws ∷ es) b h = ap (λ l. Reuses f args ws ∷ l) (before_append es b h)
before_append (Begins n d ∷ es) b h = ap (λ l. Begins n d ∷ l) (before_append es b h)
before_append (Syncs n ∷ es) b h = ap (λ l. Syncs n ∷ l) (before_append es b h)
before_append (Spawns n ∷ es) b h = ap (λ l. Spawns n ∷ l) (before_append es b h)
before_append (Leaves n v ∷ es) b h = ap (λ l. Leaves n v ∷ l) (before_append es b h)
before_append (Marks f args c ∷ es) b h = ap (λ l. Marks f args c ∷ l) (before_append es b h)

-- a stretch with it
pub before_first : (a b : Log) (k : Fault) → first_fault a ≡ Some k → before_fault (a ++ b) ≡ before_fault a
before_first [] b k h = absurd cc
before_first (Faults j ∷ es) b k h = refl
before_first (Reads r ∷ es) b k h = ap (λ l. Reads r ∷ l) (before_first es b k h)
before_first (Enters f args d ∷ es) b k h = ap (λ l. Enters f args d ∷ l) (before_first es b k h)
before_first (Updates n kind w ∷ es) b k h = ap (λ l. Updates n kind w ∷ l) (before_first es b k h)
before_first (Reuses f args ws ∷ es) b k h = ap (λ l. Reuses f args ws ∷ l) (before_first es b k h)
before_first (Begins n d ∷ es) b k h = ap (λ l. Begins n d ∷ l) (before_first es b k h)
before_first (Syncs n ∷ es) b k h = ap (λ l. Syncs n ∷ l) (before_first es b k h)
before_first (Spawns n ∷ es) b k h = ap (λ l. Spawns n ∷ l) (before_first es b k h)
before_first (Leaves n v ∷ es) b k h = ap (λ l. Leaves n v ∷ l) (before_first es b k h)
before_first (Marks f args c ∷ es) b k h = ap (λ l. Marks f args c ∷ l) (before_first es b k h)

-- without a fault it is all
pub before_all : (a : Log) → first_fault a ≡ None → before_fault a ≡ a
before_all a h = sym (ap before_fault (append-nil a)) ∙ before_append a [] h ∙ append-nil a

pub first_kept : (a b : Log) (k : Fault) → first_fault a ≡ Some k → first_fault (a ++ b) ≡ Some k
first_kept a b k h = fault_append a b ∙ ap (λ o. or_else o (first_fault b)) h
