-- The points at which a strand is laid down, by what it does next.
use Rattle.std.proofs.Common.{◌≡◌, ℕ, ◌&&◌, ℤ, Bool, true, false, List, [], ◌∷◌, refl, sym, subst}
use Rattle.linked_program.specs.declared.code.Code.{Code}
use Rattle.positions.specs.declared.phase.Fault.{Fault}
use Rattle.positions.specs.declared.phase.Phase.{Phase}
use Rattle.positions.specs.declared.phase.Phase.TheVariants.{Entering, Running, AtSpawn, Returning, Leaving, Broken}
use Rattle.positions.specs.declared.phase.Paused.TheVariants as paused
use Rattle.positions.specs.Activations.{PlainActivation}
use Rattle.positions.specs.Strands.{PlainStrand, is_entry}
use Rattle.positions.specs.Advance.{pause_of, pause_at, sync_pause, leaving_pause, is_sync, next_statement}
use Rattle.strand_moves.specs.Joins.{HasFault}

-- ---- main is over

pub record HasFinished (s : PlainStrand) : Type 0 where
  pub value : ℤ
  pub phase : s.phase ≡ Leaving value
  pub below : s.below ≡ []
  pub path : s.path ≡ []

sync_no : (b : Bool) → sync_pause b ≡ paused.Finished → ⊥
sync_no true e = cc
sync_no false e = cc

finished_by : (v : ℤ) (s : PlainStrand) → s.phase ≡ Leaving v → (below : List PlainActivation) (path : List ℕ) → s.below ≡ below → s.path ≡ path → leaving_pause below path ≡ paused.Finished → HasFinished s
finished_by v s e [] [] b p h = record { value = v; phase = e; below = b; path = p }
finished_by v s e [] (k ∷ n) b p h = absurd cc
finished_by v s e (a ∷ below) path b p h = absurd cc

finished_at : (codes : List Code) (s : PlainStrand) (ph : Phase) → s.phase ≡ ph → pause_at codes ph s ≡ paused.Finished → HasFinished s
finished_at codes s Entering e h = absurd cc
finished_at codes s Running e h = absurd (sync_no (is_entry s && is_sync (next_statement codes s)) h)
finished_at codes s AtSpawn e h = absurd cc
finished_at codes s (Returning v) e h = absurd (sync_no (is_entry s) h)
finished_at codes s (Leaving v) e h = finished_by v s e s.below s.path refl refl h
finished_at codes s (Broken f) e h = absurd cc

pub finished_is : (codes : List Code) (s : PlainStrand) → pause_of codes s ≡ paused.Finished → HasFinished s
finished_is codes s h = finished_at codes s s.phase refl h

-- ---- a fault

leaving_no : (below : List PlainActivation) (path : List ℕ) → leaving_pause below path ≡ paused.Faulted → ⊥
leaving_no [] [] e = cc
leaving_no [] (k ∷ n) e = cc
leaving_no (a ∷ below) path e = cc

sync_fault : (b : Bool) → sync_pause b ≡ paused.Faulted → ⊥
sync_fault true e = cc
sync_fault false e = cc

fault_at : (codes : List Code) (s : PlainStrand) (ph : Phase) → s.phase ≡ ph → pause_at codes ph s ≡ paused.Faulted → (f : Fault) × (s.phase ≡ Broken f)
fault_at codes s Entering e h = absurd cc
fault_at codes s Running e h = absurd (sync_fault (is_entry s && is_sync (next_statement codes s)) h)
fault_at codes s AtSpawn e h = absurd cc
fault_at codes s (Returning v) e h = absurd (sync_fault (is_entry s) h)
fault_at codes s (Leaving v) e h = absurd (leaving_no s.below s.path h)
fault_at codes s (Broken f) e h = (f, e)

pub fault_is : (codes : List Code) (s : PlainStrand) → pause_of codes s ≡ paused.Faulted → (f : Fault) × (s.phase ≡ Broken f)
fault_is codes s h = fault_at codes s s.phase refl h

pub has_fault : (codes : List Code) (s : PlainStrand) → pause_of codes s ≡ paused.Faulted → HasFault s.phase
has_fault codes s h = let f = fault_is codes s h in subst HasFault (sym f.1) tt

-- ---- a child is over

pub record HasReturned (s : PlainStrand) : Type 0 where
  pub value : ℤ
  pub phase : s.phase ≡ Leaving value
  pub below : s.below ≡ []
  pub last : ℕ
  pub front : List ℕ
  pub path : s.path ≡ last ∷ front

sync_not_returned : (b : Bool) → sync_pause b ≡ paused.Returned → ⊥
sync_not_returned true e = cc
sync_not_returned false e = cc

returned_by : (v : ℤ) (s : PlainStrand) → s.phase ≡ Leaving v → (below : List PlainActivation) (path : List ℕ) → s.below ≡ below → s.path ≡ path → leaving_pause below path ≡ paused.Returned → HasReturned s
returned_by v s e [] [] b p h = absurd cc
returned_by v s e [] (k ∷ n) b p h = record { value = v; phase = e; below = b; last = k; front = n; path = p }
returned_by v s e (a ∷ below) path b p h = absurd cc

returned_at : (codes : List Code) (s : PlainStrand) (ph : Phase) → s.phase ≡ ph → pause_at codes ph s ≡ paused.Returned → HasReturned s
returned_at codes s Entering e h = absurd cc
returned_at codes s Running e h = absurd (sync_not_returned (is_entry s && is_sync (next_statement codes s)) h)
returned_at codes s AtSpawn e h = absurd cc
returned_at codes s (Returning v) e h = absurd (sync_not_returned (is_entry s) h)
returned_at codes s (Leaving v) e h = returned_by v s e s.below s.path refl refl h
returned_at codes s (Broken f) e h = absurd cc

pub returned_is : (codes : List Code) (s : PlainStrand) → pause_of codes s ≡ paused.Returned → HasReturned s
returned_is codes s h = returned_at codes s s.phase refl h

-- at a sync
pub data AtSync (s : PlainStrand) : Type 0 where
  at_statement : s.phase ≡ Running → AtSync s
  at_end : (v : ℤ) → s.phase ≡ Returning v → AtSync s

leaving_not_sync : (below : List PlainActivation) (path : List ℕ) → leaving_pause below path ≡ paused.AtSync → ⊥
leaving_not_sync [] [] e = cc
leaving_not_sync [] (k ∷ n) e = cc
leaving_not_sync (a ∷ below) path e = cc

sync_at : (codes : List Code) (s : PlainStrand) (ph : Phase) → s.phase ≡ ph → pause_at codes ph s ≡ paused.AtSync → AtSync s
sync_at codes s Entering e h = absurd cc
sync_at codes s Running e h = at_statement e
sync_at codes s AtSpawn e h = absurd cc
sync_at codes s (Returning v) e h = at_end v e
sync_at codes s (Leaving v) e h = absurd (leaving_not_sync s.below s.path h)
sync_at codes s (Broken f) e h = absurd cc

pub sync_is : (codes : List Code) (s : PlainStrand) → pause_of codes s ≡ paused.AtSync → AtSync s
sync_is codes s h = sync_at codes s s.phase refl h

sync_true : (b : Bool) → sync_pause b ≡ paused.AtSync → b ≡ true
sync_true true e = refl
sync_true false e = absurd cc

first_true : (a b : Bool) → a && b ≡ true → a ≡ true
first_true true b e = refl
first_true false b e = absurd cc

entry_at : (codes : List Code) (s : PlainStrand) (ph : Phase) → pause_at codes ph s ≡ paused.AtSync → is_entry s ≡ true
entry_at codes s Entering h = absurd cc
entry_at codes s Running h = first_true (is_entry s) (is_sync (next_statement codes s)) (sync_true (is_entry s && is_sync (next_statement codes s)) h)
entry_at codes s AtSpawn h = absurd cc
entry_at codes s (Returning v) h = sync_true (is_entry s) h
entry_at codes s (Leaving v) h = absurd (leaving_not_sync s.below s.path h)
entry_at codes s (Broken f) h = absurd cc

-- at a sync the strand stands at its entry
pub entry_there : (codes : List Code) (s : PlainStrand) → pause_of codes s ≡ paused.AtSync → is_entry s ≡ true
entry_there codes s h = entry_at codes s s.phase h
