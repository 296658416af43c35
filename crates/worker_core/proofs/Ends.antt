-- The answer at the end of a run is the elision's, and where the run is over there is one.
use Rattle.std.proofs.Common.{arith, ◌≡◌, ℕ, ℤ, Bool, true, false, ◌||◌, List, [], ◌∷◌, All, Some, refl, sym, ap, subst}
use Rattle.monoid_laws.specs.Worth.{Worth}
use Rattle.meaning.specs.TreeView.{tree}
use Rattle.meaning.specs.Elision.{Answer, from_scratch}
use Rattle.meaning.specs.Elision as elision
use Rattle.meaning.specs.Strands.{State, Held, Ended, Stalled, Faulted, Finished}
use Rattle.meaning.specs.Schedules.{Piece}
use Rattle.run_theory.specs.UnflaggedRuns.{unflagged_run}
use Rattle.linked_program.specs.Checked.{PlainChecked}
use Rattle.input_tables.specs.Edited.{Edited}
use Rattle.record_theory.specs.Record.{PlainRecord}
use Rattle.positions.specs.declared.phase.Fault.{Fault}
use Rattle.positions.specs.declared.phase.Phase.{Phase}
use Rattle.positions.specs.declared.phase.Phase.TheVariants.{Entering, Running, AtSpawn, Returning, Leaving, Broken}
use Rattle.positions.specs.Activations.{PlainActivation}
use Rattle.positions.specs.Layers.{lowest}
use Rattle.positions.specs.Tallies.{PlainTally}
use Rattle.positions.specs.Strands.{PlainStrand}
use Rattle.positions.specs.Stands.{fault_in}
use Rattle.frames.specs.Answers.{IsAnswer, over, stopped, underway, ending_at}
use Rattle.positions.specs.declared.answer.RunAnswer.{RunAnswer}
use Rattle.positions.specs.declared.answer.RunAnswer.TheVariants as answer
use Rattle.stepped_runs.specs.Pieces.{PlainPiece}
use Rattle.stepped_runs.specs.Stands.{IsLaidAs, StandForPieces}
use Rattle.stepped_runs.specs.Layered.{HasOneLayer, HasOneLayerAs}
use Rattle.stepped_runs.specs.Ends.{answer_at, answer_in}
use Rattle.stepped_runs.proofs.Ends.{answers_elision, same_answer}
use Rattle.worker_core.specs.Strands.{PlainStrands, run_of}
use Rattle.strand_lines.specs.Lines.{is_last}
use Rattle.worker_core.specs.Cores.{PlainCore, IsEnd, IsEndOf, are_over}
use Rattle.numbered_runs.specs.Sound.{AreSoundFor, setting_by}
use Rattle.worker_core.specs.Keeps.{KeepsRun, StaysRun, IsElision, IsGiven, IsEndBy, ComesToEnd}
use Rattle.worker_core.proofs.Keeping.{keeps_layers, stays_kept}

-- the values that a strand with one layer has
pub lowest_worths : (p : PlainPiece) → p.strand.lower ≡ [] → (lowest p.strand.layer p.strand.lower).worths ≡ p.strand.layer.worths
lowest_worths p e = ap (λ ls. (lowest p.strand.layer ls).worths) e

pub alone_one : (p : PlainPiece) → All HasOneLayer (p ∷ []) → HasOneLayer p
alone_one p h = h 0 p (omega arith)

module _ (program : PlainChecked) (tables : Edited) (records : List PlainRecord) (k : AreSoundFor program records) where
  no_more : (a : Answer) (worths : List Worth) (t : PlainTally) (given : RunAnswer) → IsAnswer underway worths t given → IsElision program a given
  no_more a worths t (answer.Finished w got n m u) h = absurd h
  no_more a worths t (answer.Fault f) h = absurd h
  no_more a worths t answer.Unfinished h = tt
  no_more a worths t answer.NoMemory h = tt
  no_more a worths t answer.NoKit h = tt

  finished : (v : ℤ) (worths : List Worth) (t : PlainTally) (given : RunAnswer) → IsAnswer (over v) worths t given → IsElision program (elision.Finished v worths) given
  finished v worths t (answer.Finished w got n m u) h = (h.0, h.1)
  finished v worths t (answer.Fault f) h = absurd h
  finished v worths t answer.Unfinished h = tt
  finished v worths t answer.NoMemory h = tt
  finished v worths t answer.NoKit h = tt

  faulted : (f : Fault) (worths : List Worth) (t : PlainTally) (given : RunAnswer) → IsAnswer (stopped f) worths t given → IsElision program (elision.Faulted (fault_in (tree program.program) f)) given
  faulted f worths t (answer.Finished w got n m u) h = absurd h
  faulted f worths t (answer.Fault g) h = ap (fault_in (tree program.program)) h
  faulted f worths t answer.Unfinished h = tt
  faulted f worths t answer.NoMemory h = tt
  faulted f worths t answer.NoKit h = tt

  -- the answer by numbers, where there is one
  abbrev Gives : State → Phase → List Worth → Answer → Type 0
  Gives st ph worths a = (b : Answer) → answer_at (setting_by program tables records k) st ph worths ≡ Some b → b ≡ a

  at_finished : (ph : Phase) (below : List PlainActivation) (path : List ℕ) (s : PlainStrand) (worths : List Worth) (t : PlainTally) (a : Answer) (given : RunAnswer) → IsLaidAs Finished ph s → Gives Finished ph worths a
      → IsAnswer (ending_at ph below path) worths t given → IsElision program a given
  at_finished (Leaving v) [] [] s worths t a given l g h = subst (λ b. IsElision program b given) (g (elision.Finished v worths) refl) (finished v worths t given h)
  at_finished (Leaving v) [] (j ∷ n) s worths t a given l g h = no_more a worths t given h
  at_finished (Leaving v) (p ∷ below) path s worths t a given l g h = no_more a worths t given h
  at_finished (Broken f) below path s worths t a given l g h = absurd l
  at_finished Entering below path s worths t a given l g h = absurd l
  at_finished Running below path s worths t a given l g h = absurd l
  at_finished AtSpawn below path s worths t a given l g h = absurd l
  at_finished (Returning v) below path s worths t a given l g h = absurd l

  at_faulted : (ph : Phase) (below : List PlainActivation) (path : List ℕ) (s : PlainStrand) (worths : List Worth) (t : PlainTally) (a : Answer) (given : RunAnswer) → IsLaidAs Faulted ph s → Gives Faulted ph worths a
      → IsAnswer (ending_at ph below path) worths t given → IsElision program a given
  at_faulted (Broken f) below path s worths t a given l g h = subst (λ b. IsElision program b given) (g (elision.Faulted (fault_in (tree program.program) f)) refl) (faulted f worths t given h)
  at_faulted (Leaving v) below path s worths t a given l g h = absurd l
  at_faulted Entering below path s worths t a given l g h = absurd l
  at_faulted Running below path s worths t a given l g h = absurd l
  at_faulted AtSpawn below path s worths t a given l g h = absurd l
  at_faulted (Returning v) below path s worths t a given l g h = absurd l

  at_state : (st : State) (p : PlainPiece) (a : Answer) (given : RunAnswer) → IsLaidAs st p.strand.phase p.strand → HasOneLayerAs st p.strand.lower → Gives st p.strand.phase p.strand.layer.worths a → IsEndOf st p given → IsElision program a given
  at_state Finished p a given l one g h =
      at_finished p.strand.phase p.strand.below p.strand.path p.strand p.strand.layer.worths p.strand.tally a given l g
      (subst (λ ws. IsAnswer (ending_at p.strand.phase p.strand.below p.strand.path) ws p.strand.tally given) (lowest_worths p one) h)
  at_state Faulted p a given l one g h =
      at_faulted p.strand.phase p.strand.below p.strand.path p.strand p.strand.layer.worths p.strand.tally a given l g
      (subst (λ ws. IsAnswer (ending_at p.strand.phase p.strand.below p.strand.path) ws p.strand.tally given) (lowest_worths p one) h)
  at_state (Held w) p a given l one g h = no_more a (lowest p.strand.layer p.strand.lower).worths p.strand.tally given h
  at_state Ended p a given l one g h = no_more a (lowest p.strand.layer p.strand.lower).worths p.strand.tally given h
  at_state Stalled p a given l one g h = no_more a (lowest p.strand.layer p.strand.lower).worths p.strand.tally given h

  pub alone_is : (p : PlainPiece) (xs : List Piece) → StandForPieces (setting_by program tables records k) (p ∷ []) xs → IsLaidAs p.state p.strand.phase p.strand
  alone_is p [] h = absurd h
  alone_is p (x ∷ []) h = h.laid
  alone_is p (x ∷ y ∷ xs) h = absurd h

  unfinished : (a : Answer) (given : RunAnswer) → given ≡ answer.Unfinished → IsElision program a given
  unfinished a given e = subst (IsElision program a) (sym e) tt

  of_pieces : (ps : List PlainPiece) (xs : List Piece) (a : Answer) (given : RunAnswer) → StandForPieces (setting_by program tables records k) ps xs → All HasOneLayer ps
      → ((b : Answer) → answer_in (setting_by program tables records k) ps ≡ Some b → b ≡ a) → IsEnd false ps given → IsElision program a given
  of_pieces [] xs a given s one g h = unfinished a given h
  of_pieces (p ∷ []) xs a given s one g h = at_state p.state p a given (alone_is p xs s) (alone_one p one) g h
  of_pieces (p ∷ q ∷ ps) xs a given s one g h = unfinished a given h

module _ (program : PlainChecked) (tables : Edited) (records : List PlainRecord) where
  -- the answer of a run where it stands is the elision's
  pub IsElision-end : (failed : Bool) (n : ℕ) (s : PlainStrands) (given : RunAnswer) → StaysRun failed program tables records n s → IsEnd failed s.pieces given
      → IsElision program (from_scratch (tree program.program) tables.tables) given
  IsElision-end true n s given h e = subst (IsElision program (from_scratch (tree program.program) tables.tables)) (sym e) tt
  IsElision-end false n s given h e =
      let k : AreSoundFor program records = h.0.sound in
      of_pieces program tables records k s.pieces (unflagged_run (h.0.path k).run).pieces (from_scratch (tree program.program) tables.tables) given (h.0.path k).stands.pieces (keeps_layers program tables records s h.0)
      (λ b is. answers_elision (setting_by program tables records k) (h.0.prepared k) (run_of s) (h.0.path k).run b (h.0.path k).reached (h.0.path k).stands is) e

-- ---- where a run is over

over_given : (v : ℤ) (worths : List Worth) (t : PlainTally) (given : RunAnswer) → IsAnswer (over v) worths t given → IsGiven given
over_given v worths t (answer.Finished w got n m u) h = tt
over_given v worths t (answer.Fault f) h = tt
over_given v worths t answer.Unfinished h = h
over_given v worths t answer.NoMemory h = tt
over_given v worths t answer.NoKit h = h

stopped_given : (f : Fault) (worths : List Worth) (t : PlainTally) (given : RunAnswer) → IsAnswer (stopped f) worths t given → IsGiven given
stopped_given f worths t (answer.Finished w got n m u) h = tt
stopped_given f worths t (answer.Fault g) h = tt
stopped_given f worths t answer.Unfinished h = h
stopped_given f worths t answer.NoMemory h = tt
stopped_given f worths t answer.NoKit h = h

-- main has nothing under it
main_given : (v : ℤ) (below : List PlainActivation) (path : List ℕ) (worths : List Worth) (t : PlainTally) (given : RunAnswer) → path ≡ [] → below ≡ [] → IsAnswer (ending_at (Leaving v) below path) worths t given → IsGiven given
main_given v [] [] worths t given e f h = over_given v worths t given h
main_given v [] (k ∷ n) worths t given e f h = absurd cc
main_given v (p ∷ below) path worths t given e f h = absurd cc

finished_given : (ph : Phase) (s : PlainStrand) (worths : List Worth) (given : RunAnswer) → IsLaidAs Finished ph s → IsAnswer (ending_at ph s.below s.path) worths s.tally given → IsGiven given
finished_given (Leaving v) s worths given l h = main_given v s.below s.path worths s.tally given l.0 l.1 h
finished_given (Broken f) s worths given l h = absurd l
finished_given Entering s worths given l h = absurd l
finished_given Running s worths given l h = absurd l
finished_given AtSpawn s worths given l h = absurd l
finished_given (Returning v) s worths given l h = absurd l

faulted_given : (ph : Phase) (s : PlainStrand) (worths : List Worth) (given : RunAnswer) → IsLaidAs Faulted ph s → IsAnswer (ending_at ph s.below s.path) worths s.tally given → IsGiven given
faulted_given (Broken f) s worths given l h = stopped_given f worths s.tally given h
faulted_given (Leaving v) s worths given l h = absurd l
faulted_given Entering s worths given l h = absurd l
faulted_given Running s worths given l h = absurd l
faulted_given AtSpawn s worths given l h = absurd l
faulted_given (Returning v) s worths given l h = absurd l

state_given : (st : State) (p : PlainPiece) (given : RunAnswer) → IsLaidAs st p.strand.phase p.strand → is_last st ≡ true → IsEndOf st p given → IsGiven given
state_given Finished p given l e h = finished_given p.strand.phase p.strand (lowest p.strand.layer p.strand.lower).worths given l h
state_given Faulted p given l e h = faulted_given p.strand.phase p.strand (lowest p.strand.layer p.strand.lower).worths given l h
state_given (Held w) p given l e h = absurd cc
state_given Ended p given l e h = absurd cc
state_given Stalled p given l e h = absurd cc

module _ (program : PlainChecked) (tables : Edited) (records : List PlainRecord) where
  pieces_given : (k : AreSoundFor program records) (ps : List PlainPiece) (xs : List Piece) (given : RunAnswer) → StandForPieces (setting_by program tables records k) ps xs → are_over ps ≡ true → IsEnd false ps given → IsGiven given
  pieces_given k [] xs given s e h = absurd cc
  pieces_given k (p ∷ []) xs given s e h = state_given p.state p given (alone_is program tables records k p xs s) e h
  pieces_given k (p ∷ q ∷ ps) xs given s e h = absurd cc

  -- a run that is over has an answer
  pub IsGiven-over : (failed : Bool) (n : ℕ) (s : PlainStrands) (given : RunAnswer) → StaysRun failed program tables records n s → IsEnd failed s.pieces given → failed || are_over s.pieces ≡ true → IsGiven given
  IsGiven-over true n s given h end e = subst IsGiven (sym end) tt
  IsGiven-over false n s given h end e =
      let k : AreSoundFor program records = h.0.sound in
      pieces_given k s.pieces (unflagged_run (h.0.path k).run).pieces given (h.0.path k).stands.pieces e end

-- ---- whether a run has come to its end

unfinished_underway : (worths : List Worth) (t : PlainTally) (given : RunAnswer) → IsAnswer underway worths t given → given ≡ answer.Unfinished
unfinished_underway worths t answer.Unfinished h = refl
unfinished_underway worths t (answer.Finished w got n m u) h = absurd h
unfinished_underway worths t (answer.Fault f) h = absurd h
unfinished_underway worths t answer.NoMemory h = absurd h
unfinished_underway worths t answer.NoKit h = absurd h

module _ (program : PlainChecked) (tables : Edited) (records : List PlainRecord) (k : AreSoundFor program records) where
  -- the end by numbers of a strand that is alone, and the answer that is given
  abbrev EndsAs : State → PlainPiece → RunAnswer → Type 0
  EndsAs st p given = IsEndBy program (answer_at (setting_by program tables records k) st p.strand.phase p.strand.layer.worths) given

  only : (a b : Answer) → Some a ≡ Some b → b ≡ a
  only a b e = cc

  finished_ends : (ph : Phase) (p : PlainPiece) (given : RunAnswer) → IsLaidAs Finished ph p.strand → HasOneLayerAs Finished p.strand.lower → ph ≡ p.strand.phase → IsEndOf Finished p given
      → IsEndBy program (answer_at (setting_by program tables records k) Finished ph p.strand.layer.worths) given
  finished_ends (Leaving v) p given l one e h = (
    state_given Finished p given (subst (λ ph. IsLaidAs Finished ph p.strand) e l) refl h,
    at_state program tables records k Finished p (elision.Finished v p.strand.layer.worths) given (subst (λ ph. IsLaidAs Finished ph p.strand) e l) one
        (subst (λ ph. Gives program tables records k Finished ph p.strand.layer.worths (elision.Finished v p.strand.layer.worths)) e (λ b is. only (elision.Finished v p.strand.layer.worths) b is)) h,
  )
  finished_ends (Broken f) p given l one e h = absurd l
  finished_ends Entering p given l one e h = absurd l
  finished_ends Running p given l one e h = absurd l
  finished_ends AtSpawn p given l one e h = absurd l
  finished_ends (Returning v) p given l one e h = absurd l

  faulted_ends : (ph : Phase) (p : PlainPiece) (given : RunAnswer) → IsLaidAs Faulted ph p.strand → HasOneLayerAs Faulted p.strand.lower → ph ≡ p.strand.phase → IsEndOf Faulted p given
      → IsEndBy program (answer_at (setting_by program tables records k) Faulted ph p.strand.layer.worths) given
  faulted_ends (Broken f) p given l one e h = (
    state_given Faulted p given (subst (λ ph. IsLaidAs Faulted ph p.strand) e l) refl h,
    at_state program tables records k Faulted p (elision.Faulted (fault_in (tree program.program) f)) given (subst (λ ph. IsLaidAs Faulted ph p.strand) e l) one
        (subst (λ ph. Gives program tables records k Faulted ph p.strand.layer.worths (elision.Faulted (fault_in (tree program.program) f))) e (λ b is. only (elision.Faulted (fault_in (tree program.program) f)) b is)) h,
  )
  faulted_ends (Leaving v) p given l one e h = absurd l
  faulted_ends Entering p given l one e h = absurd l
  faulted_ends Running p given l one e h = absurd l
  faulted_ends AtSpawn p given l one e h = absurd l
  faulted_ends (Returning v) p given l one e h = absurd l

  state_ends : (st : State) (p : PlainPiece) (given : RunAnswer) → IsLaidAs st p.strand.phase p.strand → HasOneLayerAs st p.strand.lower → IsEndOf st p given → EndsAs st p given
  state_ends Finished p given l one h = finished_ends p.strand.phase p given l one refl h
  state_ends Faulted p given l one h = faulted_ends p.strand.phase p given l one refl h
  state_ends (Held w) p given l one h = unfinished_underway (lowest p.strand.layer p.strand.lower).worths p.strand.tally given h
  state_ends Ended p given l one h = unfinished_underway (lowest p.strand.layer p.strand.lower).worths p.strand.tally given h
  state_ends Stalled p given l one h = unfinished_underway (lowest p.strand.layer p.strand.lower).worths p.strand.tally given h

  pieces_end : (ps : List PlainPiece) (xs : List Piece) (given : RunAnswer) → StandForPieces (setting_by program tables records k) ps xs → All HasOneLayer ps → IsEnd false ps given
      → IsEndBy program (answer_in (setting_by program tables records k) ps) given
  pieces_end [] xs given s one h = h
  pieces_end (p ∷ []) xs given s one h = state_ends p.state p given (alone_is program tables records k p xs s) (alone_one p one) h
  pieces_end (p ∷ q ∷ ps) xs given s one h = h

-- the answer says whether what the run stands for has come to its end
pub comes_to_end : (c : PlainCore) (given : RunAnswer) → StaysRun c.failed c.program c.tables c.records c.workers c.strands → IsEnd c.failed c.strands.pieces given → ComesToEnd c given
comes_to_end c given h e going k x reached stands =
    let kept : KeepsRun c.program c.tables c.records c.strands = (stays_kept c.program c.tables c.records c.failed c.workers c.strands h going).0 in
    let end : IsEnd false c.strands.pieces given = subst (λ failed. IsEnd failed c.strands.pieces given) going e in
    subst (λ a. IsEndBy c.program a given) (sym (same_answer (setting_by c.program c.tables c.records k) (kept.prepared k) (run_of c.strands) x reached stands))
    (pieces_end c.program c.tables c.records k c.strands.pieces (unflagged_run x).pieces given stands.pieces (keeps_layers c.program c.tables c.records c.strands kept) end)
