-- Each step of a run of numbers is that of the definitions' run that it stands for, and a refusal is where there is none.
use Rattle.std.proofs.Common.{◌≡◌, inl, inr, ℕ, Bool, true, false, not, ◌&&◌, List, [], ◌∷◌, ◌++◌, map, length, Option, Some, None, Result, Ok, Err, refl, sym, ◌∙◌, ap, subst}
use Rattle.meaning.specs.Tree.{Tree}
use Rattle.meaning.specs.Statements.{beginning}
use Rattle.meaning.specs.Trail.{sight_of}
use Rattle.meaning.specs.Tallies.{valid_record}
use Rattle.meaning.specs.Strands.{holds_by, done, waits}
use Rattle.meaning.specs.Schedules.{Piece, RunState, RunStep, work, push, inline, pop, stall, steal, fold, first_state, after_step, or_same, path}
use Rattle.meaning.specs.Schedules as schedules
use Rattle.trail_theory.specs.OwnLayers.{is_top_by_length}
use Rattle.run_theory.specs.RightRuns.{Begins, PiecesFit}
use Rattle.run_theory.specs.UnflaggedRuns.{unflagged_piece, unflagged_run, unflagged_after, worked_with, step_by}
use Rattle.run_theory.proofs.Neighbours.{neighbours_join}
use Rattle.run_theory.proofs.UnflaggedRuns.{unflagged_one, folded_quiet}
use Rattle.run_theory.proofs.FlagsTold.{runs_by_length}
use Rattle.linked_program.specs.Linked.{main_number}
use Rattle.linked_program.specs.Initials.{PlainInitial, AreUpdatesBy}
use Rattle.positions.specs.Setting.{Setting, IsLinked}
use Rattle.position_theory.proofs.Moves.{first_is}
use Rattle.numbered_runs.specs.declared.refusal.Refusal.{Refusal}
use Rattle.numbered_runs.specs.declared.refusal.Refusal.TheVariants.{Nothing, NotThere}
use Rattle.stepped_runs.specs.Pieces.{PlainPiece, pushed, inlined, popped, worked, stalled, stolen_from}
use Rattle.stepped_runs.specs.Runs.{PlainRun, first_run, is_idle, if_idle, stepped}
use Rattle.stepped_runs.specs.Stands.{StandForPieces, StandsForUnflagged}
use Rattle.stepped_runs.specs.Simulation.{IsPrepared, IsReached, LeadsTo, IsStepOf, IsNoStepOf, IsFirstOf}
use Rattle.stepped_runs.proofs.Agreeing.{Each, none_there, RunAgrees, changed_agrees}
use Rattle.stepped_runs.proofs.Layered.{waiting_layers, right_there}
use Rattle.stepped_runs.proofs.Made.{MakesNow, make_now}
use Rattle.stepped_runs.proofs.Small.{worked_agrees, pushed_agrees, inlined_agrees}
use Rattle.stepped_runs.proofs.Deques.{Linked, each_linked, popped_agrees, stolen_agrees}
use Rattle.stepped_runs.proofs.Laying.{stalled_agrees}
use Rattle.stepped_runs.proofs.Folding.{Foldable, folded_agrees}

module _ (setting : Setting) where
  abbrev t : Tree
  t = setting.program.tree

  -- ---- steps after steps

  path_on : (s : RunState) (es : List RunStep) (e : RunStep) (y : RunState) → after_step setting.program setting.tables setting.memory (path setting.program setting.tables setting.memory s es) e ≡ Some y → path setting.program setting.tables setting.memory s (es ++ e ∷ []) ≡ y
  path_on s [] e y h = ap (or_same setting.program setting.tables setting.memory s) h
  path_on s (d ∷ es) e y h = path_on (or_same setting.program setting.tables setting.memory s (after_step setting.program setting.tables setting.memory s d)) es e y h

  reached_next : (x y : RunState) (e : RunStep) → IsReached setting x → after_step setting.program setting.tables setting.memory x e ≡ Some y → IsReached setting y
  reached_next x y e r h = record { kits = r.kits; steps = r.steps ++ e ∷ []; is = path_on (first_state t r.kits) r.steps e y (ap (λ z. after_step setting.program setting.tables setting.memory z e) r.is ∙ h) }

  -- ---- who holds nothing

  idle_with : (w : ℕ) (p : PlainPiece) (x : Piece) (b c : Bool) → x.state ≡ p.state → c ≡ b → not (holds_by w x.state) && c ≡ not (holds_by w p.state) && b
  idle_with w p x b c e f = ap (λ st. not (holds_by w st) && c) e ∙ ap (λ d. not (holds_by w p.state) && d) f

  pub idle_is : (w : ℕ) (ps : List PlainPiece) (xs : List Piece) → StandForPieces setting ps xs → schedules.is_idle w xs ≡ is_idle w ps
  idle_is w [] [] h = refl
  idle_is w [] (x ∷ xs) h = absurd h
  idle_is w (p ∷ ps) [] h = absurd (none_there setting p ps h)
  idle_is w (p ∷ []) (x ∷ []) h = idle_with w p x true true h.state refl
  idle_is w (p ∷ []) (x ∷ y ∷ xs) h = absurd h
  idle_is w (p ∷ q ∷ ps) (x ∷ []) h = absurd h
  idle_is w (p ∷ q ∷ ps) (x ∷ y ∷ xs) (inl h) = idle_with w p x _ _ h.0.state (idle_is w (q ∷ ps) (y ∷ xs) h.1)
  idle_is w (p ∷ q ∷ ps) (x ∷ y ∷ xs) (inr h) = idle_with w p x _ _ h.0.left.state (idle_with w q y _ _ h.0.right.state (idle_is w ps xs h.1))

  if_idle_agrees : (b c : Bool) (r : Result PlainRun Refusal) (o : Option RunState) → c ≡ b → (c ≡ true → RunAgrees setting r o) → RunAgrees setting (if_idle b r) (schedules.if_idle setting.program setting.tables setting.memory c o)
  if_idle_agrees true true r o e h = h refl
  if_idle_agrees false false r o e h = tt
  if_idle_agrees true false r o e h = absurd cc
  if_idle_agrees false true r o e h = absurd cc

  -- ---- two neighbours of a run without flags

  -- the neighbours that they are without them
  record AreUnflagged (all : List Piece) (x y : Piece) : Type 0 where
    pub before : List Piece
    pub later : List Piece
    pub left : Piece
    pub right : Piece
    pub is : all ≡ before ++ left ∷ right ∷ later
    pub left_is : unflagged_piece left ≡ x
    pub right_is : unflagged_piece right ≡ y

  -- behind one more
  unflagged_behind : (p : Piece) (all : List Piece) (x y : Piece) → AreUnflagged all x y → AreUnflagged (p ∷ all) x y
  unflagged_behind p all x y h = record { before = p ∷ h.before; later = h.later; left = h.left; right = h.right; is = ap (λ ps. p ∷ ps) h.is; left_is = h.left_is; right_is = h.right_is }

  neighbours_of : (all us xs : List Piece) (x y : Piece) → map unflagged_piece all ≡ us ++ x ∷ y ∷ xs → AreUnflagged all x y
  neighbours_of [] [] xs x y e = absurd cc
  neighbours_of [] (u ∷ us) xs x y e = absurd cc
  neighbours_of (p ∷ []) [] xs x y e = absurd cc
  neighbours_of (p ∷ q ∷ all) [] xs x y e =
      record { before = []; later = all; left = p; right = q; is = refl; left_is = (let a : unflagged_piece p ≡ x = cc in a); right_is = (let b : unflagged_piece q ≡ y = cc in b) }
  neighbours_of (p ∷ all) (u ∷ us) xs x y e = unflagged_behind p all x y (neighbours_of all us xs x y (let a : map unflagged_piece all ≡ us ++ x ∷ y ∷ xs = cc in a))

  -- the layers of those that wait
  abbrev WaitsByOne : Piece → Type 0
  WaitsByOne p = waits p.state ≡ true → length p.strand.layers ≡ 1

  wait_by_one : (first : Bool) (xs : List Piece) (found : List Bool) → PiecesFit t setting.tables (sight_of t setting.tables) (valid_record setting.program setting.tables setting.memory.records) first xs found → Each WaitsByOne xs
  wait_by_one first [] found h = tt
  wait_by_one first (x ∷ xs) found h = (waiting_layers x.state x.strand x.deque h.1.laid, wait_by_one false xs h.0 h.2)

  second_behind : (before later : List Piece) (l r : Piece) → Each WaitsByOne (before ++ l ∷ r ∷ later) → WaitsByOne r
  second_behind [] later l r h = h.1.0
  second_behind (p ∷ before) later l r h = second_behind before later l r h.1

  -- only the first one begins with the run
  second_begins : (first : Bool) (before later : List Piece) (l r : Piece) (found : List Bool)
      → PiecesFit t setting.tables (sight_of t setting.tables) (valid_record setting.program setting.tables setting.memory.records) first (before ++ l ∷ r ∷ later) found → Begins false r.strand.start
  second_begins first [] later l r found h = h.2.1.begins
  second_begins first (p ∷ before) later l r found h = second_begins false before later l r h.0 h.2

  module _ (prepared : IsPrepared setting) where
    module _ (x : RunState) (r : IsReached setting x) where
      -- they are folded, as those with flags are
      foldable : (w : ℕ) (us xs : List Piece) (u v : Piece) → map unflagged_piece x.pieces ≡ us ++ u ∷ v ∷ xs → done u.state ≡ true → waits v.state ≡ true → Foldable setting w u v
      foldable w us xs u v e d wt =
          let n = neighbours_of x.pieces us xs u v e in
          let ends : done n.left.state ≡ true = ap (λ (p : Piece). done p.state) n.left_is ∙ d in
          let waiting : waits n.right.state ≡ true = ap (λ (p : Piece). waits p.state) n.right_is ∙ wt in
          let j = neighbours_join setting.program setting.tables setting.memory prepared.ready r.kits r.steps n.before n.later n.left n.right w (ap (λ y. y.pieces) r.is ∙ n.is) ends waiting in
          let one : WaitsByOne n.right = second_behind n.before n.later n.left n.right (subst (Each WaitsByOne) n.is (wait_by_one true x.pieces [] (right_there setting prepared x r))) in
          record {
            whole = unflagged_piece j.0;
            is = subst (λ p. schedules.folded setting.program setting.tables setting.memory w p v ≡ Some (unflagged_piece j.0)) n.left_is
                (subst (λ q. schedules.folded setting.program setting.tables setting.memory w (unflagged_piece n.left) q ≡ Some (unflagged_piece j.0)) n.right_is
                (sym (folded_quiet setting.program setting.tables setting.memory w n.left n.right) ∙ ap (unflagged_one setting.program setting.tables setting.memory) j.1));
            one_layer = ap (λ (p : Piece). length p.strand.layers) (sym n.right_is) ∙ one waiting;
            later = subst (λ (p : Piece). Begins false p.strand.start) n.right_is (second_begins true n.before n.later n.left n.right [] (subst (λ ps. PiecesFit t setting.tables (sight_of t setting.tables) (valid_record setting.program setting.tables setting.memory.records) true ps []) n.is (right_there setting prepared x r)));
          }

    module _ (s : PlainRun) (x : RunState) (r : IsReached setting x) (h : StandsForUnflagged setting s x) where
      -- the run without flags
      abbrev bare : RunState
      bare = unflagged_run x

      linked : Each Linked bare.pieces
      linked = each_linked setting true x.pieces [] (right_there setting prepared x r)

      bare_agrees : (e : RunStep) → RunAgrees setting (stepped setting s e) (step_by setting.program setting.tables setting.memory is_top_by_length bare e)
      bare_agrees (work w) = changed_agrees setting (MakesNow setting) NotThere w (worked setting s.kits) (worked_with setting.program setting.tables setting.memory is_top_by_length bare.kits) s.history bare.history h.history
          (λ p y q b i. worked_agrees setting s.kits bare.kits h.kits p y w b i prepared q) [] s.pieces [] bare.pieces tt h.pieces (make_now setting prepared x r)
      bare_agrees (push w) = changed_agrees setting Linked NotThere w (pushed s.kits) (schedules.pushed setting.program setting.tables setting.memory bare.kits) s.history bare.history h.history
          (λ p y q b i. pushed_agrees setting s.kits bare.kits h.kits p y w b i) [] s.pieces [] bare.pieces tt h.pieces linked
      bare_agrees (inline w) = changed_agrees setting Linked NotThere w (inlined s.kits) (schedules.inlined_of setting.program setting.tables setting.memory bare.kits) s.history bare.history h.history
          (λ p y q b i. inlined_agrees setting s.kits bare.kits h.kits p y w b i) [] s.pieces [] bare.pieces tt h.pieces linked
      bare_agrees (pop w) = changed_agrees setting Linked NotThere w (popped s.kits) (schedules.popped setting.program setting.tables setting.memory bare.kits) s.history bare.history h.history
          (λ p y q b i. popped_agrees setting s.kits bare.kits h.kits p y w b i q) [] s.pieces [] bare.pieces tt h.pieces linked
      bare_agrees (stall w) = changed_agrees setting Linked NotThere w (stalled setting s.kits) (schedules.stalled setting.program setting.tables setting.memory bare.kits) s.history bare.history h.history
          (λ p y q b i. stalled_agrees setting s.kits bare.kits h.kits p y i) [] s.pieces [] bare.pieces tt h.pieces linked
      bare_agrees (steal thief v) =
          if_idle_agrees (is_idle thief s.pieces) (schedules.is_idle thief bare.pieces) _ _ (idle_is thief s.pieces bare.pieces h.pieces) (λ c.
          changed_agrees setting Linked Nothing v (stolen_from setting thief s.kits) (schedules.stolen_from setting.program setting.tables setting.memory thief bare.kits) s.history bare.history h.history
          (λ p y q b i. stolen_agrees setting prepared.linked thief p y v b i s.kits bare.kits h.kits) [] s.pieces [] bare.pieces tt h.pieces linked)
      bare_agrees (fold w q) =
          if_idle_agrees (is_idle w s.pieces) (schedules.is_idle w bare.pieces) _ _ (idle_is w s.pieces bare.pieces h.pieces) (λ c.
          folded_agrees setting w s.kits bare.kits h.kits s.history bare.history h.history q bare.pieces
          (λ us xs y z a d wt. foldable x r w us xs y z a d wt) [] s.pieces [] bare.pieces tt h.pieces refl)

      -- the definitions' step, flags aside
      run_agrees : (e : RunStep) → RunAgrees setting (stepped setting s e) (unflagged_after (after_step setting.program setting.tables setting.memory x e))
      run_agrees e =
          let runs = runs_by_length setting.program setting.tables setting.memory prepared.ready prepared.numbered in
          let same = subst (λ y. step_by setting.program setting.tables setting.memory is_top_by_length (unflagged_run y) e ≡ unflagged_after (after_step setting.program setting.tables setting.memory y e)) r.is (runs.steps r.kits r.steps e) in
          subst (RunAgrees setting (stepped setting s e)) same (bare_agrees e)

    leads : (x : RunState) (e : RunStep) (s' : PlainRun) → IsReached setting x → (o : Option RunState) → after_step setting.program setting.tables setting.memory x e ≡ o → RunAgrees setting (Ok s') (unflagged_after o) → LeadsTo setting o s'
    leads x e s' r None q a = a
    leads x e s' r (Some y) q a = (reached_next x y e r q, a)

    -- what is taken by numbers is the definitions' step
    pub steps_agree : (s s' : PlainRun) (e : RunStep) → stepped setting s e ≡ Ok s' → IsStepOf setting e s s'
    steps_agree s s' e is x r h =
        let o = after_step setting.program setting.tables setting.memory x e in
        leads x e s' r o refl (subst (λ u. RunAgrees setting u (unflagged_after o)) is (run_agrees s x r h e))

    no_step : (f : Refusal) (o : Option RunState) → RunAgrees setting (Err f) (unflagged_after o) → o ≡ None
    no_step f None a = refl
    no_step f (Some y) a = absurd a

    -- what is refused by numbers the definitions have no step for
    pub refusals_agree : (s : PlainRun) (e : RunStep) (f : Refusal) → stepped setting s e ≡ Err f → IsNoStepOf setting e s
    refusals_agree s e f is x r h =
        let o = after_step setting.program setting.tables setting.memory x e in
        no_step f o (subst (λ u. RunAgrees setting u (unflagged_after o)) is (run_agrees s x r h e))

  pub first_agrees : IsLinked setting → (initials : List PlainInitial) → AreUpdatesBy setting.kinds initials (beginning t) → (entry kits : ℕ) → entry ≡ main_number t
      → IsFirstOf setting kits (first_run setting.codes setting.kinds initials entry kits)
  first_agrees linked initials updates entry kits e = (
    record { kits = kits; steps = []; is = refl },
    record {
      pieces = record { strand = first_is setting linked initials updates entry e; layered = refl; nests = tt; tasks = tt; state = refl; laid = tt };
      kits = refl;
      history = refl;
    },
  )
