-- A pop and a steal, in runs of numbers and in those of the definitions.
use Rattle.std.proofs.Common.{◌≡◌, inl, inr, ℕ, zero, suc, ◌+◌, Bool, true, false, List, [], ◌∷◌, ◌++◌, length, map, Option, Some, None, refl, sym, ◌∙◌, ap, subst, arith}
use Rattle.std.specs.Prelude.{ℤ}
use Rattle.std.proofs.lemmas.List.{length-append}
use Rattle.meaning.specs.Outcome.{Place, Fault}
use Rattle.meaning.specs.Trail.{child_of, sight_of}
use Rattle.meaning.specs.Tallies.{valid_record}
use Rattle.meaning.specs.SmallStep.{Phase as NamedPhase, leaving, broken, Frame, Parent, with_layer, Continuation, place_of_continuation}
use Rattle.meaning.specs.Strands as strands
use Rattle.meaning.specs.RestOfRun.{lowest}
use Rattle.meaning.specs.Schedules.{Piece}
use Rattle.meaning.specs.Schedules as schedules
use Rattle.trail_theory.specs.Unflagged.{unflagged_under, unflagged_continuation}
use Rattle.run_theory.specs.RightRuns.{front, Links, PiecesFit}
use Rattle.run_theory.specs.UnflaggedRuns.{unflagged_piece}
use Rattle.linked_program.specs.declared.code.Code.{Code}
use Rattle.positions.specs.Setting.{Setting, IsLinked}
use Rattle.positions.specs.declared.phase.Phase.{Phase}
use Rattle.positions.specs.declared.phase.Phase.TheVariants as phase
use Rattle.positions.specs.Activations.{PlainActivation}
use Rattle.positions.specs.Strands.{PlainStrand, PlainTask, shorter, IsLayeredAt, IsLayered}
use Rattle.positions.specs.Nesting.{AreNested, NestAt}
use Rattle.positions.specs.Moves.{returned_at, returned_of, resumed_by}
use Rattle.positions.specs.Stands.{AreParents, StandsAt, StandsForTask}
use Rattle.position_theory.proofs.Moves.{resumed_is, stolen_is}
use Rattle.position_theory.proofs.Nested.{nest_any}
use Rattle.stepped_runs.specs.Pieces.{PlainPiece, place_of, is_held_by, popped_of, popped_by, popped, oldest, robbed, stolen_of, stolen_from}
use Rattle.stepped_runs.specs.Stands.{StandForTasks, StandsForPiece}
use Rattle.stepped_runs.proofs.Agreeing.{Each, held_any, piece_place, Agrees}

-- where the strand of a piece has no fault, its instances end where its newest continuation waits
abbrev pub Linked : Piece → Type 0
Linked x = (e : Place) × (((k : Fault) → x.strand.phase ≡ broken k → ⊥) → Links (lowest x.strand.frame x.strand.under) x.deque e)

-- without flags they end there too
lowest_same : (fr : Frame) (under : List Parent) → lowest (with_layer false fr) (unflagged_under under) ≡ lowest fr under
lowest_same fr [] = refl
lowest_same fr (p ∷ under) = lowest_same p.frame under

links_same : (n : Place) (ks : List Continuation) (e : Place) → Links n ks e → Links n (map unflagged_continuation ks) e
links_same n [] e h = h
links_same n (k ∷ ks) e h = (h.0, subst (λ m. Links m (map unflagged_continuation ks) e) (sym (lowest_same k.parent.frame k.under)) (links_same (lowest k.parent.frame k.under) ks e h.1))

linked_piece : (x : Piece) (e : Place) → (((k : Fault) → x.strand.phase ≡ broken k → ⊥) → Links (lowest x.strand.frame x.strand.under) x.deque e) → Linked (unflagged_piece x)
linked_piece x e h =
    (e, λ s. subst (λ m. Links m (map unflagged_continuation x.deque) e) (sym (lowest_same x.strand.frame x.strand.under)) (links_same (lowest x.strand.frame x.strand.under) x.deque e (h s)))

pub each_linked : (setting : Setting) (first : Bool) (xs : List Piece) (found : List Bool) → PiecesFit setting.program.tree setting.tables (sight_of setting.program.tree setting.tables) (valid_record setting.program setting.tables setting.memory.records) first xs found
    → Each Linked (map unflagged_piece xs)
each_linked setting first [] found h = tt
each_linked setting first (x ∷ xs) found h =
    (linked_piece x (front xs) (λ s. elim h.1.fits [ inl w ↦ w.links | inr c ↦ absurd (s c.fault c.phase) ]), each_linked setting false xs h.0 h.2)

resumed_layered : (o : Option ℤ) (task : PlainTask) (s : PlainStrand) → IsLayered s → length s.tally.opened ≡ length s.lower → IsLayered (resumed_by o task s)
resumed_layered None task s h l = h
resumed_layered (Some v) task s h l = l

resumed_nests : (codes : List Code) (o : Option ℤ) (task : PlainTask) (s : PlainStrand) → NestAt codes s.phase s → AreNested codes s.tally.opened → NestAt codes (resumed_by o task s).phase (resumed_by o task s)
resumed_nests codes None task s h n = h
resumed_nests codes (Some v) task s h n = nest_any codes phase.Running (resumed_by (Some v) task s) n

no_child : (m : Place) (k : ℕ) → [] ≡ m ++ k ∷ [] → ⊥
no_child m k e = let c : 0 ≡ length m + 1 = ap length e ∙ length-append m (k ∷ []) in omega arith

module _ (setting : Setting) where
  no_parents : (path : Place) (under : List Parent) → AreParents setting path [] under → under ≡ []
  no_parents path [] h = refl
  no_parents path (p ∷ under) h = absurd h

  -- the place behind which a continuation goes on
  pub task_place : (task : PlainTask) (k : Continuation) → StandsForTask setting task k → place_of_continuation k ≡ task.place
  task_place task k h =
      ap (λ fr. child_of fr.instance k.child) h.parent.frame ∙ ap (child_of (shorter task.place)) h.child ∙ sym h.parent.named

  module _ (kits kits' : ℕ) (same : kits' ≡ kits) (p : PlainPiece) (x : Piece) (w : ℕ) (held : is_held_by w p ≡ true) (h : StandsForPiece setting p x) where
    abbrev AsManyLayers : Type 0
    AsManyLayers = (length p.strand.tally.opened ≡ length p.strand.lower) × AreNested setting.codes p.strand.tally.opened

    resumes : AsManyLayers → (v : ℤ) (task : PlainTask) (tasks : List PlainTask) (k : Continuation) (ks : List Continuation) → p.strand.path ≡ task.place → StandsForTask setting task k → StandForTasks setting tasks ks → x.strand.phase ≡ leaving v → x.strand.under ≡ []
        → Agrees setting (popped_of (task ∷ tasks) kits p) (schedules.popped_at setting.program setting.tables setting.memory kits' x (leaving v) [] (k ∷ ks))
    resumes as_many v task tasks k ks at task_is tasks_are ph under = record {
      pieces = record {
        strand = resumed_is setting task p.strand x.strand x.tally k v at h.strand task_is ph under;
        layered = resumed_layered (returned_of p.strand) task p.strand h.layered as_many.0;
        nests = resumed_nests setting.codes (returned_of p.strand) task p.strand h.nests as_many.1;
        tasks = tasks_are;
        state = h.state;
        laid = held_any w p.state _ _ held;
      };
      kits = same;
      noted = refl;
    }

    popped_leaving : AsManyLayers → (v : ℤ) (path : Place) (tasks : List PlainTask) (ks : List Continuation) → p.strand.path ≡ path → p.deque ≡ tasks → x.deque ≡ ks → StandForTasks setting tasks ks → x.strand.phase ≡ leaving v → x.strand.under ≡ [] → x.strand.frame.instance ≡ p.strand.path → Linked x
        → Agrees setting (popped_by (returned_at (phase.Leaving v) [] path) kits p) (schedules.popped_at setting.program setting.tables setting.memory kits' x (leaving v) [] ks)
    popped_leaving as_many v [] [] [] a b c r ph u n l = tt
    popped_leaving as_many v (i ∷ path) [] [] a b c r ph u n l = subst (λ ds. Agrees setting (popped_of ds kits p) (schedules.popped_at setting.program setting.tables setting.memory kits' x (leaving v) [] [])) (sym b) tt
    popped_leaving as_many v path [] (k ∷ ks) a b c r ph u n l = absurd r
    popped_leaving as_many v path (task ∷ tasks) [] a b c r ph u n l = absurd r
    popped_leaving as_many v [] (task ∷ tasks) (k ∷ ks) a b c r ph u n l = absurd (no_child (shorter task.place) task.top.children (sym a ∙ at ∙ r.0.parent.named)) where
      at : p.strand.path ≡ task.place
      at = sym n ∙ (subst (λ ds. Links x.strand.frame.instance ds l.0) c (subst (λ us. Links (lowest x.strand.frame us) x.deque l.0) u (l.1 (λ f e. let z : leaving v ≡ broken f = sym ph ∙ e in absurd cc)))).0 ∙ task_place task k r.0
    popped_leaving as_many v (i ∷ path) (task ∷ tasks) (k ∷ ks) a b c r ph u n l =
        subst (λ ds. Agrees setting (popped_of ds kits p) (schedules.popped_at setting.program setting.tables setting.memory kits' x (leaving v) [] (k ∷ ks))) (sym b) (resumes as_many v task tasks k ks at r.0 r.1 ph u) where
          at : p.strand.path ≡ task.place
          at = sym n ∙ (subst (λ ds. Links x.strand.frame.instance ds l.0) c (subst (λ us. Links (lowest x.strand.frame us) x.deque l.0) u (l.1 (λ f e. let z : leaving v ≡ broken f = sym ph ∙ e in absurd cc)))).0 ∙ task_place task k r.0

    abbrev Pops : NamedPhase → List Parent → Phase → List PlainActivation → Type 0
    Pops nph under ph below = Agrees setting (popped_by (returned_at ph below p.strand.path) kits p) (schedules.popped_at setting.program setting.tables setting.memory kits' x nph under x.deque)

    parents_stay : (v : ℤ) (a : PlainActivation) (below : List PlainActivation) (under : List Parent) → AreParents setting p.strand.path (a ∷ below) under → Pops (leaving v) under (phase.Leaving v) (a ∷ below)
    parents_stay v a below [] i = absurd i
    parents_stay v a below (q ∷ under) i = tt

    popped_where : (ph : Phase) (below : List PlainActivation) → IsLayeredAt ph p.strand → NestAt setting.codes ph p.strand → StandsAt setting ph below p.strand x.strand → Linked x → Pops x.strand.phase x.strand.under ph below
    popped_where (phase.Leaving v) [] as_many n i l =
        let u = no_parents p.strand.path x.strand.under i.under in
        subst (λ nph. Pops nph x.strand.under (phase.Leaving v) []) (sym i.phase)
        (subst (λ under. Pops (leaving v) under (phase.Leaving v) []) (sym u)
        (popped_leaving (as_many, n) v p.strand.path p.deque x.deque refl refl refl h.tasks i.phase u (ap (λ fr. fr.instance) i.frame) l))
    popped_where (phase.Leaving v) (a ∷ below) as_many n i l = subst (λ nph. Pops nph x.strand.under (phase.Leaving v) (a ∷ below)) (sym i.phase) (parents_stay v a below x.strand.under i.under)
    popped_where phase.AtSpawn [] as_many n i l = absurd i
    popped_where phase.AtSpawn (a ∷ below) as_many n i l = subst (λ nph. Pops nph x.strand.under phase.AtSpawn (a ∷ below)) (sym i.phase) tt
    popped_where phase.Entering below as_many n i l = subst (λ nph. Pops nph x.strand.under phase.Entering below) (sym i.phase) tt
    popped_where phase.Running below as_many n i l = subst (λ nph. Pops nph x.strand.under phase.Running below) (sym i.phase) tt
    popped_where (phase.Returning v) below as_many n i l = subst (λ nph. Pops nph x.strand.under (phase.Returning v) below) (sym i.phase) tt
    popped_where (phase.Broken f) below as_many n i l = subst (λ nph. Pops nph x.strand.under (phase.Broken f) below) (sym i) tt

    pub popped_agrees : Linked x → Agrees setting (popped kits p) (schedules.popped setting.program setting.tables setting.memory kits' x)
    popped_agrees l = popped_where p.strand.phase p.strand.below h.layered h.nests h.strand.now l

  -- ---- steal

  tasks_append : (us : List PlainTask) (ks : List Continuation) (a : PlainTask) (k : Continuation) → StandForTasks setting us ks → StandsForTask setting a k → StandForTasks setting (us ++ a ∷ []) (ks ++ k ∷ [])
  tasks_append [] [] a k h i = (i, tt)
  tasks_append [] (c ∷ ks) a k h i = absurd h
  tasks_append (u ∷ us) [] a k h i = absurd h
  tasks_append (u ∷ us) (c ∷ ks) a k h i = (h.0, tasks_append us ks a k h.1 i)

  module _ (linked : IsLinked setting) (thief : ℕ) (p : PlainPiece) (x : Piece) (w : ℕ) (held : is_held_by w p ≡ true) (h : StandsForPiece setting p x) where
    robs : (kits : ℕ) (us : List PlainTask) (cs : List Continuation) (k : PlainTask) (c : Continuation) (ks : List PlainTask) (ds : List Continuation) → StandForTasks setting us cs → StandsForTask setting k c → StandForTasks setting ks ds
        → Agrees setting (robbed setting thief kits p (oldest us k ks)) (schedules.robbed_of setting.program setting.tables setting.memory thief kits x cs (c ∷ ds))
    robs kits us cs k c [] [] a b r = record {
      pieces = inl (
        record { strand = h.strand; layered = h.layered; nests = h.nests; tasks = a; state = h.state; laid = h.laid },
        record { strand = stolen_is setting linked k c b; layered = refl; nests = tt; tasks = tt; state = refl; laid = tt },
      );
      kits = refl;
      noted = ap (λ v. strands.Split v (place_of_continuation c) thief ∷ []) (piece_place setting p x h) ∙ ap (λ n. strands.Split (place_of p) n thief ∷ []) (task_place k c b);
    }
    robs kits us cs k c [] (d ∷ ds) a b r = absurd r
    robs kits us cs k c (j ∷ ks) [] a b r = absurd r
    robs kits us cs k c (j ∷ ks) (d ∷ ds) a b r = robs kits (us ++ k ∷ []) (cs ++ c ∷ []) j d ks ds (tasks_append us cs k c a b) r.0 r.1

    steals : (kits : ℕ) (ks : List PlainTask) (ds : List Continuation) → StandForTasks setting ks ds → Agrees setting (stolen_of setting thief (suc kits) p ks) (schedules.robbed_of setting.program setting.tables setting.memory thief kits x [] ds)
    steals kits [] [] r = tt
    steals kits [] (d ∷ ds) r = absurd r
    steals kits (k ∷ ks) [] r = absurd r
    steals kits (k ∷ ks) (d ∷ ds) r = robs kits [] [] k d ks ds tt r.0 r.1

    no_kit : (ks : List PlainTask) → Agrees setting (stolen_of setting thief zero p ks) None
    no_kit [] = tt
    no_kit (k ∷ ks) = tt

    steals_from : (kits : ℕ) → Agrees setting (stolen_from setting thief kits p) (schedules.stolen_from setting.program setting.tables setting.memory thief kits x)
    steals_from zero = no_kit p.deque
    steals_from (suc kits) = steals kits p.deque x.deque h.tasks

    pub stolen_agrees : (kits kits' : ℕ) → kits' ≡ kits → Agrees setting (stolen_from setting thief kits p) (schedules.stolen_from setting.program setting.tables setting.memory thief kits' x)
    stolen_agrees kits kits' same = subst (λ n. Agrees setting (stolen_from setting thief kits p) (schedules.stolen_from setting.program setting.tables setting.memory thief n x)) (sym same) (steals_from kits)
