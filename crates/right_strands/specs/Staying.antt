-- What each call of a strand of frames keeps, told by what its own contract says of it, with the records by name of the setting:
-- a strand that is right stays right, and what is left of it to do is what the serial run has left there.
use Rattle.std.specs.Prelude.{◌≡◌, ◌⊎◌, ℤ, Bool, true, List, [], ◌∷◌, ◌++◌}
use Rattle.meaning.specs.Outcome.{Log}
use Rattle.meaning.specs.Elision.{from_scratch}
use Rattle.meaning.specs.Records.{Kept}
use Rattle.meaning.specs.RestOfRun.{rest_of_run}
use Rattle.meaning.specs.RestOfRun.{lowest as lowest_instance}
use Rattle.meaning.specs.Schedules.{RunState}
use Rattle.meaning.specs.SmallStep.{root, same_name, look_of}
use Rattle.meaning.specs.Strands.{Held}
use Rattle.meaning.specs.Trail.{trail_at}
use Rattle.meaning.specs.Tallies.{Tally}
use Rattle.meaning.specs.LayeredStrand.{LayeredStrand}
use Rattle.trail_theory.specs.Order.{Every}
use Rattle.trail_theory.specs.OpenLayers.{IsNewRecord}
use Rattle.trail_theory.specs.SerialRest.{Beside}
use Rattle.trail_theory.specs.Right.{StartsAfter, full_rest, NoneWaits, NoneWaitsUnder}
use Rattle.record_theory.specs.Record.{PlainRecord}
use Rattle.positions.specs.declared.phase.Paused.TheVariants as paused
use Rattle.positions.specs.declared.phase.Phase.TheVariants.{AtSpawn, Leaving}
use Rattle.positions.specs.Setting.{Setting}
use Rattle.positions.specs.Strands.{PlainStrand, PlainTask}
use Rattle.positions.specs.Layers.{lowest}
use Rattle.positions.specs.Advance.{advanced, pause_of}
use Rattle.positions.specs.Moves.{inlined, detached, attached, resumed, lowest_alone, joined}
use Rattle.positions.specs.Simulation.{IsFirst, IsSmallStep, IsInlined, IsDetached, IsStolen, IsResumed, place_of}
use Rattle.positions.specs.Stands.{StandsFor}
use Rattle.answered_loops.specs.Ways.{IsWayOf}
use Rattle.running_ahead.specs.Stepped.{AreStepsOf}
use Rattle.strand_moves.specs.Joins.{HasFault}
use Rattle.frames.specs.Answers.{ending_of, IsAnswer}
use Rattle.positions.specs.declared.answer.RunAnswer.{RunAnswer}
use Rattle.numbered_runs.specs.News.{StandForKept}
use Rattle.strand_list.specs.declared.laid_state.LaidState.{LaidState}
use Rattle.right_strands.specs.Rightness.{sight, lookup, Pushed, FitsHere, IsSound, IsRightBy, IsRightTaskBy}
use Rattle.right_strands.specs.Waiting.{DecidesWaiting}
use Rattle.right_strands.specs.Laid.{IsPausedAs, ends_as, AnswersElision}
use Rattle.right_strands.specs.Pairs.{StopsBroken}

-- the whole run is in that strand: it began with the run, main is at its bottom, and no name waits for a child of another one
pub record HasAll (x : LayeredStrand) : Type 0 where
  pub begins : x.start ≡ root
  pub bottom : lowest_instance x.frame x.under ≡ []
  pub frame : NoneWaits root x.frame
  pub under : NoneWaitsUnder root x.under

module _ (setting : Setting) where
  abbrev pub Trail : Log
  Trail = trail_at setting.program.tree setting.tables (sight setting) (look_of (lookup setting))

  -- what the serial run has left to do of a strand of the definitions, where it has come as far in its instances
  abbrev pub left_of : LayeredStrand → Beside → List Beside → Log
  left_of x top others =
      full_rest setting.program.tree setting.tables (sight setting) (lookup setting) x.frame x.phase x.under top others

  -- the serial run from the initial values on: what stands before the strand, what it has done, what is left of it, and what
  -- comes behind it
  pub record HasRest (s : PlainStrand) : Type 0 where
    pub named : LayeredStrand
    pub tally : Tally
    pub stands : StandsFor setting s named tally
    pub before : Log
    pub done : Log
    pub beyond : Log
    pub top : Beside
    pub others : List Beside
    pub starts : StartsAfter named.start before
    pub is_trail : before ++ (done ++ (left_of named top others ++ beyond)) ≡ Trail

  -- a run of that strand alone
  abbrev pub alone : LayeredStrand → Tally → RunState
  alone x t = record { pieces = record { strand = x; deque = []; state = Held 0; tally = t } ∷ []; kits = 0; history = [] }

  -- of that run the elision's answer from scratch is left to do
  pub record LeavesAll (s : PlainStrand) : Type 0 where
    pub named : LayeredStrand
    pub tally : Tally
    pub stands : StandsFor setting s named tally
    pub left : rest_of_run setting.program.tree setting.tables (alone named tally) ≡ from_scratch setting.program.tree setting.tables

  -- those records stand for sound ones that hold now
  pub record AreMade (made : List PlainRecord) : Type 0 where
    pub kept : List Kept
    pub stand : StandForKept setting made kept
    pub news : Every (IsNewRecord setting.program setting.tables) kept

  -- two right neighbours of which the left one is over or has a fault, and the right one, with one layer, waits at a sync or has a
  -- fault; without one the left is over with the child behind which the right begins, and leaves no name of it waiting
  pub record MayMeet (l r : PlainStrand) : Type 0 where
    pub left : IsRightBy setting l
    pub right : IsRightBy setting r
    pub left_kinds : l.layer.kinds ≡ setting.kinds
    pub right_kinds : r.layer.kinds ≡ setting.kinds
    pub one_layer : r.lower ≡ []
    pub over : (pause_of setting.codes l ≡ paused.Returned) ⊎ StopsBroken l
    pub waits : (pause_of setting.codes r ≡ paused.AtSync) ⊎ StopsBroken r
    pub behind : (v : ℤ) → l.phase ≡ Leaving v → same_name (place_of r.start r.path) l.path ≡ true
    pub free : (v : ℤ) → l.phase ≡ Leaving v → pause_of setting.codes r ≡ paused.AtSync → DecidesWaiting setting l r true

  pub record StrandsStayRight : Type 0 where
    pub begins : (s : PlainStrand) → IsFirst setting s → IsRightBy setting s
    pub begins_whole : (s : PlainStrand) → IsFirst setting s → LeavesAll s
    pub advances : (kit free : Bool) (s t : PlainStrand) → t ≡ advanced setting kit s → IsSmallStep setting free s t → IsRightBy setting s
        → IsRightBy setting t
    pub runs_ahead : (s t : PlainStrand) → IsWayOf setting s t → IsRightBy setting s → IsRightBy setting t
    pub answers_ahead : (s t : PlainStrand) → IsWayOf setting s t → IsRightBy setting s → IsRightBy setting t
    pub records_ahead : (s t : PlainStrand) → AreStepsOf setting s t → IsRightBy setting s → IsRightBy setting t
    pub inlines : (s t : PlainStrand) → s.phase ≡ AtSpawn → t ≡ inlined s → IsInlined setting s t → IsRightBy setting s → IsRightBy setting t
    pub detaches : (s t : PlainStrand) (task : PlainTask) → s.phase ≡ AtSpawn → t ≡ detached s → IsDetached setting s t task
        → IsRightBy setting s → IsRightBy setting t
    pub continues : (s t : PlainStrand) (task : PlainTask) → s.phase ≡ AtSpawn → task.place ≡ s.path → t ≡ detached s
        → IsDetached setting s t task → IsRightBy setting s → IsRightTaskBy setting (record { task = task; since = s.start })
    -- put back at once
    pub attaches : (s t u : PlainStrand) (task : PlainTask) → s.phase ≡ AtSpawn → s.below ≡ task.top ∷ task.below → t ≡ detached s
        → u ≡ attached task t → IsRightBy setting s → IsRightBy setting u
    pub steals : (k : Pushed) (s : PlainStrand) → IsStolen setting k.task s → IsRightTaskBy setting k → IsRightBy setting s
    pub resumes : (s t : PlainStrand) (k : Pushed) → FitsHere s k → t ≡ resumed k.task s → IsResumed setting k.task s t
        → IsRightTaskBy setting k → IsRightBy setting s → IsRightBy setting t
    pub joins : (l r t : PlainStrand) → t ≡ joined l r → MayMeet l r → IsRightBy setting t
    pub closes : (s t : PlainStrand) → HasFault s.phase → t ≡ lowest_alone s → IsRightBy setting s → IsRightBy setting t
    -- what is left of it is what the serial run has left there; of the whole run that is the elision's answer, whatever was done
    pub rest : (s : PlainStrand) → IsSound setting s → HasRest s
    pub whole : (s : PlainStrand) (w : IsSound setting s) → HasAll w.named → LeavesAll s
    -- and at the end the answer is the elision's
    pub ends : (r : LaidState) (s : PlainStrand) (given : RunAnswer) → IsPausedAs setting.codes r s → ends_as r s ≡ true
        → IsAnswer (ending_of s) (lowest s.layer s.lower).worths s.tally given → IsRightBy setting s → AnswersElision setting given
    pub makes : (s : PlainStrand) → IsSound setting s → AreMade s.tally.made
