-- Each call of a strand keeps it right: the lemmas of the single moves, told of all.
use Rattle.std.proofs.Common.{◌≡◌, ◌∷◌, refl, sym, ap, ◌∙◌, subst}
use Rattle.meaning.specs.Tallies.{no_tally}
use Rattle.meaning.specs.LayeredStrand.{first_layered}
use Rattle.trail_theory.specs.OpenLayers.{IsNumbered}
use Rattle.trail_theory.specs.Right.{stretch}
use Rattle.strand_theory.specs.Ready.{IsReady}
use Rattle.run_theory.proofs.Rests.{begins}
use Rattle.positions.specs.declared.phase.Phase.TheVariants.{AtSpawn, Entering}
use Rattle.positions.specs.Setting.{Setting}
use Rattle.positions.specs.Strands.{PlainStrand, PlainTask}
use Rattle.positions.specs.Moves as moves
use Rattle.positions.specs.Simulation.{IsFirst, IsInlined, IsDetached, IsResumed}
use Rattle.position_theory.proofs.Moves.{inlined_is}
use Rattle.right_strands.specs.Rightness.{IsSound, IsRightBy}
use Rattle.right_strands.specs.Pairs.{IsPair}
use Rattle.right_strands.specs.Staying.{HasRest, LeavesAll, MayMeet, StrandsStayRight}
use Rattle.right_strands.proofs.Alone.{all_left}
use Rattle.right_strands.proofs.Cuts.{alone_right}
use Rattle.right_strands.proofs.Steps.{step_right, first_right}
use Rattle.right_strands.proofs.Ways.{on_way, on_steps}
use Rattle.right_strands.proofs.Moves.{inlined_right, detached_right, task_right, stolen_right, resumed_right}
use Rattle.right_strands.proofs.Joins.{over_joined}
use Rattle.right_strands.proofs.Ends.{laid_ends}

module _ (setting : Setting) where
  put_back : (s t u : PlainStrand) (task : PlainTask) → s.phase ≡ AtSpawn → s.below ≡ task.top ∷ task.below → t ≡ moves.detached s → u ≡ moves.attached task t → IsRightBy setting s → IsRightBy setting u
  put_back s t u task e b is put h =
      let same : u ≡ moves.inlined s = put ∙ ap (moves.attached task) is ∙ ap (λ below. record s { below = below; phase = Entering }) (sym b) in
      subst (IsRightBy setting) (sym same) (inlined_right setting s e (inlined_is setting s) h)

  pair_of : (l r : PlainStrand) → MayMeet setting l r → IsPair setting l r
  pair_of l r h = record {
    left_worths = l.layer.worths;
    right_worths = r.layer.worths;
    left = h.left;
    right = h.right;
    product = refl;
    left_kinds = h.left_kinds;
    right_kinds = h.right_kinds;
    one_layer = h.one_layer;
    over = h.over;
    waits = h.waits;
    behind = h.behind;
    free = h.free;
  }

  rest_of : (s : PlainStrand) → IsSound setting s → HasRest setting s
  rest_of s w =
      let at = w.owns.tallied.right in
      record {
        named = w.named;
        tally = w.tally;
        stands = w.stands;
        before = at.before;
        done = stretch at.segments;
        beyond = at.beyond;
        top = at.top;
        others = at.others;
        starts = at.starts;
        is_trail = at.is_trail;
      }

  leave_all : IsReady setting.program setting.tables setting.memory → (s : PlainStrand) → IsFirst setting s → LeavesAll setting s
  leave_all ready s first = record {
    named = first_layered setting.program.tree;
    tally = no_tally;
    stands = first;
    left = begins setting.program setting.tables setting.memory ready 1;
  }

  pub stay_right : IsReady setting.program setting.tables setting.memory → IsNumbered setting.program → StrandsStayRight setting
  stay_right ready numbered = record {
    begins = first_right setting ready numbered;
    begins_whole = leave_all ready;
    advances = λ kit free s t e step h. (step_right setting ready numbered kit free s t e step h).right;
    runs_ahead = λ s t p h. (on_way setting ready numbered s t p h).right;
    answers_ahead = λ s t p h. (on_way setting ready numbered s t p h).right;
    records_ahead = λ s t p h. (on_steps setting ready numbered s t p h).right;
    inlines = λ s t e is f h. subst (IsRightBy setting) (sym is) (inlined_right setting s e (subst (IsInlined setting s) is f) h);
    detaches = λ s t task e is f h. subst (IsRightBy setting) (sym is) (detached_right setting s task e (subst (λ u. IsDetached setting s u task) is f) h);
    continues = λ s t task e at is f h. task_right setting s task e at (subst (λ u. IsDetached setting s u task) is f) h;
    attaches = put_back;
    steals = stolen_right setting;
    resumes = λ s t k fits is f task h. subst (IsRightBy setting) (sym is) (resumed_right setting s k fits (subst (IsResumed setting k.task s) is f) task h);
    joins = λ l r t is h. subst (IsRightBy setting) (sym is) (over_joined setting l r ready numbered (pair_of l r h) h.over);
    closes = λ s t e is h. subst (IsRightBy setting) (sym is) (alone_right setting s e h);
    rest = rest_of;
    whole = λ s w all. record { named = w.named; tally = w.tally; stands = w.stands; left = all_left setting ready w.named w.tally w.owns all };
    ends = λ r s given at e a h. (laid_ends setting ready numbered r s at e h given a).elision;
    makes = λ s w. record { kept = w.tally.made; stand = w.stands.tally.made; news = w.owns.tallied.made };
  }
