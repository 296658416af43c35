-- The answer of a strand is that of what it stands for.
use Rattle.std.proofs.Common.{◌≡◌, ℤ, List, [], ◌∷◌, refl, sym, ◌∙◌, ap, subst}
use Rattle.monoid_laws.specs.Worth.{Worth}
use Rattle.meaning.specs.Outcome.{Place, Fault as NamedFault}
use Rattle.meaning.specs.SmallStep.{entering, running, spawning, returning, leaving, broken, Parent}
use Rattle.meaning.specs.Layers.{Notes, bottom}
use Rattle.meaning.specs.Tallies.{Tally}
use Rattle.meaning.specs.LayeredStrand.{LayeredStrand}
use Rattle.positions.specs.declared.phase.Fault.{Fault}
use Rattle.positions.specs.declared.phase.Phase.{Phase}
use Rattle.positions.specs.declared.phase.Phase.TheVariants as phase
use Rattle.positions.specs.Setting.{Setting}
use Rattle.positions.specs.Activations.{PlainActivation}
use Rattle.positions.specs.Layers.{PlainLayer, lowest}
use Rattle.positions.specs.Tallies.{PlainTally}
use Rattle.positions.specs.Strands.{PlainStrand}
use Rattle.positions.specs.declared.start.Start.{Start}
use Rattle.positions.specs.Stands.{AreNotes, IsTally, AreParents, StandsAt, named_fault}
use Rattle.positions.specs.declared.answer.RunAnswer.{RunAnswer}
use Rattle.positions.specs.declared.answer.RunAnswer.TheVariants as answer
use Rattle.frames.specs.Answers.{Ending, over, stopped, underway, ending_at, ending_of, IsAnswer, HasLeft, Answers, IsAnswerOf}

module _ (setting : Setting) where
  -- how a strand of the definitions ends the run
  abbrev EndsAs : Ending → LayeredStrand → Type 0
  EndsAs (over v) x = HasLeft setting x v
  EndsAs (stopped f) x = x.phase ≡ broken (named_fault setting f)
  EndsAs underway x = ((k : NamedFault) → x.phase ≡ broken k → ⊥) × ((v : ℤ) → HasLeft setting x v → ⊥)

  none_under : (path : Place) (under : List Parent) → AreParents setting path [] under → under ≡ []
  none_under path [] h = refl
  none_under path (p ∷ under) h = absurd h

  ends_at : (s : PlainStrand) (x : LayeredStrand) (ph : Phase) (below : List PlainActivation) (path : Place) → s.path ≡ path → StandsAt setting ph below s x → EndsAs (ending_at ph below path) x
  ends_at s x phase.Entering below path e h =
      (λ k b. let c : entering h.child ≡ broken k = sym h.phase ∙ b in absurd cc, λ v l. let c : entering h.child ≡ leaving v = sym h.phase ∙ l.0 in absurd cc)
  ends_at s x phase.Running below path e h =
      (λ k b. let c : running h.todo ≡ broken k = sym h.phase ∙ b in absurd cc, λ v l. let c : running h.todo ≡ leaving v = sym h.phase ∙ l.0 in absurd cc)
  ends_at s x phase.AtSpawn [] path e h = absurd h
  ends_at s x phase.AtSpawn (p ∷ below) path e h =
      (λ k b. let c : spawning s.top.left p.into h.child h.todo ≡ broken k = sym h.phase ∙ b in absurd cc, λ v l. let c : spawning s.top.left p.into h.child h.todo ≡ leaving v = sym h.phase ∙ l.0 in absurd cc)
  ends_at s x (phase.Returning w) below path e h =
      (λ k b. let c : returning w ≡ broken k = sym h.phase ∙ b in absurd cc, λ v l. let c : returning w ≡ leaving v = sym h.phase ∙ l.0 in absurd cc)
  ends_at s x (phase.Leaving w) [] [] e h = (h.phase, ap (λ fr. fr.instance) h.frame ∙ e, none_under s.path x.under h.under)
  ends_at s x (phase.Leaving w) [] (k ∷ n) e h =
      (λ j b. let c : leaving w ≡ broken j = sym h.phase ∙ b in absurd cc, λ v l. let c : k ∷ n ≡ [] = sym e ∙ sym (ap (λ fr. fr.instance) h.frame) ∙ l.1 in absurd cc)
  ends_at s x (phase.Leaving w) (a ∷ below) path e h =
      (λ j b. let c : leaving w ≡ broken j = sym h.phase ∙ b in absurd cc, λ v l. absurd (subst (AreParents setting s.path (a ∷ below)) l.2 h.under))
  ends_at s x (phase.Broken f) below path e h = h

  lowest_worths : (st : Start) (l : PlainLayer) (lower : List PlainLayer) (ls : List Notes) → AreNotes setting st (l ∷ lower) ls → (lowest l lower).worths ≡ bottom ls
  lowest_worths st l [] [] h = absurd h
  lowest_worths st l [] (n ∷ []) h = sym h.0.worths
  lowest_worths st l [] (n ∷ m ∷ ns) h = absurd h.1
  lowest_worths st l (k ∷ lower) [] h = absurd h
  lowest_worths st l (k ∷ lower) (n ∷ []) h = absurd h.1
  lowest_worths st l (k ∷ lower) (n ∷ m ∷ ns) h = lowest_worths st k lower (m ∷ ns) h.1

  answers_by : (e : Ending) (a : RunAnswer) (x : LayeredStrand) (t : Tally) (worths : List Worth) (tally : PlainTally) → EndsAs e x → worths ≡ bottom x.layers → IsTally setting tally t → IsAnswer e worths tally a → Answers setting a x t
  answers_by (over v) (answer.Finished w values n m k) x t worths tally h e i a =
      ((h.0 ∙ ap leaving (sym a.0), h.1, h.2), a.1 ∙ e, a.2.executed_is ∙ sym i.executed, a.2.reused_is ∙ sym i.reused, a.2.unrecorded_is ∙ sym i.unrecorded)
  answers_by (over v) answer.NoMemory x t worths tally h e i a = tt
  answers_by (over v) answer.NoKit x t worths tally h e i a = absurd a
  answers_by (over v) (answer.Fault f) x t worths tally h e i a = absurd a
  answers_by (over v) answer.Unfinished x t worths tally h e i a = absurd a
  answers_by (stopped f) (answer.Fault k) x t worths tally h e i a = h ∙ ap (λ d. broken (named_fault setting d)) (sym a)
  answers_by (stopped f) (answer.Finished w values n m k) x t worths tally h e i a = absurd a
  answers_by (stopped f) answer.NoMemory x t worths tally h e i a = absurd a
  answers_by (stopped f) answer.NoKit x t worths tally h e i a = absurd a
  answers_by (stopped f) answer.Unfinished x t worths tally h e i a = absurd a
  answers_by underway answer.Unfinished x t worths tally h e i a = h
  answers_by underway (answer.Finished w values n m k) x t worths tally h e i a = absurd a
  answers_by underway (answer.Fault k) x t worths tally h e i a = absurd a
  answers_by underway answer.NoMemory x t worths tally h e i a = absurd a
  answers_by underway answer.NoKit x t worths tally h e i a = absurd a

  pub answer_is : (s : PlainStrand) (a : RunAnswer) → IsAnswer (ending_of s) (lowest s.layer s.lower).worths s.tally a → IsAnswerOf setting s a
  answer_is s a is x t h = answers_by (ending_of s) a x t (lowest s.layer s.lower).worths s.tally (ends_at s x s.phase s.below s.path refl h.now) (lowest_worths s.start s.layer s.lower x.layers h.layers) h.tally is

-- ---- by whether main has left
