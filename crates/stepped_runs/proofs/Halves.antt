-- A fold that memory was refused for: the pieces stand for the same pieces of the definitions as before.
use Rattle.std.proofs.Common.{◌≡◌, inl, inr, Bool, true, false, ◌&&◌, List, [], ◌∷◌, ◌++◌, refl, sym, ◌∙◌, ap, subst}
use Rattle.monoid_laws.specs.Kinds.{operate_all}
use Rattle.meaning.specs.Strands.{State, Held, Ended, Stalled, done, waits}
use Rattle.meaning.specs.Strands as strands
use Rattle.meaning.specs.Schedules.{Piece, RunState}
use Rattle.positions.specs.Setting.{Setting}
use Rattle.positions.specs.declared.phase.Phase.{Phase}
use Rattle.positions.specs.declared.phase.Phase.TheVariants as phase
use Rattle.positions.specs.Strands.{PlainStrand}
use Rattle.positions.specs.Moves.{FoldsViews}
use Rattle.stepped_runs.specs.Pieces.{PlainPiece, may_join_at, may_fold}
use Rattle.stepped_runs.specs.Runs.{PlainRun}
use Rattle.stepped_runs.specs.Stands.{valued, IsLaidAs, StandsForPiece, StandFolding, StandForPieces, StandsForRun}
use Rattle.stepped_runs.specs.Halves.{IsHalfFolded, IsHalfFoldedRun}
use Rattle.stepped_runs.proofs.Agreeing.{none_there, waiting_first}

first_two : (a b c : Bool) → a && b && c ≡ true → (a ≡ true) × (b ≡ true)
first_two true true c e = (refl, refl)
first_two true false c e = absurd cc
first_two false b c e = absurd cc

-- where views are folded the left one has no fault
left_ended : (st : State) (ph qh : Phase) (s : PlainStrand) → done st ≡ true → IsLaidAs st ph s → FoldsViews ph qh → st ≡ Ended
left_ended Ended ph qh s d l f = refl
left_ended (Held w) ph qh s d l f = absurd cc
left_ended Stalled ph qh s d l f = absurd cc
left_ended strands.Finished ph qh s d l f = absurd cc
left_ended strands.Faulted phase.Entering qh s d l f = absurd l
left_ended strands.Faulted phase.Running qh s d l f = absurd l
left_ended strands.Faulted phase.AtSpawn qh s d l f = absurd l
left_ended strands.Faulted (phase.Returning v) qh s d l f = absurd l
left_ended strands.Faulted (phase.Leaving v) qh s d l f = absurd l
left_ended strands.Faulted (phase.Broken k) qh s d l f = absurd f

no_views : (ph : Phase) (k : _) → FoldsViews ph (phase.Broken k) → ⊥
no_views phase.Entering k f = f
no_views phase.Running k f = f
no_views phase.AtSpawn k f = f
no_views (phase.Returning v) k f = f
no_views (phase.Leaving v) k f = f
no_views (phase.Broken j) k f = f

-- nor has the right one
right_stalled : (st : State) (ph qh : Phase) (s : PlainStrand) → waits st ≡ true → IsLaidAs st qh s → FoldsViews ph qh → st ≡ Stalled
right_stalled Stalled ph qh s w l f = refl
right_stalled (Held v) ph qh s w l f = absurd cc
right_stalled Ended ph qh s w l f = absurd cc
right_stalled strands.Finished ph qh s w l f = absurd cc
right_stalled strands.Faulted ph phase.Entering s w l f = absurd l
right_stalled strands.Faulted ph phase.Running s w l f = absurd l
right_stalled strands.Faulted ph phase.AtSpawn s w l f = absurd l
right_stalled strands.Faulted ph (phase.Returning v) s w l f = absurd l
right_stalled strands.Faulted ph (phase.Leaving v) s w l f = absurd l
right_stalled strands.Faulted ph (phase.Broken k) s w l f = absurd (no_views ph k f)

module _ (setting : Setting) where
  module _ (l r m n : PlainPiece) (may : may_fold l r ≡ true) (views : FoldsViews l.strand.phase r.strand.phase) (h : IsHalfFolded l r m n) where
    both : (done l.state ≡ true) × (waits r.state ≡ true)
    both = first_two (done l.state) (waits r.state) (may_join_at l.strand.phase l r) may

    same_kinds : m.strand.layer.kinds ≡ l.strand.layer.kinds
    same_kinds = ap (λ p. p.strand.layer.kinds) h.left

    -- two that stood each for itself
    first_time : (x y : Piece) → StandsForPiece setting l x → StandsForPiece setting r y → StandFolding setting m n x y
    first_time x y hl hr = record {
      ended = ap (λ p. p.state) h.left ∙ left_ended l.state l.strand.phase r.strand.phase l.strand both.0 hl.laid views;
      stalled = ap (λ p. p.state) h.right ∙ right_stalled r.state l.strand.phase r.strand.phase r.strand both.1 hr.laid views;
      to_left = l.strand.layer.worths;
      to_right = r.strand.layer.worths;
      left = subst (λ p. StandsForPiece setting (valued l.strand.layer.worths p) x) (sym h.left) hl;
      right = subst (λ p. StandsForPiece setting (valued r.strand.layer.worths p) y) (sym h.right) hr;
      product = subst (λ ks. operate_all ks m.strand.layer.worths n.strand.layer.worths ≡ operate_all ks l.strand.layer.worths r.strand.layer.worths) (sym same_kinds) h.product;
    }

    -- two of which a fold was refused before
    next_time : (x y : Piece) → StandFolding setting l r x y → StandFolding setting m n x y
    next_time x y k = record {
      ended = ap (λ p. p.state) h.left ∙ k.ended;
      stalled = ap (λ p. p.state) h.right ∙ k.stalled;
      to_left = k.to_left;
      to_right = k.to_right;
      left = subst (λ p. StandsForPiece setting (valued k.to_left p) x) (sym h.left) k.left;
      right = subst (λ p. StandsForPiece setting (valued k.to_right p) y) (sym h.right) k.right;
      product = subst (λ ks. operate_all ks m.strand.layer.worths n.strand.layer.worths ≡ operate_all ks k.to_left k.to_right) (sym same_kinds) (h.product ∙ k.product);
    }

    at_front : (later : List PlainPiece) (xs : List Piece) → StandForPieces setting (l ∷ r ∷ later) xs → StandForPieces setting (m ∷ n ∷ later) xs
    at_front later [] k = absurd (none_there setting l (r ∷ later) k)
    at_front later (x ∷ []) k = absurd k
    at_front later (x ∷ y ∷ xs) (inl k) = let w = waiting_first setting r later y xs both.1 k.1 in inr (first_time x y k.0 w.0, w.1)
    at_front later (x ∷ y ∷ xs) (inr k) = inr (next_time x y k.0, k.1)

    -- a left one is no right one of another two
    no_right : l.state ≡ Stalled → ⊥
    no_right e = let d : done l.state ≡ false = ap done e in let b = both.0 in absurd cc

    behind : (before later : List PlainPiece) (xs : List Piece) → StandForPieces setting (before ++ l ∷ r ∷ later) xs → StandForPieces setting (before ++ m ∷ n ∷ later) xs
    behind [] later xs k = at_front later xs k
    behind (b ∷ []) later [] k = absurd (none_there setting b (l ∷ r ∷ later) k)
    behind (b ∷ []) later (x ∷ []) k = absurd k
    behind (b ∷ []) later (x ∷ y ∷ xs) (inl k) = inl (k.0, at_front later (y ∷ xs) k.1)
    behind (b ∷ []) later (x ∷ y ∷ xs) (inr k) = absurd (no_right k.0.stalled)
    behind (b ∷ c ∷ before) later [] k = absurd (none_there setting b (c ∷ before ++ l ∷ r ∷ later) k)
    behind (b ∷ c ∷ before) later (x ∷ []) k = absurd k
    behind (b ∷ c ∷ before) later (x ∷ y ∷ xs) (inl k) = inl (k.0, behind (c ∷ before) later (y ∷ xs) k.1)
    behind (b ∷ c ∷ before) later (x ∷ y ∷ xs) (inr k) = inr (k.0, behind before later xs k.1)

  pub refused_kept : (r s : PlainRun) → IsHalfFoldedRun r s → (x : RunState) → StandsForRun setting r x → StandsForRun setting s x
  refused_kept r s h x k =
      let p = h.pieces in
      record {
        pieces = subst (λ ps. StandForPieces setting ps x.pieces) (sym p.new)
            (behind p.left p.right p.new_left p.new_right p.may p.views p.half p.before p.later x.pieces (subst (λ ps. StandForPieces setting ps x.pieces) p.old k.pieces));
        kits = k.kits ∙ sym h.kits;
        history = k.history ∙ sym h.history;
      }
