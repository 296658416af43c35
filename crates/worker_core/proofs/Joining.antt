-- Two strands that may become one.
use Rattle.std.proofs.Common.{◌≡◌, ℕ, suc, ℤ, Bool, true, false, ◌&&◌, List, [], length, refl, sym, ap, subst, ◌∙◌}
use Rattle.monoid_laws.specs.declared.Kind.{Kind}
use Rattle.monoid_laws.specs.Worth.{Worth}
use Rattle.meaning.specs.Strands.{State, Held, Ended, Stalled, Faulted, Finished, done, waits}
use Rattle.positions.specs.declared.phase.Phase.{Phase}
use Rattle.positions.specs.declared.phase.Phase.TheVariants as phase
use Rattle.positions.specs.Layers.{PlainLayer}
use Rattle.positions.specs.Strands.{PlainStrand}
use Rattle.positions.specs.Moves.{joined_at, joined_after}
use Rattle.stepped_runs.specs.Pieces.{PlainPiece, may_join_at, may_fold, folded}
use Rattle.stepped_runs.specs.Stands.{valued}
use Rattle.stepped_runs.specs.Layered.{HasOneLayer, HasOneLayerAs}
use Rattle.worker_core.specs.Moves.{IsFit}
use Rattle.worker_core.specs.Strands.{layers_of}

abbrev SameLayers : PlainStrand → PlainStrand → Type 0
SameLayers s t = (t.layer.kinds ≡ s.layer.kinds) × (t.lower ≡ s.lower)

after_layers : (ph : Phase) (l r : PlainStrand) (v : ℤ) → SameLayers l (joined_after ph l v r)
after_layers phase.Entering l r v = (refl, refl)
after_layers phase.Running l r v = (refl, refl)
after_layers phase.AtSpawn l r v = (refl, refl)
after_layers (phase.Returning u) l r v = (refl, refl)
after_layers (phase.Leaving u) l r v = (refl, refl)
after_layers (phase.Broken f) l r v = (refl, refl)

joined_layers : (ph : Phase) (l r : PlainStrand) → SameLayers l (joined_at ph l r)
joined_layers phase.Entering l r = (refl, refl)
joined_layers phase.Running l r = (refl, refl)
joined_layers phase.AtSpawn l r = (refl, refl)
joined_layers (phase.Returning u) l r = (refl, refl)
joined_layers (phase.Leaving u) l r = after_layers r.phase l r u
joined_layers (phase.Broken f) l r = (refl, refl)

-- the one that they become is fit
pub folded_fit : (kinds : List Kind) (w : ℕ) (l r : PlainPiece) → IsFit kinds l → IsFit kinds (folded w l r)
folded_fit kinds w l r h = (joined_layers l.strand.phase l.strand r.strand).0 ∙ h

-- and has the left one's layers
pub folded_layers : (w : ℕ) (l r : PlainPiece) → layers_of (folded w l r) ≡ layers_of l
folded_layers w l r = ap (λ ls. suc (length ls)) (joined_layers l.strand.phase l.strand r.strand).1

-- with other values of its reducers it is fit
pub valued_fit : (kinds : List Kind) (ws : List Worth) (p q : PlainPiece) → q ≡ valued ws p → IsFit kinds p → IsFit kinds q
valued_fit kinds ws p q e h = subst (IsFit kinds) (sym e) h

pub valued_layers : (ws : List Worth) (p q : PlainPiece) → q ≡ valued ws p → layers_of q ≡ layers_of p
valued_layers ws p q e = ap layers_of e

-- the right one has one layer
waits_one : (st : State) (ls : List PlainLayer) → waits st ≡ true → HasOneLayerAs st ls → ls ≡ []
waits_one (Held w) ls e h = absurd cc
waits_one Ended ls e h = absurd cc
waits_one Stalled ls e h = h
waits_one Faulted ls e h = h
waits_one Finished ls e h = h

middle_true : (a b c : Bool) → (a && b && c) ≡ true → b ≡ true
middle_true true true c e = refl
middle_true true false c e = absurd cc
middle_true false true c e = absurd cc
middle_true false false c e = absurd cc

pub right_one : (l r : PlainPiece) → may_fold l r ≡ true → HasOneLayer r → r.strand.lower ≡ []
right_one l r e h = waits_one r.state r.strand.lower (middle_true (done l.state) (waits r.state) (may_join_at l.strand.phase l r) e) h
