-- A right neighbour that isn't broken.
use Rattle.std.proofs.Common.{◌≡◌, ℤ, refl, sym, subst}
use Rattle.positions.specs.declared.phase.Fault.{Fault}
use Rattle.positions.specs.declared.phase.Phase.{Phase}
use Rattle.positions.specs.declared.phase.Phase.TheVariants.{Entering, Running, AtSpawn, Returning, Leaving, Broken}
use Rattle.positions.specs.Moves.{FoldsViews}

pub folds : (ph right : Phase) (v : ℤ) → ph ≡ Leaving v → ((f : Fault) → right ≡ Broken f → ⊥) → FoldsViews ph right
folds ph right v e n = subst (λ p. FoldsViews p right) (sym e) (folds_by right n) where
  folds_by : (right : Phase) → ((f : Fault) → right ≡ Broken f → ⊥) → FoldsViews (Leaving v) right
  folds_by (Broken f) n = n f refl
  folds_by Entering n = tt
  folds_by Running n = tt
  folds_by AtSpawn n = tt
  folds_by (Returning w) n = tt
  folds_by (Leaving w) n = tt
