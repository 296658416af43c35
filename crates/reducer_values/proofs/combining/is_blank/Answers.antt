use Rattle.std.proofs.Common.{◌≡◌, [], sym, subst}
use Rattle.std.specs.Prelude.{All}
use Rattle.monoid_laws.specs.Kinds.{meaning}
use Rattle.reducer_values.specs.Forms.{IsBlank}
use Rattle.reducer_values.proofs.JoinedPieces.{joined_blank, blank_joined, merged_blank, blank_merged}
use Rattle.reducer_values.proofs.combining.is_blank.Goals as goal

pub returns-in-Pieces : goal.returns-in-Pieces
returns-in-Pieces c = (
  λ t. subst (λ v. IsBlank (meaning v)) (sym c.in-Pieces.is) (joined_blank (λ p. p.items) c.in-Pieces.pieces.items (subst (λ l. All (λ p. p.items ≡ []) l) c.deref.ensures.value (c.all_empty.ensures.0 t))),
  λ b. c.all_empty.ensures.1 (subst (λ l. All (λ p. p.items ≡ []) l) (sym c.deref.ensures.value) (blank_joined (λ p. p.items) c.in-Pieces.pieces.items (subst (λ v. IsBlank (meaning v)) c.in-Pieces.is b))),
)

pub returns-in-HistPieces : goal.returns-in-HistPieces
returns-in-HistPieces c = (
  λ t. subst (λ v. IsBlank (meaning v)) (sym c.in-HistPieces.is) (merged_blank (λ p. p.items) c.in-HistPieces.pieces.items (subst (λ l. All (λ p. p.items ≡ []) l) c.deref-in-HistPieces.ensures.value (c.all_empty-in-HistPieces.ensures.0 t))),
  λ b. c.all_empty-in-HistPieces.ensures.1 (subst (λ l. All (λ p. p.items ≡ []) l) (sym c.deref-in-HistPieces.ensures.value) (blank_merged (λ p. p.items) c.in-HistPieces.pieces.items (subst (λ v. IsBlank (meaning v)) c.in-HistPieces.is b))),
)
