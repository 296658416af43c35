-- What is known, and lines, after one step more.
use Rattle.std.proofs.Common.{◌≡◌, ℕ, false, List, [], ◌∷◌, ◌++◌, slice_get, ap, sym, ◌∙◌, append_assoc, append-nil}
use Rattle.meaning.specs.declared.tree.Block.{Block}
use Rattle.meaning.specs.TreeView.{block_lines, statement_lines}
use Rattle.linked_program.specs.declared.knowledge.Moment.{Moment}
use Rattle.linked_program.specs.declared.knowledge.Knowledge.{Knowledge}
use Rattle.linked_program.specs.declared.knowledge.Knowledge.TheVariants.{Ended, Known}
use Rattle.linked_program.specs.Scope.{Scope, is_known, told, bound, looped}
use Rattle.single_rules.proofs.Lists.{slice_set_twice}

pub block_lines_more : (xs : List Block) (b : Block) → block_lines (xs ++ b ∷ []) ≡ block_lines xs ++ statement_lines b.statements.items
block_lines_more [] b = append-nil (statement_lines b.statements.items)
block_lines_more (x ∷ xs) b = ap (λ ls. statement_lines x.statements.items ++ ls) (block_lines_more xs b) ∙ sym (append_assoc (statement_lines x.statements.items) (block_lines xs) (statement_lines b.statements.items))

abbrev with_names : Scope → List Knowledge → Scope
with_names scope ks = record { names = ks; synced = scope.synced; spawned = scope.spawned; read = scope.read }

-- a variable that wasn't known is known in the loop's arguments alone
pub ended_again : (now : Moment) (scope : Scope) (x : ℕ) → is_known (slice_get scope.names x) ≡ false → told (bound now false scope x) x Ended ≡ looped scope x
ended_again now scope x e = rw e (ap (λ ks. with_names scope ks) (slice_set_twice scope.names x (Known now false) Ended))
