-- Layers of most leaves.
use Rattle.std.proofs.Common.{◌≡◌, ◌++◌, ◌∷◌, [], ◌∙◌, List, ap, true, nat_eq, length, suc, sym, arith}
use Rattle.std.proofs.lemmas.Bool.Decides.{Decides-eqb}
use Rattle.std.proofs.lemmas.List.{append-nil}
use Rattle.evaluation.specs.declared.note.Note.{Note}
use Rattle.instance_records.specs.Readings.{all_of}
use Rattle.positions.specs.Values.{once}

-- where nothing is shared, readings that are distinct are kept as they are
pub two_alone : (ns ms : List Note) (shared : List (List Note)) → ms ≡ ns → once ms ≡ ms → nat_eq (length shared) 0 ≡ true → once ns ++ all_of shared ≡ ns
two_alone ns ms [] e o n = append-nil (once ns) ∙ ap once (sym e) ∙ o ∙ e
two_alone ns ms (x ∷ shared) e o n = (let none : suc (length shared) ≡ 0 = (Decides-eqb (suc (length shared)) 0).0 n in absurd (omega (arith, none)))
