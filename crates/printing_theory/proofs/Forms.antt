-- The normal form of a text.
use Rattle.std.proofs.Common.{◌≡◌, ℕ, ◌≤◌, List, length, sym, subst, ◌∙◌, ap}
use Rattle.meaning.specs.Tree.{Tree}
use Rattle.meaning.specs.TreeView.{Lined, tree}
use Rattle.token_scanner.specs.Scanning.{longest_text}
use Rattle.procedure_parser.specs.Correct.{IsText}
use Rattle.procedure_parser.proofs.OneMeaning.{one_tree}
use Rattle.program_printer.specs.Printing.{printed}
use Rattle.printing_theory.specs.Again.{HasTree}
use Rattle.printing_theory.specs.Normal.{IsNormalForm}
use Rattle.printing_theory.proofs.Round.{prints_again}

text_again : (program text : List ℕ) (t : Tree) (l : List Lined) → IsText program t l → text ≡ printed t → length text ≤ longest_text → HasTree text t
text_again program text t l is e h =
    subst (λ (xs : List ℕ). HasTree xs t) (sym e) (prints_again t (program, (l, is)) (subst (λ (xs : List ℕ). length xs ≤ longest_text) e h))

-- what is printed of a text's tree
pub formed : (program text : List ℕ) (t : Tree) (l : List Lined) → IsText program t l → text ≡ printed t → IsNormalForm program text
formed program text t l is e = record {
  is_program = (t, l, is);
  is_printed = λ u m other. e ∙ ap printed (one_tree program t u l m is other);
  is_same = λ u m other. text_again program text u m other (e ∙ ap printed (one_tree program t u l m is other));
}

pub again : (program text : List ℕ) → IsNormalForm program text → length text ≤ longest_text → IsNormalForm text text
again program text n h =
    let p = n.is_program in
    let same = n.is_same p.0 p.1 p.2 h in
    formed text text p.0 same.0 same.1 (n.is_printed p.0 p.1 p.2)
