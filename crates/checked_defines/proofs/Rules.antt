-- The checker finds what the rules say.
use Rattle.std.proofs.Common.{◌≡◌, List, [], Option, Some, None, option_map, refl, sym, ap}
use Rattle.meaning.specs.Tree.{Tree}
use Rattle.meaning.specs.TreeView.{Lined}
use Rattle.meaning.specs.Tables.{Tables}
use Rattle.meaning.specs.Edits as edits
use Rattle.linked_program.specs.declared.violation.Violation.{Violation}
use Rattle.linked_program.specs.TableNames.{columned_of}
use Rattle.linked_program.specs.Violations.{first_of}
use Rattle.linked_program.specs.First.{IsFirstOf}
use Rattle.linked_program.specs.Declarations.{violations}
use Rattle.linked_program.proofs.Least.{first_is_least}
use Rattle.spawn_checker.proofs.Counting.{nothing_violated}
use Rattle.checked_defines.specs.Readers.{violation_in, IsFoundIn, checks_rules, ChecksRules}

none_of : (program : Tree) (o : Option Violation) → option_map (violation_in program) o ≡ None → o ≡ None
none_of program None e = refl
none_of program (Some v) e = absurd cc

found_by : (vs : List Violation) (program : Tree) (o : Option Violation) (found : edits.Violation) → IsFirstOf vs o → option_map (violation_in program) o ≡ Some found → IsFoundIn vs program found
found_by vs program None found f e = absurd cc
found_by vs program (Some v) found f e = let is : violation_in program v ≡ found = cc in (v, f, sym is)

module _ (program : Tree) (lines : List Lined) (tables : Tables) where
  abbrev found_in : List Violation
  found_in = violations (columned_of tables) program lines

  pub nothing_found : found_in ≡ [] → checks_rules program lines tables ≡ None
  unfolding checks_rules
  nothing_found e = ap (λ (vs : List Violation). option_map (violation_in program) (first_of vs)) e

  pub is_clean : checks_rules program lines tables ≡ None → found_in ≡ []
  unfolding checks_rules
  is_clean e = nothing_violated found_in (none_of program (first_of found_in) e)

  pub is_found : (v : edits.Violation) → checks_rules program lines tables ≡ Some v → IsFoundIn found_in program v
  unfolding checks_rules
  is_found v e = found_by found_in program (first_of found_in) v (first_is_least found_in) e

pub checks : ChecksRules checks_rules
checks = record {
  clean = λ program lines tables. (is_clean program lines tables, nothing_found program lines tables);
  first = is_found;
}
