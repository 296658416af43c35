use Rattle.std.proofs.Common.{◌≡◌, ◌<◌, List, ℕ, length, sym, subst, ◌∙◌}
use Rattle.meaning.specs.TreeView.{tree}
use Rattle.procedure_parser.specs.Correct.{IsSource}
use Rattle.program_printer.specs.Printing.{printed}
use Rattle.printing_theory.proofs.Round.{prints_again, collected_prints, reads_again, too_long}
use Rattle.printing_theory.proofs.again.print_and_parse.Goals as goal
use Rattle.token_scanner.specs.Scanning.{longest_text}

pub returns-clause-text : goal.returns-clause-text
returns-clause-text c = λ i h.
    let e : c.deref.result.now ≡ printed (tree c.args.program.now) = c.deref.ensures.value ∙ c.in_ok-text.ensures.printed in
    reads_again (tree c.args.program.now) (prints_again (tree c.args.program.now) i h) c.parse.result (λ s j. c.parse.ensures.only s (subst (λ (text : List ℕ). IsSource s text) (sym e) j))

pub returns-clause-texts : goal.returns-clause-texts
returns-clause-texts c = λ i h.
    let e : c.deref.result.now ≡ printed (tree c.args.program.now) = c.deref.ensures.value ∙ c.in_ok-text.ensures.printed in
    reads_again (tree c.args.program.now) (collected_prints (tree c.args.program.now) i h) c.parse.result (λ s j. c.parse.ensures.only s (subst (λ (text : List ℕ). IsSource s text) (sym e) j))

pub returns-clause-long : goal.returns-clause-long
returns-clause-long c = λ h.
    let e : c.deref.result.now ≡ printed (tree c.args.program.now) = c.deref.ensures.value ∙ c.in_ok-text.ensures.printed in
    too_long c.deref.result.now c.parse.result (subst (λ (text : List ℕ). longest_text < length text) (sym e) h) c.parse.ensures.found c.parse.ensures.fault
