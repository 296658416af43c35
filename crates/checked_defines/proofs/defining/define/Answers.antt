use Rattle.std.proofs.Common.{◌≡◌, ℕ, List, Result, Ok, IfOk, IfErr, sym, subst}
use Rattle.meaning.specs.Tree.{Tree}
use Rattle.meaning.specs.TreeView.{tree, lines, Lined}
use Rattle.meaning.specs.Edits.{defined_as}
use Rattle.procedure_parser.specs.Correct.{IsDefinitionFault}
use Rattle.procedure_parser.specs.Defined.{IsDefined}
use Rattle.checked_defines.specs.Readers.{checks_rules}
use Rattle.checked_defines.specs.Standings.{standing}
use Rattle.checked_defines.specs.Causes.{IsDefineCause}
use Rattle.checked_defines.proofs.Texts.{is_put}
use Rattle.checked_defines.proofs.Definitions.{is_unread}
use Rattle.checked_defines.proofs.defining.define.Goals as goal

pub returns-in-Ok-clause-defined : goal.returns-in-Ok-clause-defined
returns-in-Ok-clause-defined c =
    let old = c.args.checked.now in
    let found : IsDefined (tree old.program, lines old.program) c.args.text.now (tree c.in-Ok.program, lines c.in-Ok.program) = rw c.program.ensures.program at c.in-Ok.ensures.found in
    subst (λ (r : Result (Tree × List Lined) ℕ). IfOk c.in_place.result (λ new. defined_as checks_rules (standing old c.args.tables.now) r ≡ Ok (standing new c.args.tables.now)))
    (sym (is_put c.args.text.now (tree old.program, lines old.program) (tree c.in-Ok.program, lines c.in-Ok.program) found)) c.in_place.ensures.defined

pub returns-in-Ok-clause-refused : goal.returns-in-Ok-clause-refused
returns-in-Ok-clause-refused c =
    let old = c.args.checked.now in
    let found : IsDefined (tree old.program, lines old.program) c.args.text.now (tree c.in-Ok.program, lines c.in-Ok.program) = rw c.program.ensures.program at c.in-Ok.ensures.found in
    subst (λ (r : Result (Tree × List Lined) ℕ). IfErr c.in_place.result (λ error. IsDefineCause (defined_as checks_rules (standing old c.args.tables.now) r) error))
    (sym (is_put c.args.text.now (tree old.program, lines old.program) (tree c.in-Ok.program, lines c.in-Ok.program) found)) c.in_place.ensures.refused

pub returns-in-Err-clause-refused : goal.returns-in-Err-clause-refused
returns-in-Err-clause-refused c =
    let fault : IsDefinitionFault (tree c.args.checked.now.program) c.args.text.now c.in-Err.error = rw c.program.ensures.program at c.in-Err.ensures.fault in
    rw c.unread.ensures (is_unread c.args.checked.now c.args.tables.now c.args.text.now c.in-Err.error fault)
