use Rattle.source_tree.specs.Source.{source}
use Rattle.procedure_parser.proofs.Counts.{text_bodies}
use Rattle.procedure_parser.proofs.text.parse.Goals as goal
use Rattle.token_scanner.specs.Scanning.{longest_text}

pub lower-requires : goal.lower-requires
lower-requires c =
    let found = c.in-Ok.ensures.found in
    rw c.deref.ensures.value (text_bodies c.args.text.now (source c.in-Ok.declarations.items) longest_text found.0 found.1)
