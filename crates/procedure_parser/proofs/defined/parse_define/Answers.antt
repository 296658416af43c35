use Rattle.meaning.specs.TreeView.{tree}
use Rattle.source_tree.specs.Source.{source}
use Rattle.token_readers.specs.Rooms.{room_of}
use Rattle.procedure_parser.proofs.Counts.{definition_bodies}
use Rattle.procedure_parser.proofs.defined.parse_define.Goals as goal
use Rattle.token_scanner.specs.Scanning.{longest_text}

pub with_procedures-requires : goal.with_procedures-requires
with_procedures-requires c =
    let found = c.in-Ok.ensures.found in
    rw c.deref.ensures.value (definition_bodies (room_of (tree c.args.program.now)) c.args.text.now (source c.in-Ok.procedures.items) longest_text found.0 found.1)
