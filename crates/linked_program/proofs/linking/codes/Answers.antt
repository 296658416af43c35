use Rattle.std.proofs.Common.{map}
use Rattle.meaning.specs.TreeView.{decl}
use Rattle.linked_program.specs.TableNames.{columned}
use Rattle.linked_program.specs.Procedures.{procedures}
use Rattle.linked_program.proofs.Hinted.{same_codes}
use Rattle.linked_program.proofs.linking.codes.Goals as goal

pub returns : goal.returns
returns c =
    let t = map decl c.args.declarations.now in
    record {
      codes = same_codes (map columned c.args.tables.now) t c.in_ok-made.made.items c.give_hints.new.codes.items (procedures t) c.in_ok-give_hints.ensures.same c.in_ok-made.ensures.codes;
    }
