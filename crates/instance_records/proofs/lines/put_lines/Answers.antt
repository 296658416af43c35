use Rattle.std.proofs.Common.{sym, ap, ◌∙◌}
use Rattle.std.specs.Option.{option_copied}
use Rattle.instance_records.proofs.Runs.{put_first_twice}
use Rattle.instance_records.proofs.lines.put_lines.Goals as goal

pub put_lines_from-requires : goal.put_lines_from-requires
put_lines_from-requires c = record {
  first =
      put_first_twice c.args.own.now c.args.spans.now.items c.new.result c.in-Some.first.now c.new.ensures.span
      (sym c.first.ensures.value ∙ ap option_copied c.in-Some.is);
}
