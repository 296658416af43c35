use Rattle.std.proofs.Common.{◌∙◌, ap}
use Rattle.clap.specs.Simple.{app_of_fields}
use Rattle.command_line.specs.Line.{with_version}
use Rattle.command_line.proofs.line.named.Goals as goal

pub returns : goal.returns
returns c = ap app_of_fields c.version.ensures ∙ ap with_version c.new.ensures.app
