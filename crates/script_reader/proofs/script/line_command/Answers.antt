use Rattle.std.proofs.Common.{◌∙◌, sym}
use Rattle.script_reader.proofs.Shown.{shown_words}
use Rattle.script_reader.proofs.script.line_command.Goals as goal

pub words_command-requires : goal.words_command-requires
words_command-requires c = rw c.requires (shown_words c.args.line.now (sym c.is_all_shown.ensures ∙ c.if-not-is_all_shown.false))
