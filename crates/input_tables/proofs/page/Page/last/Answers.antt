use Rattle.std.proofs.Common.{sym, ap, ◌∙◌}
use Rattle.table_parts.specs.Ends.{last_of}
use Rattle.input_tables.specs.Rows.{numbers_of}
use Rattle.input_tables.proofs.Laid.{last_numbers, numbers_again}
use Rattle.input_tables.proofs.page.Page.last.Goals as goal

pub returns : goal.returns
returns c =
    let numbers = sym (numbers_again c.self.inside.width c.self.inside.numbers.items c.self.inside.cells.items) ∙ ap numbers_of c.self.view_is in
    c.last_number.ensures ∙ ap last_of c.deref.ensures.value ∙ ap last_of numbers ∙ last_numbers c.args.self.now
