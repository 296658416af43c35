use Rattle.std.proofs.Common.{ap, sym, ◌∙◌}
use Rattle.meaning.specs.Strands.{Book}
use Rattle.strand_lines.specs.Lines.{is_unused}
use Rattle.strand_list.proofs.Numbered.{none_under}
use Rattle.strand_list.proofs.Steps.{unused_reverse}
use Rattle.strand_list.proofs.page.Page.is_unused.Goals as goal

pub returns-then-newest-eq0 : goal.returns-then-newest-eq0
returns-then-newest-eq0 c = record {
  unused = sym (none_under c.args.place.now c.self.inside.split_off c.self.inside.numbers.numbers c.number_of.result c.newest.result c.self.invariant c.number_of.ensures.number c.newest.ensures.newest c.if-newest-eq0.true)
      ∙ sym (unused_reverse c.args.place.now c.self.inside.split_off) ∙ ap (λ (b : Book). is_unused c.args.place.now b.split_off) c.self.view_is;
}

pub returns : goal.returns
returns c = record {
  unused = c.is_unused.ensures.unused ∙ sym (unused_reverse c.args.place.now c.self.inside.split_off) ∙ ap (λ (b : Book). is_unused c.args.place.now b.split_off) c.self.view_is;
}
