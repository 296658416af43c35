use Rattle.std.proofs.Common.{ap, ◌∙◌, ◌&&◌, ◌≡◌, true, subst, sym}
use Rattle.meaning.specs.Strands.{Book, Held, becomes}
use Rattle.strand_list.specs.Pages.{removes}
use Rattle.strand_list.proofs.Steps.{fold_taken}
use Rattle.strand_list.proofs.page.Page.become_one.Goals as goal

pub returns : goal.returns
returns c = record {
  taken = fold_taken c.args.self.now _ c.args.left.now c.args.right.now c.args.worker c.requires.apart c.requires.may
      (c.set_state.ensures.becomes ∙ ap (λ ls. becomes (Held c.args.worker) ls c.args.left.now) (c.take_out-over.ensures.removes ∙ ap (λ (b : Book). removes b.lines c.args.right.now) c.self.view_is))
      (ap (λ (b : Book). b.split_off) c.self.view_is);
}
