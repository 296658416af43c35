use Rattle.std.proofs.Common.{◌≡◌, ◌<◌, ap, ◌∙◌, subst, length}
use Rattle.strand_list.specs.Pages.{shown, position}
use Rattle.strand_list.proofs.Lists.{take_out_at, take_out_missing}
use Rattle.strand_list.proofs.lines.take_out.Goals as goal

pub returns-in-Some : goal.returns-in-Some
returns-in-Some c = record {
  removes = ap shown c.remove-place.ensures.items ∙ take_out_at c.args.place.now c.args.lines.now.items c.in-Some.k
      (c.in-Some.ensures.0 ∙ ap (λ xs. position c.args.place.now (shown xs)) c.deref.ensures.value) (subst (λ xs. c.in-Some.k < length xs) c.deref.ensures.value c.in-Some.ensures.1);
}

pub returns-in-None : goal.returns-in-None
returns-in-None c = record {
  removes = take_out_missing c.args.place.now c.args.lines.now.items (subst (λ xs. position c.args.place.now (shown xs) ≡ length xs) c.deref.ensures.value c.in-None.ensures);
}
