use Rattle.std.proofs.Common.{◌≡◌, ◌<◌, ap, ◌∙◌, subst, length}
use Rattle.strand_list.specs.Pages.{shown, position}
use Rattle.strand_list.proofs.Lists.{set_state_at, set_state_missing}
use Rattle.numbered_runs.specs.Named.{named_state}
use Rattle.strand_list.proofs.lines.set_state.Goals as goal

pub returns-in-Some : goal.returns-in-Some
returns-in-Some c = record {
  becomes = set_state_at c.args.place.now c.args.lines.now.items c.in-Some.k c.index_mut.result.now (record { place = c.index_mut.result.now.place; state = c.args.state })
      (c.in-Some.ensures.0 ∙ ap (λ xs. position c.args.place.now (shown xs)) c.deref.ensures.value) (subst (λ xs. c.in-Some.k < length xs) c.deref.ensures.value c.in-Some.ensures.1)
      (ap (λ l. l.place) c.index_mut.ensures.value);
}

pub returns-in-None : goal.returns-in-None
returns-in-None c = record {
  becomes = set_state_missing (named_state c.args.state) c.args.place.now c.args.lines.now.items (subst (λ xs. position c.args.place.now (shown xs) ≡ length xs) c.deref.ensures.value c.in-None.ensures);
}
