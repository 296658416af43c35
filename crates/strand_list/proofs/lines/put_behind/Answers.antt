use Rattle.std.proofs.Common.{◌≡◌, ◌+◌, ◌<◌, ap, ◌∙◌, subst, length, refl, rules}
use Rattle.strand_list.specs.Pages.{shown, position}
use Rattle.strand_list.proofs.Lists.{put_behind_at, put_behind_missing}
use Rattle.numbered_runs.specs.declared.step.StrandLine.{StrandLine}
use Rattle.numbered_runs.specs.declared.step.State.TheVariants as state
use Rattle.std.specs.List.{insert}
use Rattle.strand_list.proofs.lines.put_behind.Goals as goal

pub returns-else-is_err : goal.returns-else-is_err
returns-else-is_err c =
    let l : StrandLine = record { place = c.args.new; state = state.Held c.args.thief } in
    let put : c.insert.new.self.items ≡ insert c.args.lines.now.items (c.in-Some.k + 1) l = search rules in
    record {
      splits = ap shown put ∙ put_behind_at c.args.victim.now c.args.lines.now.items c.in-Some.k c.args.thief l
          (c.in-Some.ensures.0 ∙ ap (λ xs. position c.args.victim.now (shown xs)) c.deref.ensures.value) (subst (λ xs. c.in-Some.k < length xs) c.deref.ensures.value c.in-Some.ensures.1) refl;
    }

pub returns-in-None : goal.returns-in-None
returns-in-None c = record {
  splits = put_behind_missing c.args.victim.now c.args.new.items c.args.thief c.args.lines.now.items (subst (λ xs. position c.args.victim.now (shown xs) ≡ length xs) c.deref.ensures.value c.in-None.ensures);
}
