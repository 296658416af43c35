use Rattle.std.proofs.Common.{ap, sym, ◌∙◌}
use Rattle.record_numbers.specs.Stale.{number_by}
use Rattle.record_theory.specs.Counts.{how_many}
use Rattle.record_theory.specs.Same.{same_note}
use Rattle.rerun_records.proofs.telling.told_next.Goals as goal

pub returns-in-Some : goal.returns-in-Some
returns-in-Some c =
    let number = c.args.number in
    record {
      settled = c.requires.settled;
      told = λ tables before known.
          c.number_after.ensures.after
          ∙ ap (λ k. number_by number k 0) (sym (c.in-Some.ensures.lost tables before known))
          ∙ ap (λ k. number_by number (how_many same_note c.args.edit.now.lost.now c.args.reads.now) k) (sym (c.in-Some.ensures.won tables before known));
    }
