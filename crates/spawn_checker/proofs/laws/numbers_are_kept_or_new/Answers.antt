use Rattle.std.proofs.Common.{refl}
use Rattle.meaning.specs.Edits.{revised}
use Rattle.linked_program.specs.Checked.{revised_of}
use Rattle.spawn_checker.proofs.NewNumbers.{kept_or_new, revised_below}
use Rattle.spawn_checker.proofs.laws.numbers_are_kept_or_new.Goals as goal

pub returns : goal.returns
returns c =
    let old = revised_of c.args.old.now in
    record {
      kept_or_new = λ t. kept_or_new old t old.counter;
      below = λ t. revised_below old c.revised.ensures.each c.revised.ensures.below t (revised old t old.counter).0 (revised old t old.counter).1 refl;
    }
