use Rattle.linked_program.specs.Checked.{IsChecked}
use Rattle.numbered_runs.proofs.ready.are_ready.Goals as goal

pub returns-clause-ready : goal.returns-clause-ready
returns-clause-ready c kept sound =
    let checked : IsChecked c.args.program.now = record {
      clean = c.clean.ensures.clean;
      linked = c.linked.ensures.codes;
      kinds_are = c.linked.ensures.kinds;
      initials_are = c.linked.ensures.initials;
      main_is = c.linked.ensures.main;
      each = c.revised.ensures.each;
      below = c.revised.ensures.below;
    } in
    record {
      rules = c.checked_programs_keep_the_rules.ensures.kept c.args.program.now checked;
      monoids = c.checked_programs_keep_the_rules.ensures.monoids c.args.program.now checked;
      numbers = c.fitting.ensures.numbers;
      cells = c.cells_fit.ensures.fit;
      sound = sound;
    }
