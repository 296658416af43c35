use Rattle.std.proofs.Common.{◌≤◌, arith}
use Rattle.meaning.specs.TreeView.{tree, lines}
use Rattle.linked_program.specs.TableNames.{columned_of}
use Rattle.meaning.specs.Edits.{most}
use Rattle.linked_program.specs.Checked.{IsChecked, revised_of}
use Rattle.trail_theory.proofs.Contributions.{records_later}
use Rattle.checked_defines.proofs.Definitions.{is_defined, is_refused, is_later, kinds_stay, keeps_places}
use Rattle.checked_defines.proofs.defining.in_place.Goals as goal

old_is : (c : goal.After-counter) → IsChecked c.args.checked.now
old_is c = record {
  clean = c.clean.ensures.clean;
  linked = c.linked.ensures.codes;
  kinds_are = c.linked.ensures.kinds;
  initials_are = c.linked.ensures.initials;
  main_is = c.linked.ensures.main;
  each = c.revised.ensures.each;
  below = c.revised.ensures.below;
}

pub returns-in-Ok-clause-defined : goal.returns-in-Ok-clause-defined
returns-in-Ok-clause-defined c =
    let fits : c.in-Ok.new.counter ≤ most = let n = c.counter.type_inv in let is = c.counter.ensures.counter in omega (arith, n, is) in
    is_defined c.args.checked.now c.args.tables.now c.args.program c.in-Ok.new c.in-Ok.ensures.clean c.in-Ok.ensures.program c.in-Ok.ensures.revisions fits

pub returns-in-Ok-clause-later : goal.returns-in-Ok-clause-later
returns-in-Ok-clause-later c =
    is_later c.args.checked.now (old_is c) c.args.program c.requires.put c.in-Ok.new c.in-Ok.ensures.program c.in-Ok.ensures.revisions

pub returns-in-Ok-clause-sound : goal.returns-in-Ok-clause-sound
returns-in-Ok-clause-sound c =
    let later = is_later c.args.checked.now (old_is c) c.args.program c.requires.put c.in-Ok.new c.in-Ok.ensures.program c.in-Ok.ensures.revisions in
    records_later (revised_of c.args.checked.now) (revised_of c.in-Ok.new) later

pub returns-in-Ok-clause-kinds : goal.returns-in-Ok-clause-kinds
returns-in-Ok-clause-kinds c =
    kinds_stay c.args.checked.now (old_is c) c.args.program c.requires.put c.in-Ok.new c.in-Ok.ensures.program c.linked-in-Ok.ensures.kinds

pub returns-in-Ok-clause-places : goal.returns-in-Ok-clause-places
returns-in-Ok-clause-places c =
    keeps_places c.args.checked.now (old_is c) c.args.program c.requires.put c.in-Ok.new (columned_of c.args.tables.now.tables) c.in-Ok.ensures.clean c.in-Ok.ensures.program

pub returns-in-Err-clause-refused : goal.returns-in-Err-clause-refused
returns-in-Err-clause-refused c =
    rw c.unchecked.ensures (is_refused c.args.checked.now c.args.tables.now (tree c.args.program) (lines c.args.program) c.in-Err.error c.in-Err.ensures.refused)
