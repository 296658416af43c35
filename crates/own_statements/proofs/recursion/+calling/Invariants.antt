use Rattle.std.proofs.Common.{◌≡◌, ◌+◌, ◌-◌, ◌*◌, [], List, length}
use Rattle.meaning.specs.Tables.{Tables}
use Rattle.record_theory.specs.Record.{PlainRecord}
use Rattle.positions.specs.declared.work.Work.TheVariants.{Block}
use Rattle.positions.specs.Activations.{first_of, made}
use Rattle.positions.specs.Layers.{PlainLayer}
use Rattle.positions.specs.Setting.{setting_with}
use Rattle.own_statements.specs.Recursion.{Comes, deep}
use Rattle.own_statements.proofs.recursion.+calling.Given as goal

abbrev pub invariant-value_of-loop-index : goal.invariant-value_of-loop-index
invariant-value_of-loop-index l = record {
  size : length l.slots ≡ length l.fn.slots;
  come : (tables : Tables) (records : List PlainRecord) (m : PlainLayer)
      → Comes (setting_with l.program tables [] records) (made l.own.procedure l.fn.slots (Block (first_of 0)) l.own.left) (deep l.own.procedure l.fn.least m) l.own.procedure l.slots
      (record { block = 0; index = l.index }) (deep l.own.procedure l.least m);
}

abbrev pub decreases-value_of-loop-index : goal.decreases-value_of-loop-index
decreases-value_of-loop-index l = length l.own.body.now - l.index

abbrev pub decreases-value_of : goal.decreases-value_of
decreases-value_of l = l.own.left * 2 + 1

abbrev pub decreases-called : goal.decreases-called
decreases-called l = l.own.left * 2
