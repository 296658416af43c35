-- A run's setting with sound records by name that its records stand for.
use Rattle.std.proofs.Common.{◌≡◌, Bool, List, sym, ap, subst}
use Rattle.meaning.specs.Schedules.{recording_from}
use Rattle.linked_program.specs.Checked.{PlainChecked}
use Rattle.input_tables.specs.Edited.{Edited}
use Rattle.record_theory.specs.Record.{PlainRecord}
use Rattle.record_theory.specs.Named.{AreKept, AreRecords}
use Rattle.positions.specs.Setting.{Setting, setting_with}
use Rattle.positions.specs.Advance.{advanced}
use Rattle.positions.specs.Strands.{PlainStrand}
use Rattle.activations.specs.Given.{setting_over}
use Rattle.answered_loops.proofs.Memories.{advanced_same}
use Rattle.right_strands.specs.Picked.{IsSet}
use Rattle.right_strands.specs.Remembering.{Remembers, recalling}

-- a small step by numbers looks at no record by name
pub advanced_with : (setting : Setting) (k : Remembers setting) (kit : Bool) (s : PlainStrand) → advanced setting kit s ≡ advanced (recalling setting k) kit s
advanced_with setting k kit s = advanced_same setting (recording_from k.kept) kit s

module _ (setting : Setting) (p : PlainChecked) (e : Edited) (r : List PlainRecord) (set : IsSet setting p e r) where
  -- by the run's setting the step is the same
  pub advanced_is : (kit : Bool) (s : PlainStrand) → advanced (setting_over p e r) kit s ≡ advanced setting kit s
  advanced_is kit s = ap (λ (i : Setting). advanced i kit s) set.same

  module _ (k : Remembers setting) where
    pub set_with : setting_with p e.tables k.kept r ≡ recalling setting k
    set_with = ap (λ (i : Setting). record i { memory = recording_from k.kept }) set.same

    pub kept_with : AreKept p k.kept r
    kept_with = subst (λ (i : Setting). AreRecords i.program.tree i.names i.kinds k.kept i.records) (sym set.same) k.stand
