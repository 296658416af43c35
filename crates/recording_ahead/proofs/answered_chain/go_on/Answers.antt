use Rattle.std.proofs.Common.{◌-◌, ◌∷◌, [], List, Bool, Option, subst, sym, ap}
use Rattle.meaning.specs.Elision.{depth_limit}
use Rattle.record_theory.specs.Record.{PlainRecord}
use Rattle.record_theory.specs.Named.{HaveValues}
use Rattle.rerun_records.specs.declared.batch.Batch.{Batch}
use Rattle.rerun_records.specs.Sums.{IsBatchFor}
use Rattle.positions.specs.Layers.{PlainLayer}
use Rattle.positions.specs.Strands.{PlainStrand}
use Rattle.recording_ahead.specs.AnsweredChains.{IsRefusedBy, answered}
use Rattle.own_statements.specs.Leaves.{plain_leaf}
use Rattle.recording_ahead.proofs.answered_chain.go_on.Goals as goal

pub take_on-requires-clause-batch : goal.take_on-requires-clause-batch
take_on-requires-clause-batch g c κs within =
    let S = c.args.setting in
    let f = plain_leaf c.args.leaf in
    let b : Batch = c.in-Some.batch in
    subst (λ (k : Bool). IsBatchFor k S.program.now S.tables.now.tables (depth_limit - f.left) S.records.now f.callee (f.number ∷ []) 0 c.args.ahead.most b.count b.sum.now)
    c.keeps_reads-keeps.ensures.keeps c.in-Some.ensures.batch

pub returns-in-Ok-clause-passed : goal.returns-in-Ok-clause-passed
returns-in-Ok-clause-passed g c = answered c.in-Ok.ensures.taken

pub returns-in-Err-clause-refused : goal.returns-in-Err-clause-refused
returns-in-Err-clause-refused g c =
    subst (λ (o : Option PlainLayer). IsRefusedBy o c.args.machine.now c.take_on.new.machine) (sym c.requires.blank)
    (record {
      lower = ap (λ (s : PlainStrand). s.lower) c.take_on.ensures.others;
      kinds = c.take_on.ensures.kinds;
      opened = c.take_on.ensures.opened;
      phase = ap (λ (s : PlainStrand). s.phase) c.take_on.ensures.others;
    })

pub returns-in-Ok-clause-values : goal.returns-in-Ok-clause-values
returns-in-Ok-clause-values g c h = subst (λ (rs : List PlainRecord). HaveValues c.args.setting.program.now.kinds rs) (sym c.take_on.ensures.made) h

pub returns-in-Err-clause-values : goal.returns-in-Err-clause-values
returns-in-Err-clause-values g c h = subst (λ (rs : List PlainRecord). HaveValues c.args.setting.program.now.kinds rs) (sym c.take_on.ensures.made) h
