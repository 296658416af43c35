use Rattle.std.proofs.Common.{ap, map, sym, subst, ◌∙◌}
use Rattle.instance_records.specs.declared.readings.Below.{out-Below}
use Rattle.instance_records.specs.Readings.{node_notes}
use Rattle.evaluation.specs.Short.{note_of}
use Rattle.instance_records.specs.Full.{IsFull}
use Rattle.instance_records.specs.Spans.{span_of, put_spans}
use Rattle.instance_records.proofs.MoreRows.{below_full}
use Rattle.instance_records.proofs.NodeNotes.{still_covered, alone_covered, on_ok}
use Rattle.instance_records.proofs.below.put_part.Goals as goal

pub returns-in_ok-put_node-in-Some-clause-full : goal.returns-in_ok-put_node-in-Some-clause-full
returns-in_ok-put_node-in-Some-clause-full c =
    subst (λ b. IsFull (node_notes c.args.node.now) (out-Below b).full) (sym c.deref.ensures) (below_full c.args.node.now c.in-Some.below c.in-Some.is c.requires.full)

pub returns-in-None-clause-kept : goal.returns-in-None-clause-kept
returns-in-None-clause-kept c = on_ok c.put_lines.result (λ e. still_covered c.args.spans.now.items c.put_lines.new.spans.items (map span_of c.as_slice.result.now) e) c.put_lines.ensures.put

pub returns-in-None-clause-put : goal.returns-in-None-clause-put
returns-in-None-clause-put c =
    on_ok c.put_lines.result
    (λ e. alone_covered c.args.node.now c.args.spans.now.items c.put_lines.new.spans.items (e ∙ ap (λ rs. put_spans c.args.spans.now.items (map span_of rs)) c.as_slice.ensures.items) c.in-None.is)
    c.put_lines.ensures.put
