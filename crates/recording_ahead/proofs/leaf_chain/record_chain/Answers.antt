use Rattle.std.proofs.Common.{◌++◌, ◌∷◌, [], List, length, suc, reverse, ap, ◌∙◌, subst, sym}
use Rattle.std.proofs.lemmas.List.{reverse-append}
use Rattle.record_theory.specs.Named.{HaveValues}
use Rattle.positions.specs.Layers.{PlainLayer}
use Rattle.positions.specs.Strands.{PlainStrand}
use Rattle.activations.specs.Given.{lent}
use Rattle.own_statements.specs.Leaves.{AreLeaves, no_leaf, plain_leaf}
use Rattle.recording_ahead.proofs.leaf_chain.record_chain.Goals as goal

pub returns-then-is_err-clause-leaves : goal.returns-then-is_err-clause-leaves
returns-then-is_err-clause-leaves g c =
    let m : PlainStrand = c.args.machine.now in
    subst (λ (s : PlainStrand). AreLeaves (lent c.args.setting) (plain_leaf c.args.first) m.layer m.tally 0 s.layer s.tally) (sym c.machine.view_is) no_leaf

pub returns-in-Ok-clause-values : goal.returns-in-Ok-clause-values
returns-in-Ok-clause-values g c h =
    c.record_own-recorded.ensures.values (subst (λ (s : PlainStrand). HaveValues c.args.setting.program.now.kinds s.tally.made) (sym c.machine.view_is) h)

pub returns-in-Err-clause-values : goal.returns-in-Err-clause-values
returns-in-Err-clause-values g c h =
    c.record_own-recorded.ensures.values (subst (λ (s : PlainStrand). HaveValues c.args.setting.program.now.kinds s.tally.made) (sym c.machine.view_is) h)

pub returns-in-Err-clause-refused : goal.returns-in-Err-clause-refused
returns-in-Err-clause-refused g c =
    let r : PlainLayer = c.record_own-recorded.new.layer in
    record {
      below = r;
      lower = ap (λ (ls : List PlainLayer). reverse ls) (c.put_above.ensures.put ∙ ap (λ (ls : List PlainLayer). ls ++ r ∷ []) c.reserve.ensures.items)
          ∙ reverse-append c.machine.inside.lower.items (r ∷ []) ∙ ap (λ (s : PlainStrand). r ∷ s.lower) c.machine.view_is;
      below_kinds = c.record_own-recorded.ensures.kinds ∙ ap (λ (s : PlainStrand). s.layer.kinds) c.machine.view_is;
      kinds = c.put_above.ensures.kinds ∙ c.record_own-recorded.ensures.kinds ∙ ap (λ (s : PlainStrand). s.layer.kinds) c.machine.view_is;
      opened = c.in-Err.ensures.left_open ∙ ap (λ (s : PlainStrand). suc (length s.tally.opened)) c.machine.view_is;
      phase = ap (λ (s : PlainStrand). s.phase) c.machine.view_is;
    }
