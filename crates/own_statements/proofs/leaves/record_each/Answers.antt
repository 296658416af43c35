use Rattle.std.proofs.Common.{◌≡◌, ◌∷◌, [], ◌-◌, ◌<◌, rules, ℕ, suc, List, None, length, true, refl, ap, ◌∙◌, subst, sym, add-one}
use Rattle.meaning.specs.Elision.{depth_limit}
use Rattle.linked_program.specs.declared.code.Instruction.{Instruction}
use Rattle.positions.specs.Advance.{record_for}
use Rattle.positions.specs.Tallies.{PlainOpened, PlainTally}
use Rattle.activations.specs.Given.{lent}
use Rattle.own_statements.specs.Runs.{IsBody}
use Rattle.own_statements.specs.Leaves.{AreLeaves, IsLeaf, PlainLeaf, leaf_behind, no_leaf, one_behind, plain_leaf}
use Rattle.own_statements.proofs.LeavesOpened.{leaves_opened}
use Rattle.own_statements.proofs.leaves.record_each.Goals as goal

pub loop-done-init : goal.loop-done-init
loop-done-init g c = record { leaves = no_leaf; blank = c.requires.blank; kinds = refl; values = λ h. h }

pub record_in-requires-clause-body : goal.record_in-requires-clause-body
record_in-requires-clause-body g c κs within =
    let codes = c.args.setting.program.now.codes in
    let here : IsBody codes c.args.leaves.first.callee c.in-Some.leaf.body.now =
    subst (λ (xs : List Instruction). IsBody codes c.args.leaves.first.callee xs) (sym c.in-Some.ensures.body) c.requires.body in
    subst (λ (q : PlainLeaf). IsBody codes q.callee c.in-Some.leaf.body.now) (sym c.in-Some.ensures.leaf) here

pub record_in-requires-clause-unknown : goal.record_in-requires-clause-unknown
record_in-requires-clause-unknown g c κs within =
    let below : c.loop-done.done < c.args.leaves.most = search rules in
    subst (λ (q : PlainLeaf). record_for (lent c.args.setting) (depth_limit - q.left) q.callee (q.number ∷ []) ≡ None) (sym c.in-Some.ensures.leaf) (c.requires.unknown c.loop-done.done below)

pub returns-then-is_err-clause-leaves : goal.returns-then-is_err-clause-leaves
returns-then-is_err-clause-leaves g c =
    let S = lent c.args.setting in
    let f : PlainLeaf = plain_leaf c.args.leaves.first in
    let d = c.loop-done.done in
    let is_done : c.in-Ok-true.field-0 ≡ true = search rules in
    let leaf : IsLeaf S (leaf_behind d f) c.loop-done.layer c.loop-done.tally c.record_in.new.layer c.record_in.new.tally =
    subst (λ (q : PlainLeaf). IsLeaf S q c.loop-done.layer c.loop-done.tally c.record_in.new.layer c.record_in.new.tally) c.in-Some.ensures.leaf (c.in-Ok-true.ensures.leaf is_done) in
    subst (λ (k : ℕ). AreLeaves S f c.args.layer.now c.args.tally.now k c.record_in.new.layer c.record_in.new.tally) (sym (add-one d))
    (one_behind d c.loop-done.layer c.loop-done.tally c.record_in.new.layer c.record_in.new.tally c.loop-done.invariant.leaves leaf)

pub returns-then-is_err-clause-values : goal.returns-then-is_err-clause-values
returns-then-is_err-clause-values g c h = c.record_in.ensures.values (c.loop-done.invariant.values h)

pub returns-in-Ok-false-clause-values : goal.returns-in-Ok-false-clause-values
returns-in-Ok-false-clause-values g c h = c.record_in.ensures.values (c.loop-done.invariant.values h)

pub returns-in-Err-clause-left_open : goal.returns-in-Err-clause-left_open
returns-in-Err-clause-left_open g c =
    ap (λ (t : PlainTally). length t.opened) c.in-Err.ensures.opened
    ∙ ap (λ (os : List PlainOpened). suc (length os))
    (leaves_opened (lent c.args.setting) (plain_leaf c.args.leaves.first) c.loop-done.done c.args.layer.now c.loop-done.layer c.args.tally.now c.loop-done.tally c.loop-done.invariant.leaves)

pub loop-done-preserved : goal.loop-done-preserved
loop-done-preserved g c =
    let S = lent c.args.setting in
    let f : PlainLeaf = plain_leaf c.args.leaves.first in
    let d = c.loop-done.done in
    let is_done : c.in-Ok-true.field-0 ≡ true = search rules in
    let leaf : IsLeaf S (leaf_behind d f) c.loop-done.layer c.loop-done.tally c.record_in.new.layer c.record_in.new.tally =
    subst (λ (q : PlainLeaf). IsLeaf S q c.loop-done.layer c.loop-done.tally c.record_in.new.layer c.record_in.new.tally) c.in-Some.ensures.leaf (c.in-Ok-true.ensures.leaf is_done) in
    record {
      leaves = subst (λ (k : ℕ). AreLeaves S f c.args.layer.now c.args.tally.now k c.record_in.new.layer c.record_in.new.tally) (sym (add-one d))
          (one_behind d c.loop-done.layer c.loop-done.tally c.record_in.new.layer c.record_in.new.tally c.loop-done.invariant.leaves leaf);
      blank = search rules;
      kinds = c.record_in.ensures.kinds ∙ c.loop-done.invariant.kinds;
      values = λ h. c.record_in.ensures.values (c.loop-done.invariant.values h);
    }
