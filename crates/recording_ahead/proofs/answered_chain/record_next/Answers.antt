use Rattle.std.proofs.Common.{◌≡◌, ◌≤◌, ◌<◌, ◌-◌, ◌+ℤ◌, ◌∷◌, [], ℕ, ℤ, None, pos, arith, sym, subst}
use Rattle.std.proofs.Math.IntN.{+ℤ_idr}
use Rattle.meaning.specs.Elision.{depth_limit}
use Rattle.positions.specs.Advance.{record_for}
use Rattle.positions.specs.Strands.{PlainStrand}
use Rattle.activations.specs.Given.{lent}
use Rattle.own_statements.specs.Leaves.{plain_leaf}
use Rattle.recording_ahead.proofs.AnsweredChains.{leaves_passed}
use Rattle.recording_ahead.proofs.Own.{none_kept, leaf_refused}
use Rattle.recording_ahead.proofs.answered_chain.record_next.Goals as goal

pub record_chain-requires-clause-unknown : goal.record_chain-requires-clause-unknown
record_chain-requires-clause-unknown g c κs within = λ i below.
    let none : 0 ≡ i = omega (arith, below) in
    subst (λ (k : ℕ). record_for (lent c.args.setting) (depth_limit - c.args.leaf.left) c.args.leaf.callee ((c.args.leaf.number +ℤ pos k) ∷ []) ≡ None) none
    (subst (λ (z : ℤ). record_for (lent c.args.setting) (depth_limit - c.args.leaf.left) c.args.leaf.callee (z ∷ []) ≡ None) (sym (+ℤ_idr c.args.leaf.number)) c.requires.unknown)

pub returns-in-Ok-clause-passed : goal.returns-in-Ok-clause-passed
returns-in-Ok-clause-passed g c =
    let m : PlainStrand = c.args.machine.now in
    let after = c.record_chain.new.machine in
    leaves_passed (lent c.args.setting) (plain_leaf c.args.leaf) c.in-Ok.count m.layer after.layer m.tally after.tally c.in-Ok.ensures.leaves c.in-Ok.ensures.some

pub returns-in-Ok-clause-few : goal.returns-in-Ok-clause-few
returns-in-Ok-clause-few g c =
    let one : c.in-Ok.count ≤ 1 = c.in-Ok.ensures.some in
    let more : 0 < c.args.ahead.most = c.requires.some in
    omega (arith, one, more)

pub returns-in-Err-clause-kept : goal.returns-in-Err-clause-kept
returns-in-Err-clause-kept g c = none_kept c.args.setting.program.now.kinds _ c.in-Err.ensures.taken

pub returns-in-Err-clause-refused : goal.returns-in-Err-clause-refused
returns-in-Err-clause-refused g c = leaf_refused _ _ _ c.in-Err.ensures.taken c.in-Err.ensures.refused
