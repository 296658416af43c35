use Rattle.std.proofs.Common.{rules, ℤ, FitsSigned, w64, to_z, of_z, to_z-of_z, ◌≡◌, ◌∷◌, [], ◌-◌, true, Some, length, subst}
use Rattle.meaning.specs.Elision.{depth_limit}
use Rattle.evaluation.specs.Slots.{slots_for}
use Rattle.positions.specs.declared.work.Work.TheVariants.{Block}
use Rattle.positions.specs.Activations.{made, first_of}
use Rattle.positions.specs.Layers.{PlainLayer, blank, entering}
use Rattle.positions.specs.Tallies.{opening, closing}
use Rattle.activations.specs.Given.{lent}
use Rattle.own_statements.specs.Paths.{ComesTo}
use Rattle.own_statements.specs.Leaves.{IsLeaf, opened_by, plain_leaf}
use Rattle.own_statements.proofs.leaf.record_in.Goals as goal

pub returns-in-Ok-clause-leaf : goal.returns-in-Ok-clause-leaf
returns-in-Ok-clause-leaf g c done =
    let S = lent c.args.setting in
    let f = plain_leaf c.args.leaf in
    let v = c.in-Some.value in
    let fits : FitsSigned w64 v = search rules in
    let is : to_z w64 (of_z w64 v) ≡ v = to_z-of_z fits in
    let child = c.value_of.new.nest.child in
    let own = c.value_of.new.own in
    let came : ComesTo S true (made f.callee (slots_for f.size (f.number ∷ [])) (Block (first_of 0)) f.left) (entering f.callee (depth_limit - f.left) (blank true S.kinds (length S.codes))) (Some v) child own =
    subst (λ (z : PlainLayer). ComesTo S true (made f.callee (slots_for f.size (f.number ∷ [])) (Block (first_of 0)) f.left) (entering f.callee (depth_limit - f.left) z) (Some v) child own) c.requires.blank c.in-Some.ensures.came in
    record {
      unknown = c.requires.unknown;
      child = child;
      own = own;
      value = v;
      came = came;
      layer = c.in-Ok.ensures.covered done;
      tally = subst (λ (n : ℤ). c.close.new.tally ≡ closing S.program.revisions own n (opening (opened_by f) c.args.tally.now)) is (c.in-Ok.ensures.closed done);
    }
