use Rattle.std.proofs.Common.{rules, ◌≡◌, ◌+◌, ℤ, List, get_or, pos, take, subst, to_z, of_z, w64}
use Rattle.std.proofs.lemmas.List.{take_all, take_more}
use Rattle.linked_program.specs.declared.code.Link.{Link}
use Rattle.linked_program.specs.declared.code.Link.TheVariants as link
use Rattle.linked_program.specs.CodeView.{chained}
use Rattle.linked_program.proofs.Shorts.{chained_push}
use Rattle.evaluation.specs.Values.{value_at}
use Rattle.own_statements.specs.Fills.{Reads}
use Rattle.own_statements.proofs.chains.linked.Goals as goal

pub loop-link-preserved : goal.loop-link-preserved
loop-link-preserved c = λ keeps all e read.
    let ks = c.args.links.now in
    let ss = c.args.slots.now in
    let i = c.loop-link.link-index in
    let none = link.Plus (pos 0) in
    let v = c.in-Some.found in
    let same : v ≡ to_z w64 (of_z w64 v) = search rules in
    subst (λ (w : ℤ). Reads keeps (value_at all ss (chained e (take (i + 1) ks))) w) same
    (rw (take_more ks i none c.loop-link-test.true, chained_push e (take i ks) (get_or ks i none))
    (c.in-Some.ensures.value keeps all (chained e (take i ks)) (c.loop-link.invariant keeps all e read)))

pub returns : goal.returns
returns c = record {
  value = λ keeps all e read.
      let ks = c.args.links.now in
      let ss = c.args.slots.now in
      let start : c.args.start ≡ to_z w64 (of_z w64 c.args.start) = search rules in
      subst (λ (xs : List Link). Reads keeps (value_at all ss (chained e xs)) (to_z w64 c.loop-link.value-bits)) (take_all c.loop-link.link-index ks c.loop-link-test.false)
      (c.loop-link.invariant keeps all e (subst (λ (v : ℤ). Reads keeps (value_at all ss e) v) start read));
}
