use Rattle.std.proofs.Common.{rules, ◌≡◌, List, Some, length, map, refl, slice_get, subst, sym}
use Rattle.std.proofs.lemmas.Option.{slice_get_read}
use Rattle.linked_program.specs.declared.code.Expression.{Expression}
use Rattle.linked_program.specs.Linked.{updates}
use Rattle.linked_program.specs.CodeView.{expression, IsFormOf, HasArity}
use Rattle.linked_program.proofs.Ones.{one_of, two_of}
use Rattle.linked_program.proofs.Shorts.{if_ok}
use Rattle.linked_program.proofs.shortening.update_form.Goals as goal

pub returns-then-not-two : goal.returns-then-not-two
returns-then-not-two c =
    let ks = c.args.kinds.now in
    let r = c.args.reducer in
    let kind = c.in-Some.kind.now in
    let there : slice_get ks r ≡ Some kind = slice_get_read ks (length ks) r kind refl c.in-Some.ensures.lookup.3.0 c.in-Some.ensures.lookup.1 in
    let takes : HasArity 1 (slice_get ks r) = subst (HasArity 1) (sym there) (search rules) in
    let xs = c.args.values.now in
    let x = c.index-values-0.result in
    let count : length xs ≡ 1 = search rules in
    record {
      form = if_ok c.one_form.result (λ made h inner. subst (λ (ys : List Expression). IsFormOf ks inner made (updates r (map expression ys))) (sym (one_of xs x count c.index-values-0.is)) (h ks inner takes)) c.one_form.ensures.form;
    }

pub returns-then-two : goal.returns-then-two
returns-then-two c =
    let ks = c.args.kinds.now in
    let r = c.args.reducer in
    let kind = c.in-Some.kind.now in
    let there : slice_get ks r ≡ Some kind = slice_get_read ks (length ks) r kind refl c.in-Some.ensures.lookup.3.0 c.in-Some.ensures.lookup.1 in
    let takes : HasArity 2 (slice_get ks r) = subst (HasArity 2) (sym there) (search rules) in
    let xs = c.args.values.now in
    let x = c.index-values-0-then-two.result in
    let y = c.index-values-1.result in
    let count : length xs ≡ 2 = search rules in
    record {
      form = λ inner. subst (λ (ys : List Expression). IsFormOf ks inner c.two_form.result (updates r (map expression ys))) (sym (two_of xs x y count c.index-values-0-then-two.is c.index-values-1.is)) (c.two_form.ensures.form ks inner takes);
    }
