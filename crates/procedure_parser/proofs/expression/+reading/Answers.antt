use Rattle.std.proofs.Common.{◌≡◌, ℕ, None, Some, Ok, sym, ap, subst, arith}
use Rattle.std.specs.Prelude.{nat_eq}
use Rattle.std.proofs.lemmas.List.{length-map}
use Rattle.token_scanner.specs.Words.{Words, words, placed}
use Rattle.source_tree.specs.Source.{phrase}
use Rattle.token_readers.specs.Reading.{Fails, additive, multiplicative}
use Rattle.procedure_parser.specs.Reading.{unary_at, term_at, inside_at, sum_at}
use Rattle.procedure_parser.proofs.Chain.{stops, full, goes_on, ends, out}
use Rattle.procedure_parser.proofs.expression.+reading.Goals as goal

-- what a call with one level less ensures, said of the limits themselves
lowered : (P : ℕ → ℕ → Words → Type 0) (m n r q : ℕ) (ts us : Words) → m ≡ n → r ≡ q → ts ≡ us → P m r ts → P n q us
lowered P m n r q ts us e f g h = subst (λ x. P x q us) e (subst (λ x. P m x us) f (subst (λ x. P m r x) g h))

pub sum-returns-in_default-clause-exact : goal.sum-returns-in_default-clause-exact
sum-returns-in_default-clause-exact t c = let h : additive (words c.loop.rest.now) ≡ None = (cc) in stops additive (term_at (nat_eq c.args.limits.more 0) (inside_at c.args.limits.more)) c.args.limits.room c.loop.counter (phrase c.loop.left.expr) (words c.loop.rest.now) (sum_at (nat_eq c.args.limits.more 0) (inside_at c.args.limits.more) c.args.limits.room (words c.args.tokens.now)) c.loop-test.true c.loop.invariant.whole h

pub sum-returns-then-left-limits-clause-exact : goal.sum-returns-then-left-limits-clause-exact
sum-returns-then-left-limits-clause-exact t c =
    let e = full additive (term_at (nat_eq c.args.limits.more 0) (inside_at c.args.limits.more)) c.args.limits.room c.loop.counter (phrase c.loop.left.expr) (words c.loop.rest.now) (sum_at (nat_eq c.args.limits.more 0) (inside_at c.args.limits.more) c.args.limits.room (words c.args.tokens.now)) c.loop-test.true c.loop.invariant.whole c.in-Some.operation (sym c.in-Some.ensures) (omega (arith, c.loop.left.levels_are)) in
    rw c.without.ensures (rw e (ap Some (length-map c.loop.rest.now placed)))

pub sum-returns-in-Err-clause-exact : goal.sum-returns-in-Err-clause-exact
sum-returns-in-Err-clause-exact t c =
    rw c.without-in-Err.ensures (ends additive (term_at (nat_eq c.args.limits.more 0) (inside_at c.args.limits.more)) c.args.limits.room c.loop.counter (phrase c.loop.left.expr) (words c.loop.rest.now) (sum_at (nat_eq c.args.limits.more 0) (inside_at c.args.limits.more) c.args.limits.room (words c.args.tokens.now)) c.loop-test.true c.loop.invariant.whole c.in-Err.stop c.in-Some.operation (sym c.in-Some.ensures) (omega (arith, c.loop.left.levels_are)) (lowered (λ m r ts. Fails c.in-Err.stop ((term_at (nat_eq m 0) (inside_at m)) r ts)) _ _ _ _ _ _ c.lower.ensures.more c.lower.ensures.room c.rest_of.ensures c.in-Err.ensures.exact))

pub sum-loop-preserved : goal.sum-loop-preserved
sum-loop-preserved t c = record {
  levels = omega (arith, c.in_ok-left-2.ensures.levels, c.in-Ok.ensures.levels, c.lower.ensures.room, c.loop.left.levels_are);
  whole = rw c.in_ok-left-2.ensures.joined (goes_on additive (term_at (nat_eq c.args.limits.more 0) (inside_at c.args.limits.more)) c.args.limits.room c.loop.counter (phrase c.loop.left.expr) (words c.loop.rest.now) (sum_at (nat_eq c.args.limits.more 0) (inside_at c.args.limits.more) c.args.limits.room (words c.args.tokens.now)) c.loop-test.true c.loop.invariant.whole c.in-Some.operation (phrase c.in-Ok.read.0.expr) (words c.in-Ok.read.1.now) (sym c.in-Some.ensures) (omega (arith, c.loop.left.levels_are)) (lowered (λ m r ts. (term_at (nat_eq m 0) (inside_at m)) r ts ≡ Ok (phrase c.in-Ok.read.0.expr, words c.in-Ok.read.1.now)) _ _ _ _ _ _ c.lower.ensures.more c.lower.ensures.room c.rest_of.ensures c.in-Ok.ensures.exact));
}

pub sum-returns-clause-exact : goal.sum-returns-clause-exact
sum-returns-clause-exact t c =
    let e = out additive (term_at (nat_eq c.args.limits.more 0) (inside_at c.args.limits.more)) c.args.limits.room c.loop.counter (phrase c.loop.left.expr) (words c.loop.rest.now) (sum_at (nat_eq c.args.limits.more 0) (inside_at c.args.limits.more) c.args.limits.room (words c.args.tokens.now)) c.loop-test.false c.loop.invariant.whole in
    rw c.without-2.ensures (rw e (ap Some (length-map c.loop.rest.now placed)))

pub term-returns-in_default-clause-exact : goal.term-returns-in_default-clause-exact
term-returns-in_default-clause-exact t c = let h : multiplicative (words c.loop.rest.now) ≡ None = (cc) in stops multiplicative (unary_at (nat_eq c.args.limits.more 0) (inside_at c.args.limits.more)) c.args.limits.room c.loop.counter (phrase c.loop.left.expr) (words c.loop.rest.now) (term_at (nat_eq c.args.limits.more 0) (inside_at c.args.limits.more) c.args.limits.room (words c.args.tokens.now)) c.loop-test.true c.loop.invariant.whole h

pub term-returns-then-left-limits-clause-exact : goal.term-returns-then-left-limits-clause-exact
term-returns-then-left-limits-clause-exact t c =
    let e = full multiplicative (unary_at (nat_eq c.args.limits.more 0) (inside_at c.args.limits.more)) c.args.limits.room c.loop.counter (phrase c.loop.left.expr) (words c.loop.rest.now) (term_at (nat_eq c.args.limits.more 0) (inside_at c.args.limits.more) c.args.limits.room (words c.args.tokens.now)) c.loop-test.true c.loop.invariant.whole c.in-Some.operation (sym c.in-Some.ensures) (omega (arith, c.loop.left.levels_are)) in
    rw c.without.ensures (rw e (ap Some (length-map c.loop.rest.now placed)))

pub term-returns-in-Err-clause-exact : goal.term-returns-in-Err-clause-exact
term-returns-in-Err-clause-exact t c =
    rw c.without-in-Err.ensures (ends multiplicative (unary_at (nat_eq c.args.limits.more 0) (inside_at c.args.limits.more)) c.args.limits.room c.loop.counter (phrase c.loop.left.expr) (words c.loop.rest.now) (term_at (nat_eq c.args.limits.more 0) (inside_at c.args.limits.more) c.args.limits.room (words c.args.tokens.now)) c.loop-test.true c.loop.invariant.whole c.in-Err.stop c.in-Some.operation (sym c.in-Some.ensures) (omega (arith, c.loop.left.levels_are)) (lowered (λ m r ts. Fails c.in-Err.stop ((unary_at (nat_eq m 0) (inside_at m)) r ts)) _ _ _ _ _ _ c.lower.ensures.more c.lower.ensures.room c.rest_of.ensures c.in-Err.ensures.exact))

pub term-loop-preserved : goal.term-loop-preserved
term-loop-preserved t c = record {
  levels = omega (arith, c.in_ok-left-2.ensures.levels, c.in-Ok.ensures.levels, c.lower.ensures.room, c.loop.left.levels_are);
  whole = rw c.in_ok-left-2.ensures.joined (goes_on multiplicative (unary_at (nat_eq c.args.limits.more 0) (inside_at c.args.limits.more)) c.args.limits.room c.loop.counter (phrase c.loop.left.expr) (words c.loop.rest.now) (term_at (nat_eq c.args.limits.more 0) (inside_at c.args.limits.more) c.args.limits.room (words c.args.tokens.now)) c.loop-test.true c.loop.invariant.whole c.in-Some.operation (phrase c.in-Ok.read.0.expr) (words c.in-Ok.read.1.now) (sym c.in-Some.ensures) (omega (arith, c.loop.left.levels_are)) (lowered (λ m r ts. (unary_at (nat_eq m 0) (inside_at m)) r ts ≡ Ok (phrase c.in-Ok.read.0.expr, words c.in-Ok.read.1.now)) _ _ _ _ _ _ c.lower.ensures.more c.lower.ensures.room c.rest_of.ensures c.in-Ok.ensures.exact));
}

pub term-returns-clause-exact : goal.term-returns-clause-exact
term-returns-clause-exact t c =
    let e = out multiplicative (unary_at (nat_eq c.args.limits.more 0) (inside_at c.args.limits.more)) c.args.limits.room c.loop.counter (phrase c.loop.left.expr) (words c.loop.rest.now) (term_at (nat_eq c.args.limits.more 0) (inside_at c.args.limits.more) c.args.limits.room (words c.args.tokens.now)) c.loop-test.false c.loop.invariant.whole in
    rw c.without-2.ensures (rw e (ap Some (length-map c.loop.rest.now placed)))
