use Rattle.std.proofs.Common.{rules, ◌≡◌, ℤ, FitsSigned, ◌++◌, ◌∷◌, [], Ok, ap, sym, subst, ◌∙◌}
use Rattle.std.specs.Int.{w64}
use Rattle.std.proofs.lemmas.Int.{to_z-of_z}
use Rattle.std.proofs.lemmas.Result.{err_from_is_err_and}
use Rattle.token_scanner.specs.Words.{Words, words}
use Rattle.token_readers.specs.Reading.{Fails}
use Rattle.procedure_parser.specs.Reading.{signed_at, more_signed_at, with_front}
use Rattle.procedure_parser.proofs.Signs.{next_signed, no_signed, last_turn, signed_fails}
use Rattle.procedure_parser.proofs.Turns.{gives_along}
use Rattle.procedure_parser.proofs.initial.more_signed.Goals as goal

pub loop-preserved : goal.loop-preserved
loop-preserved c =
    let total = with_front c.args.all.items (more_signed_at c.args.most (words c.args.tokens.now)) in
    let next = subst (λ (ts : Words). signed_at ts ≡ Ok (c.in_ok-next.next, words c.in_ok-next.after.now)) c.rest_of.ensures c.in_ok-next.ensures in
    let fits : FitsSigned w64 c.in_ok-next.next = search rules in
    let put : c.push_number.new.all.items ≡ c.loop.all.items ++ c.in_ok-next.next ∷ [] = c.in_ok-push_number.ensures ∙ ap (λ (z : ℤ). c.loop.all.items ++ z ∷ []) (to_z-of_z w64 c.in_ok-next.next fits) in
    rw put
    (next_signed c.loop.all.items c.args.most c.loop.counter (words c.loop.rest.now) total c.loop.invariant c.loop-test.true (sym c.starts.ensures ∙ c.if-not-starts.false) c.in_ok-next.next (words c.in_ok-next.after.now) next)

pub returns-in_err-next : goal.returns-in_err-next
returns-in_err-next c =
    let total = with_front c.args.all.items (more_signed_at c.args.most (words c.args.tokens.now)) in
    let p = err_from_is_err_and c.from_residual.result c.from_residual.ensures.1 in
    let fails = subst (λ (ts : Words). Fails c.in_err-next.field-0.0 (signed_at ts)) c.rest_of.ensures c.in_err-next.ensures in
    rw (p.1, p.2) (signed_fails c.loop.all.items c.args.most c.loop.counter (words c.loop.rest.now) total c.loop.invariant c.in_err-next.field-0.0 c.loop-test.true (sym c.starts.ensures ∙ c.if-not-starts.false) fails)

pub returns-then-not-starts : goal.returns-then-not-starts
returns-then-not-starts c =
    no_signed c.loop.all.items c.args.most c.loop.counter (words c.loop.rest.now) (with_front c.args.all.items (more_signed_at c.args.most (words c.args.tokens.now))) c.loop.invariant c.loop-test.true (sym c.starts.ensures ∙ c.if-not-starts.true)

pub returns : goal.returns
returns c =
    let total = with_front c.args.all.items (more_signed_at c.args.most (words c.args.tokens.now)) in
    gives_along _ c.no_more.result _ total (last_turn c.loop.all.items c.args.most c.loop.counter (words c.loop.rest.now) total c.loop.invariant c.loop-test.false) c.no_more.ensures
