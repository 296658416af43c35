use Rattle.std.proofs.Common.{◌≡◌, ◌≤◌, ◌∙◌, ◌<◌, ◌-◌, ℕ, length, sym, subst, arith, false, refl}
use Rattle.record_theory.specs.Record.{is_of, NoneFrom}
use Rattle.rerun_records.proofs.Instances.{there_is, as_many, none_behind, none_before, none_there}
use Rattle.rerun_records.proofs.listing.found_in.Goals as goal

pub loop-end-init : goal.loop-end-init
loop-end-init c =
    let h = c.newest-end.ensures.newest in
    let within : c.newest-end.result ≤ length c.args.places.now.numbers = h.within in
    record {
      within = subst (λ (n : ℕ). c.newest-end.result ≤ n) (as_many c.args.list.now c.args.places.now.numbers c.requires.numbered) within;
      last = h.last;
      past = none_behind c.args.procedure c.args.arguments.now c.args.list.now c.args.places.now.numbers c.args.number c.requires.numbered c.requires.number c.newest-end.result h;
    }

pub returns-then-is_of-clause-there : goal.returns-then-is_of-clause-there
returns-then-is_of-clause-there c =
    let some : 0 < c.loop-end.end = c.loop-end-test.true in
    let low : c.loop-end.end ≤ length c.args.list.now = c.loop-end.invariant.within in
    there_is c.args.list.now (c.loop-end.end - 1) c.index-list-place.result (omega (arith, some, low)) c.index-list-place.is

pub loop-end-preserved : goal.loop-end-preserved
loop-end-preserved c =
    let some : 0 < c.loop-end.end = c.loop-end-test.true in
    let low : c.loop-end.end ≤ length c.args.list.now = c.loop-end.invariant.within in
    let h = c.before-end.ensures.before in
    let next : c.before-end.result ≤ c.loop-end.end - 1 = h.within in
    let other : is_of c.args.procedure c.args.arguments.now c.index-list-place.result ≡ false = sym c.is_of.ensures.of ∙ c.if-is_of.false in
    record {
      within = omega (arith, some, low, next);
      last = λ q. h.last q ∙ c.loop-end.invariant.last some;
      past = none_before c.args.procedure c.args.arguments.now c.args.list.now c.args.places.now.numbers c.args.number c.requires.numbered c.requires.number c.loop-end.end (c.loop-end.end - 1) c.before-end.result
          c.index-list-place.result refl some c.loop-end.invariant.past (there_is c.args.list.now (c.loop-end.end - 1) c.index-list-place.result (omega (arith, some, low)) c.index-list-place.is) other
          (c.loop-end.invariant.last some) h;
    }

pub returns-clause-none : goal.returns-clause-none
returns-clause-none c =
    let over : c.loop-end.end ≡ 0 = omega (arith, c.loop-end-test.false) in
    none_there c.args.procedure c.args.arguments.now c.args.list.now (subst (NoneFrom c.args.procedure c.args.arguments.now c.args.list.now) over c.loop-end.invariant.past)
