use Rattle.std.proofs.Common.{◌≡◌, map, drop, [], arith, ap}
use Rattle.std.proofs.lemmas.List.{drop_all}
use Rattle.serial_oracle.specs.Keeping.{kept}
use Rattle.serial_oracle.proofs.Noted.{fit_all}
use Rattle.thread_tests.proofs.tests.sessions.fitting.all_plain.Goals as goal

pub returns : goal.returns
returns c = λ e program h.
    let none : map kept (drop c.loop-one.one-index c.args.records.now) ≡ [] = ap (map kept) (drop_all c.loop-one.one-index c.args.records.now c.loop-one-test.false) in
    fit_all program c.args.kinds.now (map kept c.args.records.now) h (c.loop-one.invariant (rw none (λ k d lt. absurd (omega (arith, lt)))))
