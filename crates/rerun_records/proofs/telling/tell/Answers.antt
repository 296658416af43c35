use Rattle.std.proofs.Common.{rules, ◌≤◌, ◌∙◌, ℕ, length, arith, get_or}
use Rattle.record_numbers.specs.Stale.{most_number}
use Rattle.rerun_records.proofs.NumbersAt.{told_all, told_apart}
use Rattle.rerun_records.proofs.telling.tell.Goals as goal

pub returns-in-None-clause-told : goal.returns-in-None-clause-told
returns-in-None-clause-told c = λ tables step known.
    let numbers = c.args.numbers.now in
    let list = c.args.list.now in
    let small : (i : ℕ) → get_or numbers i 0 ≤ most_number = λ i. (let fits = c.type_inv.numbers i in search rules) in
    told_apart c.args.change.now c.args.lost.now c.args.won.now 0 (length list) numbers list c.requires.rest small (omega arith) c.in-None.ensures.none ∙ told_all c.args.lost.now c.args.won.now numbers list c.requires.places
