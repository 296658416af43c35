use Rattle.std.proofs.Common.{arith, sym}
use Rattle.std.proofs.lemmas.Bool.Decides.{nat_tests}
use Rattle.input_tables.proofs.Counts.{member_count-view}
use Rattle.input_tables.proofs.Listed.{listed_in-columns}
use Rattle.input_tables.proofs.table.listed_in.Goals as goal

pub returns-then-len-ne2-clause-refused : goal.returns-then-len-ne2-clause-refused
returns-then-len-ne2-clause-refused c = rw (member_count-view c.args.members.now.entries) (grind (arith, nat_tests, c.len.ensures.len))

pub returns-in_ok-columns-in-Some-clause-read : goal.returns-in_ok-columns-in-Some-clause-read
returns-in_ok-columns-in-Some-clause-read c =
    let at = rw c.in-Some.is at c.array_at.ensures in
    let items = rw c.deref.ensures.value at c.in_ok-columns-in-Some.ensures.read in
    rw (listed_in-columns c.args.members.now.entries c.args.name.now _ _ (omega (arith, c.len.ensures.len)) (sym at) items) c.with_rows_of.ensures.read
