use Rattle.std.proofs.Common.{rules, ◌≡◌, ◌<◌, ◌++◌, length, take, ◌∙◌}
use Rattle.program_endings.proofs.Consumed.{Consumes-kept, Consumes-more, nothing_read, all_read}
use Rattle.program_endings.proofs.streams.read_all.Goals as goal
use Rattle.program_endings.proofs.streams.read_all.Goals.{in-None, in-Some+in_ok-extend_from_slice-in-Some}

pub loop-preserved : goal.loop-preserved
loop-preserved g c =
    elim c.match-branch-2.branch [
      | in-None w ↦ record {
        taken = rw w.script-is (Consumes-kept _ _ _ _ c.loop.invariant.taken (rw w.in-None.is at c.in_ok-read.ensures.interrupted));
        unmarked = c.in_ok-read.ensures.unmarked (λ e. cc) ∙ c.loop.invariant.unmarked;
      }
      | in-Some+in_ok-extend_from_slice-in-Some w ↦ (
          let longer : c.match-branch-2.script.items ≡ c.loop.script.items ++ take w.in-Some.count c.read.new.buffer = search rules in
          record {
            taken = rw longer (Consumes-more _ _ _ c.loop.script.items (take w.in-Some.count c.read.new.buffer) c.loop.invariant.taken (rw w.in-Some.is at c.in_ok-read.ensures.taken));
            unmarked = c.in_ok-read.ensures.unmarked (λ e. cc) ∙ c.loop.invariant.unmarked;
          })
    ]

pub returns-in-Some-eq0-clause-taken : goal.returns-in-Some-eq0-clause-taken
returns-in-Some-eq0-clause-taken g c =
    nothing_read _ _ _ c.loop.script.items c.read.new.buffer c.in-Some-eq0.field-0 c.in-Some-eq0.field-0-test c.loop.invariant.taken (rw c.in-Some-eq0.is at c.in_ok-read.ensures.taken)

pub returns-in-Some-eq0-clause-known : goal.returns-in-Some-eq0-clause-known
returns-in-Some-eq0-clause-known g c =
    let room : 0 < length c.read.new.buffer = search rules in
    all_read _ _ c.loop.script.items
    (nothing_read _ _ _ c.loop.script.items c.read.new.buffer c.in-Some-eq0.field-0 c.in-Some-eq0.field-0-test c.loop.invariant.taken (rw c.in-Some-eq0.is at c.in_ok-read.ensures.taken))
    ((rw c.in-Some-eq0.is at c.in_ok-read.ensures.over) c.in-Some-eq0.field-0-test room)
