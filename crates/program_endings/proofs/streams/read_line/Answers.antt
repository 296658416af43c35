use Rattle.std.proofs.Common.{rules, ◌≡◌, length, get_or, [], ◌∷◌, ◌++◌, ◌∙◌}
use Rattle.program_endings.proofs.Consumed.{Consumes-kept, nothing_read, byte_read, no_end_more}
use Rattle.program_endings.proofs.streams.read_line.Goals as goal
use Rattle.program_endings.proofs.streams.read_line.Goals.{in-None, in-Some-2+else-is_err}

pub loop-preserved : goal.loop-preserved
loop-preserved g c =
    elim c.match-branch-2.branch [
      | in-None w ↦ record {
        taken = rw w.line-is (Consumes-kept _ _ _ _ c.loop.invariant.taken (rw w.in-None.is at c.in_ok-read.ensures.interrupted));
        one = rw w.line-is c.loop.invariant.one;
        unmarked = c.in_ok-read.ensures.unmarked (λ e. cc) ∙ c.loop.invariant.unmarked;
      }
      | in-Some-2+else-is_err w ↦ (
          let one : length c.read.new.buffer ≡ 1 = search rules in
          let pushed : w.push.new.self.items ≡ c.loop.line.items ++ get_or c.read.new.buffer 0 0 ∷ [] = rw w.if-is_err.ensures.negation at w.push.ensures.items in
          record {
            taken = rw (w.line-is, pushed) (byte_read _ _ _ c.loop.line.items c.read.new.buffer w.in-Some.field-0 one (rw w.in-Some.is at c.in_ok-read.ensures.bound) (λ z. w.in-Some.field-0-test.1 z) c.loop.invariant.taken (rw w.in-Some.is at c.in_ok-read.ensures.taken));
            one = rw (w.line-is, pushed) (no_end_more c.loop.line.items (get_or c.read.new.buffer 0 0) c.loop.invariant.one (λ e. w.if-byte-eq10.false e));
            unmarked = c.in_ok-read.ensures.unmarked (λ e. cc) ∙ c.loop.invariant.unmarked;
          })
    ]

pub returns-in-Some-clause-ended : goal.returns-in-Some-clause-ended
returns-in-Some-clause-ended g c =
    let one : length c.read.new.buffer ≡ 1 = search rules in
    λ e. rw c.if-byte-eq10.true at (byte_read _ _ _ c.loop.line.items c.read.new.buffer c.in-Some.field-0 one (rw c.in-Some.is at c.in_ok-read.ensures.bound) (λ z. c.in-Some.field-0-test.1 z) c.loop.invariant.taken (rw c.in-Some.is at c.in_ok-read.ensures.taken))

pub returns-in-Some-eq0-clause-last : goal.returns-in-Some-eq0-clause-last
returns-in-Some-eq0-clause-last g c =
    λ e. nothing_read _ _ _ c.loop.line.items c.read.new.buffer c.in-Some-eq0.field-0 c.in-Some-eq0.field-0-test c.loop.invariant.taken (rw c.in-Some-eq0.is at c.in_ok-read.ensures.taken)
