use Rattle.std.proofs.Common.{rules, ◌≡◌, ◌+◌, ◌<◌, ◌≤◌, ℕ, true, false, List, length, reverse, sym, subst}
use Rattle.positions.specs.Strands.{PlainStrand, entry_by}
use Rattle.positions.specs.Tallies.{is_own}
use Rattle.own_statements.specs.Paths.{HasRoomAbove}
use Rattle.running_ahead.proofs.OwnAhead.{room_by}
use Rattle.running_ahead.proofs.children.has_room_above.Goals as goal

pub returns-then-begins_no_higher : goal.returns-then-begins_no_higher
returns-then-begins_no_higher g c =
    let s : PlainStrand = record { start = c.machine.inside.start; layer = c.machine.inside.layer; lower = reverse c.machine.inside.lower.items; path = c.machine.inside.path.items; top = c.machine.inside.top; below = reverse c.machine.inside.below.items; phase = c.machine.inside.phase; arguments = c.machine.inside.arguments.items; tally = c.machine.inside.tally } in
    record {
      room = λ held.
          let none : c.owns_from.result ≡ false = search rules in
          let is_begun : c.begins_no_higher.result ≡ true = search rules in
          let begins = subst (λ (z : PlainStrand). (path : List ℕ) → length z.path < length path → entry_by z.start path ≡ false) (sym c.machine.view_is) (c.begins_no_higher.ensures.entry is_begun) in
          let owned : (n : ℕ) → length s.path + 1 ≤ n → is_own s.tally.opened n ≡ false = λ n longer. c.owns_from.ensures.none none n (search rules) in
          subst HasRoomAbove c.machine.view_is (room_by s begins owned);
    }

pub returns-else-begins_no_higher : goal.returns-else-begins_no_higher
returns-else-begins_no_higher g c = record { room = λ held. absurd cc }
