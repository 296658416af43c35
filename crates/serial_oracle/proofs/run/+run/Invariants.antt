use Rattle.std.proofs.Common.{◌≡◌, ℕ, ◌+◌, ◌-◌, ◌*◌, ◌^◌, ◌≤◌, drop}
use Rattle.std.specs.Prelude.{string_bytes}
use Rattle.meaning.specs.TreeView.{block as block_plain, statements as statements_plain}
use Rattle.meaning.specs.Elision.{body, turns, all_turns}
use Rattle.serial_oracle.specs.Keeping.{tree_in, tables_in, enters_in}
use Rattle.serial_oracle.specs.Pieces.{job_in}
use Rattle.serial_oracle.specs.Results.{results}
use Rattle.serial_oracle.specs.Worths.{summary}
use Rattle.serial_oracle.proofs.run.+run.Given as goal

abbrev pub decreases-enter : goal.decreases-enter
decreases-enter l = l.left * 2 ^ 70

abbrev pub decreases-run_turn : goal.decreases-run_turn
decreases-run_turn l = l.left * 2 ^ 70 + 1

abbrev pub decreases-run_turns : goal.decreases-run_turns
decreases-run_turns l = l.left * 2 ^ 70 + 2

abbrev pub decreases-run_loop : goal.decreases-run_loop
decreases-run_loop l = l.left * 2 ^ 70 + 3

abbrev pub decreases-run_entry : goal.decreases-run_entry
decreases-run_entry l = l.left * 2 ^ 70 + 3

abbrev pub decreases-run_block : goal.decreases-run_block
decreases-run_block l = l.left * 2 ^ 70 + 8 * l.levels + 4

abbrev pub decreases-run_if : goal.decreases-run_if
decreases-run_if l = l.left * 2 ^ 70 + 8 * l.levels + 5

abbrev pub decreases-run_statement : goal.decreases-run_statement
decreases-run_statement l = l.left * 2 ^ 70 + 8 * l.levels + 6

abbrev pub decreases-run_statements : goal.decreases-run_statements
decreases-run_statements l = l.left * 2 ^ 70 + 8 * l.levels + 7

abbrev pub decreases-run_instance : goal.decreases-run_instance
decreases-run_instance l = l.left * 2 ^ 70 + 2 ^ 69

abbrev pub decreases-run_new : goal.decreases-run_new
decreases-run_new l = l.left * 2 ^ 70 + 2 ^ 69 + 1

abbrev pub decreases-run_memo : goal.decreases-run_memo
decreases-run_memo l = l.left * 2 ^ 70 + 2 ^ 69 + 2

-- the rest of the statements does what all of them do
abbrev pub invariant-run_statements-loop-s : goal.invariant-run_statements-loop-s
invariant-run_statements-loop-s l =
    results (tree_in l.scope) (body (tree_in l.scope) (tables_in l.scope) (enters_in l.scope l.left) (string_bytes l.p.name) l.initial.env.items (statements_plain (block_plain l.p.blocks.items l.levels) l.statements)) (summary l.scope l.initial.journal)
    ≡ results (tree_in l.scope) (body (tree_in l.scope) (tables_in l.scope) (enters_in l.scope l.left) (string_bytes l.p.name) l.env.items (statements_plain (block_plain l.p.blocks.items l.levels) (drop l.s-index l.statements))) (summary l.scope l.journal)

-- the rest of the iterations does what all of them do
abbrev pub invariant-run_turns-loop-i : goal.invariant-run_turns-loop-i
invariant-run_turns-loop-i l =
    (l.i ≤ l.turns.range.count)
    × ((grain : ℕ)
    → results (tree_in l.scope) (all_turns (tree_in l.scope) (tables_in l.scope) (enters_in l.scope l.left) (job_in l.entry l.env l.turns.x grain l.turns.range.low) l.turns.range.count) (summary l.scope l.initial.journal)
    ≡ results (tree_in l.scope) (turns (tree_in l.scope) (tables_in l.scope) (enters_in l.scope l.left) (job_in l.entry l.env l.turns.x grain l.turns.range.low) (l.turns.range.count - l.i) l.i) (summary l.scope l.journal))

abbrev pub decreases-run_turns-loop-i : goal.decreases-run_turns-loop-i
decreases-run_turns-loop-i l = l.turns.range.count - l.i
