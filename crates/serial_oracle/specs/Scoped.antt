-- What pieces of a run come to in a scope: its program, tables and records.
use Rattle.std.specs.Prelude.{ℕ, ◌-◌, ℤ, List, Option, Result, string_bytes}
use Rattle.meaning.specs.declared.tree.Procedure.{Procedure}
use Rattle.meaning.specs.Tree.{Name}
use Rattle.meaning.specs.TreeView.{term, proc, block}
use Rattle.meaning.specs.Outcome.{Fault}
use Rattle.meaning.specs.Run.{Run}
use Rattle.meaning.specs.Values.{Env}
use Rattle.meaning.specs.Elision.{Next, depth_limit}
use Rattle.meaning.specs.Records.{Kept, if_valid, record_of}
use Rattle.serial_oracle.specs.declared.journal.Journal.{Journal}
use Rattle.serial_oracle.specs.declared.scope.Choice.{Choice}
use Rattle.serial_oracle.specs.declared.scope.Scope.{Scope}
use Rattle.serial_oracle.specs.Keeping.{tree_in, revised_in, tables_in, records_in, enters_in}
use Rattle.serial_oracle.specs.Pieces.{chosen, inside, memoised}
use Rattle.serial_oracle.specs.Results.{Summary, results, site_at}
use Rattle.serial_oracle.specs.Worths.{summary}

-- a piece of a run, where a journal has noted what came before
abbrev pub results_in : {A : Type 0} → Scope → Journal → Run A → Result A Fault × Summary
results_in scope before m = results (tree_in scope) m (summary scope before)

-- an instance of a procedure with so many levels left, after its entering is noted
abbrev pub inside_in : Scope → ℕ → Procedure → List ℤ → Run ℤ
inside_in scope left p args = inside (tree_in scope) (tables_in scope) (enters_in scope left) (proc p) args

-- the record that answers a memo instance with so many levels left
abbrev pub answering : Scope → ℕ → Name → List ℤ → Option Kept
answering scope left f args = if_valid (revised_in scope) (tables_in scope) (depth_limit - left) (record_of (records_in scope) f args)

-- a memo instance: by the record that answers it, or else by itself
abbrev pub memo_results : Scope → ℕ → Procedure → Name → List ℤ → Journal → Result ℤ Fault × Summary
memo_results scope left p f args before = memoised (tree_in scope) (answering scope left f args) (f, args) (inside_in scope left p args) (summary scope before)

-- one of two blocks of a procedure, these with so many levels
abbrev pub chosen_in : Scope → ℕ → Procedure → ℕ → Choice → Env → Run Next
chosen_in scope left p levels choice env =
    chosen (tree_in scope) (tables_in scope) (enters_in scope left) (site_at (string_bytes p.name) choice.number) env (term choice.condition.now)
    (block p.blocks.items levels choice.first) (block p.blocks.items levels choice.second)
