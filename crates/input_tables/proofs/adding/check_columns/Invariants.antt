use Rattle.std.proofs.Common.{◌≡◌, [], map, take, drop}
use Rattle.input_tables.specs.Adding.{column_refusal}
use Rattle.input_tables.proofs.adding.check_columns.Given as goal

abbrev pub invariant-loop-place : goal.invariant-loop-place
invariant-loop-place l =
    column_refusal (map (λ c. c.now) (take l.place l.columns)) (map (λ c. c.now) (drop l.place l.columns)) ≡ column_refusal [] (map (λ c. c.now) l.columns)
