-- The text of a run's history and of what is counted of it.
use Rattle.std.specs.Prelude.{ℕ, suc, List, [], ◌∷◌, ◌++◌, Option, Some, None, flat_map, codes}
use Rattle.std.specs.Fmt.{decimal}
use Rattle.plain_rules.specs.TraceLines.{place_text, places_text, executed_text}
use Rattle.meaning.specs.Outcome.{Place}
use Rattle.meaning.specs.Strands.{BookStep, Split, End, Stall, Fault, Finish, Fold}
use Rattle.meaning.specs.Text.{run_line}
use Rattle.trace_report.specs.declared.trace.RunCounts.{RunCounts}

-- the line of a strand that was laid down
abbrev pub laid_text : List ℕ → Place → List ℕ
laid_text word place = word ++ codes " " ++ place_text place ++ codes "\n"

abbrev pub step_text : BookStep → List ℕ
step_text (Split victim new thief) = places_text (codes "split") victim new thief
step_text (End place) = laid_text (codes "end") place
step_text (Stall place) = laid_text (codes "stall") place
step_text (Fault place) = laid_text (codes "fault") place
step_text (Finish place) = laid_text (codes "finish") place
step_text (Fold left right worker) = places_text (codes "fold") left right worker

-- one line a step
abbrev pub history_text : List BookStep → List ℕ
history_text steps = flat_map step_text steps

-- a run, counted from 1, and its history
abbrev pub trace_text : ℕ → List BookStep → List ℕ
trace_text n steps = run_line n ++ history_text steps

-- how many strands were split off
abbrev pub splits_in : List BookStep → ℕ
splits_in [] = 0
splits_in (Split victim new thief ∷ steps) = suc (splits_in steps)
splits_in (_ ∷ steps) = splits_in steps

-- how many neighbours were folded
abbrev pub folds_in : List BookStep → ℕ
folds_in [] = 0
folds_in (Fold left right worker ∷ steps) = suc (folds_in steps)
folds_in (_ ∷ steps) = folds_in steps

-- memo instances: those that were executed, those that a record answered, those that went without one
abbrev pub instances_text : RunCounts → List ℕ
instances_text c = executed_text c.executed c.reused c.unrecorded

abbrev pub moves_text : RunCounts → List ℕ
moves_text c = codes " steals " ++ decimal c.steals ++ codes " folds " ++ decimal c.folds

-- the kits that are free, and those that there are
abbrev pub kits_text : RunCounts → List ℕ
kits_text c = codes " kits " ++ decimal c.free ++ codes " of " ++ decimal c.kits

-- the counts of a run, counted from 1, that came to a result
abbrev pub counts_text : ℕ → RunCounts → List ℕ
counts_text n c = codes "stats " ++ decimal n ++ instances_text c ++ moves_text c ++ kits_text c ++ codes "\n"

-- a run that came to a fault has none
abbrev pub no_counts_text : ℕ → List ℕ
no_counts_text n = codes "stats " ++ decimal n ++ codes " none\n"

-- the line of what is counted of a run, where there are counts
abbrev pub stats_text : ℕ → Option RunCounts → List ℕ
stats_text n (Some c) = counts_text n c
stats_text n None = no_counts_text n
