-- Which deque it is.
use Rattle.std.specs.Prelude.{◌≡◌, ℕ, true, [], None}
use Rattle.std.specs.declared.alloc.Global.{Global}
use Rattle.crossbeam_deque.specs.declared.handles.Worker.{Worker}
use Rattle.crossbeam_deque.specs.Handles.{worker_flavor, worker_view}
use Rattle.stealing_deques.specs.declared.entry.Knowledge.{Knowledge}
use Rattle.stealing_deques.specs.Order.{knowing}

abbrev pub Identity : Type 0
Identity = (ℕ × ℕ) × Global

-- a deque with both ends, which nobody has used
abbrev pub IsUnused : {T A P : Type 0} → Worker T A Knowledge P → Type 0
IsUnused w = (worker_flavor w ≡ 1) × (worker_view w ≡ knowing true true 0 None [] [])
