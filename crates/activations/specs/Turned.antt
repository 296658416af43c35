-- A loop's instance that has called so many of its iterations, one after another.
use Rattle.std.specs.Prelude.{ℕ, zero, suc, ◌+◌, ◌-◌, false, None}
use Rattle.positions.specs.declared.work.Loop.{Loop}
use Rattle.positions.specs.declared.work.Share.{Share}
use Rattle.positions.specs.declared.work.Work.TheVariants.{Turns}
use Rattle.positions.specs.Activations.{PlainActivation}

-- the iterations behind so many
abbrev pub behind : ℕ → Share → Share
behind n h = record { first = h.first + n; count = h.count - n }

-- the instance then, which had that share left
abbrev pub turned_by : ℕ → Loop → Share → PlainActivation → PlainActivation
turned_by zero l h a = a
turned_by (suc n) l h a = record a { children = a.children + suc n; spawned = false; into = None; work = Turns l (behind (suc n) h) }
