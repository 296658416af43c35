-- Many small steps where a kit is free, one after another.
use Rattle.std.proofs.Common.{true}
use Rattle.positions.specs.Setting.{Setting}
use Rattle.positions.specs.Strands.{PlainStrand}
use Rattle.own_statements.specs.Paths.{IsPath}
use Rattle.own_statements.specs.Paths as paths
use Rattle.answered_loops.specs.Ways.{IsWay}
use Rattle.answered_loops.specs.Ways as ways
use Rattle.running_ahead.specs.Ahead.{IsAhead}
use Rattle.running_ahead.specs.Stepped.{IsStepped, here, on, as_call}

module _ (setting : Setting) where
  pub steps_join : (s t u : PlainStrand) → IsStepped setting s t → IsStepped setting t u → IsStepped setting s u
  steps_join s t u p here = p
  steps_join s t u p (on v w q e) = on v w (steps_join s t v p q) e
  steps_join s t u p (as_call v w q spawn e) = as_call v w (steps_join s t v p q) spawn e

  -- a path for which it doesn't matter whether a kit is free
  pub steps_of : (s t : PlainStrand) → IsPath setting s t → IsStepped setting s t
  steps_of s t paths.here = here
  steps_of s t (paths.on u v p e) = on u v (steps_of s u p) (e true)

  -- and where spawned children may be made calls
  pub steps_way : (s t : PlainStrand) → IsWay setting s t → IsStepped setting s t
  steps_way s t ways.here = here
  steps_way s t (ways.on u v p e) = on u v (steps_way s u p) (e true)
  steps_way s t (ways.as_call u v p spawn e) = as_call u v (steps_way s u p) spawn e

  pub steps_ahead : (s t : PlainStrand) → IsAhead setting s t → IsStepped setting s t
  steps_ahead s t ahead = steps_way s t ahead.way
