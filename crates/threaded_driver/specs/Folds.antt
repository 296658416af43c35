-- Whether there is something to fold in a list of strands, as far as their states say.
use Rattle.std.specs.Prelude.{Bool, false, ◌&&◌, ◌||◌, List, [], ◌∷◌}
use Rattle.meaning.specs.Strands.{Line, done, waits}

-- one of these waits behind one that is done; whether the line before them is done is told
abbrev pub waits_behind : Bool → List Line → Bool
waits_behind before [] = false
waits_behind before (l ∷ rest) = (before && waits l.1) || waits_behind (done l.1) rest

-- one that waits stands behind one that is done
abbrev pub has_pair : List Line → Bool
has_pair lines = waits_behind false lines
