-- The layers of a strand: what each has noted of the trail, and the product of two.
use Rattle.std.specs.Prelude.{◌≡◌, ◌↔◌, ℕ, ◌+◌, ◌-◌, List, [], ◌∷◌, ◌++◌, map, max, slice_get}
use Rattle.std.specs.List.{Contains}
use Rattle.meaning.specs.Tree.{Name, Tree}
use Rattle.meaning.specs.Outcome.{Log, Accumulators, Event, Reads, Enters, Updates, Begins, Reading, updated, combined}
use Rattle.meaning.specs.Statements.{reducers, identities}
use Rattle.meaning.specs.Records.{Kept, with_kinds}
use Rattle.meaning.specs.SmallStep.{Layers, noting, opening_one, closing_one}

-- what a layer has noted
pub record Notes : Type 0 where
  pub worth : Accumulators
  pub read : List Reading
  pub entered : List Name
  pub deepest : ℕ

abbrev pub noted_one : Notes → Event → Notes
noted_one l (Reads r) = record { worth = l.worth; read = l.read ++ r ∷ []; entered = l.entered; deepest = l.deepest }
noted_one l (Enters f args depth) = record { worth = l.worth; read = l.read; entered = l.entered ++ f ∷ []; deepest = max l.deepest depth }
noted_one l (Updates n kind w) = record { worth = updated l.worth n kind w (slice_get l.worth n); read = l.read; entered = l.entered; deepest = l.deepest }
noted_one l _ = l

abbrev pub noted : Notes → Log → Notes
noted l [] = l
noted l (e ∷ es) = noted (noted_one l e) es

abbrev pub blank : Tree → Notes
blank program = record { worth = identities program; read = []; entered = []; deepest = 0 }

abbrev pub notes : Tree → Log → Notes
notes program es = noted (blank program) es

-- a layer, and one behind it
abbrev pub multiplied : Tree → Notes → Notes → Notes
multiplied program a b = record {
  worth = combined a.worth (with_kinds (reducers program) b.worth);
  read = a.read ++ b.read;
  entered = a.entered ++ b.entered;
  deepest = max a.deepest b.deepest;
}

abbrev pub notes_of : Kept → ℕ → Notes
notes_of k depth = record { worth = k.contribution; read = k.read; entered = map (λ p. p.0) k.revisions; deepest = depth + k.height - 1 }

-- two layers that have noted the same: reads and procedures as sets
pub record SameNotes (a b : Notes) : Type 0 where
  pub worth : a.worth ≡ b.worth
  pub deepest : a.deepest ≡ b.deepest
  pub read : (r : Reading) → Contains a.read r ↔ Contains b.read r
  pub entered : (f : Name) → Contains a.entered f ↔ Contains b.entered f

-- layers, the top one first
abbrev pub noted_top : List Notes → Log → List Notes
noted_top [] es = []
noted_top (l ∷ ls) es = noted l es ∷ ls

-- the top layer is multiplied into the one below it
abbrev pub closed_top : Tree → List Notes → List Notes
closed_top program [] = []
closed_top program (a ∷ []) = a ∷ []
closed_top program (a ∷ b ∷ ls) = multiplied program b a ∷ ls

-- the events before an instance's entering, and those from it on
abbrev pub ahead_of_entry : Log → Log
ahead_of_entry [] = []
ahead_of_entry (Begins n depth ∷ es) = []
ahead_of_entry (e ∷ es) = e ∷ ahead_of_entry es

abbrev pub from_entry : Log → Log
from_entry [] = []
from_entry (Begins n depth ∷ es) = Begins n depth ∷ es
from_entry (e ∷ es) = from_entry es

-- after a step's events: a new layer notes them from its instance's entering on
abbrev pub layers_by : Tree → Layers → List Notes → Log → List Notes
layers_by program noting ls es = noted_top ls es
layers_by program opening_one ls es = notes program (from_entry es) ∷ noted_top ls (ahead_of_entry es)
layers_by program closing_one ls es = closed_top program (noted_top ls es)

abbrev pub take_top : Tree → Notes → List Notes → List Notes
take_top program k [] = []
take_top program k (l ∷ ls) = multiplied program l k ∷ ls

-- the product of layers, from the bottom up
abbrev pub total : Tree → List Notes → Notes
total program [] = blank program
total program (l ∷ []) = l
total program (l ∷ m ∷ ls) = multiplied program (total program (m ∷ ls)) l

abbrev pub bottom : List Notes → Accumulators
bottom [] = []
bottom (l ∷ []) = l.worth
bottom (l ∷ m ∷ ls) = bottom (m ∷ ls)
