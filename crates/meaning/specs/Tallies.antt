-- What a strand has counted and recorded of memo instances: those whose layers are open, its new records, how many it executed,
-- had answered by a record, and left without a layer.
use Rattle.std.specs.Prelude.{ℕ, zero, suc, ◌+◌, ◌-◌, ℤ, false, List, [], ◌∷◌, ◌++◌, map, None}
use Rattle.meaning.specs.Tree.{Name}
use Rattle.meaning.specs.Tables.{Tables}
use Rattle.meaning.specs.Outcome.{Log, Marks, Place}
use Rattle.meaning.specs.Elision.{depth_limit}
use Rattle.meaning.specs.Records.{Revised, Kept, if_valid, record_of}
use Rattle.meaning.specs.Commits.{revision_of}
use Rattle.meaning.specs.SmallStep.{Frame, Phase, leaving, Layers, noting, opening_one, closing_one, Step, moved, taken, paused, Lookup}
use Rattle.meaning.specs.Layers.{Notes, noted_top}

-- a memo instance with a layer of its own: its name, its arguments, the depth left below it, and where it stands
pub record Opened : Type 0 where
  pub of : Name
  pub args : List ℤ
  pub left : ℕ
  pub instance : Place

pub record Tally : Type 0 where
  pub opened : List Opened
  pub made : List Kept
  pub executed : ℕ
  pub reused : ℕ
  pub unrecorded : ℕ

abbrev pub no_tally : Tally
no_tally = record { opened = []; made = []; executed = 0; reused = 0; unrecorded = 0 }

-- the marks of instances that no record answered, each with its name and arguments
abbrev pub executions : Log → List (Name × List ℤ)
executions [] = []
executions (Marks f args false ∷ es) = (f, args) ∷ executions es
executions (_ ∷ es) = executions es

-- an instance is executed in a layer of its own
abbrev pub opened_all : Frame → List (Name × List ℤ) → Tally → Tally
opened_all fr [] t = t
opened_all fr (k ∷ ks) t =
    opened_all fr ks (record {
      opened = record { of = k.0; args = k.1; left = fr.left; instance = fr.instance } ∷ t.opened;
      made = t.made;
      executed = suc t.executed;
      reused = t.reused;
      unrecorded = t.unrecorded;
    })

-- an instance is executed in the layer below
abbrev pub passed_all : List (Name × List ℤ) → Tally → Tally
passed_all [] t = t
passed_all (k ∷ ks) t = passed_all ks (record { opened = t.opened; made = t.made; executed = suc t.executed; reused = t.reused; unrecorded = suc t.unrecorded })

abbrev pub answered_one : Tally → Tally
answered_one t = record { opened = t.opened; made = t.made; executed = t.executed; reused = suc t.reused; unrecorded = t.unrecorded }

module _ (program : Revised) where
  -- the record of an instance that is over with that value
  abbrev pub record_by : Opened → Notes → ℤ → Kept
  record_by o l v = record {
    of = o.of;
    args = o.args;
    value = v;
    contribution = l.worth;
    read = l.read;
    revisions = map (λ f. (f, revision_of program.revisions f)) l.entered;
    height = suc l.deepest - (depth_limit - o.left);
  }

  -- the top layer becomes a record
  abbrev pub closed_by : List Opened → List Notes → Phase → Tally → Tally
  closed_by (o ∷ os) (l ∷ ls) (leaving v) t =
      record { opened = os; made = t.made ++ record_by o l v ∷ []; executed = t.executed; reused = t.reused; unrecorded = t.unrecorded }
  closed_by _ _ _ t = t

  abbrev pub tallied_by : Layers → Frame → List Notes → Phase → List (Name × List ℤ) → Tally → Tally
  tallied_by noting fr ls ph ks t = passed_all ks t
  tallied_by opening_one fr ls ph ks t = opened_all fr ks t
  tallied_by closing_one fr ls ph ks t = closed_by t.opened ls ph t

  -- after a small step of a strand with these layers
  abbrev pub tallied : List Notes → Step → Tally → Tally
  tallied ls (moved l evs fr ph under) t = tallied_by l fr (noted_top ls evs) ph (executions evs) t
  tallied ls (taken evs k fr ph under) t = answered_one t
  tallied ls (paused e) t = t

-- the left strand's tally, and then the right's: only the left one has open layers
abbrev pub tallies_joined : Tally → Tally → Tally
tallies_joined a b = record {
  opened = a.opened;
  made = a.made ++ b.made;
  executed = a.executed + b.executed;
  reused = a.reused + b.reused;
  unrecorded = a.unrecorded + b.unrecorded;
}

-- the record that answers a name and arguments at a depth: the one that is there, where it is valid
module _ (program : Revised) (tables : Tables) (records : List Kept) where
  abbrev pub valid_record : Lookup
  valid_record f args zero = None
  valid_record f args (suc d) = if_valid program tables (suc d) (record_of records f args)
