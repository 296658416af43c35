-- Strands with layers, and their steps: small steps, push, inline, pop, steal and join.
use Rattle.std.specs.Prelude.{ℕ, ◌-◌, Bool, true, ℤ, List, [], ◌∷◌, map, Option, Ok, cond}
use Rattle.meaning.specs.Tree.{Tree}
use Rattle.meaning.specs.Tables.{Tables}
use Rattle.meaning.specs.Outcome.{Accumulators, Place, Leaves}
use Rattle.meaning.specs.Trail.{child_of}
use Rattle.meaning.specs.SmallStep.{Slot, unset, waits, has, Start, root, behind, Frame, Todo, Child, instance, Phase, entering, running}
use Rattle.meaning.specs.SmallStep.{Parent, opened, Step, moved, taken, paused, Lookup, Continuation, same_name, with_value, micro}
use Rattle.meaning.specs.SmallStep.{child_name, awaiting, with_env, set_into}
use Rattle.meaning.specs.Statements.{beginning}
use Rattle.meaning.specs.Layers.{Notes, notes, notes_of, layers_by, noted_top, take_top, blank, bottom}
use Rattle.meaning.specs.Elision.{depth_limit, main}

pub record LayeredStrand : Type 0 where
  pub start : Start
  pub layers : List Notes
  pub frame : Frame
  pub phase : Phase
  pub under : List Parent

abbrev pub advanced : Tree → LayeredStrand → Step → LayeredStrand
advanced program s (moved l evs fr ph t) = record { start = s.start; layers = layers_by program l s.layers evs; frame = fr; phase = ph; under = t }
advanced program s (taken evs k fr ph t) =
    record {
      start = s.start;
      layers = take_top program (notes_of k (depth_limit - fr.left)) (noted_top s.layers evs);
      frame = fr;
      phase = ph;
      under = t;
    }
advanced program s (paused p) = s

-- one small step, where a read gives these values
abbrev pub advance_with : Tree → Tables → Lookup → Bool → Accumulators → LayeredStrand → LayeredStrand
advance_with program tables lookup kit acc s = advanced program s (micro program tables lookup kit acc s.start s.frame s.phase s.under)

-- one small step, where it gives those of the bottom layer
abbrev pub advance : Tree → Tables → Lookup → Bool → LayeredStrand → LayeredStrand
advance program tables lookup kit s = advanced program s (micro program tables lookup kit (bottom s.layers) s.start s.frame s.phase s.under)

-- the strand of main, not entered yet: its layer has the initial values
abbrev pub first_layered : Tree → LayeredStrand
first_layered program = record {
  start = root;
  layers = notes program (beginning program) ∷ [];
  frame = opened program (depth_limit - 1) (instance main []) [];
  phase = entering (instance main []);
  under = [];
}

-- at a spawn: the child as a call
abbrev pub inlined : Tree → LayeredStrand → ℕ → Option ℕ → Child → Todo → LayeredStrand
inlined program s d x child todo = record {
  start = s.start;
  layers = s.layers;
  frame = opened program d child (child_name s.frame);
  phase = entering child;
  under = awaiting s.frame true x todo ∷ s.under;
}

-- the child alone
abbrev pub detached : Tree → LayeredStrand → ℕ → Child → LayeredStrand
detached program s d child = record {
  start = s.start;
  layers = s.layers;
  frame = opened program d child (child_name s.frame);
  phase = entering child;
  under = [];
}

abbrev pub continuation : LayeredStrand → Option ℕ → Todo → Continuation
continuation s x todo = record { since = s.start; child = s.frame.next; parent = awaiting s.frame true x todo; under = s.under }

abbrev pub resumed : Tree → LayeredStrand → Continuation → ℤ → LayeredStrand
resumed program s k v = record {
  start = s.start;
  layers = noted_top s.layers (Leaves s.frame.instance (Ok v) ∷ []);
  frame = with_value k.parent v;
  phase = running k.parent.todo;
  under = k.under;
}

abbrev pub marked : Continuation → Frame
marked k = with_env k.parent.frame (set_into k.parent.frame.env k.parent.into (waits k.child))

abbrev pub stolen : Tree → Continuation → LayeredStrand
stolen program k = record {
  start = behind k.parent.frame.instance k.child;
  layers = blank program ∷ [];
  frame = marked k;
  phase = running k.parent.todo;
  under = k.under;
}

-- the value of the child of that name goes where it is waited for
abbrev pub settle_slot : Place → ℤ → Place → Slot → Slot
settle_slot e v n unset = unset
settle_slot e v n (waits j) = cond (same_name (child_of n j) e) (has v) (waits j)
settle_slot e v n (has w) = has w

abbrev pub settled_frame : Place → ℤ → Frame → Frame
settled_frame e v fr = with_env fr (map (settle_slot e v fr.instance) fr.env)

abbrev pub settled_under : Place → ℤ → List Parent → List Parent
settled_under e v [] = []
settled_under e v (p ∷ t) = record { frame = settled_frame e v p.frame; spawned = p.spawned; into = p.into; todo = p.todo } ∷ settled_under e v t

-- the right strand has one layer
abbrev pub joined_layers : Tree → List Notes → List Notes → List Notes
joined_layers program ls [] = ls
joined_layers program ls (r ∷ rs) = take_top program r ls

abbrev pub joined : Tree → LayeredStrand → ℤ → LayeredStrand → LayeredStrand
joined program l v r = record {
  start = l.start;
  layers = joined_layers program l.layers r.layers;
  frame = settled_frame l.frame.instance v r.frame;
  phase = r.phase;
  under = settled_under l.frame.instance v r.under;
}
