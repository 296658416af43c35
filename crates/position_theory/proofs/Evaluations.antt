-- An evaluation at a statement, and then the rest, by numbers and by names.
use Rattle.std.proofs.Common.{◌≡◌, ℕ, List, ◌∷◌, ◌++◌, map, Result, Ok, Err, refl, sym, ap, subst, append_assoc}
use Rattle.meaning.specs.declared.FaultKind.{FaultKind}
use Rattle.std.specs.Prelude.{[], ◌-◌, false}
use Rattle.meaning.specs.Elision.{depth_limit}
use Rattle.meaning.specs.Outcome.{Out, Log, Reads, Reading, Site, onward}
use Rattle.meaning.specs.Trail.{fault_at}
use Rattle.meaning.specs.SmallStep.{Start as NamedStart, Frame, Phase as NamedPhase, broken, Parent, noting, opening_one, closing_one, Step, moved, taken, paused, led_step, on_answer, on_value, with_layer}
use Rattle.meaning.specs.Layers.{Notes, notes, noted_top, closed_top, take_top, notes_of, ahead_of_entry, from_entry}
use Rattle.meaning.specs.Tallies.{Tally, executions, opened_all, passed_all, answered_one, closed_by, tallied}
use Rattle.trail_theory.specs.Unflagged.{unflagged_under, unflagged_step}
use Rattle.meaning.specs.LayeredStrand.{LayeredStrand, advanced}
use Rattle.evaluation.specs.Values.{NumberedOut, mapped, changed}
use Rattle.evaluation.specs.Numbers.{numbered, readings, by_number, OnlyReads}
use Rattle.positions.specs.declared.phase.Phase.TheVariants.{Running, Broken}
use Rattle.positions.specs.Setting.{Setting}
use Rattle.positions.specs.Layers as plain
use Rattle.positions.specs.Layers.{PlainLayer}
use Rattle.positions.specs.Strands.{PlainStrand}
use Rattle.positions.specs.Advance.{noted, faulted, answered, evaluated}
use Rattle.positions.specs.Stands.{procedure_at, AreNotes, IsTally, IsStart, StandsFor}
use Rattle.positions.specs.Simulation.{IsTaken}
use Rattle.position_theory.proofs.Layering.{top_none, top_append, top_read}
use Rattle.position_theory.proofs.Starts.{start_moved}

-- a strand of the definitions by its parts
abbrev pub strand_at : NamedStart → List Notes → Frame → NamedPhase → List Parent → LayeredStrand
strand_at m ls fr ph under = record { start = m; layers = ls; frame = fr; phase = ph; under = under }

-- with that layer on top
abbrev pub layered : PlainLayer → PlainStrand → PlainStrand
layered l s = record s { layer = l }

-- ---- readings before a step

ahead_of_reads : (rs : List Reading) (fs : Log) → ahead_of_entry (map Reads rs ++ fs) ≡ map Reads rs ++ ahead_of_entry fs
ahead_of_reads [] fs = refl
ahead_of_reads (r ∷ rs) fs = ap (λ es. Reads r ∷ es) (ahead_of_reads rs fs)

from_reads : (rs : List Reading) (fs : Log) → from_entry (map Reads rs ++ fs) ≡ from_entry fs
from_reads [] fs = refl
from_reads (r ∷ rs) fs = from_reads rs fs

executed_reads : (rs : List Reading) (fs : Log) → executions (map Reads rs ++ fs) ≡ executions fs
executed_reads [] fs = refl
executed_reads (r ∷ rs) fs = executed_reads rs fs

-- ---- what a step comes to

module _ (setting : Setting) where
  -- a strand of numbers stands for what a strand comes to by that step, without flags
  abbrev pub Comes : PlainStrand → LayeredStrand → Tally → Step → Type 0
  Comes s x t st = StandsFor setting s (advanced setting.program.tree x (unflagged_step st)) (tallied setting.program x.layers (unflagged_step st) t)

  module _ (s : PlainStrand) (m : NamedStart) (ls : List Notes) (fr : Frame) (ph : NamedPhase) (under : List Parent) (t : Tally) where
    abbrev after_layers : List Notes → Frame → NamedPhase → List Parent → Tally → Type 0
    after_layers ks g qh us u = StandsFor setting s (strand_at m ks (with_layer false g) qh (unflagged_under us)) u

    -- what was read before a step stands in the layer
    led_reads : (rs : List Reading) (st : Step) → IsTaken st → Comes s (strand_at m (noted_top ls (map Reads rs)) fr ph under) t st → Comes s (strand_at m ls fr ph under) t (led_step (map Reads rs) st)
    led_reads rs (moved noting fs g qh us) k h =
        subst (λ ks. after_layers ks g qh us (passed_all (executions (map Reads rs ++ fs)) t)) (sym (top_append ls (map Reads rs) fs))
        (subst (λ es. after_layers (noted_top (noted_top ls (map Reads rs)) fs) g qh us (passed_all es t)) (sym (executed_reads rs fs)) h)
    led_reads rs (moved opening_one fs g qh us) k h =
        subst (λ es. after_layers (notes setting.program.tree es ∷ noted_top ls (ahead_of_entry (map Reads rs ++ fs))) g qh us (opened_all (with_layer false g) (executions (map Reads rs ++ fs)) t)) (sym (from_reads rs fs))
        (subst (λ es. after_layers (notes setting.program.tree (from_entry fs) ∷ noted_top ls es) g qh us (opened_all (with_layer false g) (executions (map Reads rs ++ fs)) t)) (sym (ahead_of_reads rs fs))
        (subst (λ ks. after_layers (notes setting.program.tree (from_entry fs) ∷ ks) g qh us (opened_all (with_layer false g) (executions (map Reads rs ++ fs)) t)) (sym (top_append ls (map Reads rs) (ahead_of_entry fs)))
        (subst (λ es. after_layers (notes setting.program.tree (from_entry fs) ∷ noted_top (noted_top ls (map Reads rs)) (ahead_of_entry fs)) g qh us (opened_all (with_layer false g) es t)) (sym (executed_reads rs fs)) h)))
    led_reads rs (moved closing_one fs g qh us) k h =
        subst (λ ks. after_layers (closed_top setting.program.tree ks) g qh us (closed_by setting.program t.opened ks qh t)) (sym (top_append ls (map Reads rs) fs)) h
    led_reads rs (taken fs j g qh us) k h =
        subst (λ ks. after_layers (take_top setting.program.tree (notes_of j (depth_limit - g.left)) ks) g qh us (answered_one t)) (sym (top_append ls (map Reads rs) fs)) h
    led_reads rs (paused p) k h = absurd k

    pub led_comes : (log : Log) → OnlyReads log → (st : Step) → IsTaken st → Comes s (strand_at m (noted_top ls log) fr ph under) t st → Comes s (strand_at m ls fr ph under) t (led_step log st)
    led_comes log only st k =
        subst (λ es. Comes s (strand_at m (noted_top ls es) fr ph under) t st → Comes s (strand_at m ls fr ph under) t (led_step es st)) (sym only) (led_reads (readings log) st k)

led_led : (es fs : Log) (st : Step) → led_step (es ++ fs) st ≡ led_step es (led_step fs st)
led_led es fs (moved l gs g qh us) = ap (λ hs. moved l hs g qh us) (append_assoc es fs gs)
led_led es fs (taken gs k g qh us) = ap (λ hs. taken hs k g qh us) (append_assoc es fs gs)
led_led es fs (paused p) = refl

-- an evaluation in two parts
module _ {A B : Type 0} (fr : Frame) (under : List Parent) (site : Site) (f : A → Out FaultKind B) (step : B → Step) where
  in_parts : (log : Log) (r : Result A FaultKind) → on_value fr under site (onward log r f) step ≡ led_step log (on_answer fr under site r (λ a. on_value fr under site (f a) step))
  in_parts log (Ok a) = led_led log (f a).log (on_answer fr under site (f a).answer step)
  in_parts log (Err k) = refl

  pub two_parts : (o : Out FaultKind A) → on_value fr under site (onward o.log o.answer f) step ≡ on_value fr under site o (λ a. on_value fr under site (f a) step)
  two_parts o = in_parts o.log o.answer

-- an answer that is changed
changed_is : {A B : Type 0} (n : ℕ) (f : A → B) (r : Result A FaultKind) (next : B → PlainStrand → PlainStrand) (s : PlainStrand)
    → answered n (changed f r) next s ≡ answered n r (λ a. next (f a)) s
changed_is n f (Ok a) next s = refl
changed_is n f (Err k) next s = refl

pub mapped_is : {A B : Type 0} (n : ℕ) (f : A → B) (o : NumberedOut A) (next : B → PlainStrand → PlainStrand) (s : PlainStrand)
    → evaluated n (mapped f o) next s ≡ evaluated n o (λ a. next (f a)) s
mapped_is n f o next s = changed_is n f o.answer next (noted o.notes s)

module _ (setting : Setting) (m : NamedStart) (fr : Frame) (ph : NamedPhase) (under : List Parent) (t : Tally) (s : PlainStrand) (n : ℕ) (site : Site)
    (at_site : site ≡ record { procedure = (procedure_at setting s.top.procedure).called; statement = n }) (begins : IsStart s.start Running s.path m) (counts : IsTally setting s.tally t) where
  -- a fault at the statement
  pub faulted_is : (k : FaultKind) (l : PlainLayer) (ls : List Notes) → AreNotes setting s.start (l ∷ s.lower) ls
      → Comes setting (faulted n k (layered l s)) (strand_at m ls fr ph under) t (moved noting [] fr (broken (fault_at site k)) under)
  faulted_is k l ls h = record {
    start = start_moved s.start Running (Broken (record { kind = k; procedure = s.top.procedure; statement = n })) s.path s.path m (λ d w. (refl, w)) begins;
    layers = subst (AreNotes setting s.start (l ∷ s.lower)) (sym (top_none ls)) h;
    tally = counts;
    now = ap (λ at. broken (fault_at at k)) at_site;
  }

  stops_or_goes : {A : Type 0} (log : Log) (r : Result A FaultKind) (next : A → PlainStrand → PlainStrand) (step : A → Step) (ls : List Notes)
      → OnlyReads log → AreNotes setting s.start (s.layer ∷ s.lower) ls → ((v : A) → IsTaken (step v))
      → ((v : A) (l : PlainLayer) (ks : List Notes) → AreNotes setting s.start (l ∷ s.lower) ks → Comes setting (next v (layered l s)) (strand_at m ks fr ph under) t (step v))
      → Comes setting (answered n r next (noted (map (numbered setting.names) (readings log)) s)) (strand_at m ls fr ph under) t (led_step log (on_answer fr under site r step))
  stops_or_goes log (Ok v) next step ls only h is_taken goes =
      led_comes setting (next v (noted (map (numbered setting.names) (readings log)) s)) m ls fr ph under t log only (step v) (is_taken v)
      (goes v (plain.noting (map (numbered setting.names) (readings log)) s.layer) (noted_top ls log) (top_read setting s.start s.layer s.lower ls log only h))
  stops_or_goes log (Err k) next step ls only h is_taken goes =
      led_comes setting (faulted n k (noted (map (numbered setting.names) (readings log)) s)) m ls fr ph under t log only (moved noting [] fr (broken (fault_at site k)) under) tt
      (faulted_is k (plain.noting (map (numbered setting.names) (readings log)) s.layer) (noted_top ls log) (top_read setting s.start s.layer s.lower ls log only h))

  -- an evaluation, and then the rest
  pub evaluated_is : {A : Type 0} (o : Out FaultKind A) (next : A → PlainStrand → PlainStrand) (step : A → Step) (ls : List Notes)
      → OnlyReads o.log → AreNotes setting s.start (s.layer ∷ s.lower) ls → ((v : A) → IsTaken (step v))
      → ((v : A) (l : PlainLayer) (ks : List Notes) → AreNotes setting s.start (l ∷ s.lower) ks → Comes setting (next v (layered l s)) (strand_at m ks fr ph under) t (step v))
      → Comes setting (evaluated n (by_number setting.names o) next s) (strand_at m ls fr ph under) t (on_value fr under site o step)
  evaluated_is o next step ls only h is_taken goes = stops_or_goes o.log o.answer next step ls only h is_taken goes
