-- The theorems about layers and new records, as they are stated of whole strands.
use Rattle.std.proofs.Common.{[], ◌∷◌, ◌++◌, ◌≡◌, refl, subst}
use Rattle.meaning.specs.Tree.{read, step}
use Rattle.meaning.specs.Tables.{Tables}
use Rattle.meaning.specs.Outcome.{Accumulators}
use Rattle.meaning.specs.Records.{Revised}
use Rattle.meaning.specs.Trail.{sight_of}
use Rattle.meaning.specs.SmallStep.{blocks, running, Lookup}
use Rattle.meaning.specs.Layers.{total}
use Rattle.trail_theory.specs.ReadsAtEnd.{ReadsAtMainsEnd, KeepsRules}
use Rattle.trail_theory.specs.Right.{IsOneLayer, RecordedAreSound, StretchesMultiply}
use Rattle.trail_theory.specs.OpenLayers.{recorded_by, recorded_in, IsNumbered}
use Rattle.trail_theory.specs.OwedLayers.{opened_names, Unbroken}
use Rattle.trail_theory.specs.TalliedTheorems.{TalliedStays, LayersStayOwed, ClosesItsOwn, EntryHasOneLayer, ReadHasOneLayer}
use Rattle.trail_theory.proofs.Theorems.{continues}
use Rattle.trail_theory.proofs.ReadPoints.{reads_at_root, sees_by_product}
use Rattle.trail_theory.proofs.TalliedSteps.{advance_tallied}
use Rattle.trail_theory.proofs.TalliedMoves.{first_tallied, inline_tallied, detach_tallied, continuation_shallow, tallied_with, pop_tallied, steal_tallied, join_tallied}
use Rattle.trail_theory.proofs.OwedLayers.{closes_top}
use Rattle.trail_theory.proofs.OwedSteps.{owes_first, owes_push, owes_inline, owes_pop, owes_steal_left, owes_steal_right, owes_join, owes_advance, unbroken_both, entry_opened, entry_one_layer, alone_opened, one_of}

module _ (program : Revised) (tables : Tables) (lookup : Lookup) where
  abbrev S : Accumulators
  S = sight_of program.tree tables

  pub tallied_stay : StretchesMultiply program.tree tables S lookup → KeepsRules program.tree → IsNumbered program → RecordedAreSound program.tree tables S lookup → TalliedStays program tables lookup
  tallied_stay law rules numbers sound =
      record {
        begins = first_tallied program tables S lookup;
        advances = λ kit s t h top. advance_tallied program tables S lookup law rules.reads numbers rules.waiting sound kit (total program.tree s.layers).worth s t h top (sees_by_product program.tree tables lookup law rules.reads s h.right);
        inlines = λ s t d x child todo e h. inline_tallied program tables S lookup s t d x child todo e h;
        detaches = λ s t d x child todo e h. detach_tallied program tables S lookup s t d x child todo e h;
        continues = λ s t d x child todo e h. (continues program.tree tables S lookup s d x child todo e h.right, continuation_shallow program tables S lookup s t x todo h);
        pops = λ s t k v a b c d h g. pop_tallied program tables S lookup s t k v a b c d h g.0 g.1;
        steals = λ k g. steal_tallied program tables S lookup k g.0 g.1;
        joins = λ l r t u v m c noted a b d e f may h g. join_tallied program tables S lookup law l r t u v m c noted a b d e f may h g;
      }

  pub layers_stay : ReadsAtMainsEnd program.tree → LayersStayOwed program tables lookup
  layers_stay ruled =
      record {
        begins = owes_first program.tree;
        advances = λ kit s ks t left right h o. owes_advance program tables S lookup ruled kit (total program.tree s.layers).worth s ks t left right h o;
        inlines = λ s ks t left right d x child todo e o. owes_inline program.tree s ks t left right d x child todo e o;
        pushes = λ s ks t left right d x child todo e o. owes_push program.tree s ks t left right d x child todo e o;
        pops = λ s k ks t left right v a b o. owes_pop program.tree s k ks t left right v a b o;
        steals = λ s younger k t left right stacked later o. (owes_steal_left program.tree s younger k t left right o, owes_steal_right program.tree k right stacked later);
        joins = λ l r t u v left middle right a b c hl hr. owes_join program.tree l r t u v left middle right a b c hl hr;
      }

  pub closes_own_layer : ClosesItsOwn program tables lookup
  closes_own_layer s ks t left right o = closes_top s ks t left right o

  pub entry_has_one : EntryHasOneLayer program tables lookup
  entry_has_one s t left right e later h o =
      unbroken_both s.phase (t.opened ≡ []) (IsOneLayer s.layers) (entry_opened program tables S lookup s t left right e h o later) (entry_one_layer program tables S lookup s t left right e h o later)

  pub read_has_one : ReadsAtMainsEnd program.tree → ReadHasOneLayer program tables lookup
  read_has_one ruled s t n x r b bs e h o =
      let now = running (blocks (step n (read x r) b ∷ bs)) in
      let p = reads_at_root program.tree tables S lookup ruled s n x r b bs e h.right in
      let y = tallied_with program tables S lookup s t s.start s.layers now [] refl refl e p.2 h in
      let balance : recorded_in s.frame now (s.under ++ []) ++ [] ≡ opened_names t.opened ++ [] = subst (λ ph. Unbroken ph (recorded_in s.frame ph (s.under ++ []) ++ [] ≡ opened_names t.opened ++ [])) e o.balance in
      let alone : recorded_by s.frame.recorded s.frame.instance [] ++ [] ≡ opened_names t.opened ++ [] = subst (λ u. recorded_in s.frame now (u ++ []) ++ [] ≡ opened_names t.opened ++ []) p.2 balance in
      let none : t.opened ≡ [] = alone_opened program tables S lookup s.frame.recorded s.start t.opened h.high (subst (λ w. recorded_by s.frame.recorded w [] ++ [] ≡ opened_names t.opened ++ []) p.1 alone) in
      one_of program tables S lookup y.right.before t.opened s.layers y.right.segments none y.opens y.right.logged
