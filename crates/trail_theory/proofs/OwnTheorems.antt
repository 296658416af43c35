-- The theorems about the layers of one strand alone.
use Rattle.std.proofs.Common.{List, [], ◌∷◌, ◌≡◌, refl, ap, subst}
use Rattle.meaning.specs.Tables.{Tables}
use Rattle.meaning.specs.Outcome.{Accumulators}
use Rattle.meaning.specs.Records.{Revised}
use Rattle.meaning.specs.Trail.{sight_of}
use Rattle.meaning.specs.SmallStep.{Frame, Phase, spawning, leaving, Lookup}
use Rattle.meaning.specs.Layers.{Notes, total}
use Rattle.meaning.specs.LayeredStrand.{LayeredStrand}
use Rattle.meaning.specs.Tallies.{Tally}
use Rattle.trail_theory.specs.ReadsAtEnd.{ReadsAtMainsEnd, KeepsRules}
use Rattle.trail_theory.specs.TaskFits.{Fringe}
use Rattle.trail_theory.specs.Right.{IsOneLayer, RecordedAreSound, StretchesMultiply}
use Rattle.trail_theory.specs.OpenLayers.{IsNumbered}
use Rattle.trail_theory.specs.OwedLayers.{Unbroken}
use Rattle.trail_theory.specs.TalliedTheorems.{TalliedStays}
use Rattle.trail_theory.specs.OwnLayers.{Stands, by_name, OwnsNow, LayersStayOwn, OpenHasNotLeft, OwnEntryHasOneLayer, OwnMainHasOneLayer, OwnReadHasOneLayer, OwnClosesItsOwn, OwnFolds, OwnLayersCount, FlagsAreNames}
use Rattle.trail_theory.proofs.ReadPoints.{reads_at_root}
use Rattle.trail_theory.proofs.TalliedTheorems.{tallied_stay}
use Rattle.trail_theory.proofs.OwedSteps.{unbroken_by}
use Rattle.trail_theory.proofs.OwnLayers.{all_parent, all_child}
use Rattle.trail_theory.proofs.OwnMoves.{same_frame, knows_owed, lengths_owed, by_length, layers_count, closes_named, knows_named, closes_known, stands_named, unbroken_over, none_at_entry, none_at_main, stands_joined, open_is_top, stands_advance, named_tallied, not_left, one_by}

one_alone : (ls : List Notes) → IsOneLayer ls → (l : Notes) × (ls ≡ l ∷ [])
one_alone [] h = absurd h
one_alone (l ∷ []) h = (l, refl)
one_alone (l ∷ m ∷ ls) h = absurd h

module _ (program : Revised) (tables : Tables) (lookup : Lookup) where
  abbrev S : Accumulators
  S = sight_of program.tree tables

  abbrev Own : LayeredStrand → Tally → Type 0
  Own s t = OwnsNow program tables lookup s t

  at_phase : (s : LayeredStrand) (t : Tally) (ph : Phase) → s.phase ≡ ph → Own s t → Stands s.frame.instance ph t.opened
  at_phase s t ph e h = subst (λ w. Stands s.frame.instance w t.opened) e h.stands

  module _ (law : StretchesMultiply program.tree tables S lookup) (rules : KeepsRules program.tree) (numbers : IsNumbered program) (sound : RecordedAreSound program.tree tables S lookup) where
    abbrev stay : TalliedStays program tables lookup
    stay = tallied_stay program tables lookup law rules numbers sound

    pub stay_own : LayersStayOwn program tables lookup
    stay_own =
        record {
          begins = record { tallied = stay.begins; stands = tt };
          advances = λ kit s t h.
              let w = by_name s t in
              let g = named_tallied program tables S lookup s t h.tallied in
              record {
                tallied = stay.advances kit w t g (closes_named s.start s.frame s.phase t.opened);
                stands = stands_advance program tables S lookup rules.reads kit (total program.tree s.layers).worth w t g (stands_named s.frame s.phase t.opened h.stands) (knows_named s.start s.frame s.phase t.opened);
              };
          advances_by_flag = λ kit s t h top.
              record {
                tallied = stay.advances kit s t h.tallied (closes_known s.start s.frame s.phase t.opened top);
                stands = stands_advance program tables S lookup rules.reads kit (total program.tree s.layers).worth s t h.tallied h.stands top;
              };
          inlines = λ s t d x child todo e h. record { tallied = stay.inlines s t d x child todo e h.tallied; stands = all_child s.frame.instance s.frame.next t.opened (at_phase s t (spawning d x child todo) e h) };
          detaches = λ s t d x child todo e h. record { tallied = stay.detaches s t d x child todo e h.tallied; stands = all_child s.frame.instance s.frame.next t.opened (at_phase s t (spawning d x child todo) e h) };
          pops = λ s t k v a b c d h g. record { tallied = stay.pops s t k v a b c d h.tallied g; stands = all_parent s.frame.instance k.parent.frame.instance k.child t.opened d (at_phase s t (leaving v) a h) };
          steals = λ k g. record { tallied = stay.steals k g; stands = tt };
          joins = λ l r t u v m c noted a b d e f may h g.
              record {
                tallied = stay.joins l r t u v m c noted a b d e f may h.tallied g.tallied;
                stands = stands_joined m c r.frame r.phase t.opened (subst (λ w. Fringe w r.frame.instance r.frame.next r.phase) d g.tallied.right.task.fringe) (all_parent l.frame.instance m c t.opened e (at_phase l t (leaving v) a h));
              };
        }

  pub open_not_left : OpenHasNotLeft program tables lookup
  open_not_left s t h = unbroken_by s.phase (not_left program tables S lookup s t h.tallied) (unbroken_over s.frame.instance s.phase t.opened h.stands)

  pub own_entry : OwnEntryHasOneLayer program tables lookup
  own_entry s t e h = one_by program tables S lookup s t h.tallied (unbroken_by s.phase (none_at_entry s.start s.frame.instance t.opened e h.tallied.high) (unbroken_over s.frame.instance s.phase t.opened h.stands))

  pub own_main : OwnMainHasOneLayer program tables lookup
  own_main s t e h = one_by program tables S lookup s t h.tallied (unbroken_by s.phase (none_at_main s.start s.frame.instance t.opened e h.tallied.high) (unbroken_over s.frame.instance s.phase t.opened h.stands))

  pub own_read : ReadsAtMainsEnd program.tree → OwnReadHasOneLayer program tables lookup
  own_read ruled s t n x r b bs e h =
      let p = reads_at_root program.tree tables S lookup ruled s n x r b bs e h.tallied.right in
      subst (λ ph. Unbroken ph ((t.opened ≡ []) × IsOneLayer s.layers)) e (own_main s t p.1 h)

  pub own_closes : OwnClosesItsOwn program tables lookup
  own_closes = record { by_its_name = λ s t. closes_named s.start s.frame s.phase t.opened; is_top_one = λ s t h. open_is_top s.frame.instance s.phase t.opened h.stands }

  pub own_folds : StretchesMultiply program.tree tables S lookup → KeepsRules program.tree → IsNumbered program → RecordedAreSound program.tree tables S lookup → OwnFolds program tables lookup
  own_folds law rules numbers sound l r t u v m c a b d e entry may h g =
      unbroken_by r.phase (λ one. let q = one_alone r.layers one.1 in (stay_own law rules numbers sound).joins l r t u v m c q.0 a b d e q.1 may h g) (own_entry r u entry g)

  pub own_count : OwnLayersCount program tables lookup
  own_count =
      record {
        layers = λ s t h. layers_count program tables S lookup s.phase h.tallied.right.before t.opened s.layers h.tallied.right.segments h.tallied.opens h.tallied.right.logged;
        lengths = λ s t h. unbroken_by s.phase (by_length s.frame.instance t.opened) (unbroken_over s.frame.instance s.phase t.opened h.stands);
      }

  pub flags_names : FlagsAreNames program tables lookup
  flags_names =
      record {
        knows = λ s ks t left right o h. knows_owed s ks t left right o h;
        same = λ s t h e k. ap (λ (f : Frame). record { start = s.start; layers = s.layers; frame = f; phase = s.phase; under = s.under }) (same_frame s.start s.frame s.phase t.opened h.right.task.fringe e k);
        lengths = λ s ks t left right o h. lengths_owed s ks t left right o h;
      }
