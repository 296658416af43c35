-- The theorems about strands, as they are stated of whole strands.
use Rattle.std.proofs.Common.{List, [], ◌∷◌, ◌≡◌, refl, sym, ap, subst}
use Rattle.meaning.specs.Tree.{Tree}
use Rattle.meaning.specs.Tables.{Tables}
use Rattle.meaning.specs.Outcome.{Accumulators}
use Rattle.meaning.specs.SmallStep.{Start, Phase, Parent, Lookup}
use Rattle.meaning.specs.Layers.{Notes, take_top}
use Rattle.meaning.specs.LayeredStrand.{LayeredStrand, joined_layers, resumed, joined}
use Rattle.meaning.specs.Trail.{sight_of}
use Rattle.trail_theory.specs.ReadsAtEnd.{ReadsAtMainsEnd}
use Rattle.trail_theory.specs.Waiting.{UsesNoWaitingName, HasNoReads}
use Rattle.trail_theory.specs.Right.{RightAt, IsRight, LookupIsSound, IsRecorded, StretchesMultiply}
use Rattle.trail_theory.specs.Theorems.{AdvanceStaysRight, InlineStaysRight, DetachStaysRight, ContinuationIsRight, PopStaysRight, JoinStaysRight, EndsWithElision, FaultsWithElision}
use Rattle.trail_theory.proofs.Advances.{advance_right, inline_right, detach_right, continuation_right}
use Rattle.trail_theory.proofs.Joins.{pop_right, join_at}
use Rattle.trail_theory.proofs.Ends.{ends, breaks, ends_read, breaks_read}
use Rattle.trail_theory.proofs.Records.{narrower}

module _ (program : Tree) (tables : Tables) (sight : Accumulators) (lookup : Lookup) where
  -- a strand's parts by their equations
  right_with : (s : LayeredStrand) (m : Start) (ls : List Notes) (ph : Phase) (t : List Parent) → s.start ≡ m → s.layers ≡ ls → s.phase ≡ ph → s.under ≡ t → IsRight program tables sight lookup s → RightAt program tables sight lookup m ls s.frame ph t
  right_with s m ls ph t a b c d h =
      subst (λ w. RightAt program tables sight lookup m ls s.frame ph w) d
      (subst (λ w. RightAt program tables sight lookup m ls s.frame w s.under) c
      (subst (λ w. RightAt program tables sight lookup m w s.frame s.phase s.under) b
      (subst (λ w. RightAt program tables sight lookup w s.layers s.frame s.phase s.under) a h)))

  pub inlines : InlineStaysRight program tables sight lookup
  inlines s d x child todo e h = inline_right program tables sight lookup s.start s.layers s.frame s.under d x child todo (right_with s _ _ _ _ refl refl e refl h)

  pub detaches : DetachStaysRight program tables sight lookup
  detaches s d x child todo e h = detach_right program tables sight lookup s.start s.layers s.frame s.under d x child todo (right_with s _ _ _ _ refl refl e refl h)

  pub continues : ContinuationIsRight program tables sight lookup
  continues s d x child todo e h = continuation_right program tables sight lookup s.start s.layers s.frame s.under d x child todo (right_with s _ _ _ _ refl refl e refl h)

  pub ends_whole : HasNoReads program → EndsWithElision program tables sight lookup
  ends_whole nr s v l a b c d e h = ends program tables sight lookup nr l s.frame v (right_with s _ _ _ _ a e b c h) d

  pub faults_whole : HasNoReads program → FaultsWithElision program tables sight lookup
  faults_whole nr s k a b h = breaks program tables sight lookup nr s.layers s.frame k s.under (right_with s _ _ _ _ a refl b refl h)

  joined_one : (l r : LayeredStrand) (noted : Notes) → r.layers ≡ noted ∷ [] → take_top program noted l.layers ≡ joined_layers program l.layers r.layers
  joined_one l r noted e = ap (joined_layers program l.layers) (sym e)

  pub pops : PopStaysRight program tables sight lookup
  pops s k v a b c d h g =
      let w = resumed program s k v in
      subst (λ m. RightAt program tables sight lookup m w.layers w.frame w.phase w.under) (sym c)
      (pop_right program tables sight lookup s.layers s.frame v k d (right_with s _ _ _ _ c refl a b h) g)

  module _ (law : StretchesMultiply program tables sight lookup) where
    pub advances : UsesNoWaitingName program → LookupIsSound program tables sight lookup → AdvanceStaysRight program tables sight lookup
    advances checked sound kit s h sees = advance_right program tables sight lookup law checked (narrower program tables sight lookup (λ f. Unit {0}) (IsRecorded program) (λ f q. tt) sound) kit s h sees

    pub joins : JoinStaysRight program tables sight lookup
    joins l r v m c noted a b e d f may hl hr =
        let w = joined program l v r in
        subst (λ ls. RightAt program tables sight lookup l.start ls w.frame w.phase w.under) (joined_one l r noted f)
        (join_at program tables sight lookup law l.start l.layers l.frame v m c noted r.frame r.phase r.under (right_with l _ _ _ _ refl refl a b hl) (right_with r _ _ _ _ e f refl refl hr) d may.0 may.1)

-- where reads stand at main's end
module _ (program : Tree) (tables : Tables) (lookup : Lookup) (ruled : ReadsAtMainsEnd program) where
  pub ends_reading : EndsWithElision program tables (sight_of program tables) lookup
  ends_reading s v l a b c d e h = ends_read program tables lookup ruled l s.frame v (right_with program tables (sight_of program tables) lookup s _ _ _ _ a e b c h) d

  pub faults_reading : FaultsWithElision program tables (sight_of program tables) lookup
  faults_reading s k a b h = breaks_read program tables lookup ruled s.layers s.frame k s.under (right_with program tables (sight_of program tables) lookup s _ _ _ _ a refl b refl h)
