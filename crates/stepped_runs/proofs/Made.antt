-- The records that the strands of a run have made hold now, and so do those that a small step adds.
use Rattle.std.proofs.Common.{◌≡◌, Bool, true, false, List, [], ◌∷◌, map, refl, sym, ◌∙◌, ap, subst}
use Rattle.meaning.specs.Outcome.{Fault}
use Rattle.meaning.specs.Records.{Kept, holds_now}
use Rattle.meaning.specs.SmallStep.{is_entry, Frame, Phase, entering, running, spawning, returning, leaving, broken, Step, unless, micro, Lookup}
use Rattle.meaning.specs.Layers.{bottom, total}
use Rattle.meaning.specs.LayeredStrand.{LayeredStrand}
use Rattle.meaning.specs.Tallies.{Tally, tallied, valid_record}
use Rattle.meaning.specs.Schedules.{Piece, RunState}
use Rattle.trail_theory.specs.Order.{Every}
use Rattle.trail_theory.specs.OpenLayers.{IsNewRecord}
use Rattle.trail_theory.specs.OwedLayers.{Unbroken}
use Rattle.trail_theory.specs.OwnLayers.{is_top, is_top_by_length, frame_by, by_name, OwnsNow}
use Rattle.trail_theory.specs.TalliedTheorems.{tallied_now}
use Rattle.trail_theory.proofs.OwnTheorems.{stay_own}
use Rattle.run_theory.specs.UnflaggedRuns.{unflagged_piece, IsToldByName}
use Rattle.strand_theory.proofs.Laws.{law, sound}
use Rattle.run_theory.proofs.News.{paths_news, paths_own}
use Rattle.strand_theory.proofs.UnflaggedSteps.{micro_alike, tallied_alike}
use Rattle.run_theory.proofs.UnflaggedRuns.{IsTold}
use Rattle.run_theory.proofs.FlagsTold.{flags_told, told_by_length}
use Rattle.positions.specs.Setting.{Setting}
use Rattle.positions.specs.Simulation.{HoldNow, tally_after}
use Rattle.stepped_runs.specs.Simulation.{IsPrepared, IsReached}
use Rattle.stepped_runs.proofs.Agreeing.{Each}

passed_over : (b : Bool) (x y : Step) → b ≡ true → unless b x ≡ unless b y
passed_over true x y e = refl
passed_over false x y e = absurd cc

module _ (setting : Setting) where
  abbrev lookup : Lookup
  lookup = valid_record setting.program setting.tables setting.memory.records

  abbrev Owns : Piece → Type 0
  Owns x = OwnsNow setting.program setting.tables lookup x.strand x.tally

  abbrev Told : Piece → Type 0
  Told = IsTold setting.program setting.tables setting.memory is_top_by_length

  abbrev AreNews : List Kept → Type 0
  AreNews made = Every (IsNewRecord setting.program setting.tables) made

  news_hold : (ks : List Kept) → AreNews ks → Every (λ k. holds_now setting.program setting.tables k ≡ true) ks
  news_hold [] h = tt
  news_hold (k ∷ ks) h = (h.0.now, news_hold ks h.1)

  -- whether a kit is free or not
  abbrev pub MakesNow : Piece → Type 0
  MakesNow x = (kit : Bool) → HoldNow setting (tally_after setting kit x.strand x.tally)

  module _ (prepared : IsPrepared setting) where
    module _ (x : Piece) (kit : Bool) where
      abbrev after : LayeredStrand → Tally
      after s = tallied_now setting.program setting.tables lookup kit s x.tally

      -- without flags the step counts and records the same
      same_after : Told x → tally_after setting kit (unflagged_piece x).strand x.tally ≡ after x.strand
      same_after told =
          let s = x.strand in
          let acc = (total setting.program.tree s.layers).worth in
          ap (λ st. tallied setting.program s.layers st x.tally)
          (micro_alike setting.program.tree setting.tables lookup kit (bottom s.layers) acc is_top_by_length x.tally.opened s.start s.frame s.phase s.under told.flag told.reads)
          ∙ tallied_alike setting.program s.layers (micro setting.program.tree setting.tables lookup kit acc s.start s.frame s.phase s.under) x.tally

      abbrev step_as : Frame → Phase → Step
      step_as fr ph = micro setting.program.tree setting.tables lookup kit (total setting.program.tree x.strand.layers).worth x.strand.start fr ph x.strand.under

      -- at its entry a strand is paused, whatever its flag
      entry_same : (ph : Phase) → is_entry x.strand.start x.strand.frame.instance ≡ true → step_as (frame_by is_top ph x.tally.opened x.strand.frame) ph ≡ step_as x.strand.frame ph
      entry_same (returning v) e = passed_over (is_entry x.strand.start x.strand.frame.instance) _ _ e
      entry_same (entering child) e = refl
      entry_same (running todo) e = refl
      entry_same (spawning d into child todo) e = refl
      entry_same (leaving v) e = refl
      entry_same (broken k) e = refl

      named_after : IsToldByName x → (b : Bool) → is_entry x.strand.start x.strand.frame.instance ≡ b → after (by_name x.strand x.tally) ≡ after x.strand
      named_after told true e = ap (λ st. tallied setting.program x.strand.layers st x.tally) (entry_same x.strand.phase e)
      named_after told false e = ap after (told e)

      owned_after : Owns x → IsToldByName x → AreNews (after x.strand).made
      owned_after owns told =
          let m = setting.memory in
          let stays = stay_own setting.program setting.tables lookup (law setting.program setting.tables m prepared.ready) prepared.ready.rules prepared.numbered (sound setting.program setting.tables m prepared.ready) in
          let news = (stays.advances kit x.strand x.tally owns).tallied.made in
          subst (λ t. AreNews t.made) (named_after told (is_entry x.strand.start x.strand.frame.instance) refl) news

      -- a strand with a fault has no step
      broken_after : (k : Fault) → x.strand.phase ≡ broken k → AreNews x.tally.made → AreNews (after x.strand).made
      broken_after k e news = subst (λ ph. AreNews (tallied setting.program x.strand.layers (step_as x.strand.frame ph) x.tally).made) (sym e) news

      news_after : (ph : Phase) → x.strand.phase ≡ ph → Unbroken ph (Owns x) → IsToldByName x → AreNews x.tally.made → AreNews (after x.strand).made
      news_after (broken k) e owns told news = broken_after k e news
      news_after (entering child) e owns told news = owned_after owns told
      news_after (running todo) e owns told news = owned_after owns told
      news_after (spawning d into child todo) e owns told news = owned_after owns told
      news_after (returning v) e owns told news = owned_after owns told
      news_after (leaving v) e owns told news = owned_after owns told

    makes_now : (x : Piece) → Told x → IsToldByName x → Unbroken x.strand.phase (Owns x) → AreNews x.tally.made → MakesNow (unflagged_piece x)
    makes_now x told named owns news kit =
        subst (λ t. HoldNow setting t) (sym (same_after x kit told)) (news_hold (after x kit x.strand).made (news_after x kit x.strand.phase refl owns named news))

    each_makes : (xs : List Piece) → Every Told xs → Every IsToldByName xs → Every (λ x. Unbroken x.strand.phase (Owns x)) xs → Every (λ (x : Piece). AreNews x.tally.made) xs → Each MakesNow (map unflagged_piece xs)
    each_makes [] told named owns news = tt
    each_makes (x ∷ xs) told named owns news = (makes_now x told.0 named.0 owns.0 news.0, each_makes xs told.1 named.1 owns.1 news.1)

    pub make_now : (x : RunState) → IsReached setting x → Each MakesNow (map unflagged_piece x.pieces)
    make_now x r =
        let m = setting.memory in
        subst (λ (y : RunState). Each MakesNow (map unflagged_piece y.pieces)) r.is
        (each_makes _ (told_by_length setting.program setting.tables m prepared.ready prepared.numbered r.kits r.steps)
        (flags_told setting.program setting.tables m prepared.ready prepared.numbered r.kits r.steps)
        (paths_own setting.program setting.tables m prepared.ready prepared.numbered r.kits r.steps)
        (paths_news setting.program setting.tables m prepared.ready prepared.numbered r.kits r.steps))
