-- The run after a run: its records are sound, and it is prepared as the first one was.
use Rattle.std.proofs.Common.{◌≡◌, List, [], ◌∷◌, refl}
use Rattle.monoid_laws.specs.declared.Kind.{Kind}
use Rattle.meaning.specs.Tables.{Tables}
use Rattle.meaning.specs.Records.{Revised, Kept, IsSound}
use Rattle.meaning.specs.Commits.{committed}
use Rattle.trail_theory.specs.Order.{Every}
use Rattle.trail_theory.specs.OpenLayers.{IsNewRecord}
use Rattle.trail_theory.specs.Typed.{TablesFit}
use Rattle.trail_theory.proofs.Contributions.{commits_sound}
use Rattle.linked_program.specs.TableNames.{Columned, columned_of}
use Rattle.record_theory.specs.Commits.{put_records}
use Rattle.record_theory.proofs.Lookups.{put_all}
use Rattle.positions.specs.Setting.{Setting}
use Rattle.positions.specs.Tallies.{PlainTally}
use Rattle.numbered_runs.specs.News.{StandForKept, HaveNews, AreSound, AreSoundIn, next_setting}
use Rattle.stepped_runs.specs.Simulation.{IsPrepared}

news_sound : (program : Revised) (tables : Tables) (ks : List Kept) → Every (IsNewRecord program tables) ks → Every (IsSound program) ks
news_sound program tables [] h = tt
news_sound program tables (k ∷ ks) h = (h.0.sound, news_sound program tables ks h.1)

pub none_sound : (program : Revised) (names : List Columned) (kinds : List Kind) → AreSound program names kinds []
none_sound program names kinds = record { kept = []; stand = tt; sound = tt }

module _ (setting : Setting) (prepared : IsPrepared setting) where
  pub held_sound : AreSoundIn setting setting.records
  held_sound = record { kept = setting.memory.records; stand = prepared.records.records; sound = prepared.ready.sound }

  module _ (t : PlainTally) (news : HaveNews setting t) where
    abbrev put : List Kept
    put = committed setting.memory.records news.kept

    stand_after : StandForKept setting (put_records setting.records t.made) put
    stand_after = put_all setting.program setting.names setting.kinds setting.memory.records news.kept setting.records t.made prepared.records.records news.stand

    sound_after : Every (IsSound setting.program) put
    sound_after = commits_sound setting.program setting.memory.records news.kept prepared.ready.sound (news_sound setting.program setting.tables news.kept news.news)

    pub put_sound : AreSoundIn setting (put_records setting.records t.made)
    put_sound = record { kept = put; stand = stand_after; sound = sound_after }

    pub next_prepared : (tables : Tables) → setting.names ≡ columned_of tables → TablesFit tables → IsPrepared (next_setting setting tables news.kept t.made)
    next_prepared tables are fit = record {
      ready = record { rules = prepared.ready.rules; monoids = prepared.ready.monoids; numbers = prepared.ready.numbers; cells = fit; sound = sound_after };
      numbered = prepared.numbered;
      tables = are;
      linked = record { codes = prepared.linked.codes; kinds = prepared.linked.kinds };
      records = record { records = stand_after; recording = refl; in_order = prepared.records.in_order };
    }
