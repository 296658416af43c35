-- Instances that no record answers.
use Rattle.std.specs.Prelude.{◌≡◌, ℕ, suc, ◌+◌, nat_le, true, false, List, Option, Some, None, All}
use Rattle.std.specs.List.{find}
use Rattle.meaning.specs.Tree.{Name}
use Rattle.meaning.specs.Elision.{depth_limit}
use Rattle.meaning.specs.Tables.{Tables}
use Rattle.record_theory.specs.Record.{PlainRecord, is_of}
use Rattle.record_theory.specs.Validity.{record_holds, valid_at}
use Rattle.rerun_reasons.specs.Reasons.{reason_for}
use Rattle.rerun_reasons.specs.declared.reason.Explained.{Explained}
use Rattle.rerun_reasons.specs.declared.reason.Reason.TheVariants.{TooDeep}
use Rattle.rerun_reasons.specs.declared.replay.Executed.{Executed}
use Rattle.rerun_reasons.specs.declared.setting.Setting.{Setting}

-- no record is valid for it at its depth
abbrev pub IsUnanswered : Setting → Executed → Type 0
IsUnanswered s e = valid_at s.checked.now.revisions s.tables.now.tables e.depth s.records.now e.procedure e.arguments.items ≡ None

abbrev pub AreUnanswered : Setting → List Executed → Type 0
AreUnanswered s es = All (IsUnanswered s) es

module _ (revisions : List (Name × ℕ)) (tables : Tables) where
  -- a record holds now, but as deep as its instance went it would pass the limit from that depth on
  abbrev pub IsTooDeep : ℕ → Option PlainRecord → Type 0
  IsTooDeep depth None = ⊥
  IsTooDeep depth (Some r) = (record_holds revisions tables r ≡ true) × (nat_le (depth + r.height) (suc depth_limit) ≡ false)

  module _ (records : List PlainRecord) where
    -- no record is valid for it at its depth, and the reason is the right one
    pub record IsExplained (e : Explained) : Type 0 where
      pub unanswered : valid_at revisions tables e.depth records e.procedure e.arguments.items ≡ None
      pub reason_is : e.reason ≡ reason_for revisions tables records e.procedure e.arguments.items
      pub deep : e.reason ≡ TooDeep → IsTooDeep e.depth (find (is_of e.procedure e.arguments.items) records)

    abbrev pub AreExplained : List Explained → Type 0
    AreExplained es = All IsExplained es
