use Rattle.std.proofs.Common.{ℕ, List, [], ◌∷◌, sym, subst}
use Rattle.instance_records.specs.declared.spans.Span.{Span}
use Rattle.rerun_records.specs.Covers.{PlainLevel, CoversLevel, AreLevelsBut}
use Rattle.rerun_records.specs.Skips.{PassBut}
use Rattle.rerun_records.proofs.Covering.{empty_covers}
use Rattle.rerun_records.proofs.covers.Covers.new.Goals as goal

pub returns : goal.returns
returns c =
    let levels : List PlainLevel =
    record { width = 32768; hulls = c.new.result.items } ∷ record { width = 1024; hulls = c.new-2.result.items } ∷ record { width = 32; hulls = c.new-3.result.items } ∷ [] in
    record {
      none = λ records.
          subst (λ (ps : List ℕ). AreLevelsBut ps records levels × PassBut ps records c.new-4.result) (sym c.new-5.ensures.items) (
            (
              subst (λ (hs : List (List Span)). CoversLevel records (record { width = 32768; hulls = hs })) (sym c.new.ensures.items) (empty_covers records 32768),
              (
                subst (λ (hs : List (List Span)). CoversLevel records (record { width = 1024; hulls = hs })) (sym c.new-2.ensures.items) (empty_covers records 1024),
                (subst (λ (hs : List (List Span)). CoversLevel records (record { width = 32; hulls = hs })) (sym c.new-3.ensures.items) (empty_covers records 32), tt),
              ),
            ),
            c.new-4.ensures.none records,
          );
    }
