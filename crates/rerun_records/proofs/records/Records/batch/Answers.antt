use Rattle.std.proofs.Common.{◌≡◌, ℕ, ℤ, List, None, IfSome, subst}
use Rattle.std.specs.Prelude.{IfNone}
use Rattle.record_theory.specs.Validity.{valid_at}
use Rattle.rerun_records.specs.Sums.{IsBatchFor}
use Rattle.rerun_records.proofs.records.Records.batch.Goals as goal

pub returns-in-Some : goal.returns-in-Some
returns-in-Some c =
    let P = c.args.program.now in
    let T = c.args.tables.now.tables in
    record {
      batch =
          subst (λ (xs : List ℤ). IfSome c.batch_at.result (λ b. IsBatchFor c.args.series.keeps P T c.args.series.depth c.args.self.now c.args.procedure xs c.args.series.counted c.args.series.most b.count b.sum.now)) c.in-Some.ensures.arguments
          (subst (λ (f : ℕ). IfSome c.batch_at.result (λ b. IsBatchFor c.args.series.keeps P T c.args.series.depth c.args.self.now f c.in-Some.record.now.arguments c.args.series.counted c.args.series.most b.count b.sum.now)) c.in-Some.ensures.procedure
          c.batch_at.ensures.batch);
      none =
          subst (λ (xs : List ℤ). IfNone c.batch_at.result (valid_at P.revisions T c.args.series.depth c.args.self.now c.args.procedure xs ≡ None)) c.in-Some.ensures.arguments
          (subst (λ (f : ℕ). IfNone c.batch_at.result (valid_at P.revisions T c.args.series.depth c.args.self.now f c.in-Some.record.now.arguments ≡ None)) c.in-Some.ensures.procedure
          c.batch_at.ensures.none);
    }
