use Rattle.std.proofs.Common.{◌∙◌, Some, None, cond, ap, sym}
use Rattle.rerun_records.proofs.Finding.{valid_so}
use Rattle.rerun_records.proofs.records.Records.valid_in.Goals as goal

pub returns-then-not-is_valid : goal.returns-then-not-is_valid
returns-then-not-is_valid c =
    let m = c.args.record.now in
    record {
      valid = sym (ap (λ b. cond b (Some m) None) c.if-not-is_valid.true)
          ∙ valid_so c.args.program.now.revisions c.args.tables.now.tables c.args.depth c.args.self.now c.args.place m c.is_valid.result c.single.ensures.single c.requires.there c.is_valid.ensures.valid;
    }

pub returns : goal.returns
returns c =
    let m = c.args.record.now in
    record {
      valid = sym (ap (λ b. cond b (Some m) None) c.if-not-is_valid.false)
          ∙ valid_so c.args.program.now.revisions c.args.tables.now.tables c.args.depth c.args.self.now c.args.place m c.is_valid.result c.single.ensures.single c.requires.there c.is_valid.ensures.valid;
    }
