use Rattle.std.proofs.Common.{◌≡◌, ◌∷◌, [], ℤ, List, Some, true, map, subst, sym, w64}
use Rattle.std.proofs.lemmas.Int.{to_z-of_z}
use Rattle.std.specs.Prelude.{slice_get}
use Rattle.record_theory.specs.Record.{PlainRecord, as_made, is_of}
use Rattle.recording_ahead.proofs.AnsweredChains.{alone_answers}
use Rattle.recording_ahead.proofs.answered_row.alone_at.Goals as goal

pub returns-else-not-is_alone : goal.returns-else-not-is_alone
returns-else-not-is_alone c =
    let S = c.args.setting in
    let r : PlainRecord = c.in-Some.record.now in
    let is = c.if-not-is_alone.false in
    let there : slice_get (map as_made c.args.setting.records.now) c.args.place ≡ Some c.in-Some.record.now =
    subst (λ (xs : List PlainRecord). slice_get xs c.args.place ≡ Some c.in-Some.record.now) c.as_slice.ensures.records (sym c.in-Some.ensures.at) in
    record {
      answer = alone_answers S.program.now S.tables.now.tables S.records.now c.args.depth c.args.procedure c.args.place c.args.number r c.requires.deep c.single.ensures.single S.in_step there
          (subst (λ (n : ℤ). is_of c.args.procedure (n ∷ []) c.in-Some.record.now ≡ true) (to_z-of_z w64 c.args.number c.ranges.number) (c.is_alone.ensures.of is)) (c.is_alone.ensures.fresh is) (c.is_alone.ensures.allowed is);
    }
