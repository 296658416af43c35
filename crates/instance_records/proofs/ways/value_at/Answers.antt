use Rattle.std.proofs.Common.{to_z, of_z, w64, ◌≡◌, ℤ, true, map, IfSome, subst, sym}
use Rattle.std.proofs.lemmas.Int.{to_z-of_z}
use Rattle.evaluation.specs.declared.note.Note.TheVariants.{Cell}
use Rattle.evaluation.specs.Short.{note_of}
use Rattle.record_theory.specs.Same.{is_read}
use Rattle.instance_records.proofs.Parts.{some_there}
use Rattle.instance_records.proofs.ways.value_at.Goals as goal

pub returns-in-Some : goal.returns-in-Some
returns-in-Some c = record {
  read = subst (λ (row : ℤ). IfSome c.value_of.result (λ v. is_read (map note_of c.args.own.now) (Cell c.args.table row c.args.column v) ≡ true)) (to_z-of_z w64 _ c.ranges.row)
      (some_there c.args.own.now c.args.place c.in-Some.reading.now (λ v. Cell c.args.table (to_z w64 (of_z w64 c.args.row)) c.args.column v) c.value_of.result (sym c.in-Some.ensures.at) c.value_of.ensures.value);
}
