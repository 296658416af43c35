use Rattle.std.proofs.Common.{◌<◌, ℕ, sym, subst}
use Rattle.std.proofs.lemmas.Option.{slice_get_within}
use Rattle.rerun_records.proofs.Finding.{number_there, number_asked}
use Rattle.rerun_records.proofs.records.Records.is_valid.Goals as goal

pub index-number-requires : goal.index-number-requires
index-number-requires c =
    let numbers = c.self.inside.numbers.items in
    let has = number_there c.args.tables.now.tables numbers c.self.inside.list.items c.args.self.now c.args.place c.args.record.now c.self.view_is c.self.invariant.0.places c.requires.in_step c.requires.there in
    subst (λ (n : ℕ). c.args.place < n) (sym c.self.inside.numbers.ok.0) (slice_get_within numbers c.args.place has.number has.there)

pub is_valid-requires : goal.is_valid-requires
is_valid-requires c = record {
  counted = number_asked c.args.tables.now.tables c.self.inside.numbers.items c.self.inside.list.items c.args.self.now c.args.place c.index-number.result.now c.args.record.now c.self.view_is
      c.self.invariant.0.places c.requires.in_step c.requires.there c.index-number.ensures;
}
