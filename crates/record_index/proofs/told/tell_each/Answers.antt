use Rattle.std.proofs.Common.{rules, ◌≡◌, ◌<◌, ◌∙◌, ℕ, suc, Some, sym, ap, add-one, length, take}
use Rattle.std.specs.Prelude.{slice_get, slice_index_or, option_map}
use Rattle.std.proofs.lemmas.List.{length-map, length-set, map-set}
use Rattle.std.proofs.lemmas.Option.{slice_get-map, slice_get-get_or}
use Rattle.linked_program.specs.Checked.{numbered_name, numbers_in, names_in}
use Rattle.record_index.specs.Indexed.{IsLonger}
use Rattle.record_index.proofs.Revisions.{same_names, told_more}
use Rattle.record_index.proofs.told.tell_each.Goals as goal

pub loop-number-preserved : goal.loop-number-preserved
loop-number-preserved c =
    let names = c.loop-number.names in
    let i = c.loop-number.number in
    let x = slice_index_or names i c.index-names-number.result in
    let v = c.revision_of.result in
    let h = c.loop-number.invariant in
    let within : i < length names = search rules in
    let found : slice_get (numbers_in names) i ≡ Some (numbered_name x) =
    slice_get-map numbered_name names i ∙ ap (option_map numbered_name) (slice_get-get_or names i c.index-names-number.result within) in
    let put = map-set numbered_name names i (x.0, v) in
    let many : length (numbers_in names) ≡ length (numbers_in c.args.names.now) =
    length-map names numbered_name ∙ h.long ∙ sym (length-map c.args.names.now numbered_name) in
    let longer : IsLonger (numbers_in names) c.args.program.now.revisions =
    h.same ∙ c.requires.longer ∙ ap (λ (n : ℕ). take n (names_in c.args.program.now.revisions)) (sym many) in
    record {
      same = ap names_in put ∙ same_names (numbers_in names) i (numbered_name x) v found ∙ h.same;
      long = length-set names i (x.0, v) ∙ h.long;
      told = rw add-one (ap (take (suc i)) put ∙ told_more c.args.program.now.revisions (numbers_in names) i (numbered_name x) v longer h.told found c.revision_of.ensures.revision);
    }
