use Rattle.std.proofs.Common.{rules, ◌≡◌, ◌∙◌, ◌<◌, ◌≤◌, List, [], ◌∷◌, length, map, ap, sym, subst}
use Rattle.record_theory.specs.Record.{PlainRecord, instance_number}
use Rattle.rerun_records.specs.Covers.{AreKept}
use Rattle.rerun_records.proofs.Passing.{appended_kept}
use Rattle.rerun_records.proofs.Instances.{set_is_put, set_numbers, push_is_put, numbers_behind}
use Rattle.rerun_records.proofs.listing.put_at.Goals as goal

pub returns-then-place-len-clause-put : goal.returns-then-place-len-clause-put
returns-then-place-len-clause-put c =
    let within : c.args.place < length c.args.list.now.items = search rules in
    c.replace_in.ensures.put ∙ set_is_put c.args.list.now.items c.args.made c.args.place c.requires.place within

pub returns-then-place-len-clause-numbered : goal.returns-then-place-len-clause-numbered
returns-then-place-len-clause-numbered c =
    let within : c.args.place < length c.args.list.now.items = search rules in
    c.requires.numbered
    ∙ sym (set_numbers c.args.list.now.items c.args.made c.args.place c.requires.place within)
    ∙ ap (λ (rs : List PlainRecord). map instance_number rs) (sym c.replace_in.ensures.put)

pub returns-clause-put : goal.returns-clause-put
returns-clause-put c =
    let behind : length c.args.list.now.items ≤ c.args.place = search rules in
    c.push_reserved.ensures.items ∙ push_is_put c.args.list.now.items c.args.made c.args.place c.requires.place behind

pub returns-then-place-len-clause-covered : goal.returns-then-place-len-clause-covered
returns-then-place-len-clause-covered c = c.replace_in.ensures.covered c.requires.covered

pub returns-clause-covered : goal.returns-clause-covered
returns-clause-covered c =
    subst (λ rs. AreKept rs c.args.covers.now) (sym c.push_reserved.ensures.items) (appended_kept c.args.list.now.items (c.args.made ∷ []) c.args.covers.now c.requires.covered)

pub returns-clause-numbered : goal.returns-clause-numbered
returns-clause-numbered c =
    let behind : length c.args.list.now.items ≤ c.args.place = search rules in
    let number : c.args.number ≡ instance_number c.args.made = c.requires.number behind in
    c.push.ensures.pushed ∙ numbers_behind c.args.list.now.items c.push_reserved.new.self.items c.args.made c.args.places.now.numbers c.args.number c.requires.numbered number c.push_reserved.ensures.items
