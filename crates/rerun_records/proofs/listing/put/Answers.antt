use Rattle.std.proofs.Common.{◌≤◌, List, length, refl, ap, sym, subst, ◌∙◌}
use Rattle.std.specs.List.{position_or_len}
use Rattle.record_theory.specs.Record.{PlainRecord, same_instance}
use Rattle.record_theory.specs.Commits.{AreSingle}
use Rattle.record_theory.specs.Numbers.{with_numbers}
use Rattle.rerun_records.proofs.WithNumbers.{place_there, put_numbered, still_numbered, one_longer_so, place_with_numbers}
use Rattle.record_theory.proofs.InStep.{put_in_step}
use Rattle.rerun_records.proofs.Instances.{put_longer, single_put}
use Rattle.rerun_records.proofs.Leaves.{put_fits}
use Rattle.rerun_records.proofs.listing.put.Goals as goal

pub put_at-old-requires-clause-number : goal.put_at-old-requires-clause-number
put_at-old-requires-clause-number c =
    λ behind. c.place_near-number.ensures.number (subst (λ (rs : List PlainRecord). length rs ≤ c.place_near-number.result.1) (sym c.deref.ensures.value) behind)

pub clear-requires-clause-within : goal.clear-requires-clause-within
clear-requires-clause-within c =
    place_there c.args.numbers.now.items _ c.args.list.now.items c.put_at-old.new.list.items c.args.made c.place_near-number.result.1
    c.put_at-old.ensures.put c.as_made.ensures.as_made (c.place_near-number.ensures.place ∙ ap (position_or_len (same_instance c.args.made)) c.deref.ensures.value) refl c.requires.numbers

pub returns-clause-put : goal.returns-clause-put
returns-clause-put c =
    put_numbered c.args.numbers.now.items c.clear.new.numbers.items c.args.list.now.items c.put_at-old.new.list.items c.args.made c.place_near-number.result.1
    c.put_at-old.ensures.put c.as_made.ensures.as_made (c.place_near-number.ensures.place ∙ ap (position_or_len (same_instance c.args.made)) c.deref.ensures.value) c.clear.ensures.cleared c.requires.numbers

pub returns-clause-count : goal.returns-clause-count
returns-clause-count c = put_longer c.args.list.now.items c.put_at-old.new.list.items c.args.made c.put_at-old.ensures.put

pub returns-clause-places : goal.returns-clause-places
returns-clause-places c = one_longer_so c.args.numbers.now.items c.clear.new.numbers.items _ c.clear.ensures.cleared

pub returns-clause-numbers : goal.returns-clause-numbers
returns-clause-numbers c =
    still_numbered c.args.numbers.now.items c.clear.new.numbers.items c.args.list.now.items c.put_at-old.new.list.items c.args.made c.place_near-number.result.1
    c.put_at-old.ensures.put c.as_made.ensures.as_made (c.place_near-number.ensures.place ∙ ap (position_or_len (same_instance c.args.made)) c.deref.ensures.value) c.clear.ensures.cleared c.requires.numbers
    (subst AreSingle (sym c.put_at-old.ensures.put) (single_put c.args.list.now.items c.args.made c.requires.numbers.single))

pub returns-clause-fit : goal.returns-clause-fit
returns-clause-fit c =
    put_fits (with_numbers c.args.numbers.now.items c.args.list.now.items) (with_numbers c.clear.new.numbers.items c.put_at-old.new.list.items) c.args.made c.place_near-number.result.1
    c.free.new.blocks c.args.blocks.now c.requires.fit c.free.ensures.remain c.free.ensures.free.0 c.free.ensures.free.1 c.free.ensures.free.2 c.free.ensures.free.3 (returns-clause-put c)
    ((c.place_near-number.ensures.place ∙ ap (position_or_len (same_instance c.args.made)) c.deref.ensures.value) ∙ sym (place_with_numbers c.args.numbers.now.items c.args.list.now.items c.args.made))

pub returns-clause-in_step : goal.returns-clause-in_step
returns-clause-in_step c = λ tables h n.
    put_in_step tables (with_numbers c.args.numbers.now.items c.args.list.now.items) (with_numbers c.clear.new.numbers.items c.put_at-old.new.list.items) c.args.made (returns-clause-put c)
    c.as_made.ensures.as_made h n
