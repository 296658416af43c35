use Rattle.record_theory.proofs.InStep.{next_read}
use Rattle.record_theory.proofs.Puts.{still_put, place_before, places_after, still_put_as_made}
use Rattle.rerun_records.proofs.listing.put_all.Goals as goal

pub put-old-requires : goal.put-old-requires
put-old-requires c = record {
  room = place_before _ _ _ _ _ c.loop-record.invariant.room c.in-Some.ensures.steps.0;
  room_below = place_before _ _ _ _ _ c.loop-record.invariant.room_below c.in-Some.ensures.steps.0;
  place = place_before _ _ _ _ _ c.loop-record.invariant.places c.in-Some.ensures.steps.0;
  numbered = c.loop-record.invariant.numbered;
  numbers = c.loop-record.invariant.have_numbers;
  fit = c.loop-record.invariant.fit;
  covered = c.loop-record.invariant.covered;
}

pub loop-record-preserved : goal.loop-record-preserved
loop-record-preserved c =
    let s = c.in-Some.ensures.steps.0 in
    record {
      can_next = tt;
      is_finite = tt;
      room = places_after _ _ _ _ _ _ _ c.loop-record.invariant.room s c.put-old.ensures.count c.put-old.ensures.room;
      room_below = places_after _ _ _ _ _ _ _ c.loop-record.invariant.room_below s c.put-old.ensures.count c.put-old.ensures.room_below;
      places = places_after _ _ _ _ _ _ _ c.loop-record.invariant.places s c.put-old.ensures.places c.put-old.ensures.capacity;
      numbered = c.put-old.ensures.numbered;
      have_numbers = c.put-old.ensures.numbers;
      fit = c.put-old.ensures.fit;
      covered = c.put-old.ensures.covered;
      put = still_put _ _ _ _ _ _ c.loop-record.invariant.put s c.put-old.ensures.put;
      as_made_are = still_put_as_made _ _ _ _ _ _ c.loop-record.invariant.as_made_are s c.put-old.ensures.put c.put-old.ensures.made;
      in_step = λ tables h n.
          (let now = c.loop-record.invariant.in_step tables h n in
          let read = next_read tables _ _ _ s now.1 in
          (c.put-old.ensures.in_step tables now.0 read.0, read.1));
    }
