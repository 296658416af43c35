-- A record and what it has read may go from thread to thread, and be shared by threads.
use denote.Param.Send.{IsSend, IsSync, sendable}
use Rattle.std.proofs.Crossing.{crosses}
use Rattle.instance_records.proofs.short_list.ShortList.TheSendSync as lists
use Rattle.instance_records.proofs.gift.Gift.TheSendSync as gifts
use Rattle.instance_records.proofs.called.Called.TheSendSync as called
use Rattle.instance_records.proofs.entries.Entries.TheSendSync as entries
use Rattle.evaluation.proofs.reading.Reading.TheSendSync as reading
use Rattle.instance_records.proofs.few_spans.FewSpans.TheSendSync as few
use Rattle.instance_records.proofs.full.Full.TheSendSync as fulls
use Rattle.instance_records.specs.contracts.readings.Node as Node
use Rattle.instance_records.specs.contracts.readings.Readings as Readings
use Rattle.instance_records.specs.contracts.record.Record as Record
use Rattle.instance_records.specs.contracts.hull.Hull as Hull
use Rattle.instance_records.proofs.readings.Below.TheLaws.TheKnot.{both_send-Node, both_sync-Node}

node_send : IsSend (Node.the_field).row
node_send =
    both_send-Node
    (λ h s y. search (sendable, crosses) depth 20)
    (λ h s y. search (sendable, crosses) depth 20)
    (search (sendable, crosses) depth 20) (search (sendable, crosses) depth 20)
    few.the_field_send few.the_field_sync
    fulls.the_field_send fulls.the_field_sync
    (search (sendable, crosses, reading.the_send) depth 20) (search (sendable, crosses, reading.the_sync) depth 20)
    (λ h s y. search (sendable, crosses) depth 20)
    (λ h s y. search (sendable, crosses) depth 20)

node_sync : IsSync (Node.the_field).row
node_sync =
    both_sync-Node
    (λ h s y. search (sendable, crosses) depth 20)
    (λ h s y. search (sendable, crosses) depth 20)
    (search (sendable, crosses) depth 20) (search (sendable, crosses) depth 20)
    few.the_field_send few.the_field_sync
    fulls.the_field_send fulls.the_field_sync
    (search (sendable, crosses, reading.the_send) depth 20) (search (sendable, crosses, reading.the_sync) depth 20)
    (λ h s y. search (sendable, crosses) depth 20)
    (λ h s y. search (sendable, crosses) depth 20)

pub readings_send : IsSend (Readings.the_field).row
readings_send = let s = node_send in let y = node_sync in search (sendable, crosses) depth 20

pub readings_sync : IsSync (Readings.the_field).row
readings_sync = let s = node_send in let y = node_sync in search (sendable, crosses) depth 20

pub record_send : IsSend (Record.the_field).row
record_send = let s = readings_send in search (sendable, crosses, lists.the_field_send, gifts.the_send, called.the_field_send, entries.the_field_send) depth 20

pub record_sync : IsSync (Record.the_field).row
record_sync = let y = readings_sync in search (sendable, crosses, lists.the_field_sync, gifts.the_sync, called.the_field_sync, entries.the_field_sync) depth 20

pub hull_sync : IsSync (Hull.the_field).row
hull_sync = search (sendable, crosses, few.the_field_sync) depth 20
