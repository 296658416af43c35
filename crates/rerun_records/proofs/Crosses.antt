-- Records may go from thread to thread, and be shared by threads.
use denote.Param.Send.{IsSync, sendable}
use Rattle.std.proofs.Crossing.{crosses}
use Rattle.place_chains.proofs.places.Places.TheSendSync as places
use Rattle.monoid_laws.proofs.Kind.TheSendSync as kinds
use Rattle.rerun_records.specs.contracts.records.Records as Records
use Rattle.rerun_records.specs.contracts.block.Block as Block
use Rattle.rerun_records.specs.contracts.slot.Slot as Slot
use Rattle.rerun_records.specs.contracts.level.Level as Level
use Rattle.rerun_records.specs.contracts.blocks.Blocks as Blocks
use Rattle.rerun_records.specs.contracts.covers.Covers as Covers
use Rattle.instance_records.proofs.Sharing.{hull_sync, record_sync}

block_sync : IsSync (Block.the_field).row
block_sync = let y = record_sync in search (sendable, crosses) depth 20

slot_sync : IsSync (Slot.the_field).row
slot_sync = let y = block_sync in search (sendable, crosses) depth 20

level_sync : IsSync (Level.the_field).row
level_sync = let y = slot_sync in search (sendable, crosses) depth 20

blocks_sync : IsSync (Blocks.the_field).row
blocks_sync = let y = level_sync in search (sendable, crosses, kinds.the_sync) depth 20

covers_sync : IsSync (Covers.the_field).row
covers_sync = let y = hull_sync in search (sendable, crosses) depth 20

pub records_sync : IsSync (Records.the_field).row
records_sync = let y = record_sync in let b = blocks_sync in let h = covers_sync in search (sendable, crosses, places.the_sync) depth 20
