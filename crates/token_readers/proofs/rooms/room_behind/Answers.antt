use Rattle.std.proofs.Common.{◌≡◌, Some}
use Rattle.source_tree.specs.Source.{texts}
use Rattle.source_tree.specs.Lowering.{found_index}
use Rattle.token_readers.proofs.Known.{room_known}
use Rattle.token_readers.proofs.rooms.room_behind.Goals as goal

pub returns-in-Some : goal.returns-in-Some
returns-in-Some c =
    let at : Some c.in-Some.place ≡ found_index c.args.name.now (texts c.args.room.known.items) = rw (← c.deref.ensures.value) c.in-Some.ensures.exact in
    room_known c.args.room.known.items c.remove.new.self.items c.args.room.left c.in-Some.place c.args.name.now at c.remove.ensures.items
