-- What a room in memory stands for.
use Rattle.source_tree.specs.Source.{texts}
use Rattle.token_readers.specs.declared.rooms.Room as declared
use Rattle.token_readers.specs.Rooms.{Room}

abbrev pub room : declared.Room → Room
room r = (texts r.known.items, r.left)
