use Rattle.token_store.specs.Room.{room_of}
use Rattle.token_store.proofs.Leaving.{left_room}
use Rattle.token_store.proofs.tables.Tables.reserve.Goals as goal

pub returns-in-Left-clause-room : goal.returns-in-Left-clause-room
returns-in-Left-clause-room c = rw c.in-Left.is (left_room (room_of c.make_room.new.self) c.in-Left.owner c.in-Left.clients)
