use Rattle.std.proofs.Common.{rules}
use Rattle.board.proofs.Joined.{sign_joined}
use Rattle.room.specs.Rooms.{as_room}
use Rattle.room.proofs.room.Room.sign.Goals as goal

pub returns : goal.returns
returns g c = let joined = sign_joined (as_room g.D.Disk.meaning c.args.self.now) c.args.host c.args.resource in search rules
