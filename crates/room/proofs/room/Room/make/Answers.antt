use Rattle.std.proofs.Common.{w32, SFits, rules}
use Rattle.std.proofs.lemmas.Int.{to_z-of_z}
use Rattle.room.proofs.room.Room.make.Goals as goal

-- the offset reads back as the call gives it
pub returns-in-SetClock : goal.returns-in-SetClock
returns-in-SetClock g c =
    let fits : SFits w32 c.in-SetClock.offset = search rules in
    let same = to_z-of_z w32 c.in-SetClock.offset fits in
    let told = rw same at (c.set_clock.ensures.answer c.args.log.now) in
    let left = rw same at (c.set_clock.ensures.world c.args.log.now) in
    search rules
