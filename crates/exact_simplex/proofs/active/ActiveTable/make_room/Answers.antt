-- Room takes nothing away.
use Rattle.exact_simplex.proofs.Actives.{room_made}
use Rattle.exact_simplex.proofs.active.ActiveTable.make_room.Goals as goal

pub returns-clause-sound : goal.returns-clause-sound
returns-clause-sound c =
    room_made c.args.self.now.in_kernel c.args.self.now.kernel c.make_room.new.self c.make_room.ensures.same c.make_room.ensures.numbers
    c.make_room.ensures.parked
