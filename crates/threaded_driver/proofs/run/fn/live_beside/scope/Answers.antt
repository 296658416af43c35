use denote.Param.Send.{sendable}
use Rattle.std.proofs.Crossing.{crosses}
use Rattle.worker_seats.proofs.seat.Seat.TheSendSync as seats
use Rattle.threaded_driver.proofs.Crosses.{floor_sync}
use Rattle.threaded_driver.proofs.run.fn.live_beside.scope.Goals as goal

-- who works on another seat owns it, and borrows the floor, the gate and the runtime
pub spawn-requires-send-F : goal.spawn-requires-send-F
spawn-requires-send-F g c κs within =
    let r = c.requires in
    let sj = r.0 in
    let yj = r.1 in
    let sd = r.2 in
    let yd = r.3 in
    let sv = r.4 in
    let yr = r.5 in
    let yg = r.6 in
    search (sendable, crosses, floor_sync, seats.the_send) depth 40 fits 50000
