-- `put_devices` meets its contract: after i turns the lines of the first i devices are written.
use native.Mathlib.Omega.{arith}
use Rattle.respond.proofs.Listing.{devices_none, devices_more}
use Rattle.respond.proofs.write.put_devices.Goals as goal

pub loop-d-init : goal.loop-d-init
loop-d-init c = devices_none

pub loop-d-preserved : goal.loop-d-preserved
loop-d-preserved c = let line = rw c.from.ensures at c.put_numbered-next.ensures.puts in devices_more c.loop-d.invariant (omega arith) line
