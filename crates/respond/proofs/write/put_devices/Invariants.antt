-- `put_devices` meets its contract: after i turns the lines of the first i devices are written.
use Rattle.respond.proofs.Listing.{DevicesPut}
use Rattle.respond.proofs.write.put_devices.Given as goal

abbrev pub invariant-loop-d : goal.invariant-loop-d
invariant-loop-d l = DevicesPut l.initial.out l.at l.listing l.out l.next l.d-index
