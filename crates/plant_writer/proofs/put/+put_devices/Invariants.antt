-- `put_devices` meets its contract: the devices up to i are written, and those after i are left. The measure is the number of devices.
use Rattle.std.proofs.Common.{◌-◌}
use Rattle.plant_writer.proofs.Loops.{DevicesPut}
use Rattle.plant_writer.proofs.put.+put_devices.Given as goal

abbrev pub decreases-put_devices : goal.decreases-put_devices
decreases-put_devices l = l.e - l.a

abbrev pub invariant-loop-i : goal.invariant-loop-i
invariant-loop-i l = DevicesPut l.last l.level l.initial.out l.at l.a l.e l.depth l.out l.next l.i

abbrev pub decreases-loop-i : goal.decreases-loop-i
decreases-loop-i l = l.e - l.i
