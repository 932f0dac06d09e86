-- The cycle of calls {device, devices}. A device's list is read from where the device's own line ends, and a device of a list from after the
-- list's start, so with twice the bytes left, a device's measure is one above its list's. Up to `p` the list's devices are read.
use Prim.Native.Nat.{◌+◌, ◌-◌, ◌*◌}
use lib.ListN.{length}
use Rattle.plant.specs.Plant.{plant}
use Rattle.plant_text.specs.inner.Devices.{DevicesAt, from_device}
use Rattle.plant_text.proofs.devices.+device_devices.Given as goal

abbrev pub decreases-device : goal.decreases-device
decreases-device l = 2 * (length l.text.now - l.place.at) + 1

abbrev pub decreases-devices : goal.decreases-devices
decreases-devices l = 2 * (length l.text.now - l.place.at)

abbrev pub invariant-devices-loop-room : goal.invariant-devices-loop-room
invariant-devices-loop-room l =
    let s = l.initial in
    DevicesAt l.room l.text l.depth l.top (from_device l.room l.text (plant s.last s.root s.level) s.p) s.p (plant l.last l.root l.level) l.p

abbrev pub decreases-devices-loop-room : goal.decreases-devices-loop-room
decreases-devices-loop-room l = length l.text - l.p.at
