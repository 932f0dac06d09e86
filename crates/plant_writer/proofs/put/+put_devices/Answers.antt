-- `put_devices` meets its contract: the devices up to i are written, and those after i are left. The measure is the number of devices.
use borrow.Author.Rules.{rules}
use native.Mathlib.Omega.{arith}
use Rattle.plant_writer.proofs.Loops.{device_put, devices_start, devices_end, inner_bounds, inner_nested, inner_tiered, devices_turn}
use Rattle.plant_writer.proofs.put.+put_devices.Goals as goal

pub loop-i-init : goal.loop-i-init
loop-i-init t c = search (rules, devices_start)

pub put_devices-close-requires : goal.put_devices-close-requires
put_devices-close-requires t c =
    let s = c.loop-i.invariant in
    let z = c.from-end.ensures in
    let b = inner_bounds s (omega arith) z in
    (omega arith, (inner_nested s (omega arith) z, (inner_tiered s (omega arith) z, omega arith)))

pub loop-i-smaller : goal.loop-i-smaller
loop-i-smaller t c = omega (arith, inner_bounds c.loop-i.invariant (omega arith) c.from-end.ensures)

pub loop-i-preserved : goal.loop-i-preserved
loop-i-preserved t c =
    devices_turn c.loop-i.invariant (omega arith) c.from-end.ensures (device_put c.from.ensures c.put_line-inside.ensures) c.put_devices-close.ensures c.put_close-next.ensures

pub returns : goal.returns
returns t c = search (rules, devices_end)
