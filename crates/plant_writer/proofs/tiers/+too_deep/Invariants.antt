-- `too_deep` meets its contract: no device up to i has more than 32 tiers. The measure is the number of devices.
use Rattle.std.proofs.Common.{◌-◌, ◌<◌}
use Rattle.plant_writer.proofs.Depths.{Shallow}
use Rattle.plant_writer.proofs.tiers.+too_deep.Given as goal

abbrev pub decreases-too_deep : goal.decreases-too_deep
decreases-too_deep l = l.e - l.a

abbrev pub invariant-loop-i : goal.invariant-loop-i
invariant-loop-i l = Shallow l.last l.a l.e l.depth l.i × (l.depth < 32)

abbrev pub decreases-loop-i : goal.decreases-loop-i
decreases-loop-i l = l.e - l.i
