-- `plant::faulty_at` meets its contract: between d and the next child, every branch ends within d's branch.
use Prim.Native.Nat.{◌+◌, ◌-◌}
use Rattle.plant.proofs.Faults.{Children}
use Rattle.plant.proofs.faulty_at.Given as goal

abbrev pub invariant-loop-child : goal.invariant-loop-child
invariant-loop-child l = Children l.last l.d l.end l.child

abbrev pub decreases-loop-child : goal.decreases-loop-child
decreases-loop-child l = l.end + 1 - l.child
