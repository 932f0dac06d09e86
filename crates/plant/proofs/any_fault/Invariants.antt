-- `plant::any_fault` meets its contract: no branch after d is at fault.
use Prim.Native.Nat.{◌≤◌}
use lib.ListN.{length}
use Rattle.plant.specs.inner.Branches.{faulty}
use Rattle.laws.proofs.Search.{None}
use Rattle.plant.proofs.any_fault.Given as goal

abbrev pub invariant-loop-d : goal.invariant-loop-d
invariant-loop-d l = (l.d ≤ length l.last) × None (faulty l.last) l.d (length l.last)
