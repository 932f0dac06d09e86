-- `index::forward::gallop` meets its contract: low and the list's end stand around the place.
use Prim.Native.Nat.{◌≤◌, ◌-◌}
use lib.ListN.{length}
use Rattle.index.specs.Postings.{device}
use Rattle.index.specs.Around.{Around}
use Rattle.index.proofs.forward.gallop.Given as goal

abbrev pub invariant-loop-step : goal.invariant-loop-step
invariant-loop-step l = Around device l.list l.from (length l.list) l.target l.low (length l.list) × (1 ≤ l.step)

abbrev pub decreases-loop-step : goal.decreases-loop-step
decreases-loop-step l = length l.list - l.low
