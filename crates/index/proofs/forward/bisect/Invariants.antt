-- `index::forward::bisect` meets its contract: low and high stand around the place.
use Prim.Native.Nat.{◌-◌}
use Rattle.index.specs.Postings.{device}
use Rattle.index.specs.Around.{Around}
use Rattle.index.proofs.forward.bisect.Given as goal

abbrev pub invariant-loop-low : goal.invariant-loop-low
invariant-loop-low l = Around device l.list l.fn.part.start l.fn.part.end l.target l.low l.high

abbrev pub decreases-loop-low : goal.decreases-loop-low
decreases-loop-low l = l.high - l.low
