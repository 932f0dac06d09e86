-- `repair::count::counted_of` meets its contract: of the first k lists none has a posting astray, and those kept are counted.
use Prim.Native.Nat.{◌-◌}
use Rattle.index.specs.Tables.{index_of}
use Rattle.repair.proofs.Counting.{Tally}
use Rattle.repair.proofs.count.counted_of.Given as goal

abbrev pub invariant-loop-k : goal.invariant-loop-k
invariant-loop-k l = Tally l.branches.last.now (index_of l.index) l.kept (l.k - 1)
