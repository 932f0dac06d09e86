-- `repair::compact::compact` meets its contract: the first k lists are compacted.
use Prim.Native.Nat.{◌-◌}
use lib.ListN.{length}
use Rattle.index.specs.Index.{index}
use Rattle.repair.proofs.Lists.{Round}
use Rattle.repair.proofs.compact.compact.Given as goal

abbrev pub invariant-loop-k : goal.invariant-loop-k
invariant-loop-k l =
    Round l.branches.last.now (index l.terms l.initial.starts l.initial.postings) l.initial.report l.starts l.postings l.report l.filled l.start l.k

abbrev pub decreases-loop-k : goal.decreases-loop-k
decreases-loop-k l = length l.terms - l.k
