-- `index_check::fault_in` meets its contract: no posting so far has a fault, and `reached` is the reach of the last of them.
use Rattle.index_check.proofs.Faults.{Clear}
use Rattle.index_check.proofs.fault_in.Given as goal

abbrev pub invariant-loop-posting : goal.invariant-loop-posting
invariant-loop-posting l = Clear l.branches.last.now l.list l.posting-index l.reached
