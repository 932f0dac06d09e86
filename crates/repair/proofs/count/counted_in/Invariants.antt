-- `repair::count::counted_in` meets its contract: of the postings so far none is astray, and those kept are counted.
use Rattle.repair.proofs.Counting.{Count}
use Rattle.repair.proofs.count.counted_in.Given as goal

abbrev pub invariant-loop-posting : goal.invariant-loop-posting
invariant-loop-posting l = Count l.branches.last.now l.list l.before l.reached l.kept l.posting-index
