-- `repair::compact::compact_list` meets its contract: the postings up to i are kept or reported.
use Prim.Native.Nat.{◌-◌}
use Rattle.repair.proofs.Compacting.{Course}
use Rattle.repair.proofs.compact.compact_list.Given as goal

abbrev pub invariant-loop-i : goal.invariant-loop-i
invariant-loop-i l =
    Course l.branches.last.now l.initial.postings l.initial.report l.start l.end l.term l.initial.filled.postings l.initial.filled.report l.postings l.report l.filled l.reached l.i

abbrev pub decreases-loop-i : goal.decreases-loop-i
decreases-loop-i l = l.end - l.i
