-- `tighten::list::tighten_list` meets its contract: what was read up to `at` stands tight at `to`, up to `place`.
use Prim.Native.Nat.{◌-◌}
use Rattle.tighten.proofs.Course.{Course}
use Rattle.tighten.proofs.list.tighten_list.Given as goal

abbrev pub invariant-loop-at : goal.invariant-loop-at
invariant-loop-at l = Course l.branches.last.now l.initial.postings l.start l.end l.to l.postings l.until l.place l.at

abbrev pub decreases-loop-at : goal.decreases-loop-at
decreases-loop-at l = l.end - l.at
