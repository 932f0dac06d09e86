-- `tighten::list::run_of` meets its contract: the first `count` postings follow one another, up to `until`.
use Rattle.tighten.specs.inner.List.{Running}
use Rattle.tighten.proofs.list.run_of.Given as goal

abbrev pub invariant-loop-count : goal.invariant-loop-count
invariant-loop-count l = Running l.branches.last.now l.list l.end l.until l.count
