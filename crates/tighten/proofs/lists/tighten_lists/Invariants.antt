-- `tighten::lists::tighten_lists` meets its contract: the first k lists are tightened.
use Rattle.index.specs.Index.{index}
use Rattle.index.proofs.Laying.{Laying}
use Rattle.tighten.specs.inner.Branches.{tight_of}
use Rattle.tighten.proofs.lists.tighten_lists.Given as goal

abbrev pub invariant-loop-k : goal.invariant-loop-k
invariant-loop-k l =
    Laying (index l.terms l.initial.starts l.initial.postings) (tight_of l.branches.last.now (index l.terms l.initial.starts l.initial.postings)) l.starts l.postings l.made l.start l.k
