-- `index_check::any_misplaced_term` meets its contract: no term so far is misplaced, and `before` is the last of them.
use Rattle.laws.specs.Limits.{highest_term}
use Rattle.index.specs.Postings.{misplaced}
use Rattle.index.proofs.Lists.{Pass}
use Rattle.index_check.proofs.any_misplaced_term.Given as goal

abbrev pub invariant-loop-term : goal.invariant-loop-term
invariant-loop-term l = Pass (misplaced highest_term (λ t. t) l.terms) (λ t. t) l.terms l.term-index l.before
