-- `index_check::any_misplaced_term` meets its contract: no term so far is misplaced, and `before` is the last of them.
use native.Mathlib.Omega.{arith}
use Rattle.laws.specs.Limits.{highest_term}
use Rattle.index.proofs.Lists.{pass_found, pass_end, misplaced_low}
use Rattle.index_check.proofs.any_misplaced_term.Goals as goal

pub returns-then-term-before : goal.returns-then-term-before
returns-then-term-before c =
    let h = c.loop-term.invariant in pass_found h (omega arith) (misplaced_low highest_term h c.if-term-before.true)

pub returns : goal.returns
returns c =
    pass_end c.loop-term.invariant (omega arith)
