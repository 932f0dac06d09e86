-- `search::run::list` meets its contract: the devices from d on give what the whole stretch gives.
use native.Mathlib.Omega.{arith}
use mathlib.Core.Path.{sym}
use Rattle.search.proofs.Written.{filling_put, filling_skip, filling_ends}
use Rattle.search.proofs.run.list.Goals as goal
use Rattle.search.proofs.run.list.Goals.{then-wants, else-wants}

pub loop-d-preserved : goal.loop-d-preserved
loop-d-preserved c =
    elim c.if-wants.branch [
      | then-wants w ↦ filling_put c.loop-d.invariant (omega arith) (rw c.from.ensures at (sym w.if-wants.ensures)) w.out-is w.n-is
      | else-wants w ↦ filling_skip c.loop-d.invariant (omega arith) (rw c.from.ensures at (sym w.if-wants.ensures)) w.out-is w.n-is
    ]

-- after the last of them
pub returns-after-wants : goal.returns-after-wants
returns-after-wants c =
    elim c.if-wants.branch [
      | then-wants w ↦ filling_ends (filling_put c.loop-d.invariant (omega arith) (rw c.from.ensures at (sym w.if-wants.ensures)) w.out-is w.n-is) (omega arith)
      | else-wants w ↦ filling_ends (filling_skip c.loop-d.invariant (omega arith) (rw c.from.ensures at (sym w.if-wants.ensures)) w.out-is w.n-is) (omega arith)
    ]
