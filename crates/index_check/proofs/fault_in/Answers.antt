-- `index_check::fault_in` meets its contract: no posting so far has a fault, and `reached` is the reach of the last of them.
use native.Mathlib.Omega.{arith}
use Rattle.laws.proofs.Tests.{flags}
use Rattle.index_check.proofs.Faults.{clear_near, clear_high, clear_turn, clear_end}
use Rattle.index_check.proofs.fault_in.Goals.{then-d-reached-via-then-d-reached, then-d-reached-via-else-d-reached+then-branches-d}
use Rattle.index_check.proofs.fault_in.Goals as goal

pub returns-then-d-reached : goal.returns-then-d-reached
returns-then-d-reached c =
    let i = c.loop-posting.invariant in
    let d = c.device_of-d.ensures in
    elim c.then-d-reached.branch [
      | then-d-reached-via-then-d-reached w ↦ clear_near i (omega arith) (omega (flags, d, w.if-d-reached.true))
      | then-d-reached-via-else-d-reached+then-branches-d w ↦ clear_high i (omega arith) (omega (flags, d, w.if-branches-d.true))
    ]

pub loop-posting-preserved : goal.loop-posting-preserved
loop-posting-preserved c =
    let d = c.device_of-d.ensures in
    clear_turn c.loop-posting.invariant c.args.branches.forest (omega arith)
    (omega (flags, d, c.if-d-reached.false), omega (flags, d, c.if-branches-d.false)) c.reach_of-reached.ensures

pub returns : goal.returns
returns c =
    clear_end c.loop-posting.invariant (omega arith)
