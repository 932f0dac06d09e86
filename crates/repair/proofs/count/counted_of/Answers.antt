-- `repair::count::counted_of` meets its contract: of the first k lists none has a posting astray, and those kept are counted.
use Rattle.std.proofs.Common.{◌≡◌, ◌∙◌, ◌+◌, ◌-◌, arith}
use Rattle.repair.proofs.Counting.{tally_start, tally_found, tally_few, tally_turn, tally_end}
use Rattle.repair.proofs.count.counted_of.Goals as goal

pub loop-k-init : goal.loop-k-init
loop-k-init c = tally_start _ _

pub returns-in_err-kept : goal.returns-in_err-kept
returns-in_err-kept c =
    c.from_residual.ensures ∙ tally_found c.loop-k.invariant (omega arith) (omega arith) c.list_at.ensures c.in_err-kept.ensures

pub overflow_add-kept : goal.overflow_add-kept
overflow_add-kept c =
    let h = tally_few c.loop-k.invariant (omega arith) (omega arith) c.list_at.ensures c.in_ok-kept.ensures c.requires.outlined in
    omega arith

pub loop-k-preserved : goal.loop-k-preserved
loop-k-preserved c =
    let e : c.loop-k.k + 1 - 1 ≡ c.loop-k.k - 1 + 1 = omega arith in
    rw e (tally_turn c.loop-k.invariant (omega arith) (omega arith) c.list_at.ensures c.in_ok-kept.ensures)

pub returns-in_ok-kept : goal.returns-in_ok-kept
returns-in_ok-kept c =
    let t = tally_turn c.loop-k.invariant (omega arith) (omega arith) c.list_at.ensures c.in_ok-kept.ensures in
    tally_end t (omega arith)

pub returns : goal.returns
returns c = tally_end c.loop-k.invariant (omega arith)
