-- `repair::count::counted_in` meets its contract: of the postings so far none is astray, and those kept are counted.
use Rattle.std.proofs.Common.{arith, ◌∙◌}
use Rattle.repair.proofs.Counting.{count_start, count_low, count_high, count_turn, count_end, one_if}
use Rattle.repair.proofs.count.counted_in.Goals.{then-device-before-via-then-device-before, then-device-before-via-else-device-before+then-branches-device}
use Rattle.repair.proofs.count.counted_in.Goals as goal

pub loop-posting-init : goal.loop-posting-init
loop-posting-init c = count_start _ _

pub returns-then-device-before : goal.returns-then-device-before
returns-then-device-before c =
    let h = c.loop-posting.invariant in
    let e = c.device_of-device.ensures in
    elim c.then-device-before.branch [
      | then-device-before-via-then-device-before w ↦ count_low h (omega arith) e (omega (arith, w.if-device-before.true))
      | then-device-before-via-else-device-before+then-branches-device w ↦ count_high h (omega arith) e (omega (arith, w.if-branches-device.true))
    ]

pub loop-posting-preserved : goal.loop-posting-preserved
loop-posting-preserved c =
    count_turn c.loop-posting.invariant (omega arith) c.device_of-device.ensures (omega arith) (omega arith)
    c.args.branches.forest (c.from-kept.ensures ∙ one_if _) c.further-reached.ensures

pub returns : goal.returns
returns c = count_end c.loop-posting.invariant (omega arith)
