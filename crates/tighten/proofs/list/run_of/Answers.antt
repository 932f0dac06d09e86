-- `tighten::list::run_of` meets its contract: the first `count` postings follow one another, up to `until`.
use Rattle.std.proofs.Common.{arith}
use Rattle.tighten.proofs.Following.{running_start, running_turn, running_stop, running_past}
use Rattle.tighten.proofs.list.run_of.Goals as goal

pub loop-count-init : goal.loop-count-init
loop-count-init c = let p = c.requires in running_start c.args.branches.forest p.apart p.opens

pub returns-then-stops : goal.returns-then-stops
returns-then-stops c =
    let p = c.requires in
    running_stop c.args.branches.forest p.apart p.opens c.loop-count.invariant (omega arith) c.stops.ensures c.if-stops.true

pub loop-count-preserved : goal.loop-count-preserved
loop-count-preserved c =
    let p = c.requires in
    running_turn c.args.branches.forest p.apart p.opens c.loop-count.invariant (omega arith) c.stops.ensures c.if-stops.false c.reach_of-until.ensures

pub returns : goal.returns
returns c = let p = c.requires in running_past c.args.branches.forest p.apart p.opens c.loop-count.invariant (omega arith)
