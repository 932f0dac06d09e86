-- `tighten::list::gather` meets its contract: the run is known, or it is found.
use Rattle.std.proofs.Common.{arith}
use Rattle.tighten.proofs.Gathering.{known_runs, lead_short, within_whole, run_short, run_whole}
use Rattle.tighten.proofs.list.gather.Goals as goal

pub returns-then-end-until : goal.returns-then-end-until
returns-then-end-until c =
    let p = c.requires in
    within_whole c.args.branches.forest p.apart p.opens (known_runs c.args.branches.forest p.apart p.opens p.known (omega arith)) c.if-end-until.true c.past.ensures

pub returns-then-d-until : goal.returns-then-d-until
returns-then-d-until c =
    let p = c.requires in
    lead_short c.args.branches.forest p.apart p.opens (known_runs c.args.branches.forest p.apart p.opens p.known c.if-d-until.true) c.if-end-until.false

pub returns-then-until-end : goal.returns-then-until-end
returns-then-until-end c = let p = c.requires in run_short c.args.branches.forest p.apart p.opens c.run_of-count.ensures (omega arith)

pub returns : goal.returns
returns c = let p = c.requires in run_whole c.args.branches.forest p.apart p.opens c.run_of-count.ensures (omega arith)
