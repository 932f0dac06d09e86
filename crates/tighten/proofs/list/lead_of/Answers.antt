-- `tighten::list::lead_of` meets its contract: nothing is to be gathered, or something is.
use Rattle.tighten.proofs.Gathering.{lead_alone}
use Rattle.tighten.proofs.list.lead_of.Goals as goal

pub returns-then-alone : goal.returns-then-alone
returns-then-alone c =
    let p = c.requires in
    lead_alone c.args.branches.forest p.apart p.list_not_empty c.device_of-d.ensures c.end_of-end.ensures c.at_leaf-made.ensures c.alone.ensures c.if-alone.true p.known
