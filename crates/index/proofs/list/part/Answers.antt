-- `index::list::part` meets its contract: bounds kept within the list give the part between them.
use Rattle.laws.proofs.Lists.{slice_part}
use Rattle.index.proofs.list.part.Goals as goal

pub returns : goal.returns
returns c =
    let s = c.args in
    slice_part s.start s.end s.table.now c.min-to.ensures c.min-from.ensures
