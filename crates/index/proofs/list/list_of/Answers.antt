-- `index::list::list_of` meets its contract: by the number of the term.
use Rattle.std.proofs.Common.{arith}
use Rattle.index.proofs.Lookup.{looked_some}
use Rattle.index.proofs.list.list_of.Goals as goal

pub returns-in-Some : goal.returns-in-Some
returns-in-Some c =
    looked_some c.in-Some.ensures.numbered (omega (arith, c.in-Some.ensures.from_1)) c.list_at.ensures
