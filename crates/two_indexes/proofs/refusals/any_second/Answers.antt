-- `two_indexes::refusals::any_second` meets its contract: the last term tells.
use borrow.Author.Rules.{rules}
use Rattle.two_indexes.proofs.Rising.{second_told}
use Rattle.two_indexes.proofs.refusals.any_second.Goals as goal

pub returns : goal.returns
returns c =
    second_told _ c.last.ensures.item (search rules)
