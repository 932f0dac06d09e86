-- `two_indexes::refusals::any_first` meets its contract: the first term tells.
use borrow.Author.Rules.{rules}
use Rattle.two_indexes.proofs.Rising.{first_told}
use Rattle.two_indexes.proofs.refusals.any_first.Goals as goal

pub returns : goal.returns
returns c =
    first_told _ c.first.ensures.item (search rules)
