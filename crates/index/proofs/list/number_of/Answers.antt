-- `index::list::number_of` meets its contract: the term is at the index that the search by halves gives, or nowhere.
use Rattle.std.proofs.Common.{rules}
use borrow.Author.Tests.{tests}
use Rattle.std.proofs.lemmas.Fn.{always_returns_same}
use Rattle.std.specs.Ordering.{nat_cmp}
use Rattle.index.proofs.Lookup.{number_found, number_none}
use Rattle.index.proofs.list.number_of.Goals as goal

pub returns-in-Ok-clause-numbered : goal.returns-in-Ok-clause-numbered
returns-in-Ok-clause-numbered c =
    number_found c.in-Ok.ensures.bound (c.in-Ok.ensures.position (λ y. nat_cmp y c.args.term) (always_returns_same _ _ _ (λ a r f k. search (rules, tests))))

pub returns-in-Err-clause-numbered : goal.returns-in-Err-clause-numbered
returns-in-Err-clause-numbered c =
    number_none (c.in-Err.ensures.position (λ y. nat_cmp y c.args.term) (always_returns_same _ _ _ (λ a r f k. search (rules, tests))))
