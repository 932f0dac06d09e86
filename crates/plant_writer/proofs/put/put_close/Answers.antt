-- `put_close` meets its contract: a bracket and a line feed.
use borrow.Author.Rules.{rules}
use Rattle.plant_writer.proofs.Loops.{close_put}
use Rattle.plant_writer.proofs.put.put_close.Goals as goal

pub returns : goal.returns
returns c =
    search (rules, close_put)
