-- `plant::faulty_at` meets its contract: between d and the next child, every branch ends within d's branch.
use borrow.Author.Rules.{rules}
use Rattle.plant.proofs.Faults.{children_found, children_turn, children_end}
use Rattle.plant.proofs.faulty_at.Goals as goal

pub returns-then-end-child_end : goal.returns-then-end-child_end
returns-then-end-child_end c =
    search (rules, children_found)

pub loop-child-preserved : goal.loop-child-preserved
loop-child-preserved c =
    search (rules, children_turn)

pub returns : goal.returns
returns c =
    search (rules, children_end)
