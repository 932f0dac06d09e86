-- `plant::any_wrong_root` meets its contract: no device up to d has a wrong root, and `tree` is the last root up to d.
use Rattle.plant.specs.Plant.{wrong_root}
use Rattle.laws.proofs.Search.{None}
use Rattle.plant.proofs.Forest.{Tree}
use Rattle.plant.proofs.any_wrong_root.Given as goal

abbrev pub invariant-loop-i : goal.invariant-loop-i
invariant-loop-i l = Tree l.last l.tree l.i × None (wrong_root l.last l.root) 0 l.i
