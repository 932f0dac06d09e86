-- `search::run::pass` meets its contract: the cursors from i on give what the whole round gives.
use mathlib.Core.List.{map}
use Rattle.search.proofs.RoundByIndex.{Doing}
use Rattle.search.proofs.run.pass.Given as goal

abbrev pub invariant-loop-i : goal.invariant-loop-i
invariant-loop-i l =
    Doing l.plant.last.now l.plant.root.now (map (λ x. x.now) l.lists) l.required l.p l.budget l.initial.positions l.positions l.initial.counts l.counts l.to l.i
