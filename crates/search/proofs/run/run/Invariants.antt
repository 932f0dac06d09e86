-- `search::run::run` meets its contract: the rounds that are left give what is left of the whole run.
use Prim.Native.Nat.{◌-◌}
use mathlib.Core.List.{map}
use Rattle.laws.specs.Tables.{entry}
use Rattle.query.specs.Query.{wants}
use Rattle.search.proofs.RunByIndex.{Listed}
use Rattle.search.proofs.run.run.Given as goal

abbrev pub invariant-loop-position : goal.invariant-loop-position
invariant-loop-position l =
    Listed l.plant.last.now l.plant.root.now (λ d. wants l.query.levels (entry l.plant.level.now d)) (map (λ x. x.now) l.lists) l.required l.query.budget l.query.start l.initial.out l.positions l.out l.position l.count l.counts

abbrev pub decreases-loop-position : goal.decreases-loop-position
decreases-loop-position l = l.end - l.position
