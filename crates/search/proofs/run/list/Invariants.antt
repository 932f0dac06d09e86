-- `search::run::list` meets its contract: the devices from d on give what the whole stretch gives.
use Rattle.laws.specs.Tables.{entry}
use Rattle.query.specs.Query.{wants}
use Rattle.search.proofs.Written.{Filling}
use Rattle.search.proofs.run.list.Given as goal

abbrev pub invariant-loop-d : goal.invariant-loop-d
invariant-loop-d l = Filling (λ d. wants l.levels (entry l.level d)) l.from l.to l.initial.out l.count l.out l.d l.n
