-- `search::cursor::bring` meets its contract: from each index on, the cursor goes on as the whole does.
use Prim.Native.Nat.{◌-◌}
use lib.ListN.{length}
use Rattle.search.proofs.BringByIndex.{Going}
use Rattle.search.proofs.cursor.bring.Given as goal

abbrev pub invariant-loop-q : goal.invariant-loop-q
invariant-loop-q l = Going l.plant.last.now l.plant.root.now l.list l.p l.budget l.initial.at l.at l.initial.counts l.counts

abbrev pub decreases-loop-q : goal.decreases-loop-q
decreases-loop-q l = length l.list - l.at
