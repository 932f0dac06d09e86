-- `index_check::any_wrong_start` meets its contract: the lists after those that are left start in order, and `next` is where they start.
use mathlib.Core.Path.{◌≡◌}
use lib.ListN.{length, take}
use Rattle.std.specs.Iterator.Adapters.{rev_source}
use Rattle.std.specs.Slice.Iter.{iter_rest}
use Rattle.index.proofs.Starts.{Down}
use Rattle.index_check.proofs.any_wrong_start.Given as goal

abbrev pub invariant-loop-start : goal.invariant-loop-start
invariant-loop-start l =
    let rest = iter_rest (rev_source l.start-iterator) in
    (goal.iterator-loop-start).can_next l.start-iterator
    × (goal.iterator-loop-start).is_finite l.start-iterator
    × (rest ≡ take (length rest) l.starts)
    × Down l.starts l.postings (length rest) l.next
