-- `search::lists::gather` meets its contract: the first slices are the lists of the first terms.
use mathlib.Core.List.{◌++◌}
use lib.ListN.{length}
use Rattle.two_indexes.specs.Indexes.{list_of}
use Rattle.two_indexes.specs.Tables.{indexes_of}
use Rattle.search.proofs.Gathering.{Gathered}
use Rattle.search.proofs.lists.gather.Given as goal

abbrev pub invariant-loop-i : goal.invariant-loop-i
invariant-loop-i l =
    Gathered (list_of (indexes_of l.indexes)) (l.required ++ l.forbidden) l.lists (length l.yielded)
