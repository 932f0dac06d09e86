-- `index::list::fill_from` meets its contract: from `from` up to the entry at hand, the table is filled.
use mathlib.Core.Path.{◌≡◌}
use lib.ListN.{take, replicate}
use Rattle.index.proofs.list.fill_from.Given as goal

abbrev pub invariant-loop-entry : goal.invariant-loop-entry
invariant-loop-entry g l = take l.entry-index l.entry-items ≡ replicate l.entry-index l.value
