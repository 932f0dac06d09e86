-- `query_text::read` meets its contract: at each turn, what the whole text comes to is what the rest of it comes to.
use Prim.Native.Nat.{◌-◌}
use lib.ListN.{length}
use Rattle.query_text.proofs.Turns.{Reads}
use Rattle.query_text.proofs.read.Given as goal

abbrev pub invariant-loop-form : goal.invariant-loop-form
invariant-loop-form l = Reads l.text l.draft l.at l.line

abbrev pub decreases-loop-form : goal.decreases-loop-form
decreases-loop-form l = length l.text - l.at
