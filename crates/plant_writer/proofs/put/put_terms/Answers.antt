-- `put_terms` meets its contract: after i turns the first i terms are written.
use borrow.Author.Rules.{rules}
use native.Mathlib.Omega.{arith}
use Rattle.plant_writer.proofs.Loops.{terms_none, terms_more}
use Rattle.plant_writer.proofs.put.put_terms.Goals as goal

pub loop-i-init : goal.loop-i-init
loop-i-init c = search (rules, terms_none)

pub loop-i-preserved : goal.loop-i-preserved
loop-i-preserved c = terms_more c.loop-i.invariant (omega arith) c.list_at.ensures c.put_term-next.ensures
