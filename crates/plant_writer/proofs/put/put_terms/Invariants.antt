-- `put_terms` meets its contract: after i turns the first i terms are written.
use Rattle.plant_writer.proofs.Loops.{TermsPut}
use Rattle.plant_writer.proofs.put.put_terms.Given as goal

abbrev pub invariant-loop-i : goal.invariant-loop-i
invariant-loop-i l = TermsPut l.index.terms.now l.index.starts.now l.index.postings.now l.initial.out l.at l.out l.next l.i
