-- `put_postings` meets its contract: after i turns the first i postings are written.
use Rattle.plant_writer.proofs.Loops.{PostingsPut}
use Rattle.plant_writer.proofs.put.put_postings.Given as goal

abbrev pub invariant-loop-posting : goal.invariant-loop-posting
invariant-loop-posting l = PostingsPut l.list l.initial.out l.at l.out l.next l.posting-index
