-- `put_postings` meets its contract: after i turns the first i postings are written.
use borrow.Author.Rules.{rules}
use Rattle.plant_writer.proofs.Loops.{postings_none, postings_more}
use Rattle.plant_writer.proofs.put.put_postings.Goals as goal

pub loop-posting-init : goal.loop-posting-init
loop-posting-init c = postings_none

pub loop-posting-preserved : goal.loop-posting-preserved
loop-posting-preserved c = search (rules, postings_more)
