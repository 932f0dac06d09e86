-- `put_term` meets its contract: its line, its postings and its closing line, one after another.
use Rattle.plant_writer.proofs.Loops.{term_put, term_whole}
use Rattle.plant_writer.proofs.put.put_term.Goals as goal

pub returns : goal.returns
returns c =
    let s = c.args in
    term_whole s.term s.list.now (term_put c.from.ensures c.put_line-first.ensures) c.put_postings-close.ensures c.put_close.ensures
