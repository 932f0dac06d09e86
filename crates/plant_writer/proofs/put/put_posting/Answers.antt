-- `put_posting` meets its contract: its word, its device and an ending.
use Rattle.plant_writer.proofs.Loops.{shared_put, private_put}
use Rattle.plant_writer.proofs.put.put_posting.Goals as goal

pub returns-then-posting-eq1 : goal.returns-then-posting-eq1
returns-then-posting-eq1 c = shared_put c.args.posting c.if-posting-eq1.true c.put_line.ensures

pub returns : goal.returns
returns c = private_put c.args.posting c.if-posting-eq1.false c.put_line-2.ensures
