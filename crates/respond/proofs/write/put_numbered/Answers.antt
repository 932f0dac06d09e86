-- `put_numbered` meets its contract: a word, a number and an ending, one after another.
use native.Mathlib.Omega.{arith}
use Rattle.writing.proofs.Writing.{puts, ◌then◌}
use Rattle.respond.proofs.Listing.{numbered_short}
use Rattle.respond.proofs.write.put_numbered.Goals as goal

pub returns-clause-puts : goal.returns-clause-puts
returns-clause-puts c =
    let number = rw c.from.ensures at c.put_number.ensures.writes in
    puts c.put_word.ensures then puts number then puts c.put_word-2.ensures

pub returns-clause-few : goal.returns-clause-few
returns-clause-few c = omega (arith, numbered_short c.args.word.now 9 c.args.n (omega (arith, c.ranges)))
