-- `put_numbered_twice` meets its contract: a word, a number, and then a line of a space and the second number.
use native.Mathlib.Omega.{arith}
use Rattle.writing.proofs.Writing.{puts, ◌then◌}
use Rattle.respond.proofs.Listing.{numbered₂_short}
use Rattle.respond.proofs.write.put_numbered_twice.Goals as goal

pub returns-clause-puts : goal.returns-clause-puts
returns-clause-puts c =
    let number = rw c.from.ensures at c.put_number.ensures.writes in
    puts c.put_word.ensures then puts number then c.put_numbered.ensures.puts

pub returns-clause-few : goal.returns-clause-few
returns-clause-few c = omega (arith, numbered₂_short c.args.word.now 9 c.args.n c.args.m (omega (arith, c.ranges)) (omega (arith, c.ranges)))
