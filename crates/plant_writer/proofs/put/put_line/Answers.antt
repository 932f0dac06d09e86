-- `put_line` meets its contract: a word, a number and an ending, one after another.
use Rattle.writing.proofs.Writing.{puts, ◌then◌}
use Rattle.plant_writer.proofs.put.put_line.Goals as goal

pub returns : goal.returns
returns c =
    let number = rw c.from.ensures at c.put_number.ensures.writes in
    puts c.put_word.ensures then puts number then puts c.put_word-2.ensures
