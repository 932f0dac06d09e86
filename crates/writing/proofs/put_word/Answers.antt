-- `put_word` meets its contract: the first i bytes of the word are stored.
use Rattle.std.proofs.Common.{rules}
use Rattle.writing.proofs.Writing.{word_more}
use Rattle.writing.proofs.put_word.Goals as goal

pub loop-i-preserved : goal.loop-i-preserved
loop-i-preserved c =
    search (rules, word_more)
