-- `put_word` meets its contract: the first i bytes of the word are stored.
use Rattle.writing.proofs.Writing.{WordPut}
use Rattle.writing.proofs.put_word.Given as goal

abbrev pub invariant-loop-i : goal.invariant-loop-i
invariant-loop-i l = WordPut l.initial.out l.at l.word l.out l.i
