-- `put_last` meets its contract: the digits from i on are stored, and those before them are the last i of `rest`.
use Rattle.writing.proofs.Writing.{Lasts}
use Rattle.writing.proofs.put_last.Given as goal

abbrev pub invariant-loop-i : goal.invariant-loop-i
invariant-loop-i l = Lasts l.initial.out l.at l.count l.n l.out l.rest l.i
