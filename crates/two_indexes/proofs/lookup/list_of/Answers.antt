-- `two_indexes::lookup::list_of` meets its contract: by the index that the term belongs in, and its number there.
use native.Mathlib.Omega.{arith}
use Rattle.index.specs.Index.{index}
use Rattle.two_indexes.specs.Indexes.{Indexes, indexes}
use Rattle.two_indexes.proofs.Looked.{looked_second, looked_first}
use Rattle.two_indexes.proofs.lookup.list_of.Goals.{Start}
use Rattle.two_indexes.proofs.lookup.list_of.Goals as goal

abbrev S : Start → Indexes
S s = indexes
    (index s.args.terms.now s.args.starts.now s.args.postings.now)
    (index s.args.second_terms.now s.args.second_starts.now s.args.second_postings.now)

pub returns-then-term-ge32768 : goal.returns-then-term-ge32768
returns-then-term-ge32768 c =
    looked_second (S (goal.at.returns-then-term-ge32768 c).Start) (omega arith) c.list_of.ensures

pub returns-in-Some : goal.returns-in-Some
returns-in-Some c =
    looked_first (S (goal.at.returns-in-Some c).Start) (omega arith) c.in-Some.ensures.numbered (omega (arith, c.in-Some.ensures.from_1)) c.list_at.ensures
