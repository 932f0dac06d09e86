-- `text::fits` meets its contract: the bytes of the pattern so far fit.
use Rattle.text.proofs.Patterns.{Scanned}
use Rattle.text.proofs.fits.Given as goal

abbrev pub invariant-loop-p : goal.invariant-loop-p
invariant-loop-p l = Scanned l.limit l.text l.at l.pattern l.scan l.p-index
