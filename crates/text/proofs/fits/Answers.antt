-- `text::fits` meets its contract: the bytes of the pattern so far fit.
use Rattle.text.proofs.Patterns.{scan_is}
use Rattle.text.proofs.fits.Goals as goal

pub returns : goal.returns
returns c =
    scan_is c.loop-p.invariant c.loop-p-test.false c.is_end_at.ensures c.then_some.ensures
