-- `text::digits_at` meets its contract: `value` is what the first i digits make, up to the limit.
use Rattle.std.proofs.Common.{◌+◌}
use Rattle.text.proofs.Decimal.{Counted}
use Rattle.text.proofs.digits_at.Given as goal

abbrev pub invariant-loop-i : goal.invariant-loop-i
invariant-loop-i l = Counted l.limit l.text l.at l.value (l.at + l.i)
