-- `digit_count_u32` meets its contract: one digit, and one for each power of ten that the number is not below.
use native.Mathlib.Omega.{arith}
use Rattle.writing.proofs.Digits.{digits_compared}
use Rattle.writing.proofs.digit_count_u32.Goals as goal

pub returns : goal.returns
returns c =
    digits_compared c.above.ensures c.above-2.ensures c.above-3.ensures c.above-4.ensures c.above-5.ensures
    c.above-6.ensures c.above-7.ensures c.above-8.ensures c.above-9.ensures (omega arith)
