-- `digit_count` meets its contract: a number between two powers of ten has as many digits as the higher has zeros.
use Rattle.std.proofs.Common.{arith}
use Rattle.writing.proofs.Digits.{digits_one, digits_between, digits_log}
use Rattle.writing.proofs.digit_count.Goals as goal

pub returns-in-0-to-9 : goal.returns-in-0-to-9
returns-in-0-to-9 c =
    digits_one _ (omega arith)

pub returns-in-10-to-99 : goal.returns-in-10-to-99
returns-in-10-to-99 c =
    digits_between 1 _ (omega arith) (omega arith)

pub returns-in-100-to-999 : goal.returns-in-100-to-999
returns-in-100-to-999 c =
    digits_between 2 _ (omega arith) (omega arith)

pub returns-in-1000-to-9999 : goal.returns-in-1000-to-9999
returns-in-1000-to-9999 c =
    digits_between 3 _ (omega arith) (omega arith)

pub returns-in_default : goal.returns-in_default
returns-in_default c =
    digits_log _ _ c.ilog10.ensures.power_le c.ilog10.ensures.next_power_gt
