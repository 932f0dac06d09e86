-- `put_number` meets its contract: its digits are written where there is room for all of them.
use Rattle.text.proofs.Numerals.{numeral_form}
use Rattle.writing.proofs.put_number.Goals as goal

pub returns-then-too_short-clause-form : goal.returns-then-too_short-clause-form
returns-then-too_short-clause-form c =
    numeral_form _

pub returns-clause-form : goal.returns-clause-form
returns-clause-form c =
    numeral_form _
