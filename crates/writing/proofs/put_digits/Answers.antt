-- `put_digits` meets its contract: all digits of a number are its last, as many as it has.
use Rattle.std.proofs.Common.{arith}
use Rattle.writing.proofs.Digits.{digits_one, digits_between}
use Rattle.writing.proofs.Writing.{few_room, last_all}
use Rattle.writing.proofs.put_digits.Goals as goal

pub put_last-requires : goal.put_last-requires
put_last-requires c =
    few_room c.requires (digits_one _ (omega arith))

pub returns-in-0-to-9 : goal.returns-in-0-to-9
returns-in-0-to-9 c =
    last_all c.requires (digits_one _ (omega arith)) c.put_last.ensures

pub put_last-requires-in-10-to-99 : goal.put_last-requires-in-10-to-99
put_last-requires-in-10-to-99 c =
    few_room c.requires (digits_between 1 _ (omega arith) (omega arith))

pub returns-in-10-to-99 : goal.returns-in-10-to-99
returns-in-10-to-99 c =
    last_all c.requires (digits_between 1 _ (omega arith) (omega arith)) c.put_last-in-10-to-99.ensures

pub put_last-requires-in-100-to-999 : goal.put_last-requires-in-100-to-999
put_last-requires-in-100-to-999 c =
    few_room c.requires (digits_between 2 _ (omega arith) (omega arith))

pub returns-in-100-to-999 : goal.returns-in-100-to-999
returns-in-100-to-999 c =
    last_all c.requires (digits_between 2 _ (omega arith) (omega arith)) c.put_last-in-100-to-999.ensures

pub put_last-requires-in-1000-to-9999 : goal.put_last-requires-in-1000-to-9999
put_last-requires-in-1000-to-9999 c =
    few_room c.requires (digits_between 3 _ (omega arith) (omega arith))

pub returns-in-1000-to-9999 : goal.returns-in-1000-to-9999
returns-in-1000-to-9999 c =
    last_all c.requires (digits_between 3 _ (omega arith) (omega arith)) c.put_last-in-1000-to-9999.ensures

pub returns-in_default : goal.returns-in_default
returns-in_default c =
    last_all c.requires c.requires.all c.put_last-in_default.ensures
