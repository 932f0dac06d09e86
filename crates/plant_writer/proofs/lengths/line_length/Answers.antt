-- `line_length` meets its contract: a number of 32 bits has ten digits at most.
use Rattle.std.proofs.Common.{arith}
use Rattle.writing.proofs.Digits.{numeral_short}
use Rattle.plant_writer.proofs.lengths.line_length.Goals as goal

pub overflow_add-result : goal.overflow_add-result
overflow_add-result c = omega (arith, numeral_short 9 c.args.number)

pub returns-clause-few : goal.returns-clause-few
returns-clause-few c = omega (arith, numeral_short 9 c.args.number)
