-- `put_answer` meets its contract: its six parts stand one after another, a device of five digits at most and numbers of ten.
use native.Mathlib.Omega.{arith}
use Rattle.respond.proofs.Listing.{answer_put, answer_short}
use Rattle.respond.proofs.write.put_answer.Goals as goal

pub returns-clause-puts : goal.returns-clause-puts
returns-clause-puts c =
    answer_put _ _ _ _ c.put_word-first.ensures c.put_devices-devices.ensures c.put_numbered-place.ensures.puts c.put_numbered-next.ensures.puts c.put_numbered-end.ensures.puts
    c.put_word.ensures

pub returns-clause-few : goal.returns-clause-few
returns-clause-few c =
    answer_short _ _ _ _ (λ i. omega (arith, c.type_inv.listing i)) (omega (arith, c.ranges)) (omega (arith, c.ranges)) (omega (arith, c.ranges))
