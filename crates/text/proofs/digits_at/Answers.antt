-- `text::digits_at` meets its contract: `value` is what the first i digits make, up to the limit.
use Rattle.std.proofs.Common.{◌≡◌, ◌+◌, arith, sym, ◌∙◌, add-zero}
use Rattle.text.proofs.Decimal.{count_first, count_more, stop, stop_end, tail_byte, tail_within, tail_end}
use Rattle.text.proofs.digits_at.Goals as goal

pub loop-i-init : goal.loop-i-init
loop-i-init c =
    rw add-zero (count_first c.requires.0 c.requires.1 c.requires.2)

pub returns-then-not-is_ascii_digit-clause-number : goal.returns-then-not-is_ascii_digit-clause-number
returns-then-not-is_ascii_digit-clause-number c =
    stop c.loop-i.invariant (rw (tail_byte _ _ _) at (sym c.if-not-is_ascii_digit.ensures.value))

pub push-value-requires : goal.push-value-requires
push-value-requires c =
    let s = c.loop-i.invariant.small in
    let d = c.if-not-is_ascii_digit.ensures.cases in
    omega arith

pub loop-i-preserved : goal.loop-i-preserved
loop-i-preserved c =
    let d = c.if-not-is_ascii_digit.ensures.cases in
    let b = tail_byte c.args.text.now c.args.at c.loop-i.i in
    let n : c.args.at + (c.loop-i.i + 1) ≡ c.args.at + c.loop-i.i + 1 = omega arith in
    rw n (count_more c.loop-i.invariant (tail_within _ _ _ c.loop-i-test.true) (omega arith) (omega arith) (c.push-value.ensures ∙ rw b))

pub returns-clause-number : goal.returns-clause-number
returns-clause-number c =
    stop_end c.loop-i.invariant (tail_end _ _ _ c.loop-i-test.false)
