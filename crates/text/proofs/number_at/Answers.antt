-- `text::number_at` meets its contract.
use Rattle.std.proofs.Common.{sym, ◌∙◌, arith, rules}
use borrow.Author.Tests.{ltb-false}
use Rattle.text.proofs.Decimal.{none_end, none_low, none_high, zero_is}
use Rattle.text.proofs.number_at.Goals as goal

pub returns-in_default-clause-number : goal.returns-in_default-clause-number
returns-in_default-clause-number c =
    none_end _ _ _ (ltb-false _ _ (sym c.in_default.ensures.lookup.0))

pub returns-in-48-clause-number : goal.returns-in-48-clause-number
returns-in-48-clause-number c =
    let k = c.in-Some.ensures.lookup.3 in
    let e = sym (k.1 0) ∙ c.in-48.is in
    search (zero_is, rules)

pub returns-in_default-first-clause-number : goal.returns-in_default-first-clause-number
returns-in_default-first-clause-number c =
    let k = c.in-Some.ensures.lookup.3 in
    none_low _ _ _ k.0 (k.1 0) (omega arith)

pub returns-in_default-first-2-clause-number : goal.returns-in_default-first-2-clause-number
returns-in_default-first-2-clause-number c =
    let k = c.in-Some.ensures.lookup.3 in
    none_high _ _ _ k.0 (k.1 0) (omega arith)
