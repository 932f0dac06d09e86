-- `text::is_end_at` meets its contract.
use Rattle.std.proofs.Common.{ap, ◌∙◌, eqb}
use Rattle.text.proofs.Lines.{end_is}
use Rattle.text.proofs.is_end_at.Goals as goal

pub returns-in-Some : goal.returns-in-Some
returns-in-Some c =
    let k = c.in-Some.ensures.lookup.3 in
    ap (λ b. eqb b 10) (k.1 0) ∙ end_is _ _ k.0
