-- `text::past_number` meets its contract.
use Rattle.text.proofs.Patterns.{past_number_is}
use Rattle.text.proofs.past_number.Goals as goal

pub returns : goal.returns
returns c =
    past_number_is _ _ _ c.requires c.number_at-value.ensures.number c.then_some.ensures
