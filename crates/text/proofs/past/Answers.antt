-- `text::past` meets its contract.
use Rattle.text.proofs.Patterns.{past_byte_is}
use Rattle.text.proofs.past.Goals as goal

pub returns : goal.returns
returns c =
    past_byte_is _ _ _ c.requires _ c.if-p-eq35.false c.is_byte_at.ensures c.then_some.ensures
