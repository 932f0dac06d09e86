-- `text::is_at` meets its contract.
use Rattle.text.proofs.Lines.{begins_from}
use Rattle.text.proofs.is_at.Goals as goal

pub returns : goal.returns
returns c =
    begins_from _ _ _ c.min.ensures c.starts_with.ensures.value
