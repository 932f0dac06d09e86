-- `query_text::with_line` meets its contract.
use Rattle.query_text.proofs.LineRows.{accepted_line}
use Rattle.query_text.proofs.with_line.Goals as goal

pub with_form-requires : goal.with_form-requires
with_form-requires c =
    accepted_line _ _ c.requires
