-- `plant_text::common::posting_line` meets its contract.
use Rattle.plant_text.proofs.Lexing.{common_posting}
use Rattle.plant_text.proofs.common.posting_line.Goals as goal

pub returns : goal.returns
returns c = common_posting c.in_ok-value.ensures c.is_at.ensures c.if-not-is_at.false c.posting_kind-kind.ensures c.if-kind-eq0.false c.line_of.ensures
