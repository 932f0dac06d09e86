-- `plant_text::common::device_line` meets its contract.
use Rattle.plant_text.proofs.Lexing.{common_dev}
use Rattle.plant_text.proofs.common.device_line.Goals as goal

pub returns : goal.returns
returns c = common_dev c.in_ok-value.ensures c.is_at.ensures c.if-not-is_at.false c.if-word-ne-DEV_WORD.false c.line_of.ensures
