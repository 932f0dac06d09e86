-- `plant_text::common::term_line` meets its contract.
use Rattle.plant_text.proofs.Lexing.{common_term}
use Rattle.plant_text.proofs.common.term_line.Goals as goal

pub returns : goal.returns
returns c = common_term c.in_ok-value.ensures c.is_at.ensures c.if-not-is_at.false c.if-word-ne-MARK_WORD.false c.if-text-at-ne32.false c.line_of.ensures
