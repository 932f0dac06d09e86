-- `plant_text::common::close_at` meets its contract.
use Rattle.plant_text.proofs.Lexing.{closes}
use Rattle.plant_text.proofs.common.close_at.Goals as goal

pub returns-then-is_at : goal.returns-then-is_at
returns-then-is_at c = closes c.args.text.now c.args.at c.is_at.ensures c.if-is_at.true
