-- `index_check::misplaced_in` meets its contract: a device is out of range, or does not rise.
use mathlib.Core.Path.{◌∙◌}
use Rattle.laws.proofs.Search.{first_found, second_tells}
use Rattle.index_check.proofs.misplaced_in.Goals as goal

pub returns-then-outside_in : goal.returns-then-outside_in
returns-then-outside_in c =
    c.if-outside_in.true ∙ first_found _ _ _ c.outside_in.ensures c.if-outside_in.true

pub returns-else-outside_in : goal.returns-else-outside_in
returns-else-outside_in c =
    second_tells _ _ _ c.outside_in.ensures c.unordered_in.ensures c.if-outside_in.false
