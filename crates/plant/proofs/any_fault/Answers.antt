-- `plant::any_fault` meets its contract: no branch after d is at fault.
use mathlib.Core.Path.{sym, ◌∙◌}
use native.Mathlib.Omega.{arith}
use Rattle.laws.proofs.Search.{any_found, any_none}
use Rattle.plant.proofs.any_fault.Goals as goal

pub returns-then-faulty_at : goal.returns-then-faulty_at
returns-then-faulty_at c =
    any_found _ c.loop-d.d (omega arith) (sym c.faulty_at.ensures ∙ c.if-faulty_at.true)

pub returns : goal.returns
returns c =
    any_none _ (λ e l u. c.loop-d.invariant.1 e (omega arith) u)
