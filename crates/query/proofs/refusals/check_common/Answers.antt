-- `query::refusals::check_common` meets its contract: the rows are joined as the definition joins them.
use Prim.Native.Nat.{ℕ}
use mathlib.Core.Path.{◌≡◌}
use Rattle.std.specs.Prelude.{Result, Ok, Err}
use Rattle.std.specs.Result.{IsErrAnd}
use Rattle.refusal.specs.declared.Refusal.{Refusal}
use Rattle.refusal.specs.Numbers.{number, refused}
use Rattle.refusal.proofs.Numbers.{first_refuses, first_passes}
use Rattle.query.specs.Refusals.{common_refusal}
use Rattle.query.proofs.refusals.check_common.Goals as goal

-- what a `?` hands on is refused with the same number
handed_on : (r : Result (Unit {0}) Refusal) (e : Refusal) {n : ℕ} → IsErrAnd r (λ x. x ≡ e) → number e ≡ n → refused r ≡ n
handed_on (Ok x) e h k = absurd h
handed_on (Err x) e h k = rw h k

pub returns-in_err-check_counts : goal.returns-in_err-check_counts
unfolding common_refusal
returns-in_err-check_counts c =
    handed_on c.from_residual.result _ c.from_residual.ensures.1
    (first_refuses c.in_err-check_counts.field-0.0 _ c.in_err-check_counts.ensures)

pub returns-in_err-check_terms : goal.returns-in_err-check_terms
unfolding common_refusal
returns-in_err-check_terms c =
    handed_on c.from_residual-in_err-check_terms.result _ c.from_residual-in_err-check_terms.ensures.1
    (first_passes _ c.in_ok-check_counts.ensures
    (first_refuses c.in_err-check_terms.field-0.0 _ c.in_err-check_terms.ensures))

pub returns-in_err-check_levels : goal.returns-in_err-check_levels
unfolding common_refusal
returns-in_err-check_levels c =
    handed_on c.from_residual-in_err-check_levels.result _ c.from_residual-in_err-check_levels.ensures.1
    (first_passes _ c.in_ok-check_counts.ensures
    (first_passes _ c.in_ok-check_terms.ensures
    (first_refuses c.in_err-check_levels.field-0.0 _ c.in_err-check_levels.ensures)))

pub returns : goal.returns
unfolding common_refusal
returns c =
    first_passes _ c.in_ok-check_counts.ensures
    (first_passes _ c.in_ok-check_terms.ensures
    (first_passes _ c.in_ok-check_levels.ensures c.check_start.ensures))
