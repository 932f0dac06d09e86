-- `query::refusals::check` meets its contract: the rows that others share come first.
use Rattle.std.proofs.lemmas.Result.{err_from_is_err_and}
use Rattle.refusal.proofs.Numbers.{first_refuses, first_passes}
use Rattle.query.specs.Refusals.{query_refusal}
use Rattle.query.proofs.refusals.check.Goals as goal

pub returns-in_err-check_common : goal.returns-in_err-check_common
unfolding query_refusal
returns-in_err-check_common c =
    let p = err_from_is_err_and c.from_residual.result c.from_residual.ensures.1 in
    rw (p.1, p.2) (first_refuses c.in_err-check_common.field-0.0 _ c.in_err-check_common.ensures)

pub returns : goal.returns
unfolding query_refusal
returns c =
    first_passes _ c.in_ok-check_common.ensures c.check_room.ensures
