-- `repair::repair` meets its contract.
use Rattle.std.proofs.Common.{arith}
use Rattle.std.proofs.lemmas.Result.{err_from_is_err_and}
use Rattle.repair.proofs.Outcomes.{ends_refused, ends_lists, ends_room, ends_few, ends_same, ends_made}
use Rattle.repair.proofs.repair.Goals as goal

pub returns-in_err-branches : goal.returns-in_err-branches
returns-in_err-branches c =
    let p = err_from_is_err_and c.from_residual.result c.from_residual.ensures.1 in
    rw (p.1, p.2) (ends_refused _ _ _ c.in_err-branches.field-0.0 c.in_err-branches.ensures)

pub overflow_sub-dropped : goal.overflow_sub-dropped
overflow_sub-dropped c = ends_few _ _ c.args.report.now c.in_ok-branches.ensures

pub compact-requires : goal.compact-requires
compact-requires c = record {
  repairable = ends_lists _ _ c.args.report.now c.in_ok-branches.ensures;
  report_in_bounds = ends_room _ _ c.args.report.now c.in_ok-branches.ensures;
}

pub returns-then-dropped-gt0 : goal.returns-then-dropped-gt0
returns-then-dropped-gt0 c = ends_made _ _ _ c.in_ok-branches.ensures c.compact.ensures c.clear.ensures

pub returns-else-dropped-gt0 : goal.returns-else-dropped-gt0
returns-else-dropped-gt0 c = ends_same _ _ _ c.in_ok-branches.ensures (omega arith)
