-- `repair::checks::judge` meets its contract: each return is the first row that applies.
use Rattle.std.proofs.Common.{arith}
use Rattle.std.proofs.lemmas.Result.{err_from_is_err_and}
use Rattle.plant.specs.Tables.{plant_of}
use Rattle.index.specs.Tables.{index_of}
use Rattle.repair.proofs.Rows.{outlined, judge_tables, judge_outline, judge_astray, judge_few, judge_short, judge_none}
use Rattle.repair.proofs.checks.judge.Goals as goal

pub returns-in_err-branches : goal.returns-in_err-branches
returns-in_err-branches c =
    let p = err_from_is_err_and c.from_residual.result c.from_residual.ensures.1 in
    rw (p.1, p.2) (judge_tables _ _ _ c.in_err-branches.field-0.0 c.in_err-branches.ensures.refusal)

pub returns-in_err-map_err : goal.returns-in_err-map_err
returns-in_err-map_err c =
    let p = err_from_is_err_and c.from_residual-in_err-map_err.result c.from_residual-in_err-map_err.ensures.1 in
    rw (p.1, p.2) (
    judge_outline _ (index_of c.args.index) _ c.in_ok-branches.ensures.refusal c.outline_row.result c.outline_row.ensures
    c.in_err-map_err.field-0.0 c.in_err-map_err.ensures.cases)

pub counted_of-requires : goal.counted_of-requires
counted_of-requires c = record {
  outlined =
      outlined (plant_of c.args.plant) _ c.args.room c.in_ok-branches.ensures.refusal c.outline_row.result c.outline_row.ensures _
      c.in_ok-map_err.ensures.cases;
}

pub returns-in_default : goal.returns-in_default
returns-in_default c =
    let a = c.in_ok-branches.ensures in
    judge_astray _ _ _ a.refusal c.outline_row.result c.outline_row.ensures _ c.in_ok-map_err.ensures.cases
    (rw a.branches at c.in_default.ensures) c.astray_row.result c.astray_row.ensures

pub overflow_sub-index : goal.overflow_sub-index
overflow_sub-index c =
    let a = c.in_ok-branches.ensures in
    judge_few (plant_of c.args.plant) _ c.args.room a.refusal c.outline_row.result c.outline_row.ensures _ c.in_ok-map_err.ensures.cases
    (rw a.branches at c.in-Some.ensures)

pub returns-then-room-index : goal.returns-then-room-index
returns-then-room-index c =
    let a = c.in_ok-branches.ensures in
    judge_short _ _ _ a.refusal c.outline_row.result c.outline_row.ensures _ c.in_ok-map_err.ensures.cases
    (rw a.branches at c.in-Some.ensures) (omega arith)

pub returns : goal.returns
returns c =
    let a = c.in_ok-branches.ensures in
    judge_none _ _ _ a.refusal c.outline_row.result c.outline_row.ensures _ c.in_ok-map_err.ensures.cases
    (rw a.branches at c.in-Some.ensures) _ a.branches (omega arith)
