-- `index_check::check` meets its contract: the device tables refuse, or the index's own rows tell.
use mathlib.Core.Path.{◌≡◌, sym, ap, ◌∙◌}
use Rattle.std.proofs.lemmas.Result.{err_from_is_err_and}
use Rattle.index.specs.Index.{index_rows, tables_refusal}
use Rattle.index.specs.Tables.{index_of}
use Rattle.refusal.specs.Numbers.{number, refused}
use Rattle.refusal.proofs.Numbers.{first_refuses, first_passes, row_mapped}
use Rattle.index_check.proofs.check.Goals.{After-map_err}
use Rattle.index_check.proofs.check.Goals as goal

pub returns-in_err-branches-clause-refusal : goal.returns-in_err-branches-clause-refusal
unfolding tables_refusal
returns-in_err-branches-clause-refusal c =
    let p = err_from_is_err_and c.from_residual.result c.from_residual.ensures.1 in
    rw (p.1, p.2) (first_refuses c.in_err-branches.field-0.0 _ c.in_err-branches.ensures.refusal)

-- what the index's own rows come to
told : (c : After-map_err) → refused c.map_err.result ≡ index_rows 5 c.args.plant.last.now (index_of c.args.index)
told c =
    rw (← c.in_ok-branches.ensures.branches)
    (row_mapped 5 c.rows.result c.map_err.result c.map_err.ensures.cases (λ row e h. ap number h) ∙ c.rows.ensures 5)

pub returns-in_err-map_err-clause-refusal : goal.returns-in_err-map_err-clause-refusal
unfolding tables_refusal
returns-in_err-map_err-clause-refusal c =
    let p = err_from_is_err_and c.from_residual-in_err-map_err.result c.from_residual-in_err-map_err.ensures.1 in
    rw (p.1, p.2) (first_passes _ c.in_ok-branches.ensures.refusal
    (ap refused (sym c.in_err-map_err.was) ∙ told (goal.at.returns-in_err-map_err-clause-refusal c).After-map_err))

pub returns-clause-refusal : goal.returns-clause-refusal
unfolding tables_refusal
returns-clause-refusal c =
    first_passes _ c.in_ok-branches.ensures.refusal
    (ap refused (sym c.in_ok-map_err.was) ∙ told (goal.at.returns-clause-refusal c).After-map_err)
