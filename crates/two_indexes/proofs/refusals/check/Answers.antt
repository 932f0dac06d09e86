-- `two_indexes::refusals::check` meets its contract: the rows of both indexes tell, or else row 15.
use Rattle.std.proofs.lemmas.Result.{err_from_is_err_and}
use Rattle.plant.specs.Tables.{plant_of}
use Rattle.two_indexes.specs.Indexes.{indexes_refusal}
use Rattle.two_indexes.specs.Tables.{indexes_of}
use Rattle.refusal.proofs.Numbers.{first_refuses}
use Rattle.two_indexes.proofs.Accepted.{refused}
use Rattle.two_indexes.proofs.refusals.check.Goals as goal

pub returns-in_err-check_both : goal.returns-in_err-check_both
unfolding indexes_refusal
returns-in_err-check_both c =
    let p = err_from_is_err_and c.from_residual.result c.from_residual.ensures.1 in
    rw (p.1, p.2) (first_refuses c.in_err-check_both.field-0.0 _ c.in_err-check_both.ensures.refusal)

pub returns : goal.returns
returns c =
    refused (plant_of c.args.plant) (indexes_of c.args.indexes) 0 c.in_ok-check_both.ensures.refusal c.check_homes.ensures
