-- `search::search` meets its contract, by whether the tables and the indexes, or the query, are refused.
use mathlib.Core.Path.{sym}
use Rattle.std.proofs.lemmas.Result.{err_from_is_err_and}
use Rattle.plant.specs.Tables.{plant_of}
use Rattle.two_indexes.specs.Tables.{indexes_of}
use Rattle.refusal.proofs.Numbers.{first_refuses, first_passes}
use Rattle.search.specs.Answer.{search_refusal}
use Rattle.search.proofs.Answers.{searched-refused, searched}
use Rattle.search.proofs.search.Goals as goal

pub returns-in_err-check : goal.returns-in_err-check
unfolding search_refusal
returns-in_err-check c =
    let p = err_from_is_err_and c.from_residual.result c.from_residual.ensures.1 in
    rw (p.1, p.2)
    (searched-refused (plant_of c.args.plant) (indexes_of c.args.indexes) c.args.query c.in_err-check.field-0.0 (first_refuses c.in_err-check.field-0.0 _ c.in_err-check.ensures))

pub returns-in_err-check-2 : goal.returns-in_err-check-2
unfolding search_refusal
returns-in_err-check-2 c =
    let p = err_from_is_err_and c.from_residual-in_err-check-2.result c.from_residual-in_err-check-2.ensures.1 in
    rw (p.1, p.2)
    (searched-refused (plant_of c.args.plant) (indexes_of c.args.indexes) c.args.query c.in_err-check-2.field-0.0 (first_passes _ c.in_ok-check.ensures c.in_err-check-2.ensures))

pub answered-requires : goal.answered-requires
unfolding search_refusal
answered-requires c = sym (first_passes _ c.in_ok-check.ensures c.in_ok-check-2.ensures)

pub returns : goal.returns
unfolding search_refusal
returns c =
    searched (plant_of c.args.plant) (indexes_of c.args.indexes) c.args.query (sym (first_passes _ c.in_ok-check.ensures c.in_ok-check-2.ensures)) c.answered.ensures
