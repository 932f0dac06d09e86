-- `respond_query` meets its contract: the refusal of the query text, or what the search comes to.
use native.Mathlib.Omega.{arith}
use Rattle.plant.specs.Tables.{plant_of}
use Rattle.index.specs.Tables.{index_of}
use Rattle.query.specs.Query.{empty}
use Rattle.refusal.specs.Numbers.{number}
use Rattle.refusal.proofs.Numbers.{number_not_zero}
use Rattle.respond.proofs.Parts.{prints_as, query_refused}
use Rattle.respond.proofs.respond_query.Goals as goal

pub returns-in-Err : goal.returns-in-Err
returns-in-Err c =
    let r = c.in-Err.field-0 in
    rw (← c.in-Err.ensures)
    (prints_as (record { puts = c.put_numbered_twice.ensures.puts; few = omega (arith, c.put_numbered_twice.ensures.few) })
    (rw c.number.ensures (query_refused (plant_of c.args.plant) (index_of c.args.index) (number r.refusal) r.line empty (number_not_zero r.refusal))))

pub returns-in-Ok : goal.returns-in-Ok
returns-in-Ok c = rw (← c.in-Ok.ensures) c.respond_search.ensures
