-- `respond_search` meets its contract: a refusal or the listing, as the search answers; its count lies within the list.
use native.Mathlib.Omega.{arith}
use lib.ListN.{length-take}
use Rattle.plant.specs.Tables.{plant_of}
use Rattle.index.specs.Tables.{index_of}
use Rattle.two_indexes.specs.Indexes.{alone, list_of}
use Rattle.search.specs.Answer.{search_refusal, ended}
use Rattle.respond.proofs.Parts.{prints_as, run_refused, run_listed}
use Rattle.respond.proofs.respond_search.Goals as goal

pub returns-in-Err : goal.returns-in-Err
returns-in-Err c =
    let q = c.args.query in
    let P = plant_of c.args.plant in
    let S = alone (index_of c.args.index) in
    prints_as (record { puts = c.put_numbered.ensures.puts; few = omega (arith, c.put_numbered.ensures.few) })
    (rw c.number.ensures (run_refused c.in-Err.refusal (search_refusal P S q 1024) (ended P (list_of S) q q.budget) c.in-Err.ensures.answers))

pub returns-in-Ok : goal.returns-in-Ok
returns-in-Ok c =
    let q = c.args.query in
    let P = plant_of c.args.plant in
    let S = alone (index_of c.args.index) in
    prints_as (record { puts = c.put_answer.ensures.puts; few = omega (arith, simp length-take at c.put_answer.ensures.few) })
    (run_listed c.in-Ok.a (search_refusal P S q 1024) (ended P (list_of S) q q.budget) _ _ c.in-Ok.ensures.answers c.in-Ok.ensures.lists)
