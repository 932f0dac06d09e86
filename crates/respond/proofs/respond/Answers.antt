-- `respond` meets its contract. The tables cut to the numbers that the reader answers are those that the text makes, since an accepted text passes the check.
use borrow.Author.Rules.{rules}
use native.Mathlib.Omega.{arith}
use Rattle.refusal.specs.Numbers.{number}
use Rattle.plant_text.specs.PlantText.{read_plant}
use Rattle.respond.specs.Respond.{program_room}
use Rattle.accepted_text.proofs.Made.{is_refused}
use Rattle.respond.proofs.Tables.{program_within, tables}
use Rattle.respond.proofs.Parts.{plant_refused, plant_read, responds}
use Rattle.respond.proofs.respond.Goals as goal

pub returns-in-Err : goal.returns-in-Err
returns-in-Err c =
    let r = c.in-Err.field-0 in
    responds (search rules) (record { puts = c.put_numbered_twice.ensures.puts; few = omega (arith, c.put_numbered_twice.ensures.few) })
    (rw c.number.ensures (plant_refused c.args.plant.now c.args.query.now (number r.refusal) r.line
    (is_refused (read_plant program_room c.args.plant.now) r c.in-Err.ensures.outcome c.in-Err.ensures.number)))

pub returns-in-Ok : goal.returns-in-Ok
returns-in-Ok c =
    let k = c.in-Ok.counts in
    let t = tables program_room program_within c.args.plant.now k.devices k.terms k.postings 1024 1024 1024 256 256 4096 _ _ _ _ _ _
    c.in-Ok.ensures.outcome c.in-Ok.ensures.plant c.in-Ok.ensures.index in
    responds (search rules) c.respond_query.ensures (plant_read c.args.plant.now c.args.query.now _ _ t.state t.means t.plant_is t.index_is)
