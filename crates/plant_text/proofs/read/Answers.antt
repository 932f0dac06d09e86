-- `plant_text::read` meets its contract: the tables are filled behind what was made.
use Rattle.plant.specs.Plant.{plant}
use Rattle.index.specs.Index.{index}
use Rattle.plant_text.specs.PlantText.{read_into}
use Rattle.plant_text.proofs.Whole.{room_is, outcome_is, plant_is, index_is, values_are}
use Rattle.plant_text.proofs.read.Goals as goal

pub returns-clause-outcome : goal.returns-clause-outcome
returns-clause-outcome c =
    let a = c.args in
    let n = c.read_all-made.new in
    let k = c.read_all-made.auto in
    let e = room_is _ _ _ _ _ _ c.min.ensures c.min-2.ensures c.min-3.ensures c.min-4.ensures c.min-5.ensures c.min-6.ensures in
    outcome_is (plant a.last.now a.root.now a.level.now) (index a.terms.now a.starts.now a.postings.now) a.text.now
    (plant n.last n.root n.level) (index n.terms n.starts n.postings) e k.last k.root k.level k.terms k.starts k.postings
    c.read_all-made.result c.read_all-made.ensures.reads

pub returns-clause-plant : goal.returns-clause-plant
returns-clause-plant c =
    let a = c.args in
    let n = c.read_all-made.new in
    let k = c.read_all-made.auto in
    let u = c.unwrap_or-counts.ensures in
    let e = room_is _ _ _ _ _ _ c.min.ensures c.min-2.ensures c.min-3.ensures c.min-4.ensures c.min-5.ensures c.min-6.ensures in
    plant_is (plant a.last.now a.root.now a.level.now) (index a.terms.now a.starts.now a.postings.now) a.text.now
    (plant n.last n.root n.level) (index n.terms n.starts n.postings) e k.last k.root k.level k.terms k.starts k.postings
    c.read_all-made.result c.read_all-made.ensures.reads (rw u at c.fill_from.ensures) (rw u at c.fill_from-2.ensures) (rw u at c.fill_from-3.ensures)

pub returns-clause-index : goal.returns-clause-index
returns-clause-index c =
    let a = c.args in
    let n = c.read_all-made.new in
    let k = c.read_all-made.auto in
    let u = c.unwrap_or-counts.ensures in
    let e = room_is _ _ _ _ _ _ c.min.ensures c.min-2.ensures c.min-3.ensures c.min-4.ensures c.min-5.ensures c.min-6.ensures in
    index_is (plant a.last.now a.root.now a.level.now) (index a.terms.now a.starts.now a.postings.now) a.text.now
    (plant n.last n.root n.level) (index n.terms n.starts n.postings) e k.last k.root k.level k.terms k.starts k.postings
    c.read_all-made.result c.read_all-made.ensures.reads (rw u at c.fill_from-4.ensures) (rw u at c.fill_from-5.ensures) (rw u at c.fill_from-6.ensures)

pub returns-clause-values : goal.returns-clause-values
returns-clause-values c =
    let a = c.args in
    values_are (read_into a.text.now (plant a.last.now a.root.now a.level.now) (index a.terms.now a.starts.now a.postings.now)) (returns-clause-outcome c)
