-- `put_plant` meets its contract: its four parts stand one after another.
use Rattle.plant.specs.Tables.{plant_of}
use Rattle.index.specs.Tables.{index_of}
use Rattle.plant_writer.proofs.Loops.{plant_put}
use Rattle.plant_writer.proofs.put.put_plant.Goals as goal

pub returns : goal.returns
returns c =
    plant_put (plant_of c.args.plant) (index_of c.args.index)
    c.put_word-first.ensures c.put_devices-devices.ensures c.put_terms-marks.ensures c.put_close.ensures
