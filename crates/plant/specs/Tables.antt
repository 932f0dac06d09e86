-- The plant that lent device tables hold.
use Rattle.plant.specs.Plant.{Plant, plant}
use Rattle.plant.specs.declared.DeviceTables.{DeviceTables}

abbrev pub plant_of : DeviceTables → Plant
plant_of tables = plant tables.last.now tables.root.now tables.level.now
