-- Plant P of document 01, with notes that were typed by hand: the repair gives P's own index. docs/REPAIR.md shows it.
use mathlib.Core.Path.{◌≡◌, refl}
use mathlib.Core.List.{[], ◌∷◌}
use Rattle.laws.specs.Joined.{joined}
use Rattle.laws.specs.Search as search
use Rattle.plant.specs.Plant.{Plant, plant}
use Rattle.index.specs.Index.{Index, index}
use Rattle.repair.specs.Repair.{repaired, reported, report_of}

abbrev P : Plant
P = plant (6 ∷ 3 ∷ 3 ∷ 6 ∷ 5 ∷ 6 ∷ []) (1 ∷ 1 ∷ 1 ∷ 1 ∷ 1 ∷ 1 ∷ []) (120 ∷ 118 ∷ 255 ∷ 121 ∷ 90 ∷ 119 ∷ [])

-- term 7: own 2, all 2, own 3, own 5, own 5; term 9: all 4, own 6
abbrev typed : Index
typed = index (7 ∷ 9 ∷ []) (0 ∷ 5 ∷ []) (4 ∷ 5 ∷ 6 ∷ 10 ∷ 10 ∷ 9 ∷ 12 ∷ [])

pub repaired_P : repaired P typed ≡ index (7 ∷ 9 ∷ []) (0 ∷ 2 ∷ []) (5 ∷ 10 ∷ 9 ∷ [])
unfolding joined search.any search.lowest
repaired_P = refl

pub reported_P : report_of P typed ≡ 7 ∷ 2 ∷ 0 ∷ 7 ∷ 3 ∷ 0 ∷ 7 ∷ 5 ∷ 0 ∷ 9 ∷ 6 ∷ 0 ∷ []
unfolding joined reported search.any search.lowest
reported_P = refl
