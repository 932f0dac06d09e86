-- Plant P of document 01, whose branches were noted device by device: tightening gives P's own index. docs/TIGHTENING.md shows it.
use mathlib.Core.Path.{◌≡◌, refl}
use mathlib.Core.List.{[], ◌∷◌}
use Rattle.laws.specs.Joined.{joined}
use Rattle.laws.specs.Search.{any}
use Rattle.plant.specs.Plant.{Plant, plant}
use Rattle.index.specs.Unshared.{count_up, unshared, member}
use Rattle.index.specs.Index.{Index, index}
use Rattle.tighten.specs.Tight.{whole, inside, tight}
use Rattle.tighten.specs.Tightened.{carriers, tightened}

abbrev P : Plant
P = plant (6 ∷ 3 ∷ 3 ∷ 6 ∷ 5 ∷ 6 ∷ []) (1 ∷ 1 ∷ 1 ∷ 1 ∷ 1 ∷ 1 ∷ []) (120 ∷ 118 ∷ 255 ∷ 121 ∷ 90 ∷ 119 ∷ [])

-- term 7: own 2, own 3, own 5; term 9: own 4, own 5, own 6
abbrev noted : Index
noted = index (7 ∷ 9 ∷ []) (0 ∷ 3 ∷ []) (4 ∷ 6 ∷ 10 ∷ 8 ∷ 10 ∷ 12 ∷ [])

pub tightened_P : tightened P noted ≡ index (7 ∷ 9 ∷ []) (0 ∷ 2 ∷ []) (5 ∷ 10 ∷ 9 ∷ [])
unfolding joined any whole inside count_up unshared member
tightened_P = refl

-- own 1, all 2, own 4, own 5, own 6: all 1
pub whole_plant : tight P.last (carriers P.last (2 ∷ 5 ∷ 8 ∷ 10 ∷ 12 ∷ [])) ≡ 3 ∷ []
unfolding joined any whole inside count_up unshared member
whole_plant = refl

-- own 1, all 2, own 4, all 5, which is a leaf: device 6, the last, lacks the term
pub last_lacks : tight P.last (carriers P.last (2 ∷ 5 ∷ 8 ∷ 11 ∷ [])) ≡ 2 ∷ 5 ∷ 8 ∷ 10 ∷ []
unfolding joined any whole inside count_up unshared member
last_lacks = refl
