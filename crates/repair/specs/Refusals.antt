-- The refusals of a repair.
use Rattle.std.specs.Prelude.{ℕ, ◌*◌, ◌-◌, Bool, ◌&&◌, List, ltb, length}
use Rattle.laws.specs.Rows.{pick, otherwise}
use Rattle.laws.specs.Search.{any}
use Rattle.laws.specs.Tables.{entry}
use Rattle.plant.specs.Plant.{Plant, plant_refusal}
use Rattle.index.specs.Postings.{device, outside}
use Rattle.index.specs.Index.{Index, count, list, outline_rows}
use Rattle.repair.specs.Repair.{all_dropped}

-- 8 without its order test: "a posting's device 0, above N"
abbrev pub any_outside : List ℕ → Index → Bool
any_outside last I = any (length I.postings) (outside (length last) device I.postings)

-- 41: "where a device falls": the device of posting k is below that of the posting before it; in the k-th list
abbrev pub falls : List ℕ → ℕ → Bool
falls l k = ltb 1 k && ltb (device (entry l k)) (device (entry l (k - 1)))

abbrev pub falls_in : Index → ℕ → Bool
falls_in I k = any (length (list I k)) (falls (list I k))

-- 44: "for a report too short": a dropped posting takes three entries
abbrev pub too_short : Plant → Index → ℕ → Bool
too_short P I room = ltb room (3 * length (all_dropped P I))

-- the rows for device tables, those of the store up to 7, then 8, 41 and 44: the first that applies to a report of so many entries, or 0
unfoldable pub repair_refusal : Plant → Index → ℕ → ℕ
repair_refusal P I room =
    otherwise (plant_refusal P)
    (outline_rows 5 I
    (pick (any_outside P.last I) 8
    (pick (any (count I) (falls_in I)) 41
    (pick (too_short P I room) 44
    0))))
