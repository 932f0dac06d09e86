-- The plant: a forest of devices, numbered 1 to N depth first, and the refusals of its tables.
use Rattle.std.specs.Prelude.{ℕ, Bool, ◌&&◌, ◌||◌, not, List, leb, ltb, eqb, length}
use Rattle.laws.specs.Limits.{most_devices}
use Rattle.laws.specs.Rows.{pick}
use Rattle.laws.specs.Search.{any, lowest}
use Rattle.laws.specs.Tables.{entry}

-- one entry per device in each table: the last device of its branch, the root of its tree, its level code
pub record Plant : Type 0 where
  pub last : List ℕ
  pub root : List ℕ
  pub level : List ℕ

abbrev pub plant : List ℕ → List ℕ → List ℕ → Plant
plant last root level = record { last = last; root = root; level = level }

-- N, the number of devices
abbrev pub size : Plant → ℕ
size P = length P.last

-- "The devices fed by d are d + 1 to last(d)": whether the branch of d, which is d and the devices it feeds, holds e
abbrev pub holds : List ℕ → ℕ → ℕ → Bool
holds last d e = leb d e && leb e (entry last d)

-- "The root of d is the lowest device whose branch holds d."
abbrev pub root_of : List ℕ → ℕ → ℕ
root_of last d = lowest d (λ e. holds last e d)

-- 1: "lengths differ, or N over 65,535"
abbrev pub uneven : Plant → Bool
uneven P =
    not (eqb (length P.root) (size P))
    || not (eqb (length P.level) (size P))
    || ltb most_devices (size P)

-- 2: "a last below its device or above N"
abbrev pub out_of_range : List ℕ → ℕ → Bool
out_of_range last d = ltb (entry last d) d || ltb (length last) (entry last d)

-- 3: "branches overlap, neither holding the other": e lies in the branch of d, and its own branch goes on past that
abbrev pub overlap : List ℕ → ℕ → ℕ → Bool
overlap last d e = ltb d e && leb e (entry last d) && ltb (entry last d) (entry last e)

abbrev pub overlaps : List ℕ → ℕ → Bool
overlaps last d = any (length last) (overlap last d)

-- 4: "a root that is wrong"
abbrev pub wrong_root : List ℕ → List ℕ → ℕ → Bool
wrong_root last root d = not (eqb (entry root d) (root_of last d))

-- document 01's rows for device tables: the lowest number that applies, or 0
unfoldable pub plant_refusal : Plant → ℕ
plant_refusal P =
    pick (uneven P) 1
    (pick (any (size P) (out_of_range P.last)) 2
    (pick (any (size P) (overlaps P.last)) 3
    (pick (any (size P) (wrong_root P.last P.root)) 4
    0)))
