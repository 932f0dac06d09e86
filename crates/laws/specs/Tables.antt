-- Tables with one entry for each number from 1 on.
use Rattle.std.specs.Prelude.{ℕ, ◌-◌, List, get_or}

-- the entry of number d: device d of a device table, term d of the terms, posting d of a list
abbrev pub entry : List ℕ → ℕ → ℕ
entry t d = get_or t (d - 1) 0
