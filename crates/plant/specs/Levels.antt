-- Level codes: which of them are true levels.
use Rattle.std.specs.Prelude.{ℕ, Bool, ◌&&◌, leb}

-- document 02: "True levels are 1 to 254 from now on; 0 is treated as 255 is."
abbrev pub lowest_level : ℕ
lowest_level = 1

abbrev pub highest_level : ℕ
highest_level = 254

abbrev pub true_level : ℕ → Bool
true_level code = leb lowest_level code && leb code highest_level
