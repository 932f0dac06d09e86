-- Rows 36 and 40, after those of the tables.
use Rattle.std.specs.Prelude.{ℕ, Bool, ◌||◌, List, ltb, length}
use Rattle.laws.specs.Rows.{pick, otherwise}
use Rattle.laws.specs.Search.{any, tally}
use Rattle.plant.specs.Plant.{Plant, holds}
use Rattle.index.specs.Index.{Index, tables_refusal}
use Rattle.plant_text.specs.PlantText.{most_open, longest_text}
use Rattle.written_text.specs.Text.{text_of}

-- the tiers of device d: how many branches hold it, its own among them
abbrev pub tiers : List ℕ → ℕ → ℕ
tiers last d = tally d (λ c. holds last c d)

-- 36: "more than 32 tiers"
abbrev pub too_many_tiers : List ℕ → Bool
too_many_tiers last = any (length last) (λ d. ltb most_open (tiers last d))

-- 40: "a text buffer that is too short or a text above 65,536 bytes": a buffer of so many bytes, and a text of n
abbrev pub too_long : ℕ → ℕ → Bool
too_long room n = ltb room n || ltb longest_text n

-- "36 for more than 32 tiers, then 40 .., both after 9": the first row that applies, for a buffer of so many bytes, or 0
unfoldable pub write_refusal : Plant → Index → ℕ → ℕ
write_refusal P I room =
    otherwise (tables_refusal P I)
    (pick (too_many_tiers P.last) 36
    (pick (too_long room (length (text_of P I))) 40
    0))
