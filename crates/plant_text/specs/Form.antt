-- The lines of plant text: "with one form or one closing bracket on each".
use Rattle.std.specs.Prelude.{ℕ, Bool, false, cond, ◌||◌, List, [], ◌∷◌, eqb}
use Rattle.text.specs.Forms.{Row, row}

-- the kinds of line
abbrev pub plant_line : ℕ
plant_line = 2

abbrev pub device_line : ℕ
device_line = 3

abbrev pub term_line : ℕ
term_line = 4

-- a posting for one device, and one for its whole branch
abbrev pub own_line : ℕ
own_line = 5

abbrev pub all_line : ℕ
all_line = 6

abbrev pub close_line : ℕ
close_line = 7

-- how each is written, with `#` for a number
abbrev pub rows : List Row
rows =
    row plant_line "(plant"
    ∷ row device_line "(dev #"
    ∷ row term_line "(mark #"
    ∷ row own_line "(own #)"
    ∷ row all_line "(all #)"
    ∷ row close_line ")"
    ∷ []

abbrev pub is_posting : ℕ → Bool
is_posting kind = eqb kind own_line || eqb kind all_line

-- a test of a device line, of a term line or of a posting line; any other line fails it
abbrev pub numbered : Bool → Bool → Bool → ℕ → Bool
numbered device term posting kind =
    cond (eqb kind device_line) device
    (cond (eqb kind term_line) term
    (cond (is_posting kind) posting
    false))
