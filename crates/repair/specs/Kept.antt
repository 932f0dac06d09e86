-- What a repair keeps of a list whose devices do not fall, and what it drops.
use Rattle.std.specs.Prelude.{ℕ, Bool, cond, ◌&&◌, not, List, eqb, length}
use Rattle.laws.specs.Joined.{picked}
use Rattle.laws.specs.Search.{any, lowest}
use Rattle.laws.specs.Tables.{entry}
use Rattle.index.specs.Postings.{device, shared, redundant}

-- whether posting k is one of device d, and whether it is a shared one of it
abbrev pub is_at : List ℕ → ℕ → ℕ → Bool
is_at l d k = eqb (device (entry l k)) d

abbrev pub shared_at : List ℕ → ℕ → ℕ → Bool
shared_at l d k = is_at l d k && shared (entry l k)

-- "keeps one posting for each device (the first branch one, else the first)": the number of the one for device d
abbrev pub choice : List ℕ → ℕ → ℕ
choice l d = cond (any (length l) (shared_at l d)) (lowest (length l) (shared_at l d)) (lowest (length l) (is_at l d))

-- "drops what is redundant": posting k stays if it is the one for its device, and not redundant
abbrev pub keeps : List ℕ → List ℕ → ℕ → Bool
keeps last l k = eqb k (choice l (device (entry l k))) && not (redundant last l k)

abbrev pub drops : List ℕ → List ℕ → ℕ → Bool
drops last l k = not (keeps last l k)

-- what stays of a list, and what does not, each in the order in which it stood
abbrev pub kept : List ℕ → List ℕ → List ℕ
kept last l = picked (keeps last l) l (length l)

abbrev pub dropped : List ℕ → List ℕ → List ℕ
dropped last l = picked (drops last l) l (length l)
