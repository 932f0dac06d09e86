-- What a list of postings carries, written out device by device.
use Rattle.std.specs.Prelude.{ℕ, zero, suc, ◌+◌, ◌-◌, Bool, false, ◌||◌, List, [], ◌∷◌, ◌++◌, eqb}
use Rattle.index.specs.Postings.{device, reach}

-- n numbers from a on
unfoldable pub count_up : ℕ → ℕ → List ℕ
count_up a zero = []
count_up a (suc n) = a ∷ count_up (a + 1) n

-- document 000's model: a list with each posting written out for every device that it carries to
unfoldable pub unshared : List ℕ → List ℕ → List ℕ
unshared last [] = []
unshared last (q ∷ qs) = count_up (device q) (reach last q + 1 - device q) ++ unshared last qs

unfoldable pub member : ℕ → List ℕ → Bool
member d [] = false
member d (e ∷ es) = eqb d e || member d es
