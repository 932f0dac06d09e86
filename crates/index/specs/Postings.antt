-- Postings, what each carries, and what a sound list of them is.
use Rattle.std.specs.Prelude.{ℕ, ◌+◌, ◌-◌, ◌*◌, ◌/◌, ◌%◌, Bool, cond, ◌&&◌, ◌||◌, List, leb, ltb, eqb, length}
use Rattle.laws.specs.Search.{any}
use Rattle.laws.specs.Tables.{entry}

-- "A posting is 2 times the device, plus 1 if it is for the whole branch": such a posting is shared, another private (document 000)
abbrev pub posting : ℕ → Bool → ℕ
posting d whole = cond whole (2 * d + 1) (2 * d)

abbrev pub device : ℕ → ℕ
device q = q / 2

abbrev pub shared : ℕ → Bool
shared q = eqb (q % 2) 1

-- the last device that posting q carries its term to
abbrev pub reach : List ℕ → ℕ → ℕ
reach last q = cond (shared q) (entry last (device q)) (device q)

-- "A posting at d carries its mark to d alone, or to d..last(d) if it is a branch posting."
abbrev pub carries : List ℕ → ℕ → ℕ → Bool
carries last q d = leb (device q) d && leb d (reach last q)

-- "a posting's device 0, above N", "a mark out of range": the key of entry k is outside 1 to most
abbrev pub outside : ℕ → (ℕ → ℕ) → List ℕ → ℕ → Bool
outside most key l k = eqb (key (entry l k)) 0 || ltb most (key (entry l k))

-- "or not rising": the key of entry k is not above the key of the entry before it
abbrev pub not_rising : (ℕ → ℕ) → List ℕ → ℕ → Bool
not_rising key l k = ltb 1 k && leb (key (entry l k)) (key (entry l (k - 1)))

abbrev pub misplaced : ℕ → (ℕ → ℕ) → List ℕ → ℕ → Bool
misplaced most key l k = outside most key l k || not_rising key l k

-- whether device e lies in the branch of a shared posting that the list has at a lower device
abbrev pub shadowed : List ℕ → List ℕ → ℕ → Bool
shadowed last l e =
    any (length l) (λ i. shared (entry l i) && ltb (device (entry l i)) e && leb e (entry last (device (entry l i))))

-- "A posting at e is redundant if a branch posting at d < e in the same list has e ≤ last(d)."
abbrev pub redundant : List ℕ → List ℕ → ℕ → Bool
redundant last l k = shadowed last l (device (entry l k))
