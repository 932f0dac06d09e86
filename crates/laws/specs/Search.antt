-- Conditions on the numbers 1 to n, and how many of them pass one: over all devices of a plant, all terms of an index, all postings of a list.
use Rattle.std.specs.Prelude.{ℕ, zero, suc, Bool, false, cond, ◌||◌}
use Rattle.laws.specs.Rows.{pick}

-- whether some number of 1 to n passes a test
unfoldable pub any : ℕ → (ℕ → Bool) → Bool
any zero f = false
any (suc n) f = any n f || f (suc n)

-- the lowest number of 1 to n that passes a test; n where none does
unfoldable pub lowest : ℕ → (ℕ → Bool) → ℕ
lowest zero f = zero
lowest (suc n) f = pick (any n f) (lowest n f) (suc n)

-- how many numbers of 1 to n pass a test
unfoldable pub tally : ℕ → (ℕ → Bool) → ℕ
tally zero f = zero
tally (suc n) f = cond (f (suc n)) (suc (tally n f)) (tally n f)
