-- True levels and a query: what it makes of other codes, the widest range, and refusal 12 in the papers' words.
use Prim.Native.Nat.{ℕ}
use mathlib.Core.Path.{◌≡◌, refl, sym}
use mathlib.Core.Bool.{false, ◌||◌, and_self}
use native.Mathlib.Omega.{arith}
use lib.Dec.{ltb, eqb}
use Rattle.laws.proofs.Cases.{by_order}
use Rattle.laws.proofs.Tests.{tests, agree}
use Rattle.plant.specs.Levels.{lowest_level, highest_level, true_level}
use Rattle.query.specs.Query.{wants, any_code}
use Rattle.query.specs.Refusals.{no_range}
use Rattle.query.specs.declared.Levels.{Levels}

-- "0 is treated as 255 is": a code that is no true level is wanted where any code is
pub untrue : (l : Levels) (code : ℕ) → true_level code ≡ false → wants l code ≡ any_code l
untrue Levels.Any code h = refl
untrue Levels.TrueOnly code h = h
untrue (Levels.Range low high) code h = simp tests (λ w. simp tests at h)

-- true levels only are those of the widest range
pub widest : (code : ℕ) → wants Levels.TrueOnly code ≡ wants (Levels.Range lowest_level highest_level) code
widest code = sym (and_self (true_level code))

-- 12: "a window with low above high, or high above 254", and "a low of 0"
pub row_12 : (low high : ℕ) → no_range (Levels.Range low high) ≡ (ltb high low || ltb 254 high || eqb low 0)
row_12 low high =
    sym (agree _ _ (
      (λ h. simp tests (λ w l. by_order 254 high (λ u. u) (λ u. let z = (simp tests at h) (omega arith, omega arith) in omega arith))),
      λ h. let z = simp tests at h in simp tests (omega arith),
    ))
