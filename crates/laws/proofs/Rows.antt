-- Tables of refusals, one after another.
use Prim.Native.Nat.{ℕ, zero, suc, ◌≤◌}
use mathlib.Core.Path.{◌≡◌, refl, sym, ◌∙◌}
use mathlib.Core.Bool.{Bool, true, false, ◌||◌}
use native.Mathlib.Omega.{arith}
use Rattle.laws.specs.Rows.{pick, otherwise}

-- the first table refuses
pub otherwise_first : (n rest : ℕ) → (n ≡ 0 → ⊥) → otherwise n rest ≡ n
otherwise_first zero rest h = absurd (h refl)
otherwise_first (suc n) rest h = refl

-- the first table does not
pub otherwise_next : (n rest : ℕ) → n ≡ 0 → otherwise n rest ≡ rest
otherwise_next n rest h = rw h

-- so the refusal of the first, found as r, is that of both, or else what the second comes to is
module _ (a rest : ℕ) {r : ℕ} (e : r ≡ a) where
  pub refused_first : (r ≡ 0 → ⊥) → r ≡ otherwise a rest
  refused_first h = e ∙ sym (otherwise_first a rest (λ z. h (e ∙ z)))

  pub refused_next : {n : ℕ} → r ≡ 0 → n ≡ rest → n ≡ otherwise a rest
  refused_next z f = f ∙ sym (otherwise_next a rest (sym e ∙ z))

-- neither table refuses
pub otherwise_none : (n rest : ℕ) → otherwise n rest ≡ 0 → (n ≡ 0) × (rest ≡ 0)
otherwise_none zero rest h = (refl, h)
otherwise_none (suc n) rest h = absurd (omega arith)

-- after the first comes no table
pub otherwise_last : (n : ℕ) → otherwise n 0 ≡ n
otherwise_last zero = refl
otherwise_last (suc n) = refl

-- one row between two tables
pub otherwise_pick : (n : ℕ) (b : Bool) (m rest : ℕ) → otherwise (otherwise n (pick b (suc m) 0)) rest ≡ otherwise n (pick b (suc m) rest)
otherwise_pick zero true m rest = refl
otherwise_pick zero false m rest = refl
otherwise_pick (suc n) b m rest = refl

-- no row of a table applies: not its first, nor one of the rest
pub pick_past : (b : Bool) (n rest : ℕ) → 1 ≤ n → pick b n rest ≡ 0 → (b ≡ false) × (rest ≡ 0)
pick_past true n rest u h = absurd (omega arith)
pick_past false n rest u h = (refl, h)

pub pick_none : (b : Bool) (n rest : ℕ) → pick b (suc n) rest ≡ 0 → (b ≡ false) × (rest ≡ 0)
pick_none b n rest = pick_past b (suc n) rest (omega arith)

-- a number that no row of a table has is not what it comes to
pub pick_other : (b : Bool) {n rest x : ℕ} → (n ≡ x → ⊥) → (rest ≡ x → ⊥) → pick b n rest ≡ x → ⊥
pick_other true f g e = f e
pick_other false f g e = g e

-- a row of two tests
pub pick_or : (a b : Bool) (n m : ℕ) → pick (a || b) n m ≡ pick a n (pick b n m)
pick_or true b n m = refl
pick_or false b n m = refl
