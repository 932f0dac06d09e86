-- What a refusal leaves.
use Prim.Native.Nat.{ℕ, zero, suc}
use mathlib.Core.Path.{◌≡◌, refl}
use mathlib.Core.List.{List}
use Rattle.laws.specs.Lent.{kept_or}

pub untouched : (n : ℕ) (made before : List ℕ) → (n ≡ 0 → ⊥) → before ≡ kept_or n made before
untouched zero made before h = absurd (h refl)
untouched (suc n) made before h = refl
