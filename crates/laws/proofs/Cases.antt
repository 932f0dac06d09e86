-- By cases: which arm of a branch control came by, the order of two numbers, a test with its value in hand.
use Prim.Native.Nat.{ℕ, ◌≤◌, ◌<◌}
use mathlib.Core.Path.{◌≡◌, refl}
use mathlib.Core.Logic.{◌⊎◌, ⊎_elim}
use mathlib.Core.Bool.{Bool, true, false, cond}
use native.Mathlib.Omega.{arith}
use native.Mathlib.Decide.{dec_lt}

-- what is known comes first, so that an answer in a case can use it
pub cases {ℓ} : {A B : Type 0} {X : Type ℓ} → A ⊎ B → (A → X) → (B → X) → X
cases s f g = ⊎_elim f g s

pub by_order {ℓ} : {X : Type ℓ} (a b : ℕ) → (a < b → X) → (b ≤ a → X) → X
by_order a b f g = elim (dec_lt a b) [ yes p ↦ f p | no p ↦ g (omega arith) ]

-- for any goal
pub either {ℓ} : {G : Type ℓ} (t : Bool) → (t ≡ true → G) → (t ≡ false → G) → G
either true f g = f refl
either false f g = g refl

-- for a goal F of a term that goes by the test: an `elim`, two by the one test, a `cond`
pub split {ℓ κ} : {A : Type ℓ} (F : A → Type κ) (t : Bool) {x y : A} → (t ≡ true → F x) → (t ≡ false → F y) → F (elim t [ true ↦ x | false ↦ y ])
split F true f g = f refl
split F false f g = g refl

pub split₂ {ℓ κ ν} : {A : Type ℓ} {B : Type κ} (F : A → B → Type ν) (t : Bool) {x y : A} {u v : B} → (t ≡ true → F x u) → (t ≡ false → F y v) →
    F (elim t [ true ↦ x | false ↦ y ]) (elim t [ true ↦ u | false ↦ v ])
split₂ F true f g = f refl
split₂ F false f g = g refl

pub split_cond {ℓ κ} : {A : Type ℓ} (F : A → Type κ) (t : Bool) {x y : A} → (t ≡ true → F x) → (t ≡ false → F y) → F (cond t x y)
split_cond F true f g = f refl
split_cond F false f g = g refl
