-- Laws of tests of numbers. `simp tests (omega flags)` proves an equation of a Boolean formula on numbers, or of a `pick`, from facts on
-- numbers; `simp tests at h` turns such an equation into facts; `omega flags` is `omega arith` that reads and proves single tests too.
use Prim.Native.Nat.{ℕ, ◌≤◌, ◌<◌}
use mathlib.Core.Path.{◌≡◌, refl, sym}
use mathlib.Core.Logic.{◌↔◌}
use mathlib.Core.Bool.{Bool, true, false, ◌||◌, ◌&&◌, not, true≢false}
use native.Mathlib.Omega.{arith}
use borrow.Author.Tests.{ltb-true, ltb-false, leb-true, leb-false, eqb-true, eqb-false, lt-ltb, le-ltb, le-leb, lt-leb, eq-eqb, ne_eqb, not-true, not-false}
use lib.Dec.{leb, eqb}
use Rattle.laws.specs.Rows.{pick}

-- what a test's value says
pub leb_yes : (a b : ℕ) → (leb a b ≡ true) ↔ (a ≤ b)
leb_yes a b = (leb-true a b, le-leb a b)

pub leb_no : (a b : ℕ) → (leb a b ≡ false) ↔ (b < a)
leb_no a b = (leb-false a b, lt-leb a b)

pub eqb_yes : (a b : ℕ) → (eqb a b ≡ true) ↔ (a ≡ b)
eqb_yes a b = (eqb-true a b, eq-eqb a b)

pub eqb_no : (a b : ℕ) → (eqb a b ≡ false) ↔ (a ≡ b → ⊥)
eqb_no a b = (eqb-false a b, ne_eqb a b)

pub not_yes : (a : Bool) → (not a ≡ true) ↔ (a ≡ false)
not_yes true = (sym, sym)
not_yes false = ((λ p. refl), λ p. refl)

pub not_no : (a : Bool) → (not a ≡ false) ↔ (a ≡ true)
not_no true = ((λ p. refl), λ p. refl)
not_no false = (sym, sym)

pub and_yes : (a b : Bool) → (a && b ≡ true) ↔ ((a ≡ true) × (b ≡ true))
and_yes true b = ((λ p. (refl, p)), λ p. p.1)
and_yes false b = ((λ p. absurd (true≢false (sym p))), λ p. p.0)

pub and_no : (a b : Bool) → (a && b ≡ false) ↔ (a ≡ true → b ≡ false)
and_no true b = ((λ p q. p), λ p. p refl)
and_no false b = ((λ p q. absurd (true≢false (sym q))), λ p. refl)

pub or_yes : (a b : Bool) → (a || b ≡ true) ↔ (a ≡ false → b ≡ true)
or_yes true b = ((λ p q. absurd (true≢false q)), λ p. refl)
or_yes false b = ((λ p q. p), λ p. p refl)

pub or_no : (a b : Bool) → (a || b ≡ false) ↔ ((a ≡ false) × (b ≡ false))
or_no true b = ((λ p. absurd (true≢false p)), λ p. p.0)
or_no false b = ((λ p. (refl, p)), λ p. p.1)

pub pick_is : (x : ℕ) (b : Bool) (n m : ℕ) → (x ≡ pick b n m) ↔ ((b ≡ true → x ≡ n) × (b ≡ false → x ≡ m))
pick_is x true n m = ((λ p. ((λ q. p), λ q. absurd (true≢false q))), λ p. p.0 refl)
pick_is x false n m = ((λ p. ((λ q. absurd (true≢false (sym q))), λ q. p)), λ p. p.1 refl)

pub ruleset tests = (leb_yes, leb_no, eqb_yes, eqb_no, not_yes, not_no, and_yes, and_no, or_yes, or_no, pick_is)

-- a test that the code makes with `!=`
pub neb_true : (a b : ℕ) → not (eqb a b) ≡ true → a ≡ b → ⊥
neb_true a b p = eqb-false a b (not-true _ p)

pub neb_false : (a b : ℕ) → not (eqb a b) ≡ false → a ≡ b
neb_false a b p = eqb-true a b (not-false _ p)

pub ruleset flags = (arith, ltb-true, ltb-false, leb-true, leb-false, eqb-true, eqb-false, neb_true, neb_false, lt-ltb, le-ltb, le-leb, lt-leb, eq-eqb, ne_eqb)

-- two tests that agree, as the value that a function returns and the formula of its contract
pub agree : (a b : Bool) → (a ≡ true → b ≡ true) × (a ≡ false → b ≡ false) → a ≡ b
agree true b p = sym (p.0 refl)
agree false b p = sym (p.1 refl)

-- a test that is not true is false
pub refuted : (b : Bool) → (b ≡ true → ⊥) → b ≡ false
refuted true h = absurd (h refl)
refuted false h = refl
