-- Searches: `any` and `lowest` of specs/Search.antt, and what a loop that searches has shown.
use Prim.Native.Nat.{ℕ, zero, suc, ◌+◌, ◌-◌, ◌≤◌, ◌<◌}
use mathlib.Core.Path.{◌≡◌, refl, sym, ◌∙◌}
use mathlib.Core.Bool.{Bool, true, false, ◌||◌, true≢false}
use native.Mathlib.Omega.{arith}
use Rattle.laws.specs.Search.{any, lowest}
use Rattle.laws.proofs.Tests.{or_yes, or_no, refuted}
use Rattle.laws.proofs.Cases.{by_order, either}

-- no number after a, up to b, passes the test: what a search has shown so far
abbrev pub None : (ℕ → Bool) → ℕ → ℕ → Type 0
None f a b = (d : ℕ) → a < d → d ≤ b → f d ≡ false

-- r is the lowest number of 1 to n that passes the test
pub record Lowest (f : ℕ → Bool) (n r : ℕ) : Type 0 where
  pub first : 1 ≤ r
  pub last : r ≤ n
  pub passes : f r ≡ true
  pub least : (d : ℕ) → 1 ≤ d → d < r → f d ≡ false

module _ (f : ℕ → Bool) where
  pub none_yet : (a : ℕ) → None f a a
  none_yet a d l u = absurd (omega arith)

  -- a search that goes up, and one that goes down
  pub none_up : {a b : ℕ} → None f a b → f (b + 1) ≡ false → None f a (b + 1)
  none_up {a} {b} h p d l u = by_order d (b + 1) (λ v. h d l (omega arith)) (λ v. let e : d ≡ b + 1 = omega arith in rw e p)

  pub none_down : {a b : ℕ} → None f a b → f a ≡ false → None f (a - 1) b
  none_down {a} {b} h p d l u = by_order a d (λ v. h d v u) (λ v. let e : d ≡ a = omega arith in rw e p)

  -- the search has found d, or has passed every number
  pub any_found : {n : ℕ} (d : ℕ) → (1 ≤ d) × (d ≤ n) → f d ≡ true → true ≡ any n f
  unfolding any
  any_found {n = zero} d l p = absurd (omega arith)
  any_found {n = suc n} d l p =
      by_order d (suc n) (λ v. rw (← any_found {n = n} d (omega arith) p))
      (λ v. let e : suc n ≡ d = omega arith in sym ((or_yes (any n f) _).1 (λ h. rw e p)))

  pub any_none : {n : ℕ} → None f 0 n → false ≡ any n f
  unfolding any
  any_none {n = zero} h = refl
  any_none {n = suc n} h = rw (← any_none {n = n} (λ d l u. h d l (omega arith))) (sym (h (suc n) (omega arith) (omega arith)))

  -- what a search that found nothing has shown
  pub none_any : {n : ℕ} → any n f ≡ false → None f 0 n
  none_any p d l u = refuted (f d) (λ q. true≢false (any_found d (l, u) q ∙ p))

  pub lowest_is : {n r : ℕ} → (1 ≤ r) × (r ≤ n) → f r ≡ true → None f 0 (r - 1) → lowest n f ≡ r
  unfolding lowest
  lowest_is {n = zero} l p h = absurd (omega arith)
  lowest_is {n = suc n} {r} l p h =
      by_order r (suc n) (λ v. rw (← any_found {n = n} r (omega arith) p) (lowest_is {n = n} (omega arith) p h))
      (λ v. rw (← any_none {n = n} (λ d l u. h d l (omega arith))) (omega arith))

  -- where some number passes, `lowest` is the lowest that does
  pub lowest_of : (n : ℕ) → any n f ≡ true → Lowest f n (lowest n f)
  unfolding any lowest
  lowest_of zero p = absurd (true≢false (sym p))
  lowest_of (suc n) p = either (any n f)
      (λ e. let L = lowest_of n e in rw e (record { first = L.first; last = omega arith; passes = L.passes; least = L.least }))
      (λ e. rw e (record {
        first = omega arith;
        last = omega arith;
        passes = (or_yes (any n f) _).0 p e;
        least = λ d l u. none_any {n = n} e d (omega arith) (omega arith);
      }))

-- ---- two tests as one

regroup : (a b c d : Bool) → ((a || b) || (c || d)) ≡ ((a || c) || (b || d))
regroup true b c d = refl
regroup false true true d = refl
regroup false true false d = refl
regroup false false c d = refl

pub any_or : (f g : ℕ → Bool) (n : ℕ) → any n (λ k. f k || g k) ≡ (any n f || any n g)
unfolding any
any_or f g zero = refl
any_or f g (suc n) = rw (any_or f g n) (regroup (any n f) (any n g) (f (suc n)) (g (suc n)))

-- a search for the first test, and, where it finds nothing, one for the second
module _ (f g : ℕ → Bool) (n : ℕ) {b : Bool} (e : b ≡ any n f) where
  pub first_found : b ≡ true → true ≡ any n (λ k. f k || g k)
  first_found p = rw (any_or f g n, sym e ∙ p)

  pub second_tells : {c : Bool} → c ≡ any n g → b ≡ false → c ≡ any n (λ k. f k || g k)
  second_tells q p = q ∙ rw (any_or f g n, sym e ∙ p)

-- what a search for either has shown
module _ (f g : ℕ → Bool) (n : ℕ) {b : Bool} (e : b ≡ any n (λ k. f k || g k)) where
  pub neither : b ≡ false → (any n f ≡ false) × (any n g ≡ false)
  neither p = (or_no (any n f) (any n g)).0 (sym (any_or f g n) ∙ sym e ∙ p)

  pub second_found : b ≡ true → any n f ≡ false → any n g ≡ true
  second_found p = (or_yes (any n f) (any n g)).0 (sym (any_or f g n) ∙ sym e ∙ p)
