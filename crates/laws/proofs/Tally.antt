-- How many numbers pass a test: `tally` of specs/Search.antt.
use Prim.Native.Nat.{ℕ, zero, suc, ◌+◌, ◌≤◌}
use mathlib.Core.Path.{◌≡◌}
use mathlib.Core.Bool.{Bool, true, false}
use native.Mathlib.Omega.{arith}
use native.Mathlib.Numerals.{add-one}
use Rattle.laws.specs.Search.{tally}
use Rattle.laws.proofs.Cases.{either}
use Rattle.laws.proofs.Search.{None}

module _ (f : ℕ → Bool) where
  pub tally_yes : (n : ℕ) → f (n + 1) ≡ true → tally (n + 1) f ≡ suc (tally n f)
  unfolding tally
  tally_yes n e = rw (add-one n) (let e' : f (suc n) ≡ true = rw add-one at e in rw e')

  pub tally_more : (n : ℕ) → tally (n + 1) f ≤ suc (tally n f)
  unfolding tally
  tally_more n = rw (add-one n) (either (f (suc n)) (λ e. rw e (omega arith)) (λ e. rw e (omega arith)))

  pub tally_few : (a j : ℕ) → tally (a + j) f ≤ tally a f + j
  tally_few a zero = let e : a + 0 ≡ a = omega arith in rw e (omega arith)
  tally_few a (suc j) = let e : a + suc j ≡ a + j + 1 = omega arith in rw e (omega (arith, tally_more (a + j), tally_few a j))

  -- none after a passes
  pub tally_none : (a j : ℕ) → None f a (a + j) → tally (a + j) f ≡ tally a f
  unfolding tally
  tally_none a zero h = let e : a + 0 ≡ a = omega arith in rw e
  tally_none a (suc j) h =
      let e : a + suc j ≡ suc (a + j) = omega arith in
      let n : f (suc (a + j)) ≡ false = h (suc (a + j)) (omega arith) (omega arith) in
      rw (e, n) (tally_none a j (λ d l u. h d l (omega arith)))
