-- How far the postings of a list reach.
use Prim.Native.Nat.{ℕ, zero, suc, ◌+◌, ◌-◌, ◌≤◌, ◌<◌, max}
use mathlib.Core.Path.{◌≡◌}
use mathlib.Core.List.{List, [], ◌∷◌, ◌++◌}
use native.Mathlib.Omega.{arith}
use lib.ListN.{length, get_or}
use Rattle.laws.specs.Tables.{entry}
use Rattle.laws.proofs.Cases.{by_order}
use Rattle.index.specs.Postings.{reach}
use Rattle.repair.specs.inner.Lists.{furthest}

module _ (last : List ℕ) where
  pub furthest_more : (l : List ℕ) (q : ℕ) → furthest last (l ++ (q ∷ [])) ≡ max (furthest last l) (reach last q)
  unfolding furthest
  furthest_more [] q = omega arith
  furthest_more (x ∷ xs) q = let h = furthest_more xs q in omega arith

  covers_at : (l : List ℕ) (i : ℕ) → i < length l → reach last (get_or l i 0) ≤ furthest last l
  unfolding furthest
  covers_at [] i u = absurd (omega arith)
  covers_at (x ∷ xs) zero u = omega arith
  covers_at (x ∷ xs) (suc i) u = let h = covers_at xs i (omega arith) in omega arith

  -- none reaches further
  pub furthest_covers : (l : List ℕ) (k : ℕ) → 1 ≤ k → k ≤ length l → reach last (entry l k) ≤ furthest last l
  furthest_covers l k a b = covers_at l (k - 1) (omega arith)

  far_at : (l : List ℕ) → 1 ≤ furthest last l → (i : ℕ) × (i < length l) × (furthest last l ≡ reach last (get_or l i 0))
  unfolding furthest
  far_at [] u = absurd (omega arith)
  far_at (x ∷ xs) u =
      by_order (reach last x) (furthest last xs)
      (λ v. let h = far_at xs (omega arith) in (suc h.0, omega arith, omega (arith, h.2)))
      (λ v. (0, omega arith, omega arith))

  -- and one reaches as far
  pub furthest_at : (l : List ℕ) → 1 ≤ furthest last l → (k : ℕ) × (1 ≤ k) × (k ≤ length l) × (furthest last l ≡ reach last (entry l k))
  furthest_at l u =
      let h = far_at l u in
      let e : h.0 + 1 - 1 ≡ h.0 = omega arith in
      (h.0 + 1, omega arith, omega arith, rw e h.2)
