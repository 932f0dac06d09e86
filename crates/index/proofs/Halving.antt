-- A search by halves: how its bounds close in, and what it says of a list that is sorted by its key.
use Prim.Native.Nat.{ℕ, ◌+◌, ◌-◌, ◌≤◌, ◌<◌}
use native.Mathlib.Omega.{arith}
use mathlib.Core.List.{List}
use mathlib.Core.Path.{◌≡◌}
use lib.ListN.{get_or}
use Rattle.laws.proofs.Cases.{by_order}
use Rattle.index.specs.Around.{Around}

module _ {key : ℕ → ℕ} {l : List ℕ} {f e d low high : ℕ} (a : Around key l f e d low high) where
  -- the key of the entry in front of the part is below d too
  pub wider : {g : ℕ} → f ≡ g + 1 → key (get_or l g 0) < d → Around key l g e d low high
  wider {g} q h = record {
    from = omega arith;
    ordered = a.ordered;
    to = a.to;
    before = λ _. by_order f low a.before (λ k. let u : low - 1 ≡ g = omega arith in rw u h);
    after = a.after;
  }

  -- a second search in the part that the first has left
  pub closer : {r : ℕ} → Around key l low high d r r → Around key l f e d r r
  closer {r} b = record {
    from = omega arith;
    ordered = omega arith;
    to = omega arith;
    before = λ fr. by_order low r b.before (λ h. let q : low ≡ r = omega arith in rw q at a.before (omega arith));
    after = λ re. by_order r high b.after (λ h. let q : high ≡ r = omega arith in rw q at a.after (omega arith));
  }

-- of a sorted list, the entry before r says it of all before it
pub all_before : {key : ℕ → ℕ} {l : List ℕ} {f e d r : ℕ}
    → ((j k : ℕ) → f ≤ j → j ≤ k → k < e → key (get_or l j 0) ≤ key (get_or l k 0))
    → Around key l f e d r r → (k : ℕ) → f ≤ k → k < r → key (get_or l k 0) < d
all_before {r = r} s a k fk kr = let h = a.before (omega arith) in omega (arith, s k (r - 1) fk (omega arith) (omega arith))
