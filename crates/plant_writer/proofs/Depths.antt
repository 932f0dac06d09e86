-- Whether a device of a stretch has more than 32 tiers, as a search goes over it.
use Prim.Native.Nat.{ℕ, ◌+◌, ◌-◌, ◌≤◌, ◌<◌}
use mathlib.Core.Path.{◌≡◌, sym}
use mathlib.Core.Bool.{Bool, true, false, true≢false}
use mathlib.Core.List.{List}
use native.Mathlib.Omega.{arith}
use lib.ListN.{get_or}
use Rattle.laws.proofs.Tests.{flags}
use Rattle.laws.proofs.Cases.{by_order}
use Rattle.laws.proofs.Tally.{tally_few}
use Rattle.plant.specs.Plant.{holds}
use Rattle.written_text.specs.inner.Nested.{Nested, Depth, deep, Tiered}
use Rattle.written_text.proofs.Stretches.{first_end, nested_first, nested_rest, own_tiers, depth_first, depth_rest}
use Rattle.plant_writer.specs.inner.Deep.{Deep}

-- a device has no more tiers than those around the stretch and the devices up to it
pub few_shallow : {last : List ℕ} {a e depth : ℕ} → Nested last a e → Depth last a e depth → depth + (e - a) ≤ 32 → Deep last a e false
few_shallow {last} {a} {e} {depth} n k h = record {
  found = λ x. absurd (true≢false (sym x));
  none = λ _ d p q.
      let t = k.known d p q in
      let f = tally_few (λ c. holds last c d) a (d - a) in
      let z : a + (d - a) ≡ d = omega arith in
      let g = rw z at f in
      omega flags;
}

-- the first device of the stretch is in the 33rd branch
pub full_deep : {last : List ℕ} {a e depth : ℕ} → Nested last a e → Depth last a e depth → 32 < depth + (e - a) → depth ≡ 32 → Deep last a e true
full_deep {a} n k h z = record {
  found = λ _. (a + 1, omega arith, omega arith, let t = own_tiers n k (omega arith) in omega flags);
  none = λ x. absurd (true≢false x);
}

-- ---- no device has more

module _ {last : List ℕ} {a e depth : ℕ} (n : Nested last a e) (t : Tiered last a e depth) (l : a < e) where
  pub tiered_first : Tiered last (a + 1) (get_or last a 0) (depth + 1)
  tiered_first =
      let b = first_end n l in
      let o = own_tiers n t.known l in
      let d = t.none (a + 1) (omega arith) (omega arith) in
      record { known = depth_first n t.known l; few = omega flags; none = λ c p q. t.none c (omega arith) (omega arith) }

  pub tiered_rest : Tiered last (get_or last a 0) e depth
  tiered_rest = let b = first_end n l in record { known = depth_rest n t.known l; few = t.few; none = λ c p q. t.none c (omega arith) q }

-- ---- whether one has more

-- a search that has gone from a up to i
pub record Shallow (last : List ℕ) (a e depth i : ℕ) : Type 0 where
  pub from : a ≤ i
  pub none : (d : ℕ) → a < d → d ≤ i → deep last d ≡ false
  pub nested : Nested last i e
  pub known : Depth last i e depth

pub shallow_start : {last : List ℕ} {a e depth : ℕ} → Nested last a e → Depth last a e depth → Shallow last a e depth a
shallow_start n k = record { from = omega arith; none = λ d p q. absurd (omega arith); nested = n; known = k }

module _ {last : List ℕ} {a e depth i : ℕ} (s : Shallow last a e depth i) where
  pub shallow_end : e ≤ i → Deep last a e false
  shallow_end h = record {
    found = λ x. absurd (true≢false (sym x));
    none = λ _ d p q. s.none d p (omega arith);
  }

  module _ (l : i < e) where
    pub first_nested : {end : ℕ} → end ≡ get_or last i 0 → Nested last (i + 1) end
    first_nested z = rw z (nested_first s.nested l)

    pub first_depth : {end : ℕ} → end ≡ get_or last i 0 → Depth last (i + 1) end (depth + 1)
    first_depth z = rw z (depth_first s.nested s.known l)

    pub end_bounds : {end : ℕ} → end ≡ get_or last i 0 → (i < end) × (end ≤ e)
    end_bounds z = rw z (first_end s.nested l)

    module _ {end : ℕ} (z : end ≡ get_or last i 0) {r : Bool} (D : Deep last (i + 1) end r) where
      -- a device inside its branch is
      pub deep_inside : r ≡ true → Deep last a e true
      deep_inside y =
          let x = D.found y in
          let b = end_bounds z in
          record {
            found = λ _. (x.0, omega (arith, s.from, x.1), omega (arith, x.2), x.3);
            none = λ w. absurd (true≢false w);
          }

      pub shallow_turn : depth < 32 → r ≡ false → Shallow last a e depth end
      shallow_turn m y =
          let b = end_bounds z in
          record {
            from = omega (arith, s.from);
            none = λ d p q. by_order i d
                (λ v. by_order (i + 1) d (λ w. D.none y d w q)
                (λ w. let x : d ≡ i + 1 = omega arith in rw x (let t = own_tiers s.nested s.known l in omega flags)))
                (λ v. s.none d p v);
            nested = rw z (nested_rest s.nested l);
            known = rw z (depth_rest s.nested s.known l);
          }
