-- Lists with a fault: the one pass that tells them from sound ones, and which of the two rows for postings a fault comes to.
use Prim.Native.Nat.{ℕ, ◌+◌, ◌-◌, ◌≤◌, ◌<◌}
use mathlib.Core.Path.{◌≡◌, sym, ◌∙◌}
use mathlib.Core.Bool.{true, false, ◌&&◌}
use mathlib.Core.List.{List}
use native.Mathlib.Omega.{arith}
use borrow.Author.Tests.{le-leb}
use lib.Dec.{leb, ltb}
use lib.ListN.{length, get_or}
use Rattle.laws.specs.Search.{any}
use Rattle.laws.specs.Tables.{entry}
use Rattle.index.specs.Postings.{device, shared, reach, misplaced, redundant}
use Rattle.plant.specs.inner.Forest.{Forest}
use Rattle.index_check.specs.inner.Faults.{faulty}
use Rattle.laws.proofs.Tests.{tests, or_yes, or_no}
use Rattle.laws.proofs.Cases.{by_order, either, split_cond}
use Rattle.laws.proofs.Search.{any_found, any_none}
use Rattle.index.proofs.Lists.{here, previous, reaches}

-- the devices of the first k postings are in range, and each is above those before it and beyond their reach; `reached` is the reach of the k-th
pub record Clear (last l : List ℕ) (k reached : ℕ) : Type 0 where
  pub within : k ≤ length l
  pub first : k ≡ 0 → reached ≡ 0
  pub later : 1 ≤ k → reached ≡ reach last (entry l k)
  pub ranged : (i : ℕ) → 1 ≤ i → i ≤ k → (1 ≤ device (entry l i)) × (device (entry l i) ≤ length last)
  pub rising : (i j : ℕ) → 1 ≤ i → i < j → j ≤ k → (device (entry l i) < device (entry l j)) × (reach last (entry l i) < device (entry l j))

-- a posting makes no later device redundant that is beyond its reach
unshadowed : (last : List ℕ) (q e : ℕ) → reach last q < e → (shared q && ltb (device q) e && leb e (entry last (device q))) ≡ false
unshadowed last q e u = either (shared q) (λ p. let v = rw p at u in rw p (simp tests (λ w. omega arith))) (λ p. rw p)

module _ {last l : List ℕ} {k reached : ℕ} (h : Clear last l k reached) where
  misplaced_found : k < length l → misplaced (length last) device l (k + 1) ≡ true → true ≡ faulty last l
  misplaced_found u p = rw (← any_found (misplaced (length last) device l) {n = length l} (k + 1) (omega arith) p)

  redundant_found : k < length l → redundant last l (k + 1) ≡ true → true ≡ faulty last l
  redundant_found u p =
      sym ((or_yes (any (length l) (misplaced (length last) device l)) _).1 (λ _. sym (any_found (redundant last l) (k + 1) (omega arith) p)))

  -- the next device is no device
  pub clear_high : k < length l → length last < device (get_or l k 0) → true ≡ faulty last l
  clear_high u v = let z = here device l k in misplaced_found u (simp tests (omega arith))

  -- it is within the reach of the posting before it: in its branch, or not above its device
  pub clear_near : k < length l → device (get_or l k 0) ≤ reached → true ≡ faulty last l
  clear_near u v =
      let z = here device l k in
      let w = previous device l k in
      by_order 0 k
      (λ b.
      let e = h.later b in
      by_order (device (entry l k)) (device (get_or l k 0))
      (λ a.
      let r : (shared (entry l k) && leb (device (get_or l k 0)) (entry last (device (entry l k)))) ≡ true =
      reaches last (entry l k) (device (get_or l k 0)) (omega arith) ∙ le-leb (device (get_or l k 0)) (reach last (entry l k)) (omega arith) in
      let t = simp tests at r in
      redundant_found u (sym (any_found _ k (omega arith) (simp tests (omega arith)))))
      (λ a. misplaced_found u (simp tests (omega arith))))
      (λ b. let e = h.first (omega arith) in misplaced_found u (simp tests (omega arith)))

  -- over accepted branches what a posting reaches is not below its own device
  own_reached : Forest last → 1 ≤ k → device (entry l k) ≤ reached
  own_reached o v =
      let e = h.later v in
      let r = h.ranged k v (omega arith) in
      let w = o.own (device (entry l k)) r.0 r.1 in
      let z : device (entry l k) ≤ reach last (entry l k) = split_cond (λ n. device (entry l k) ≤ n) (shared (entry l k)) (λ _. w) (λ _. omega arith) in
      omega arith

  -- so a device beyond it is above those before
  pub clear_turn : {y : ℕ} → Forest last → k < length l → (reached < device (get_or l k 0)) × (device (get_or l k 0) ≤ length last)
      → y ≡ reach last (get_or l k 0) → Clear last l (k + 1) y
  clear_turn o u v q = let z = here device l k in record {
    within = omega arith;
    first = λ f. absurd (omega arith);
    later = λ f. q ∙ sym (here (reach last) l k);
    ranged = λ i a b. by_order i (k + 1) (λ f. h.ranged i a (omega arith)) (λ f. let t : i ≡ k + 1 = omega arith in rw t (omega arith));
    rising = λ i j a b d. by_order j (k + 1) (λ f. h.rising i j a b (omega arith))
        (λ f.
        let t : j ≡ k + 1 = omega arith in
        let e = h.later (omega arith) in
        let w = own_reached o (omega arith) in
        rw t (by_order i k (λ s. let r = h.rising i k a s (omega arith) in (omega arith, omega arith))
        (λ s. let r : i ≡ k = omega arith in rw r (omega arith, omega arith))));
  }

  pub clear_end : length l ≤ k → false ≡ faulty last l
  clear_end u = sym ((or_no (any (length l) (misplaced (length last) device l)) _).1 (
    sym (any_none _ (λ i a b.
        let r = h.ranged i a (omega arith) in
        by_order 1 i (λ v. let s = h.rising (i - 1) i (omega arith) (omega arith) (omega arith) in simp tests (omega arith))
        (λ v. simp tests (omega arith)))),
    sym (any_none _ (λ i a b. sym (any_none _ (λ j m n.
        by_order j i (λ v. unshadowed last (entry l j) (device (entry l i)) (h.rising j i m v (omega arith)).1)
        (λ v. by_order i j (λ w. let s = h.rising i j a w (omega arith) in simp tests (λ q. absurd (omega arith)))
        (λ w. let t : j ≡ i = omega arith in rw t (simp tests (λ q. absurd (omega arith))))))))),
  ))
