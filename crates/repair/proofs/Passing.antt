-- A pass over a list whose devices do not fall: what the postings passed reach, and what is kept and dropped of them.
use Prim.Native.Nat.{ℕ, zero, suc, ◌+◌, ◌-◌, ◌≤◌, ◌<◌, max}
use mathlib.Core.Path.{◌≡◌, refl, ap, ◌∙◌}
use mathlib.Core.Bool.{cond}
use mathlib.Core.List.{List, [], ◌∷◌, ◌++◌}
use native.Mathlib.Omega.{arith}
use native.Mathlib.Numerals.{add-one}
use lib.Dec.{ltb}
use lib.ListN.{length, get_or, take, length-append}
use lib.Seq.{take-suc, get_or-take, length-take-le}
use borrow.Author.Tests.{lt-ltb, le-ltb}
use Rattle.laws.specs.Tables.{entry}
use Rattle.laws.proofs.Tests.{tests, or_no}
use Rattle.laws.proofs.Cases.{by_order}
use Rattle.laws.proofs.Search.{None}
use Rattle.index.specs.Postings.{device, reach, outside}
use Rattle.plant.specs.inner.Forest.{Forest}
use Rattle.repair.specs.Kept.{kept, dropped}
use Rattle.repair.specs.Refusals.{falls}
use Rattle.repair.specs.inner.Lists.{Held, astray, Fit, furthest}
use Rattle.repair.specs.inner.Compaction.{stays, goes}
use Rattle.repair.proofs.Furthest.{furthest_more}
use Rattle.repair.proofs.OneMore.{fresh, covered}

-- ---- lists with no posting astray

module _ (n : ℕ) (l : List ℕ) (none : None (astray n l) 0 (length l)) where
  inside : (k : ℕ) → 1 ≤ k → k ≤ length l → (1 ≤ device (entry l k)) × (device (entry l k) ≤ n)
  inside k a b = let h = simp tests at ((or_no (outside n device l k) (falls l k)).0 (none k a b)).0 in (omega arith, omega arith)

  sorted_by : (i m : ℕ) → 1 ≤ i → i + m ≤ length l → device (entry l i) ≤ device (entry l (i + m))
  sorted_by i zero a b = let e : i + 0 ≡ i = omega arith in rw e (omega arith)
  sorted_by i (suc m) a b =
      let e : i + suc m ≡ i + m + 1 = omega arith in
      let f : i + m + 1 - 1 ≡ i + m = omega arith in
      let h = sorted_by i m a (omega arith) in
      let k = ((or_no (outside n device l (i + m + 1)) (falls l (i + m + 1))).0 (none (i + m + 1) (omega arith) (omega arith))).1 in
      let g = rw f at ((simp tests at k) (omega arith)) in
      rw (e, f) (omega arith)

  pub fit : Fit n l
  fit = record {
    first = λ k a b. (inside k a b).0;
    last = λ k a b. (inside k a b).1;
    sorted = λ i k a c b. let e : k ≡ i + (k - i) = omega arith in rw e (sorted_by i (k - i) a (omega arith));
  }

-- the first k postings of a list
entry_take : (l : List ℕ) (k j : ℕ) → 1 ≤ k → j ≤ k → entry (take k l) j ≡ entry l j
entry_take l k j a b = get_or-take k l (j - 1) 0 (omega arith)

pub fit_front : (n : ℕ) (l : List ℕ) (k : ℕ) → k ≤ length l → None (astray n l) 0 k → Fit n (take k l)
fit_front n l k u none =
    let m = length-take-le k l u in
    fit n (take k l) (λ j a b. rw (entry_take l k j (omega arith) (omega arith), entry_take l k (j - 1) (omega arith) (omega arith)) (none j a (omega arith)))

pub fit_take : {n : ℕ} {l : List ℕ} → Fit n l → (k : ℕ) → k ≤ length l → Fit n (take k l)
fit_take {n} {l} F k u =
    let m = length-take-le k l u in record {
      first = λ j a b. rw (entry_take l k j (omega arith) (omega arith)) (F.first j a (omega arith));
      last = λ j a b. rw (entry_take l k j (omega arith) (omega arith)) (F.last j a (omega arith));
      sorted = λ i j a c b. rw (entry_take l k i (omega arith) (omega arith), entry_take l k j (omega arith) (omega arith)) (F.sorted i j a c (omega arith));
    }

-- ---- the pass

-- after k postings
pub record Passed (last l : List ℕ) (k reached : ℕ) : Type 0 where
  pub within : k ≤ length l
  pub reached_is : reached ≡ furthest last (take k l)
  -- where one reaches a device, one is kept
  pub some : 1 ≤ reached → 1 ≤ length (kept last (take k l))

pub passed_start : (last l : List ℕ) → Passed last l 0 0
unfolding furthest
passed_start last l = record { within = omega arith; reached_is = refl; some = λ u. absurd (omega arith) }

module _ {last l : List ℕ} {k reached : ℕ} (H : Forest last) (h : Passed last l k reached) (u : k < length l) (F : Fit (length last) (take (k + 1) l)) where
  held_all : Held last
  held_all = record { held = λ d e. H.own d e.first e.last }

  abbrev q : ℕ
  q = get_or l k 0

  next : take (k + 1) l ≡ take k l ++ (q ∷ [])
  next = rw (add-one k) (take-suc l k 0 u)

  F' : Fit (length last) (take k l ++ (q ∷ []))
  F' = rw next at F

  -- none before it reaches its device
  pub passed_fresh : reached < device q → (kept last (take (k + 1) l) ≡ kept last (take k l) ++ (q ∷ [])) × (dropped last (take (k + 1) l) ≡ dropped last (take k l))
  passed_fresh v = rw next (fresh last held_all (take k l) q F' (rw (← h.reached_is) v))

  -- one does
  pub passed_covered : 1 ≤ device q → device q ≤ reached → let ks = kept last (take k l) in
      (kept last (take (k + 1) l) ≡ take (length ks - 1) ks ++ (stays (entry ks (length ks)) q ∷ []))
      × (dropped last (take (k + 1) l) ≡ dropped last (take k l) ++ (goes (entry ks (length ks)) q ∷ []))
  passed_covered o v = rw next (covered last held_all (take k l) q F' (rw (← h.reached_is) v) (h.some (omega arith)))

  pub passed_device : 1 ≤ device q
  passed_device =
      let m = length-take-le (k + 1) l (omega arith) in
      let e : k + 1 - 1 ≡ k = omega arith in
      rw (entry_take l (k + 1) (k + 1) (omega arith) (omega arith), e) at (F.first (k + 1) (omega arith) (omega arith))

  -- how many are kept
  pub passed_count : length (kept last (take (k + 1) l)) ≡ length (kept last (take k l)) + cond (ltb reached (device q)) 1 0
  passed_count =
      let ks = kept last (take k l) in
      by_order reached (device q)
      (λ v. rw (lt-ltb reached (device q) v) (ap length (passed_fresh v).0 ∙ length-append ks (q ∷ [])))
      (λ v.
      let s = h.some (omega (arith, passed_device)) in
      let n = length-take-le (length ks - 1) ks (omega arith) in
      let w = ap length (passed_covered passed_device v).0 ∙ length-append (take (length ks - 1) ks) (stays (entry ks (length ks)) q ∷ []) in
      rw (le-ltb reached (device q) v) (omega arith))

  pub passed_turn : {reached' : ℕ} → reached' ≡ max reached (reach last q) → Passed last l (k + 1) reached'
  passed_turn e = record {
    within = omega arith;
    reached_is = e ∙ rw (next, furthest_more last (take k l) q, ← h.reached_is);
    some = λ _. by_order reached (device q)
        (λ v. let n = rw (lt-ltb reached (device q) v) at passed_count in omega arith)
        (λ v. let n = rw (le-ltb reached (device q) v) at passed_count in let s = h.some (omega (arith, passed_device)) in omega arith);
  }
