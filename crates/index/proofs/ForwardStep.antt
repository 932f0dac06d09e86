-- The forward step: one posting at a time, and by doubling and halving.
use Prim.Native.Nat.{ℕ, zero, suc, ◌+◌, ◌-◌, ◌/◌, ◌≤◌, ◌<◌, min}
use native.Mathlib.Omega.{arith}
use mathlib.Core.List.{List, [], ◌∷◌}
use mathlib.Core.Bool.{true, false}
use mathlib.Core.Path.{◌≡◌, refl, sym, ◌∙◌, ap}
use lib.Dec.{leb, ltb}
use lib.ListN.{length, get_or, drop}
use borrow.Author.Tests.{le-leb, lt-leb}
use Rattle.laws.proofs.Tests.{flags}
use Rattle.laws.proofs.Cases.{by_order, split}
use Rattle.laws.specs.Front.{until}
use Rattle.laws.proofs.Lists.{drop_clamped}
use Rattle.laws.proofs.Front.{until_here, until_next, until_end}
use Rattle.std.specs.List.{prefix_len}
use Rattle.index.specs.Postings.{device}
use Rattle.index.specs.Around.{Around}
use Rattle.index.proofs.Halving.{closer, wider, all_before}
use Rattle.index.specs.Forward.{before, forward, landing, step, Sorted, Sought}
use Rattle.index.specs.declared.forward.Step.{Step}

-- ---- one posting at a time

-- the postings before device d at the front, as a scan counts them
before_is : (d : ℕ) (l : List ℕ) → prefix_len (λ q. ltb (q / 2) d) l ≡ before d l
unfolding until
before_is d [] = refl
before_is d (q ∷ qs) =
    split (λ n. prefix_len (λ x. ltb (x / 2) d) (q ∷ qs) ≡ n) (leb d (device q))
    (λ e. let f : ltb (q / 2) d ≡ false = omega flags in rw f)
    (λ e. let f : ltb (q / 2) d ≡ true = omega flags in rw f (omega (arith, before_is d qs)))

-- so a scan from a position, within the list or past its end, gives the step
pub counted_step : (l : List ℕ) (position d : ℕ) {from n : ℕ} {r : Step} → from ≡ min position (length l) → n ≡ prefix_len (λ q. ltb (q / 2) d) (drop from l)
    → r ≡ landing position (from + n) → r ≡ step l position d
counted_step l position d a b c = c ∙ ap (landing position) (cc (a, b, before_is d (drop position l), drop_clamped position l))

-- a forward step from position p to device d goes as from index i
pub record Ahead (l : List ℕ) (p d i : ℕ) : Type 0 where
  pub same : forward l p d ≡ forward l i d

pub ahead_here : (l : List ℕ) (p d : ℕ) → Ahead l p d p
ahead_here l p d = record { same = refl }

module _ {l : List ℕ} {p d i : ℕ} (a : Ahead l p d i) where
  -- the posting at i is not before device d
  pub found : i < length l → d ≤ device (get_or l i 0) → i ≡ forward l p d
  found h g = sym (a.same ∙ rw (until_here (λ q. leb d (device q)) l i h (le-leb d _ g)) (omega arith))

  -- it is, and is passed
  pub passed : i < length l → device (get_or l i 0) < d → Ahead l p d (i + 1)
  passed h g = record { same = a.same ∙ rw (until_next (λ q. leb d (device q)) l i h (lt-leb d _ g)) (omega arith) }

  pub ended : length l ≤ i → length l ≡ forward l p d
  ended h = sym (a.same ∙ rw (until_end (λ q. leb d (device q)) l i h) (omega arith))

-- ---- what a forward step has passed

-- from index f on, the first posting that is not before device d stands at r, or r is the length
pub record Passed (l : List ℕ) (f d r : ℕ) : Type 0 where
  pub from : f ≤ r
  pub to : r ≤ length l
  pub before : (k : ℕ) → f ≤ k → k < r → device (get_or l k 0) < d
  pub after : r < length l → d ≤ device (get_or l r 0)

module _ {l : List ℕ} {f d r : ℕ} where
  -- of a sorted list, the one posting before r says it of all
  pub sorted_passed : Sorted l f → Around device l f (length l) d r r → Passed l f d r
  sorted_passed s a = record { from = a.from; to = a.to; before = all_before s a; after = a.after }

  module _ (p : Passed l f d r) where
    ahead_by : (n : ℕ) → f + n ≤ r → Ahead l f d (f + n)
    ahead_by zero h = let q : f + 0 ≡ f = omega arith in rw q (ahead_here l f d)
    ahead_by (suc n) h =
        let q : f + suc n ≡ f + n + 1 = omega arith in
        rw q (passed (ahead_by n (omega arith)) (omega arith) (p.before (f + n) (omega arith) (omega arith)))

    -- r is the forward step
    pub passed_forward : r ≡ forward l f d
    passed_forward =
        let q : f + (r - f) ≡ r = omega arith in
        let a : Ahead l f d r = rw q at (ahead_by (r - f) (omega arith)) in
        by_order r (length l) (λ h. found a h (p.after h))
        (λ h. let e : r ≡ length l = omega arith in e ∙ ended a h)

-- what `seek` has shown of any list: from a position within it, where it stays and where it goes on, and from one past its end
module _ {l : List ℕ} {f d : ℕ} {r : Step} where
  sought_at : {at : ℕ} → f < length l → Around device l f (length l) d at at → r ≡ landing f at → Sought l f d r
  sought_at h a o =
      let m : min f (length l) ≡ f = omega arith in
      rw o (record { sorted = λ s. ap (landing f) (passed_forward (sorted_passed s a)); any = rw m a; counted = refl })

  pub sought_here : f < length l → d ≤ device (get_or l f 0) → r ≡ landing f f → Sought l f d r
  sought_here h g = sought_at h (record { from = omega arith; ordered = omega arith; to = omega arith; before = λ x. absurd (omega arith); after = λ x. g })

  pub sought_on : {low high at : ℕ} → f < length l → device (get_or l f 0) < d → Around device l (f + 1) (length l) d low high → Around device l low high d at at
      → r ≡ landing f at → Sought l f d r
  sought_on h g a b = sought_at h (wider (closer a b) refl g)

  pub sought_end : length l ≤ f → r ≡ landing f (length l) → Sought l f d r
  sought_end h o = rw o (record {
    sorted = λ s. ap (landing f) (ended (ahead_here l f d) h);
    any = record { from = omega arith; ordered = omega arith; to = omega arith; before = λ x. absurd (omega arith); after = λ x. absurd (omega arith) };
    counted = refl;
  })

-- and the forward step is such an index, in any list
forward_by : (l : List ℕ) (d n f : ℕ) → f + n ≡ length l → Passed l f d (forward l f d)
forward_by l d zero f h =
    let e : forward l f d ≡ length l = sym (ended (ahead_here l f d) (omega arith)) in
    rw e (record { from = omega arith; to = omega arith; before = λ k fk kr. absurd (omega arith); after = λ x. absurd (omega arith) })
forward_by l d (suc n) f h =
    by_order (device (get_or l f 0)) d
    (λ g.
    let e = (passed (ahead_here l f d) (omega arith) g).same in
    let p = forward_by l d n (f + 1) (omega arith) in
    rw e (record {
      from = omega arith;
      to = p.to;
      before = λ k fk kr. by_order f k (λ m. p.before k (omega arith) kr) (λ m. let q : k ≡ f = omega arith in rw q g);
      after = p.after;
    }))
    (λ g.
    let e : forward l f d ≡ f = sym (found (ahead_here l f d) (omega arith) g) in
    rw e (record { from = omega arith; to = omega arith; before = λ k fk kr. absurd (omega arith); after = λ x. g }))

pub forward_passed : (l : List ℕ) (f d : ℕ) → f ≤ length l → Passed l f d (forward l f d)
forward_passed l f d h = forward_by l d (length l - f) f (omega arith)

-- ---- a step that leaves its posting

module _ (l : List ℕ) (i d : ℕ) (h : i < length l) (g : device (get_or l i 0) < d) where
  -- it goes as from the next posting
  pub forward_next : forward l i d ≡ suc i + before d (drop (suc i) l)
  forward_next = let u : i + 1 ≡ suc i = omega arith in rw u at (passed (ahead_here l i d) h g).same ∙ omega arith

  -- and lands on it where that is not before the device
  pub forward_one : (i + 1 < length l → d ≤ device (get_or l (i + 1) 0)) → i + 1 ≡ forward l i d
  forward_one n =
      let a = passed (ahead_here l i d) h g in
      by_order (i + 1) (length l) (λ k. found a k (n k)) (λ k. let e : i + 1 ≡ length l = omega arith in e ∙ ended a k)

-- the first posting after q that is not before device d
pub forward_after : (q : ℕ) (qs : List ℕ) (d : ℕ) → forward (q ∷ qs) 1 d ≡ suc (before d qs)
forward_after q qs d = omega arith
