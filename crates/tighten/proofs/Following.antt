-- Postings that follow one another.
use Prim.Native.Nat.{ℕ, ◌+◌, ◌-◌, ◌≤◌, ◌<◌}
use mathlib.Core.Path.{◌≡◌, sym, ◌∙◌}
use mathlib.Core.Bool.{Bool, true, false, ◌||◌, not}
use mathlib.Core.List.{List}
use native.Mathlib.Omega.{arith}
use lib.Dec.{leb, eqb}
use lib.ListN.{length, get_or}
use Rattle.laws.specs.Tables.{entry}
use Rattle.laws.proofs.Tests.{tests}
use Rattle.laws.proofs.Cases.{by_order, either}
use Rattle.index.specs.Postings.{device, shared, reach}
use Rattle.plant.specs.inner.Forest.{Forest}
use Rattle.tighten.specs.inner.List.{Apart, Opens, Running, Runs}
use Rattle.tighten.proofs.Apart.{own_reach, carries_at, between}

-- it goes no further than the end, or the next posting is not at the next device
runs_of : {last l : List ℕ} {end until count : ℕ} → Forest last → Apart last l → Running last l end until count
    → (until < end → count < length l → device (get_or l count 0) ≡ until + 1 → ⊥) → Runs last l end (record { count = count; until = until })
runs_of {l = l} {until = until} {count = count} F A r h =
    let a = r.some in
    let b = r.within in
    let e = r.is in
    let z : count - 1 + 1 ≡ count = omega arith in
    record {
      running = r;
      stop = λ v. between F A (count - 1) (until + 1) (omega arith) (omega arith) (λ u.
          let w : count < length l = omega arith in
          let y = A.beyond (count - 1) count (omega arith) w in
          rw z (by_order (until + 1) (device (get_or l count 0)) (λ x. x) (λ x. absurd (h v w (omega arith)))));
    }

-- a list whose first posting is for d alone
module _ {last l : List ℕ} {d end : ℕ} (F : Forest last) (A : Apart last l) (o : Opens last l d end) where
  pub own_device : device (get_or l 0 0) ≡ d
  own_device = rw o.own (omega arith)

  pub own_private : shared (get_or l 0 0) ≡ false
  own_private = rw o.own (simp tests (λ z. omega arith))

  own_reached : reach last (get_or l 0 0) ≡ d
  own_reached = let z = own_device in rw own_private z

  pub of_plant : (1 ≤ d) × (d ≤ length last)
  of_plant = let e = A.of_plant 0 o.some in let z = own_device in (omega (arith, e.first), omega (arith, e.last))

  -- a posting in the branch carries to no device beyond it
  pub held : (k : ℕ) → k < length l → device (get_or l k 0) ≤ end → reach last (get_or l k 0) ≤ end
  held k u v =
      let z = own_device in
      let r = own_reached in
      let p = of_plant in
      let b = o.branch in
      let from : d ≤ device (get_or l k 0) =
      by_order 0 k (λ x. omega (arith, A.beyond 0 k x u)) (λ x. let j : k ≡ 0 = omega arith in rw j (omega arith)) in
      either (shared (get_or l k 0))
      (λ x. let y : reach last (get_or l k 0) ≡ entry last (device (get_or l k 0)) = rw x in
      omega (arith, F.nested d (device (get_or l k 0)) p.0 p.1 from (omega arith)))
      (λ x. let y : reach last (get_or l k 0) ≡ device (get_or l k 0) = rw x in omega arith)

  pub running_start : Running last l end d 1
  running_start = let z = own_device in let r = own_reached in let f = o.feeds in let s = o.some in record {
    some = omega arith;
    within = omega arith;
    is = sym r;
    most = omega arith;
    first = omega arith;
    all = λ e a b. carries_at F A 0 e s a (omega arith);
  }

  module _ {until count : ℕ} (r : Running last l end until count) where
    module _ {b : Bool} (u : count < length l) (f : b ≡ (leb end until || not (eqb (device (get_or l count 0)) (until + 1)))) where
      pub running_turn : b ≡ false → {until' : ℕ} → until' ≡ reach last (get_or l count 0) → Running last l end until' (count + 1)
      running_turn p g =
          let t = simp tests at (sym f ∙ p) in
          let z : count + 1 - 1 ≡ count = omega arith in
          let o' = own_reach F A count u in
          let h = held count u (omega arith) in
          let a = r.first in
          record {
            some = omega arith;
            within = omega arith;
            is = rw z g;
            most = omega arith;
            first = omega arith;
            all = λ e x y. by_order until e (λ v. carries_at F A count e u (omega arith) (omega arith)) (λ v. r.all e x v);
          }

      pub running_stop : b ≡ true → Runs last l end (record { count = count; until = until })
      running_stop p = runs_of F A r (λ v w e.
          let t = simp tests at (sym f ∙ p) in t (omega arith) e)

    pub running_past : length l ≤ count → Runs last l end (record { count = length l; until = until })
    running_past v =
        let n = r.within in
        let e : length l ≡ count = omega arith in
        rw e (runs_of F A r (λ w x. absurd (omega arith)))
