-- The tight list carries its term to the same devices, and its devices rise with none redundant.
use Prim.Native.Nat.{ℕ, ◌≤◌}
use mathlib.Core.Path.{◌≡◌, sym, ◌∙◌}
use mathlib.Core.Bool.{Bool, true, false, ◌&&◌, true≢false}
use mathlib.Core.List.{List}
use native.Mathlib.Omega.{arith}
use lib.Dec.{ltb, leb}
use lib.ListN.{length}
use Rattle.laws.specs.Search.{any, lowest}
use Rattle.laws.specs.Tables.{entry}
use Rattle.laws.proofs.Tests.{tests, flags, agree, refuted}
use Rattle.laws.proofs.Cases.{either}
use Rattle.laws.proofs.Joined.{some, some_chosen}
use Rattle.laws.proofs.Search.{any_found, lowest_of}
use Rattle.index.specs.Postings.{device, shared, reach, carries, misplaced, shadowed, redundant}
use Rattle.index.proofs.Lists.{ranged, chosen_placed}
use Rattle.tighten.specs.Tight.{whole, tight}
use Rattle.tighten.specs.inner.Branches.{carried}
use Rattle.plant.specs.inner.Forest.{Forest}
use Rattle.tighten.proofs.Branches.{posted, posting_at, tight_is, posting_device, reach_whole, reach_alone, posting_shared, whole_has, posted_has, posted_outer, covered}

-- only devices of the plant carry the term of a list whose devices rise
pub in_plant : {last : List ℕ} → Forest last → (l : List ℕ) → any (length l) (misplaced (length last) device l) ≡ false
    → (d : ℕ) → carried last l d ≡ true → (1 ≤ d) × (d ≤ length last)
in_plant {last} F l p d c =
    let L = lowest_of (λ i. carries last (entry l i) d) (length l) c in
    let i = lowest (length l) (λ i. carries last (entry l i) d) in
    let h = simp tests at L.passes in
    let r = ranged (length last) device l p i L.first L.last in
    let n = F.inner (device (entry l i)) r.0 r.1 in
    either (shared (entry l i))
    (λ e. let z : reach last (entry l i) ≡ entry last (device (entry l i)) = rw e in omega arith)
    (λ e. let z : reach last (entry l i) ≡ device (entry l i) = rw e in omega arith)

-- a posting of the tight list passes a test where that of a device does
some_tight : (last : List ℕ) (has : ℕ → Bool) (f : ℕ → Bool) → some f (tight last has) ≡ any (length last) (λ e. posted last has e && f (posting_at last has e))
some_tight last has f = rw (tight_is last has) (some_chosen (posted last has) (posting_at last has) f (length last))

-- the postings of the tight list, by device
record Has (last : List ℕ) (has : ℕ → Bool) (f : ℕ → Bool) (e : ℕ) : Type 0 where
  first : 1 ≤ e
  upto : e ≤ length last
  is : posted last has e ≡ true
  passes : f (posting_at last has e) ≡ true

has_of : (last : List ℕ) (has : ℕ → Bool) (f : ℕ → Bool) → some f (tight last has) ≡ true → (e : ℕ) × Has last has f e
has_of last has f p =
    let L = lowest_of (λ e. posted last has e && f (posting_at last has e)) (length last) (sym (some_tight last has f) ∙ p) in
    let h = simp tests at L.passes in
    (lowest (length last) (λ e. posted last has e && f (posting_at last has e)), record { first = L.first; upto = L.last; is = h.0; passes = h.1 })

module _ {last : List ℕ} (F : Forest last) (has : ℕ → Bool) where
  carries_has : (d e : ℕ) → Has last has (λ q. carries last q d) e → has d ≡ true
  carries_has d e h =
      let p = simp tests at h.passes in
      let v = posting_device last has e in
      either (whole last has e)
      (λ w. let r = reach_whole last has e w in
      whole_has last has d w (omega (arith, F.inner e h.first h.upto)) (omega arith))
      (λ w. let r = reach_alone last has e w in
      let z : d ≡ e = omega arith in rw z (posted_has F has e (h.first, h.upto) h.is))

  -- the same carriers, where only devices of the plant have the term
  pub same_carriers : ((d : ℕ) → has d ≡ true → (1 ≤ d) × (d ≤ length last)) → (d : ℕ) → carried last (tight last has) d ≡ has d
  same_carriers dom d = agree _ _ (
    (λ p. let h = has_of last has (λ q. carries last q d) p in carries_has d h.0 h.1),
    λ p. refuted (has d) (λ q.
        let r = dom d q in
        let c = covered F has d r q in
        let e = c.0 in
        let v = posting_device last has e in
        true≢false (any_found (λ e. posted last has e && carries last (posting_at last has e) d) e (c.1.first, omega arith) (simp tests (c.1.is, (omega arith, c.1.reaches)))
        ∙ sym (some_tight last has (λ q. carries last q d)) ∙ p)),
  )

  -- no posting lies in the branch of a shared one
  shadows : (d e : ℕ) → posted last has d ≡ true
      → Has last has (λ q. shared q && ltb (device q) (device (posting_at last has d)) && leb (device (posting_at last has d)) (entry last (device q))) e → ⊥
  shadows d e p h =
      let v = posting_device last has d in
      let w = posting_device last has e in
      let s = simp tests at (rw (v, w) at h.passes) in
      posted_outer F has d e p (h.first, h.upto) (omega flags) (posting_shared last has e (simp tests s.0.0))

  pub tight_redundant : any (length (tight last has)) (redundant last (tight last has)) ≡ false
  tight_redundant = refuted _ (λ p.
      let h = has_of last has (λ q. shadowed last (tight last has) (device q)) p in
      let g = has_of last has _ h.1.passes in
      shadows h.0 g.0 h.1.is g.1)

module _ (last : List ℕ) (has : ℕ → Bool) where
  pub tight_placed : any (length (tight last has)) (misplaced (length last) device (tight last has)) ≡ false
  tight_placed = rw (tight_is last has) (chosen_placed (length last) device (posted last has) (posting_at last has) (length last)
      (λ d a b p. let v = posting_device last has d in (omega arith, omega arith))
      (λ d e a c b p q. let v = posting_device last has d in let w = posting_device last has e in omega arith))
