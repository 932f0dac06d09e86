-- One branch after another: the pass over the children of a device, where every later branch is in range and overlaps none.
use Prim.Native.Nat.{ℕ, ◌+◌, ◌≤◌, ◌<◌}
use mathlib.Core.Path.{◌≡◌, sym}
use mathlib.Core.Bool.{true, false, ◌||◌}
use mathlib.Core.List.{List}
use native.Mathlib.Omega.{arith}
use lib.Dec.{ltb}
use lib.ListN.{length}
use Rattle.laws.specs.Tables.{entry}
use Rattle.laws.proofs.Tests.{tests, or_yes, or_no}
use Rattle.laws.proofs.Cases.{by_order}
use Rattle.laws.proofs.Search.{None, any_found, any_none}
use Rattle.plant.specs.Plant.{out_of_range, overlap, overlaps}
use Rattle.plant.specs.inner.Branches.{faulty}
use Rattle.plant.proofs.Forest.{in_range_at, nested}

-- the branches of the devices after d and before `child` end within the branch of d, which ends at `end`
pub record Children (last : List ℕ) (d end child : ℕ) : Type 0 where
  pub first : 1 ≤ d
  pub known : end ≡ entry last d
  pub own : d ≤ end
  pub fits : end ≤ length last
  pub after : d < child
  pub inside : (e : ℕ) → d < e → e < child → entry last e ≤ end
  pub later : None (faulty last) d (length last)

-- the branch of d is out of range
pub outside_found : (last : List ℕ) (d : ℕ) {end : ℕ} → end ≡ entry last d → (ltb end d || ltb (length last) end) ≡ true → true ≡ faulty last d
outside_found last d e p = rw (← e, p)

module _ {last : List ℕ} {d end : ℕ} where
  pub children_start : 1 ≤ d → end ≡ entry last d → (d ≤ end) × (end ≤ length last) → None (faulty last) d (length last) → Children last d end (d + 1)
  children_start f e r h = record { first = f; known = e; own = r.0; fits = r.1; after = omega arith; inside = λ x l u. absurd (omega arith); later = h }

  module _ {child : ℕ} (a : Children last d end child) where
    -- a child's branch goes on past the end
    pub children_found : {x : ℕ} → child ≤ end → x ≡ entry last child → end < x → true ≡ faulty last d
    children_found c e u =
        let k = a.known in
        sym ((or_yes (out_of_range last d) _).1 (λ p. sym (any_found (overlap last d) child (omega (arith, a.after, a.fits, a.first)) (simp tests (omega (arith, a.after))))))

    module _ (c : child ≤ end) where
      sound : (out_of_range last child ≡ false) × (overlaps last child ≡ false)
      sound = (or_no (out_of_range last child) (overlaps last child)).0 (a.later child a.after (omega (arith, a.fits)))

      pub child_own : child ≤ entry last child
      child_own = (in_range_at last child sound.0).0

      pub children_turn : {x : ℕ} → x ≡ entry last child → x ≤ end → Children last d end (x + 1)
      children_turn {x} e u = let o = child_own in record {
        first = a.first;
        known = a.known;
        own = a.own;
        fits = a.fits;
        after = omega (arith, a.after);
        inside = λ y l v. by_order y child (a.inside y l)
            (λ w. let n = nested last child y sound.1 (omega (arith, a.after, a.fits, a.first)) in omega arith);
        later = a.later;
      }

    pub children_end : end < child → false ≡ faulty last d
    children_end u =
        let k = a.known in
        sym ((or_no (out_of_range last d) _).1 (
          simp tests (omega (arith, a.own, a.fits)),
          sym (any_none _ (λ e l v. simp tests (λ p. let h = a.inside e p.0 (omega arith) in omega arith))),
        ))
