-- What tables that pass a check say of the branches, and that such tables pass it.
use Prim.Native.Nat.{ℕ, ◌+◌, ◌≤◌, ◌<◌}
use mathlib.Core.Path.{◌≡◌, sym}
use mathlib.Core.Bool.{false}
use mathlib.Core.List.{List}
use native.Mathlib.Omega.{arith}
use lib.ListN.{length}
use Rattle.laws.specs.Limits.{most_devices}
use Rattle.laws.specs.Search.{any}
use Rattle.laws.specs.Tables.{entry}
use Rattle.plant.specs.Plant.{Plant, size, holds, out_of_range, overlap, overlaps, root_of, wrong_root, uneven, plant_refusal}
use Rattle.plant.specs.inner.Forest.{Forest}
use Rattle.laws.proofs.Tests.{tests, flags}
use Rattle.laws.proofs.Cases.{by_order}
use Rattle.laws.proofs.Search.{none_any, any_found, any_none, lowest_is, Lowest, lowest_of}
use Rattle.laws.proofs.Rows.{pick_none}

module _ (last : List ℕ) where
  pub in_range_at : (d : ℕ) → out_of_range last d ≡ false → (d ≤ entry last d) × (entry last d ≤ length last)
  in_range_at d p = let h = simp tests at p in omega arith

  -- a branch ends at its device or later, and not past the last device
  pub in_range : any (length last) (out_of_range last) ≡ false → (d : ℕ) → (1 ≤ d) × (d ≤ length last)
      → (d ≤ entry last d) × (entry last d ≤ length last)
  in_range p d l = in_range_at d (none_any _ p d l.0 l.1)

  -- the branch of a device of d's branch ends within d's branch
  pub nested : (d e : ℕ) → overlaps last d ≡ false → (1 ≤ d) × (d ≤ e) × (e ≤ entry last d) × (e ≤ length last) → entry last e ≤ entry last d
  nested d e p l =
      by_order d e (λ v. let h = (simp tests at (none_any (overlap last d) p e (omega arith) (omega arith))) (omega arith) in omega arith)
      (λ v. let q : d ≡ e = omega arith in rw q (omega arith))

-- tree is the last root up to d: its branch reaches d, and no branch before it reaches it
pub record Tree (last : List ℕ) (tree d : ℕ) : Type 0 where
  pub low : 1 ≤ tree
  pub high : tree ≤ d + 1
  pub reach : d ≤ entry last tree
  pub before : (e : ℕ) → 0 < e → e < tree → entry last e < tree

root_is : (last : List ℕ) (tree d : ℕ) → Tree last tree d → tree ≤ d → Tree last tree d × (root_of last d ≡ tree)
root_is last tree d t u = (
  t,
  lowest_is _ (omega arith) (simp tests (omega arith))
      (λ e l v. simp tests (λ p. let h = t.before e l (omega arith) in omega arith)),
)

-- the next device is in the tree, or is the root of the next one
module _ (last : List ℕ) (tree d : ℕ) where
  pub same_tree : Tree last tree d → d + 1 ≤ entry last tree → Tree last tree (d + 1) × (root_of last (d + 1) ≡ tree)
  same_tree t u =
      root_is last tree (d + 1)
      (record { low = omega arith; high = omega arith; reach = u; before = t.before }) (omega arith)

  pub next_tree : any (length last) (out_of_range last) ≡ false → any (length last) (overlaps last) ≡ false → d < length last
      → Tree last tree d → entry last tree < d + 1 → Tree last (d + 1) (d + 1) × (root_of last (d + 1) ≡ d + 1)
  next_tree p q l t u = root_is last (d + 1) (d + 1) (record {
    low = omega arith;
    high = omega arith;
    reach = (in_range last p (d + 1) (omega arith)).0;
    before = λ e m v. by_order e tree (λ w. let h = t.before e m w in omega arith)
        (λ w. let h = nested last tree e (none_any _ q tree (omega arith) (omega arith)) (omega arith) in omega arith);
  }) (omega arith)

-- what accepted device tables say of the plant
pub record Sound (P : Plant) : Type 0 where
  pub roots : length P.root ≡ size P
  pub levels : length P.level ≡ size P
  pub few : size P ≤ most_devices
  -- a branch holds its device, and ends in the plant
  pub own : (d : ℕ) → 1 ≤ d → d ≤ size P → d ≤ entry P.last d
  pub inside : (d : ℕ) → 1 ≤ d → d ≤ size P → entry P.last d ≤ size P
  pub nested : (d e : ℕ) → 1 ≤ d → d ≤ size P → d ≤ e → e ≤ entry P.last d → entry P.last e ≤ entry P.last d
  -- the root's branch holds the device, and no branch before it does
  pub holds : (d : ℕ) → 1 ≤ d → d ≤ size P → (1 ≤ entry P.root d) × (entry P.root d ≤ d) × (d ≤ entry P.last (entry P.root d))
  pub lowest : (d e : ℕ) → 1 ≤ d → d ≤ size P → 1 ≤ e → e < entry P.root d → entry P.last e < d

-- the root of d is the lowest device whose branch holds d
root_lowest : (last : List ℕ) (d : ℕ) → 1 ≤ d → d ≤ entry last d → Lowest (λ e. holds last e d) d (root_of last d)
root_lowest last d l u = lowest_of _ d (sym (any_found _ d (l, omega arith) (simp tests (omega arith))))

pub accepted : (P : Plant) → plant_refusal P ≡ 0 → Sound P
unfolding plant_refusal
accepted P h =
    let a = pick_none (uneven P) 0 _ h in
    let b = pick_none (any (size P) (out_of_range P.last)) 1 _ a.1 in
    let c = pick_none (any (size P) (overlaps P.last)) 2 _ b.1 in
    let w = pick_none (any (size P) (wrong_root P.last P.root)) 3 _ c.1 in
    let even = simp tests at a.0 in
    let root : (d : ℕ) → 1 ≤ d → d ≤ size P → Lowest (λ e. holds P.last e d) d (entry P.root d) =
    λ d l u. rw (simp tests at (none_any _ w.0 d l u)) (root_lowest P.last d l (in_range P.last b.0 d (l, u)).0) in
    record {
      roots = omega flags;
      levels = omega flags;
      few = omega flags;
      own = λ d l u. (in_range P.last b.0 d (l, u)).0;
      inside = λ d l u. (in_range P.last b.0 d (l, u)).1;
      nested = λ d e l u v w. nested P.last d e (none_any _ c.0 d l u) (l, v, w, omega (arith, in_range P.last b.0 d (l, u)));
      holds = λ d l u. let r = root d l u in let h = simp tests at r.passes in (r.first, r.last, omega arith);
      lowest = λ d e l u m v. let r = root d l u in let h = simp tests at (r.least e m v) in omega (arith, h (omega arith));
    }

-- sound tables are refused by none of 1 to 4
pub accepts : (P : Plant) → Sound P → plant_refusal P ≡ 0
unfolding plant_refusal
accepts P s =
    let even : uneven P ≡ false = let a = s.roots in let b = s.levels in let c = s.few in simp tests (omega arith) in
    let range = any_none (out_of_range P.last) {n = size P}
    (λ d l u. let a = s.own d l u in let b = s.inside d l u in simp tests (omega arith)) in
    let apart = any_none (overlaps P.last) {n = size P}
    (λ d l u. sym (any_none (overlap P.last d) (λ e m w. simp tests (λ p. let h = s.nested d e l u (omega arith) (omega arith) in omega arith)))) in
    let roots = any_none (wrong_root P.last P.root) {n = size P}
    (λ d l u.
    let h = s.holds d l u in
    let w : root_of P.last d ≡ entry P.root d = lowest_is _ (h.0, h.1) (simp tests (omega arith))
    (λ e m v. simp tests (λ p. s.lowest d e l u m (omega arith))) in simp tests (sym w)) in
    rw (even, ← range, ← apart, ← roots)

-- the branches of accepted device tables
pub forest : (P : Plant) → plant_refusal P ≡ 0 → Forest P.last
forest P z = let s = accepted P z in record { few = s.few; own = s.own; inner = s.inside; nested = s.nested }
