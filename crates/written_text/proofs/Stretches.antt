-- A stretch of devices: its first branch, and the rest.
use Prim.Native.Nat.{ℕ, zero, suc, ◌+◌, ◌-◌, ◌≤◌, ◌<◌}
use mathlib.Core.Path.{◌≡◌, refl, ap, ◌∙◌}
use mathlib.Core.Bool.{true, false}
use mathlib.Core.List.{List, [], ◌∷◌, ◌++◌}
use native.Mathlib.Omega.{arith}
use lib.Dec.{ltb}
use lib.ListN.{get_or}
use Rattle.laws.specs.Tables.{entry}
use Rattle.laws.proofs.Tests.{tests, flags}
use Rattle.laws.proofs.Cases.{by_order}
use Rattle.plant.specs.Plant.{Plant, size, holds}
use Rattle.plant.proofs.Forest.{Sound}
use Rattle.text.specs.Forms.{plain, with_number}
use Rattle.plant_text.specs.Form.{device_line, close_line}
use Rattle.written_text.specs.Forms.{forest}
use Rattle.written_text.specs.Refusals.{tiers}
use Rattle.laws.specs.Search.{tally}
use Rattle.written_text.specs.inner.Nested.{Nested, stretch, Depth}
use Rattle.laws.proofs.Tally.{tally_yes, tally_none}

pub here : (last : List ℕ) (a : ℕ) → entry last (a + 1) ≡ get_or last a 0
here last a = let e : a + 1 - 1 ≡ a = omega arith in rw e

-- accepted tables
pub nested_all : (P : Plant) → Sound P → Nested P.last 0 (size P)
nested_all P S = record {
  ordered = omega arith;
  within = omega arith;
  own = λ c l u. let e = here P.last c in omega (arith, S.own (c + 1) (omega arith) (omega arith));
  inside = λ c l u. let e = here P.last c in omega (arith, S.inside (c + 1) (omega arith) (omega arith));
  nested = λ c d l u v w.
      let e = here P.last c in
      let f = here P.last d in
      omega (arith, S.nested (c + 1) (d + 1) (omega arith) (omega arith) (omega arith) (omega arith));
}

module _ {last : List ℕ} {a e : ℕ} (n : Nested last a e) (l : a < e) where
  pub first_end : (a < get_or last a 0) × (get_or last a 0 ≤ e)
  first_end = (n.own a (omega arith) l, n.inside a (omega arith) l)

  pub nested_first : Nested last (a + 1) (get_or last a 0)
  nested_first =
      let b = first_end in
      record {
        ordered = omega arith;
        within = omega (arith, n.within);
        own = λ c p q. n.own c (omega arith) (omega arith);
        inside = λ c p q. n.nested a c (omega arith) l (omega arith) q;
        nested = λ c d p q v w. n.nested c d (omega arith) (omega arith) v w;
      }

  pub nested_rest : Nested last (get_or last a 0) e
  nested_rest =
      let b = first_end in
      record {
        ordered = b.1;
        within = n.within;
        own = λ c p q. n.own c (omega arith) q;
        inside = λ c p q. n.inside c (omega arith) q;
        nested = λ c d p q v w. n.nested c d (omega arith) q v w;
      }

  -- a device of the first branch is no later
  pub ends_within : (c : ℕ) → a < c → c ≤ get_or last a 0 → entry last c ≤ get_or last a 0
  ends_within c p q = n.nested a (c - 1) (omega arith) l (omega arith) (omega arith)

-- ---- the forms

-- no more devices are looked for than there are
enough : (last level : List ℕ) (k j a e : ℕ) → Nested last a e → e ≤ a + k → e ≤ a + j → forest last level k a e ≡ forest last level j a e
unfolding forest
enough last level zero zero a e n h g = refl
enough last level zero (suc j) a e n h g = let t : ltb a e ≡ false = omega flags in rw t
enough last level (suc k) zero a e n h g = let t : ltb a e ≡ false = omega flags in rw t
enough last level (suc k) (suc j) a e n h g =
    by_order a e
    (λ l.
    let t : ltb a e ≡ true = omega flags in
    let b = first_end n l in
    rw (t, enough last level k j (a + 1) (get_or last a 0) (nested_first n l) (omega arith) (omega arith), enough last level k j (get_or last a 0) e (nested_rest n l) (omega arith) (omega arith)))
    (λ l. let t : ltb a e ≡ false = omega flags in rw t)

pub stretch_none : (last level : List ℕ) (a e : ℕ) → e ≤ a → stretch last level a e ≡ []
unfolding forest
stretch_none last level a e h = let z : e - a ≡ 0 = omega arith in rw z

pub stretch_more : (last level : List ℕ) (a e : ℕ) → Nested last a e → a < e →
    stretch last level a e ≡ with_number device_line (get_or level a 0) ∷ (stretch last level (a + 1) (get_or last a 0) ++ plain close_line ∷ stretch last level (get_or last a 0) e)
unfolding forest
stretch_more last level a e n l =
    let z : e - a ≡ suc (e - a - 1) = omega arith in
    let t : ltb a e ≡ true = omega flags in
    let b = first_end n l in
    rw (
      z,
      t,
      enough last level (e - a - 1) (get_or last a 0 - (a + 1)) (a + 1) (get_or last a 0) (nested_first n l) (omega arith) (omega arith),
      enough last level (e - a - 1) (e - get_or last a 0) (get_or last a 0) e (nested_rest n l) (omega arith) (omega arith),
    )

-- ---- tiers

module _ {last : List ℕ} {a e depth : ℕ} (n : Nested last a e) (k : Depth last a e depth) (l : a < e) where
  pub own_tiers : tiers last (a + 1) ≡ suc depth
  own_tiers =
      let b = first_end n l in
      let z = here last a in
      let t = k.known (a + 1) (omega arith) (omega arith) in
      let i = tally_yes (λ c. holds last c (a + 1)) a (simp tests (omega arith)) in
      i ∙ ap suc t

  pub depth_first : Depth last (a + 1) (get_or last a 0) (depth + 1)
  depth_first =
      let b = first_end n l in
      let z = here last a in
      record {
        known = λ d p q.
            let t = k.known d (omega arith) (omega arith) in
            let i = tally_yes (λ c. holds last c d) a (simp tests (omega arith)) in
            omega arith;
      }

  pub depth_rest : Depth last (get_or last a 0) e depth
  depth_rest =
      let b = first_end n l in
      record {
        known = λ d p q.
            let t = k.known d (omega arith) q in
            let z : a + (get_or last a 0 - a) ≡ get_or last a 0 = omega arith in
            let i = tally_none (λ c. holds last c d) a (get_or last a 0 - a) (λ c x y. let w = ends_within n l c x (omega arith) in simp tests (λ v. omega arith)) in
            (rw z at i) ∙ t;
      }

pub depth_none : (last : List ℕ) (e : ℕ) → Depth last 0 e 0
unfolding tally
depth_none last e = record { known = λ d p q. refl }
