-- The first posting of a tight list, and what comes after it.
use Prim.Native.Nat.{ℕ, ◌+◌, ◌-◌, ◌≤◌, ◌<◌}
use mathlib.Core.Path.{◌≡◌, sym, ◌∙◌, ap}
use mathlib.Core.Bool.{Bool, true, false, ◌&&◌, not, true≢false}
use mathlib.Core.List.{List, [], ◌∷◌}
use native.Mathlib.Omega.{arith}
use lib.Dec.{eqb}
use lib.ListN.{length}
use Rattle.laws.specs.Joined.{joined}
use Rattle.laws.specs.Tables.{entry}
use Rattle.laws.proofs.Tests.{tests, refuted}
use Rattle.laws.proofs.Cases.{by_order, either}
use Rattle.laws.proofs.Joined.{any_same, joined_same, joined_last, joined_still, joined_upto}
use Rattle.plant.specs.Plant.{holds}
use Rattle.tighten.specs.Tight.{whole, inside, postings_at, tight}
use Rattle.plant.specs.inner.Forest.{Forest}
use Rattle.tighten.proofs.Branches.{posted, posting_at, at_posted, at_none, inside_none, whole_own, posted_outer, lacks_none}

-- beyond device m two terms have the same carriers, and no whole branch of either goes from m or before on past m
module _ (last : List ℕ) (has has' : ℕ → Bool) (m : ℕ) (same : (e : ℕ) → m < e → has e ≡ has' e) where
  whole_same : (e : ℕ) → m < e → whole last has e ≡ whole last has' e
  unfolding whole
  whole_same e u = ap not (any_same _ _ (length last) (λ x a b. by_order m x
      (λ v. rw (same x v))
      (λ v. let z : holds last e x ≡ false = simp tests (omega arith) in rw z)))

  module _ (ends : (x : ℕ) → 1 ≤ x → x ≤ m → x ≤ length last → whole last has x ≡ true → entry last x ≤ m)
      (ends' : (x : ℕ) → 1 ≤ x → x ≤ m → x ≤ length last → whole last has' x ≡ true → entry last x ≤ m) where
    inside_same : (e : ℕ) → m < e → inside last has e ≡ inside last has' e
    unfolding inside
    inside_same e u = any_same _ _ (length last) (λ x a b. by_order m x
        (λ v. rw (whole_same x v))
        (λ v.
        let p : not (eqb x e) && holds last x e && whole last has x ≡ false =
        refuted _ (λ q. let t = simp tests at q in let z = ends x a v b t.1 in omega arith) in
        let p' : not (eqb x e) && holds last x e && whole last has' x ≡ false =
        refuted _ (λ q. let t = simp tests at q in let z = ends' x a v b t.1 in omega arith) in
        p ∙ sym p'))

    at_same : (e : ℕ) → m < e → postings_at last has e ≡ postings_at last has' e
    at_same e u = rw (whole_same e u, inside_same e u, same e u)

-- devices before d and d itself: none has the term but d, and those of its branch, up to m, where that is whole; beyond m, what `rest` has
pub record Front (last : List ℕ) (has rest : ℕ → Bool) (d m : ℕ) : Type 0 where
  pub first : 1 ≤ d
  pub upto : d ≤ length last
  pub lower : (e : ℕ) → e < d → has e ≡ false
  pub own : has d ≡ true
  pub all : whole last has d ≡ true → m ≡ entry last d
  pub alone : whole last has d ≡ false → m ≡ d
  pub later : (e : ℕ) → rest e ≡ true → m < e
  pub beyond : (e : ℕ) → m < e → has e ≡ rest e

module _ {last : List ℕ} (F : Forest last) {has rest : ℕ → Bool} {d m : ℕ} (s : Front last has rest d m) where
  reached : (d ≤ m) × (m ≤ length last)
  reached = either (whole last has d)
      (λ w. let e = s.all w in omega (arith, F.own d s.first s.upto, F.inner d s.first s.upto))
      (λ w. let e = s.alone w in let u = s.upto in omega arith)

  -- no whole branch goes from m or before on past m
  ends : (x : ℕ) → 1 ≤ x → x ≤ m → x ≤ length last → whole last has x ≡ true → entry last x ≤ m
  ends x a b c w =
      by_order x d (λ u. absurd (true≢false (sym (whole_own F has x (a, c) w) ∙ s.lower x u)))
      (λ u. either (whole last has d)
      (λ v. let e = s.all v in omega (arith, F.nested d x s.first s.upto u (omega arith)))
      (λ v. let e = s.alone v in let z : x ≡ d = omega arith in absurd (true≢false (sym (rw z at w) ∙ v))))

  at_beyond : (e : ℕ) → m < e → postings_at last has e ≡ postings_at last rest e
  at_beyond = at_same last has rest m s.beyond ends (λ x a b c w. let l = s.later x (whole_own F rest x (a, c) w) in absurd (omega arith))

  -- d has a posting, before d and from d to m there is none, and up to m none of the rest
  own_posted : posted last has d ≡ true
  own_posted = either (whole last has d)
      (λ w. rw (w, inside_none last has d (λ e a b u v q. true≢false (sym (whole_own F has e (a, b) q) ∙ s.lower e u))))
      (λ w. rw w s.own)

  none_between : (e : ℕ) → d < e → e ≤ m → postings_at last has e ≡ []
  none_between e u v = at_none last has e (refuted _ (λ p. either (whole last has d)
      (λ w. let z = s.all w in posted_outer F has e d p (s.first, s.upto) (u, omega arith) w)
      (λ w. let z = s.alone w in omega arith)))

  none_lower : (e : ℕ) → 0 < e → e ≤ d - 1 → postings_at last has e ≡ []
  none_lower e u v = at_none last has e (lacks_none F has e (u, omega (arith, s.upto)) (s.lower e (omega arith)))

  none_rest : (e : ℕ) → 0 < e → e ≤ m → postings_at last rest e ≡ []
  none_rest e u v = at_none last rest e (lacks_none F rest e (u, omega (arith, reached)) (refuted _ (λ p. omega (arith, s.later e p))))

  front : joined (postings_at last has) m ≡ posting_at last has d ∷ []
  unfolding joined
  front =
      let l = s.first in
      let r = reached in
      joined_still (postings_at last has) d m r.0 none_between
      ∙ joined_last (postings_at last has) d l
      ∙ rw (at_posted last has d own_posted, joined_still (postings_at last has) 0 (d - 1) (omega arith) none_lower)

  -- so the tight list is d's posting, and then the tight list of the rest
  pub leading : tight last has ≡ posting_at last has d ∷ tight last rest
  unfolding joined
  leading =
      let r = reached in
      joined_upto (postings_at last has) m (length last) r.1
      ∙ rw (
        front,
        joined_same (λ e. postings_at last has (m + e)) (λ e. postings_at last rest (m + e)) (length last - m) (λ e a b. at_beyond (m + e) (omega arith)),
        joined_upto (postings_at last rest) m (length last) r.1,
        joined_still (postings_at last rest) 0 m (omega arith) none_rest,
      )
