-- Branches that carry a term throughout, and which devices have a posting in the tight list.
use Prim.Native.Nat.{ℕ, ◌≤◌, ◌<◌}
use mathlib.Core.Path.{◌≡◌, sym, ◌∙◌}
use mathlib.Core.Bool.{Bool, true, false, cond, ◌&&◌, not, and-true, and-false, true≢false}
use mathlib.Core.List.{List, [], ◌∷◌}
use native.Mathlib.Omega.{arith}
use lib.ListN.{length}
use Rattle.laws.specs.Joined.{chosen}
use Rattle.laws.specs.Search.{lowest}
use Rattle.laws.specs.Tables.{entry}
use Rattle.laws.proofs.Tests.{tests, flags, and_yes, refuted}
use Rattle.laws.proofs.Cases.{either}
use Rattle.laws.proofs.Joined.{joined_same}
use Rattle.laws.proofs.Search.{none_any, any_found, any_none, lowest_of}
use Rattle.plant.specs.Plant.{holds}
use Rattle.index.specs.Postings.{posting, device, shared, reach}
use Rattle.index.proofs.Lists.{device_of, shared_of, reach_of}
use Rattle.tighten.specs.Tight.{whole, inside, leaf, postings_at, tight}
use Rattle.plant.specs.inner.Forest.{Forest}

-- device d has a posting, and which: where its branch is whole, if that is not inside a larger whole one, for the branch; else if d has the term
abbrev pub posted : List ℕ → (ℕ → Bool) → ℕ → Bool
posted last has d = cond (whole last has d) (not (inside last has d)) (has d)

abbrev pub posting_at : List ℕ → (ℕ → Bool) → ℕ → ℕ
posting_at last has d = posting d (whole last has d && not (leaf last d))

module _ (last : List ℕ) (has : ℕ → Bool) where
  at_device : (d : ℕ) → postings_at last has d ≡ cond (posted last has d) (posting_at last has d ∷ []) []
  at_device d = either (whole last has d) (λ e. rw (e, and-false (has d))) (λ e. rw (e, and-true (has d)))

  -- a device with a posting, and one without
  pub at_posted : (d : ℕ) → posted last has d ≡ true → postings_at last has d ≡ posting_at last has d ∷ []
  at_posted d p = at_device d ∙ rw p

  pub at_none : (d : ℕ) → posted last has d ≡ false → postings_at last has d ≡ []
  at_none d p = at_device d ∙ rw p

  pub tight_is : tight last has ≡ chosen (posted last has) (posting_at last has) (length last)
  tight_is = joined_same _ _ (length last) (λ d a b. at_device d)

  pub posting_device : (d : ℕ) → device (posting_at last has d) ≡ d
  posting_device d = device_of d (whole last has d && not (leaf last d))

  pub reach_whole : (d : ℕ) → whole last has d ≡ true → reach last (posting_at last has d) ≡ entry last d
  reach_whole d e = reach_of last d (whole last has d && not (leaf last d))
      ∙ rw e (either (leaf last d) (λ f. let z : entry last d ≡ d = omega flags in rw f (sym z)) (λ f. rw f))

  pub reach_alone : (d : ℕ) → whole last has d ≡ false → reach last (posting_at last has d) ≡ d
  reach_alone d e = reach_of last d (whole last has d && not (leaf last d)) ∙ rw e

  pub posting_shared : (d : ℕ) → shared (posting_at last has d) ≡ true → whole last has d ≡ true
  posting_shared d p = ((and_yes (whole last has d) (not (leaf last d))).0 (sym (shared_of d (whole last has d && not (leaf last d))) ∙ p)).0

  -- a branch is whole where each of its devices has the term
  pub whole_has : {d : ℕ} (e : ℕ) → whole last has d ≡ true → (1 ≤ e) × (e ≤ length last) → (d ≤ e) × (e ≤ entry last d) → has e ≡ true
  unfolding whole
  whole_has {d} e p r h = let n = simp tests at p in (simp tests at (none_any _ n e (omega arith) (omega arith))) (omega arith)

  pub whole_of : (d : ℕ) → ((e : ℕ) → 1 ≤ e → e ≤ length last → d ≤ e → e ≤ entry last d → has e ≡ true) → whole last has d ≡ true
  unfolding whole
  whole_of d h = simp tests (sym (any_none _ (λ e l u. simp tests (λ p. h e (omega arith) u (omega arith) (omega arith)))))

  inside_of : (d e : ℕ) → (1 ≤ e) × (e ≤ length last) → (e < d) × (d ≤ entry last e) → whole last has e ≡ true → inside last has d ≡ true
  unfolding inside
  inside_of d e r h p = sym (any_found _ e r (simp tests (omega arith, p)))

  pub inside_none : (d : ℕ) → ((e : ℕ) → 1 ≤ e → e ≤ length last → e < d → d ≤ entry last e → whole last has e ≡ true → ⊥) → inside last has d ≡ false
  unfolding inside
  inside_none d h = sym (any_none _ (λ e l u. refuted _ (λ p. let q = simp tests at p in h e l u (omega arith) (omega arith) q.1)))

-- e is a device with a posting whose reach takes in d
pub record Covers (last : List ℕ) (has : ℕ → Bool) (d e : ℕ) : Type 0 where
  pub first : 1 ≤ e
  pub upto : e ≤ d
  pub is : posted last has e ≡ true
  pub reaches : d ≤ reach last (posting_at last has e)

module _ {last : List ℕ} (F : Forest last) (has : ℕ → Bool) where
  pub whole_own : (d : ℕ) → (1 ≤ d) × (d ≤ length last) → whole last has d ≡ true → has d ≡ true
  whole_own d r p = whole_has last has d p r (omega arith, F.own d r.0 r.1)

  -- a device with a posting has the term
  pub posted_has : (d : ℕ) → (1 ≤ d) × (d ≤ length last) → posted last has d ≡ true → has d ≡ true
  posted_has d r p = either (whole last has d) (λ e. whole_own d r e) (λ e. rw e at p)

  -- the branches inside a whole one are whole
  whole_in : (d e : ℕ) → (1 ≤ e) × (e ≤ length last) → (e ≤ d) × (d ≤ entry last e) → whole last has e ≡ true → whole last has d ≡ true
  whole_in d e r h p = whole_of last has d (λ x a b c u. whole_has last has x p (a, b) (omega arith, omega (arith, F.nested e d r.0 r.1 h.0 h.1)))

  -- a device in the branch of another, which is whole, has none
  pub posted_outer : (d e : ℕ) → posted last has d ≡ true → (1 ≤ e) × (e ≤ length last) → (e < d) × (d ≤ entry last e) → whole last has e ≡ true → ⊥
  posted_outer d e p r h q =
      let w = whole_in d e r (omega arith, h.1) q in
      let i = inside_of last has d e r h q in
      true≢false (sym (rw (w, i) at p))

  -- a device that has the term is covered: by the largest whole branch that holds it, else by itself
  pub covered : (d : ℕ) → (1 ≤ d) × (d ≤ length last) → has d ≡ true → (e : ℕ) × Covers last has d e
  covered d r p = either (whole last has d) largest (λ w. (
    d,
    record {
      first = r.0;
      upto = omega arith;
      is = rw w p;
      reaches = omega (arith, reach_alone last has d w);
    },
  ))
    where
      largest : whole last has d ≡ true → (e : ℕ) × Covers last has d e
      largest w =
          let L = lowest_of (λ e. holds last e d && whole last has e) d (sym (any_found _ d (r.0, omega arith) (simp tests ((omega arith, F.own d r.0 r.1), w)))) in
          let e = lowest d (λ e. holds last e d && whole last has e) in
          let h = simp tests at L.passes in
          let none = inside_none last has e (λ x a b u v q.
          let n = F.nested x e a b (omega arith) v in
          let z = simp tests at (L.least x a u) in
          true≢false (sym q ∙ z (omega arith))) in (
            e,
            record {
              first = L.first;
              upto = L.last;
              is = rw h.1 (simp tests none);
              reaches = omega (arith, reach_whole last has e h.1);
            },
          )

  -- a device without the term has no posting
  pub lacks_none : (d : ℕ) → (1 ≤ d) × (d ≤ length last) → has d ≡ false → posted last has d ≡ false
  lacks_none d r p = refuted _ (λ q. true≢false (sym (posted_has d r q) ∙ p))
