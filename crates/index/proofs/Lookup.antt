-- The lookup of a term: what the search by halves says of terms that rise, and which list comes of it.
use Prim.Native.Nat.{ℕ, ◌+◌, ◌-◌, ◌≤◌, ◌<◌}
use native.Mathlib.Omega.{arith}
use mathlib.Core.Path.{◌≡◌, sym, ◌∙◌}
use mathlib.Core.Bool.{false}
use mathlib.Core.List.{List}
use lib.Dec.{eqb}
use lib.ListN.{length, get_or}
use lib.Seq.{slice}
use Rattle.std.specs.declared.cmp.Ordering.TheVariants.{Equal}
use Rattle.std.proofs.Common.{Err}
use Rattle.std.specs.List.{HoldsAt}
use Rattle.std.specs.List.Sorted.{IsBinarySearchResult}
use Rattle.std.specs.Ordering.{nat_cmp}
use Rattle.std.proofs.lemmas.Bool.Decides.{nat_tests}
use Rattle.std.proofs.lemmas.List.Sorted.{searched}
use Rattle.laws.specs.Limits.{highest_term}
use Rattle.laws.specs.Search.{any}
use Rattle.index.specs.Index.{Index, count, list, is_term, list_of, misplaced_term}
use Rattle.index.specs.Lookup.{Numbered, Looked}
use Rattle.laws.proofs.Tests.{tests}
use Rattle.laws.proofs.Cases.{by_order}
use Rattle.laws.proofs.Search.{any_found, any_none, lowest_is}
use Rattle.index.proofs.Lists.{rises, not_falling}

module _ {terms : List ℕ} {t i : ℕ} where
  -- the term at index i is the one looked for
  pub number_found : i < length terms → HoldsAt (λ y. nat_cmp y t ≡ Equal) terms i → Numbered terms t (i + 1)
  number_found h p =
      let e : i + 1 - 1 ≡ i = omega arith in
      let q : get_or terms i 0 ≡ t = grind (arith, nat_tests, p 0) in
      record { within = omega arith; named = λ _. rw e q; none = λ _ z. absurd (omega arith) }

  -- none is, where the terms before i are below it and the others above
  pub number_none : IsBinarySearchResult (λ y. nat_cmp y t) terms (Err i) → Numbered terms t 0
  number_none r = record {
    within = omega arith;
    named = λ h. absurd (omega arith);
    none = λ sound _.
        let s = searched terms t (Err i) r (not_falling highest_term (λ t. t) terms sound) in
        sym (any_none _ (λ k l u. simp tests (λ p.
        by_order (k - 1) i
        (λ v. let h = s.1 (k - 1) v in omega arith)
        (λ v. let h = s.2 (k - 1) v (omega arith) in omega arith))));
  }

-- in terms that rise, the number is the only one of its term
only : (I : Index) {t number : ℕ} → Numbered I.terms t number → any (count I) (misplaced_term I) ≡ false → 1 ≤ number → list_of I t ≡ list I number
only I {t} {number} n sound h =
    let p = n.named h in
    let q = any_found (is_term I t) number (h, n.within) (simp tests (omega arith)) in
    let w = lowest_is (is_term I t) (h, n.within) (simp tests (omega arith))
    (λ k l u. simp tests (λ e. let r = rises highest_term (λ t. t) I.terms sound k number (omega arith) (omega arith) n.within in omega arith)) in
    rw (← q, w)

module _ {I : Index} {t number : ℕ} (n : Numbered I.terms t number) where
  pub looked_none : {r : List ℕ} → number ≡ 0 → r ≡ slice 0 0 I.postings → Looked I t r
  looked_none z p = record { sound = λ s. rw (n.none s z) p; number = number; numbered = n; part = rw z p }

  pub looked_some : {r : List ℕ} → (number ≡ 0 → ⊥) → r ≡ list I number → Looked I t r
  looked_some {r} z e =
      let f : eqb number 0 ≡ false = simp tests z in
      record { sound = λ s. e ∙ sym (only I n s (omega arith)); number = number; numbered = n; part = rw f e }
