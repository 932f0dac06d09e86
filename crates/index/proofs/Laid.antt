-- An index made of lists has these lists, and they lie one after another.
use Prim.Native.Nat.{ℕ, ◌+◌, ◌-◌, ◌≤◌, ◌<◌}
use mathlib.Core.Path.{◌≡◌, sym, ◌∙◌}
use mathlib.Core.Bool.{false}
use mathlib.Core.List.{List, [], ◌∷◌}
use native.Mathlib.Omega.{arith}
use lib.ListN.{length, get_or, get_or-eq_default}
use Rattle.laws.specs.Joined.{joined}
use Rattle.laws.specs.Search.{any, lowest}
use Rattle.laws.specs.Tables.{entry}
use Rattle.index.specs.Index.{Index, count, list, is_term, list_of, misplaced_term, wrong_start, most_terms, most_postings}
use Rattle.index.specs.Laid.{laid}
use Rattle.index.specs.inner.Outlined.{Outlined}
use Rattle.laws.proofs.Tests.{tests}
use Rattle.laws.proofs.Cases.{by_order, either}
use Rattle.laws.proofs.Search.{any_none, lowest_of}
use Rattle.laws.proofs.Joined.{joined_none, joined_same, joined_longer, joined_part, length_tabled, tabled_at}

none_joined : (lists : ℕ → List ℕ) (k : ℕ) → k ≡ 0 → length (joined lists k) ≡ 0
none_joined lists k e = rw (e, joined_none lists)

module _ (terms : List ℕ) (lists : ℕ → List ℕ) where
  laid_even : length (laid terms lists).starts ≡ length terms
  laid_even = length_tabled (λ k. length (joined lists (k - 1))) (length terms)

  laid_start : (k d : ℕ) → k < length terms → get_or (laid terms lists).starts k d ≡ length (joined lists k)
  laid_start k d u =
      let e : k + 1 - 1 ≡ k = omega arith in
      tabled_at (λ k. length (joined lists (k - 1))) (length terms) k d u ∙ rw e

  laid_end : (k : ℕ) → k ≤ length terms → get_or (laid terms lists).starts k (length (laid terms lists).postings) ≡ length (joined lists k)
  laid_end k u =
      let w = laid_even in
      by_order k (length terms) (λ v. laid_start k _ v)
      (λ v. let e : k ≡ length terms = omega arith in
      get_or-eq_default (laid terms lists).starts (length (laid terms lists).postings) {n = k} (omega arith) ∙ rw e)

  pub laid_list : (k : ℕ) → 1 ≤ k → k ≤ length terms → list (laid terms lists) k ≡ lists k
  laid_list k a b = rw (laid_start (k - 1) 0 (omega arith), laid_end k b) (joined_part lists (length terms) k a b)

  laid_starts : any (length terms) (wrong_start (laid terms lists)) ≡ false
  laid_starts = sym (any_none (wrong_start (laid terms lists)) {n = length terms} (λ k a b.
      let s : entry (laid terms lists).starts k ≡ length (joined lists (k - 1)) = laid_start (k - 1) 0 (omega arith) in
      let t = joined_longer lists (k - 1) (length terms) (omega arith) in
      by_order 1 k
      (λ u.
      let r : entry (laid terms lists).starts (k - 1) ≡ length (joined lists (k - 1 - 1)) = laid_start (k - 1 - 1) 0 (omega arith) in
      let w = joined_longer lists (k - 1 - 1) (k - 1) (omega arith) in
      simp tests (omega arith))
      (λ u. let e : k - 1 ≡ 0 = omega arith in let z = none_joined lists (k - 1) e in simp tests (omega arith))))

  -- where its terms rise and there are not too many of either
  pub laid_outline : length terms ≤ most_terms → any (length terms) (misplaced_term (laid terms lists)) ≡ false
      → length (joined lists (length terms)) ≤ most_postings → Outlined (laid terms lists)
  laid_outline t r p = record {
    even = laid_even;
    few_terms = t;
    few_postings = p;
    terms_rise = r;
    starts_rise = laid_starts;
    none_stray = simp tests (λ e. let z = none_joined lists (length terms) e in omega arith);
  }

-- lists that are equal, one by one
pub laid_same : (terms : List ℕ) (f g : ℕ → List ℕ) → ((k : ℕ) → 1 ≤ k → k ≤ length terms → f k ≡ g k) → laid terms f ≡ laid terms g
laid_same terms f g h =
    let a = joined_same (λ k. length (joined f (k - 1)) ∷ []) (λ k. length (joined g (k - 1)) ∷ []) (length terms)
    (λ k l u. rw (joined_same f g (k - 1) (λ i v w. h i v (omega arith)))) in
    let b = joined_same f g (length terms) h in
    rw (a, b)

-- what holds of lists, pair by pair, holds of the lists of each term
pub laid_list_of : (I : Index) (lists : ℕ → List ℕ) (R : List ℕ → List ℕ → Type 0) → ((k : ℕ) → 1 ≤ k → k ≤ count I → R (lists k) (list I k)) → R [] []
    → (t : ℕ) → R (list_of (laid I.terms lists) t) (list_of I t)
laid_list_of I lists R h none t = either (any (count I) (is_term I t))
    (λ p.
    let L = lowest_of (is_term I t) (count I) p in
    rw (p, laid_list I.terms lists (lowest (count I) (is_term I t)) L.first L.last) (h _ L.first L.last))
    (λ p. rw p none)
