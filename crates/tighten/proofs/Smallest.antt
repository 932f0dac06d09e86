-- No list with the same carriers is shorter than the tightened one.
use Prim.Native.Nat.{ℕ, zero, suc, ◌+◌, ◌-◌, ◌≤◌, max}
use mathlib.Core.Path.{◌≡◌, sym, ◌∙◌}
use mathlib.Core.Bool.{Bool, true, false, true≢false}
use mathlib.Core.List.{List, [], ◌∷◌, append-nil}
use native.Mathlib.Omega.{arith}
use lib.Dec.{leb, eqb}
use lib.ListN.{length, length-append}
use Rattle.laws.specs.Joined.{joined, chosen}
use Rattle.laws.specs.Rows.{pick}
use Rattle.laws.specs.Search.{any, lowest}
use Rattle.laws.specs.Tables.{entry}
use Rattle.laws.proofs.Tests.{tests, flags, or_yes}
use Rattle.laws.proofs.Cases.{by_order, either}
use Rattle.laws.proofs.Joined.{some, some_cons}
use Rattle.laws.proofs.Search.{any_found, lowest_of}
use Rattle.index.specs.Postings.{device, shared, reach, carries}
use Rattle.tighten.specs.Tight.{tight}
use Rattle.tighten.specs.inner.Branches.{carried}
use Rattle.plant.specs.inner.Forest.{Forest}
use Rattle.tighten.proofs.Branches.{posted, posting_at, tight_is, whole_of, posted_has, posted_outer}

-- how many entries have a key up to n
below : (ℕ → ℕ) → ℕ → List ℕ → ℕ
below key n [] = 0
below key n (q ∷ qs) = pick (leb (key q) n) 1 0 + below key n qs

below_all : (key : ℕ → ℕ) (n : ℕ) (l : List ℕ) → below key n l ≤ length l
unfolding below
below_all key n [] = omega arith
below_all key n (q ∷ qs) = let h = below_all key n qs in either (leb (key q) n) (λ e. rw e (omega arith)) (λ e. rw e (omega arith))

below_more : (key : ℕ → ℕ) (n : ℕ) (l : List ℕ) → below key n l ≤ below key (suc n) l
unfolding below
below_more key n [] = omega arith
below_more key n (q ∷ qs) =
    let h = below_more key n qs in
    by_order (key q) (suc n)
    (λ u. let a : leb (key q) n ≡ true = omega flags in let b : leb (key q) (suc n) ≡ true = omega flags in rw (a, b) (omega arith))
    (λ u. let a : leb (key q) n ≡ false = omega flags in rw a (omega arith))

-- one with key n + 1 is one more
below_one : (key : ℕ → ℕ) (n : ℕ) (l : List ℕ) → some (λ q. eqb (key q) (suc n)) l ≡ true → below key n l + 1 ≤ below key (suc n) l
unfolding below any
below_one key n [] p = absurd (true≢false (sym p))
below_one key n (q ∷ qs) p =
    let m = below_more key n qs in
    either (eqb (key q) (suc n))
    (λ e. let a : leb (key q) n ≡ false = omega flags in let b : leb (key q) (suc n) ≡ true = omega flags in rw (a, b) (omega arith))
    (λ e.
    let h = below_one key n qs ((or_yes (eqb (key q) (suc n)) _).0 (sym (some_cons (λ q. eqb (key q) (suc n)) q qs) ∙ p) e) in
    by_order (key q) (suc n)
    (λ u. let a : leb (key q) n ≡ true = omega flags in let b : leb (key q) (suc n) ≡ true = omega flags in rw (a, b) (omega arith))
    (λ u. let a : leb (key q) n ≡ false = omega flags in rw a (omega arith)))

-- numbers that are all keys of a list are no more than its entries
chosen_below : (key : ℕ → ℕ) (l : List ℕ) (p : ℕ → Bool) (x : ℕ → ℕ) (n : ℕ)
    → ((d : ℕ) → 1 ≤ d → d ≤ n → p d ≡ true → some (λ q. eqb (key q) d) l ≡ true) → length (chosen p x n) ≤ below key n l
unfolding joined
chosen_below key l p x zero h = omega arith
chosen_below key l p x (suc n) h =
    let i = chosen_below key l p x n (λ d a b. h d a (omega arith)) in
    either (p (suc n))
    (λ e. let z = below_one key n l (h (suc n) (omega arith) (omega arith) e) in rw (e, length-append (chosen p x n) (x (suc n) ∷ [])) (omega arith))
    (λ e. let z = below_more key n l in rw (e, append-nil (chosen p x n)) (omega arith))

-- the device of a posting; a shared posting of no device, 1, reads the branch of device 1
abbrev own : ℕ → ℕ
own q = max 1 (device q)

-- a posting that carries to d, and only to devices with the term, is d's own, where d has one in the tight list
is_own : {last : List ℕ} (F : Forest last) (has : ℕ → Bool) (q d : ℕ) → (1 ≤ d) × (d ≤ length last) → posted last has d ≡ true → carries last q d ≡ true
    → ((e : ℕ) → 1 ≤ e → e ≤ length last → carries last q e ≡ true → has e ≡ true) → own q ≡ d
is_own {last} F has q d r p c sound =
    let h = simp tests at c in
    by_order (own q) d
    (λ u. either (shared q)
    (λ s.
    let z : device q - 1 ≡ own q - 1 = omega arith in
    let v : reach last q ≡ entry last (own q) = rw (s, z) in
    absurd (posted_outer F has d (own q) p (omega arith) (omega arith)
    (whole_of last has (own q) (λ e a b k m. sound e a b (simp tests (omega arith))))))
    (λ s. let v : reach last q ≡ device q = rw s in absurd (omega arith)))
    (λ u. omega arith)

module _ {last : List ℕ} (F : Forest last) (has : ℕ → Bool) (l : List ℕ) (same : (d : ℕ) → 1 ≤ d → d ≤ length last → carried last l d ≡ has d) where
  -- a device with a posting in the tight list has one in the other list
  needed : (d : ℕ) → 1 ≤ d → d ≤ length last → posted last has d ≡ true → some (λ q. eqb (own q) d) l ≡ true
  needed d a b p =
      let L = lowest_of (λ i. carries last (entry l i) d) (length l) (same d a b ∙ posted_has F has d (a, b) p) in
      let i = lowest (length l) (λ i. carries last (entry l i) d) in
      let z = is_own F has (entry l i) d (a, b) p L.passes (λ e u v c.
      sym (same e u v) ∙ sym (any_found (λ i. carries last (entry l i) e) i (L.first, L.last) c)) in
      sym (any_found _ i (L.first, L.last) (simp tests z))

  pub smallest : length (tight last has) ≤ length l
  smallest = rw (tight_is last has)
      (let h = chosen_below own l (posted last has) (posting_at last has) (length last) needed in
      let m = below_all own (length last) l in omega arith)
