-- Where lists start and end, and a pass over them.
use Prim.Native.Nat.{ℕ, ◌+◌, ◌-◌, ◌≤◌, ◌<◌}
use mathlib.Core.Path.{◌≡◌, sym, ◌∙◌}
use mathlib.Core.Bool.{Bool, true, false, ◌||◌, not}
use mathlib.Core.List.{List, []}
use native.Mathlib.Omega.{arith}
use lib.Dec.{eqb}
use lib.ListN.{length, get_or, get_or-eq_default}
use Rattle.laws.specs.Search.{any}
use Rattle.laws.specs.Tables.{entry}
use Rattle.index.specs.Index.{Index, index, count, list, wrong_start, stray}
use Rattle.index.specs.inner.Outlined.{Outlined}
use Rattle.laws.proofs.Tests.{tests, agree, or_yes, or_no}
use Rattle.laws.proofs.Cases.{by_order}
use Rattle.laws.proofs.Lists.{getD_within}
use Rattle.laws.proofs.Search.{None, none_yet, none_up, none_any, any_found, any_none}
use Rattle.index.proofs.Lists.{here, previous}

-- the entry after entry k, where the table has one, whatever is read past its end
pub entry_next : (l : List ℕ) (k d : ℕ) → k < length l → get_or l k d ≡ entry l (k + 1)
entry_next l k d u = getD_within l k d 0 u ∙ sym (here (λ s. s) l k)

-- where no start is wrong, each list starts no later than it ends, and ends within the postings
pub start_bounds : (I : Index) → Outlined I → (k : ℕ) → 1 ≤ k → k ≤ count I
    → (entry I.starts k ≤ get_or I.starts k (length I.postings)) × (get_or I.starts k (length I.postings) ≤ length I.postings)
start_bounds I o k a b =
    let h = o.even in
    by_order k (count I)
    (λ v. let e = entry_next I.starts k (length I.postings) (omega arith) in
    let f = previous (λ s. s) I.starts k in
    let r = simp tests at (none_any (wrong_start I) o.starts_rise (k + 1) (omega arith) (omega arith)) in
    let w = r.0.1 (omega arith) in omega arith)
    (λ v. let e = get_or-eq_default I.starts (length I.postings) {n = k} (omega arith) in
    let r = simp tests at (none_any (wrong_start I) o.starts_rise k a b) in omega arith)

-- a pass over the starts from the last down: `next` is where the list after the k-th starts, and the later lists start in order
pub record Down (starts postings : List ℕ) (k next : ℕ) : Type 0 where
  pub within : k ≤ length starts
  pub read : next ≡ get_or starts k (length postings)
  pub below : next ≤ length postings
  pub later : (i : ℕ) → k < i → i ≤ length starts → (entry starts i ≤ get_or starts i (length postings)) × (entry starts i ≤ length postings)

pub down_start : (starts postings : List ℕ) → Down starts postings (length starts) (length postings)
down_start starts postings = record {
  within = omega arith;
  read = sym (get_or-eq_default starts (length postings) (omega arith));
  below = omega arith;
  later = λ i a b. absurd (omega arith);
}

-- whether row 7 applies; an index has as many terms as starts
abbrev pub any_wrong : List ℕ → List ℕ → Bool
any_wrong starts postings = any (length starts) (wrong_start (index [] starts postings)) || stray (index starts starts postings)

module _ {starts postings : List ℕ} {k next : ℕ} (h : Down starts postings k next) where
  wrong : (i : ℕ) → (1 ≤ i) × (i ≤ length starts) → wrong_start (index [] starts postings) i ≡ true → true ≡ any_wrong starts postings
  wrong i a p = rw (← any_found (wrong_start (index [] starts postings)) {n = length starts} i a p)

  pub down_found : (start : ℕ) → 1 ≤ k → start ≡ entry starts k → next < start → true ≡ any_wrong starts postings
  down_found start a z u =
      by_order k (length starts)
      (λ v. let e = entry_next starts k (length postings) v in
      let x = previous (λ s. s) starts k in
      wrong (k + 1) (omega arith) (simp tests (λ p. let y = p.1 (omega arith) in omega arith)))
      (λ v. let e = get_or-eq_default starts (length postings) {n = k} v in
      wrong k (omega arith) (simp tests (omega arith)))

  pub down_turn : (start : ℕ) → 1 ≤ k → start ≡ entry starts k → start ≤ next → Down starts postings (k - 1) start
  down_turn start a e u = record {
    within = omega arith;
    read = e ∙ (let x : k - 1 + 1 ≡ k = omega arith in rw x at (sym (entry_next starts (k - 1) (length postings) (omega arith))));
    below = omega arith;
    later = λ i b d. by_order k i (λ v. h.later i v d) (λ v. let x : i ≡ k = omega arith in rw x (let y = h.read in omega arith));
  }

  pub down_end : k ≡ 0 → not (eqb next 0) ≡ any_wrong starts postings
  down_end z =
      let y = rw z at h.read in
      agree _ _ (
        (λ p. let u = simp tests at p in
            by_order 0 (length starts)
            (λ v. let e = entry_next starts 0 (length postings) v in
            sym (wrong 1 (omega arith) (simp tests (omega arith))))
            (λ v. let e = get_or-eq_default starts (length postings) {n = 0} v in
            (or_yes (any (length starts) (wrong_start (index [] starts postings))) _).1 (λ q. simp tests (omega arith)))),
        λ p. let u = simp tests at p in
            (or_no (any (length starts) (wrong_start (index [] starts postings))) _).1 (
              sym (any_none _ (λ i a b.
                  let w = h.later i (omega arith) b in
                  by_order 1 i
                  (λ v. let m : i - 1 + 1 ≡ i = omega arith in
                  let e = rw m at (entry_next starts (i - 1) (length postings) (omega arith)) in
                  let o = h.later (i - 1) (omega arith) (omega arith) in simp tests (omega arith))
                  (λ v. let m : i ≡ 1 = omega arith in
                  let e = entry_next starts 0 (length postings) (omega arith) in
                  rw m (simp tests (omega arith))))),
              by_order 0 (length starts) (λ v. simp tests (omega arith))
                  (λ v. let e = get_or-eq_default starts (length postings) {n = 0} v in simp tests (omega arith)),
            ),
      )

-- a pass over the lists: none of the first k meets a test
pub record Over (test : List ℕ → Bool) (starts postings : List ℕ) (k : ℕ) : Type 0 where
  pub within : k ≤ length starts
  pub none : None (λ i. test (list (index [] starts postings) i)) 0 k

pub over_start : (test : List ℕ → Bool) (starts postings : List ℕ) → Over test starts postings 0
over_start test starts postings = record { within = omega arith; none = none_yet _ 0 }

module _ {test : List ℕ → Bool} {starts postings : List ℕ} {k : ℕ} (h : Over test starts postings k) where
  pub over_end : length starts ≤ k → false ≡ any (length starts) (λ i. test (list (index [] starts postings) i))
  over_end u = any_none _ (λ i a b. h.none i a (omega arith))

  -- the next list is l, and the test of it gives b
  module _ {l : List ℕ} {b : Bool} (u : k < length starts) (e : l ≡ list (index [] starts postings) (k + 1)) (p : b ≡ test l) where
    pub over_found : b ≡ true → true ≡ any (length starts) (λ i. test (list (index [] starts postings) i))
    over_found q = any_found _ (k + 1) (omega arith) (rw (← e) (sym p ∙ q))

    pub over_turn : b ≡ false → Over test starts postings (k + 1)
    over_turn q = record { within = omega arith; none = none_up _ h.none (rw (← e) (sym p ∙ q)) }
