-- Tables whose keys rise, and lists of postings with none redundant.
use Prim.Native.Nat.{ℕ, zero, suc, ◌+◌, ◌-◌, ◌*◌, ◌%◌, ◌≤◌, ◌<◌}
use mathlib.Core.Path.{◌≡◌, refl, sym, ◌∙◌}
use mathlib.Core.Bool.{Bool, true, false, cond, ◌&&◌}
use mathlib.Core.List.{List}
use native.Mathlib.Omega.{arith}
use borrow.Author.Tests.{lt-leb}
use lib.Dec.{leb}
use lib.ListN.{length, get_or}
use Rattle.laws.specs.Joined.{chosen}
use Rattle.laws.specs.Search.{any}
use Rattle.laws.specs.Tables.{entry}
use Rattle.index.specs.Postings.{posting, device, shared, reach, misplaced, shadowed, redundant}
use Rattle.laws.proofs.Tests.{tests, agree}
use Rattle.laws.proofs.Cases.{by_order, either}
use Rattle.laws.proofs.Joined.{chosen_each, chosen_pairs}
use Rattle.laws.proofs.Search.{None, none_yet, none_up, none_any, any_found, any_none}

-- a pass over a table: before is the key of entry k, or 0 where k is 0, and no entry so far has met the test
pub record Pass (test : ℕ → Bool) (key : ℕ → ℕ) (l : List ℕ) (k before : ℕ) : Type 0 where
  pub within : k ≤ length l
  pub first : k ≡ 0 → before ≡ 0
  pub later : 1 ≤ k → before ≡ key (entry l k)
  pub none : None test 0 k

-- index k holds entry k + 1, and before that stands entry k
pub here : (key : ℕ → ℕ) (l : List ℕ) (k : ℕ) → key (entry l (k + 1)) ≡ key (get_or l k 0)
here key l k = let e : k + 1 - 1 ≡ k = omega arith in rw e

pub previous : (key : ℕ → ℕ) (l : List ℕ) (k : ℕ) → key (entry l (k + 1 - 1)) ≡ key (entry l k)
previous key l k = let e : k + 1 - 1 ≡ k = omega arith in rw e

pub pass_start : (test : ℕ → Bool) (key : ℕ → ℕ) (l : List ℕ) → Pass test key l 0 0
pass_start test key l = record { within = omega arith; first = λ e. refl; later = λ v. absurd (omega arith); none = none_yet test 0 }

module _ {test : ℕ → Bool} {key : ℕ → ℕ} {l : List ℕ} {k before : ℕ} (h : Pass test key l k before) where
  pub pass_found : k < length l → test (k + 1) ≡ true → true ≡ any (length l) test
  pass_found u p = any_found test (k + 1) (omega arith) p

  pub pass_turn : (x : ℕ) → k < length l → x ≡ key (get_or l k 0) → test (k + 1) ≡ false → Pass test key l (k + 1) x
  pass_turn x u e p = record { within = omega arith; first = λ e. absurd (omega arith); later = λ v. e ∙ sym (here key l k); none = none_up test h.none p }

  pub pass_end : length l ≤ k → false ≡ any (length l) test
  pass_end u = any_none test (λ i a b. h.none i a (omega arith))

-- the next entry of a pass, tested against what the pass remembers
module _ {test : ℕ → Bool} (most : ℕ) {key : ℕ → ℕ} {l : List ℕ} {k before : ℕ} (h : Pass test key l k before) where
  pub misplaced_low : key (get_or l k 0) ≤ before → misplaced most key l (k + 1) ≡ true
  misplaced_low u =
      let w = previous key l k in
      let z = here key l k in
      by_order 0 k (λ v. let e = h.later v in simp tests (omega arith)) (λ v. let e = h.first (omega arith) in simp tests (omega arith))

  pub placed : before < key (get_or l k 0) → key (get_or l k 0) ≤ most → misplaced most key l (k + 1) ≡ false
  placed u v =
      let w = previous key l k in
      let z = here key l k in
      by_order 0 k (λ a. let e = h.later a in simp tests (omega arith)) (λ a. let e = h.first (omega arith) in simp tests (omega arith))

-- a table whose keys rise
module _ (most : ℕ) (key : ℕ → ℕ) (l : List ℕ) (sound : any (length l) (misplaced most key l) ≡ false) where
  -- each key is in range
  pub ranged : (k : ℕ) → 1 ≤ k → k ≤ length l → (1 ≤ key (entry l k)) × (key (entry l k) ≤ most)
  ranged k a b = let h = simp tests at (none_any _ sound k a b) in omega arith

  rises_next : (k : ℕ) → 1 ≤ k → k + 1 ≤ length l → key (entry l k) < key (entry l (k + 1))
  rises_next k a b =
      let w = previous key l k in
      let h = (simp tests at (none_any _ sound (k + 1) (omega arith) b)).1 (omega arith) in omega arith

  rises_by : (i m : ℕ) → 1 ≤ i → i + m + 1 ≤ length l → key (entry l i) < key (entry l (i + m + 1))
  rises_by i zero a b = let e : i + 0 ≡ i = omega arith in rw e (rises_next i a (omega arith))
  rises_by i (suc m) a b =
      let e : i + suc m ≡ i + m + 1 = omega arith in
      let h = rises_by i m a (omega arith) in
      let k = rises_next (i + m + 1) (omega arith) (omega arith) in
      rw e (omega arith)

  -- keys rise strictly
  pub rises : (i k : ℕ) → 1 ≤ i → i < k → k ≤ length l → key (entry l i) < key (entry l k)
  rises i k a b d = let e : k ≡ i + (k - i - 1) + 1 = omega arith in rw e (rises_by i (k - i - 1) a (omega arith))

  -- so by index they do not fall
  pub not_falling : (j k : ℕ) → j ≤ k → k < length l → key (get_or l j 0) ≤ key (get_or l k 0)
  not_falling j k a b =
      let e = here key l j in
      let f = here key l k in
      by_order j k (λ v. let r = rises (j + 1) (k + 1) (omega arith) (omega arith) (omega arith) in omega arith)
      (λ v. let z : j ≡ k = omega arith in rw z (omega arith))

-- where devices rise and none of the first k postings is redundant, of these only the last can have a later device in its branch
module _ (last l : List ℕ) (n : ℕ) (sound : any (length l) (misplaced n device l) ≡ false) (k e : ℕ) (none : None (redundant last l) 0 k) where
  shadow : (1 ≤ k) × (k ≤ length l) → device (entry l k) < e → ((i : ℕ) → k < i → i ≤ length l → e ≤ device (entry l i))
      → shadowed last l e ≡ (shared (entry l k) && leb e (entry last (device (entry l k))))
  shadow r u later = sym (agree _ _ (
    (λ p. let t = simp tests at p in sym (any_found _ k r (simp tests (omega arith)))),
    λ p. let t = simp tests at p in sym (any_none _ (λ i a b.
        by_order k i (λ v. let z = later i v b in simp tests (λ q. absurd (omega arith)))
        (λ v. by_order i k
        (λ w. simp tests (λ q.
        let x = rises n device l sound i k a w (omega arith) in
        let z = (simp tests at (none_any _ (none k (omega arith) (omega arith)) i a b)) (q.0, x) in omega arith))
        (λ w. let z : i ≡ k = omega arith in rw z (simp tests (λ q. t q.0)))))),
  ))

-- the posting of a device: "2 times the device, plus 1 if it is for the whole branch"
pub device_of : (d : ℕ) (whole : Bool) → device (posting d whole) ≡ d
device_of d true = omega arith
device_of d false = omega arith

pub shared_of : (d : ℕ) (whole : Bool) → shared (posting d whole) ≡ whole
shared_of d true = let e : (2 * d + 1) % 2 ≡ 1 = omega arith in rw e
shared_of d false = let e : (2 * d) % 2 ≡ 0 = omega arith in rw e

pub reach_of : (last : List ℕ) (d : ℕ) (whole : Bool) → reach last (posting d whole) ≡ cond whole (entry last d) d
reach_of last d whole = rw (shared_of d whole, device_of d whole)

-- the reach of a posting, by where the branch of its device ends
pub reach_at : (last : List ℕ) (q : ℕ) {d end r : ℕ} → d ≡ device q → end ≡ get_or last (d - 1) 0 → r ≡ cond (shared q) end (device q) → r ≡ reach last q
reach_at last q e f g = g ∙ rw (f, e)

-- a later device lies in the branch of a shared posting exactly where it is within the posting's reach
pub reaches : (last : List ℕ) (q e : ℕ) → device q < e → (shared q && leb e (entry last (device q))) ≡ leb e (reach last q)
reaches last q e u = either (shared q) (λ p. rw p) (λ p. rw p (sym (lt-leb e (device q) u)))

module _ (last l : List ℕ) (n : ℕ) (sound : any (length l) (misplaced n device l) ≡ false) where
  -- where none is redundant, the last posting alone tells whether a device after it would be
  pub shadowed_last : (e : ℕ) → any (length l) (redundant last l) ≡ false → 1 ≤ length l → device (entry l (length l)) < e
      → shadowed last l e ≡ (shared (entry l (length l)) && leb e (entry last (device (entry l (length l)))))
  shadowed_last e p a u = shadow last l n sound (length l) e (none_any _ p) (a, omega arith) u (λ i v w. absurd (omega arith))

-- values that are chosen in order, whose keys are in range and rise, make a table whose keys rise
pub chosen_placed : (most : ℕ) (key : ℕ → ℕ) (test : ℕ → Bool) (value : ℕ → ℕ) (n : ℕ)
    → ((k : ℕ) → 1 ≤ k → k ≤ n → test k ≡ true → (1 ≤ key (value k)) × (key (value k) ≤ most))
    → ((i k : ℕ) → 1 ≤ i → i < k → k ≤ n → test i ≡ true → test k ≡ true → key (value i) < key (value k))
    → any (length (chosen test value n)) (misplaced most key (chosen test value n)) ≡ false
chosen_placed most key test value n range rise = sym (any_none _ (λ k a b.
    let r = chosen_each test value (λ x. (1 ≤ key x) × (key x ≤ most)) n range k a b in
    by_order 1 k
    (λ v. let s = chosen_pairs test value (λ x y. key x < key y) n rise (k - 1) k (omega arith) (omega arith) b in simp tests (omega arith))
    (λ v. simp tests (omega arith))))
