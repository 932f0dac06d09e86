-- Postings that lie apart: what they carry, and runs of devices that carry the term.
use Prim.Native.Nat.{ℕ, ◌+◌, ◌-◌, ◌≤◌, ◌<◌}
use mathlib.Core.Path.{◌≡◌, sym, ◌∙◌, ap}
use mathlib.Core.Bool.{true, false}
use mathlib.Core.List.{List}
use native.Mathlib.Omega.{arith}
use lib.ListN.{length, get_or, take, drop, length-drop, take-append-drop}
use lib.Seq.{get_or-take, get_or-drop, length-take-le}
use Rattle.laws.specs.Search.{lowest}
use Rattle.laws.specs.Tables.{entry}
use Rattle.laws.proofs.Tests.{tests, refuted}
use Rattle.laws.proofs.Cases.{by_order, either}
use Rattle.laws.proofs.Joined.{some_append}
use Rattle.laws.proofs.Search.{none_any, any_found, lowest_of}
use Rattle.index.specs.Postings.{device, shared, reach, carries}
use Rattle.index.specs.inner.Lists.{SoundList}
use Rattle.index.proofs.Lists.{here, rises}
use Rattle.index.proofs.Accepted.{sound_device}
use Rattle.tighten.specs.inner.Branches.{carried}
use Rattle.plant.specs.inner.Forest.{Forest}
use Rattle.tighten.specs.inner.List.{Apart, RunsTo, Known}

-- the postings of a sound list do
pub sound_apart : {last l : List ℕ} → SoundList last l → Apart last l
sound_apart {last} {l} S = record {
  of_plant = sound_device S;
  beyond = λ i k u v.
      let e = here device l i in
      let f = here device l k in
      let r = rises (length last) device l S.placed (i + 1) (k + 1) (omega arith) (omega arith) (omega arith) in
      let n = simp tests at (none_any _ (none_any _ S.single (k + 1) (omega arith) (omega arith)) (i + 1) (omega arith) (omega arith)) in
      let g = here (reach last) l i in
      either (shared (entry l (i + 1)))
      (λ s. let z : reach last (entry l (i + 1)) ≡ entry last (device (entry l (i + 1))) = rw s in let y = n (simp tests at s, r) in omega arith)
      (λ s. let z : reach last (entry l (i + 1)) ≡ device (entry l (i + 1)) = rw s in omega arith);
}

pub apart_drop : {last l : List ℕ} → Apart last l → (n : ℕ) → Apart last (drop n l)
apart_drop {last} {l} A n = let m = length-drop n l in record {
  of_plant = λ k u. rw (get_or-drop n l k 0) (A.of_plant (n + k) (omega arith));
  beyond = λ i k u v. rw (get_or-drop n l i 0, get_or-drop n l k 0) (A.beyond (n + i) (n + k) (omega arith) (omega arith));
}

module _ {last l : List ℕ} (F : Forest last) (A : Apart last l) where
  -- a posting reaches its own device
  pub own_reach : (k : ℕ) → k < length l → device (get_or l k 0) ≤ reach last (get_or l k 0)
  own_reach k u =
      let d = A.of_plant k u in
      either (shared (get_or l k 0))
      (λ s. let z : reach last (get_or l k 0) ≡ entry last (device (get_or l k 0)) = rw s in omega (arith, F.own (device (get_or l k 0)) d.first d.last))
      (λ s. let z : reach last (get_or l k 0) ≡ device (get_or l k 0) = rw s in omega arith)

  pub carries_at : (k d : ℕ) → k < length l → device (get_or l k 0) ≤ d → d ≤ reach last (get_or l k 0) → carried last l d ≡ true
  carries_at k d u a b =
      let e = here device l k in
      let f = here (reach last) l k in
      sym (any_found (λ i. carries last (entry l i) d) (k + 1) (omega arith) (simp tests (omega arith)))

  -- a device that carries the term, and the index of a posting that carries to it
  carrier : (d : ℕ) → carried last l d ≡ true → (k : ℕ) × (k < length l) × (device (get_or l k 0) ≤ d) × (d ≤ reach last (get_or l k 0))
  carrier d p =
      let L = lowest_of (λ i. carries last (entry l i) d) (length l) p in
      let i = lowest (length l) (λ i. carries last (entry l i) d) in
      let h = simp tests at L.passes in
      let a = L.first in
      let b = L.last in
      (i - 1, omega arith, h.0, h.1)

  -- nothing is carried to between the reach of a posting and the next posting's device
  pub between : (k d : ℕ) → k < length l → reach last (get_or l k 0) < d → (k + 1 < length l → d < device (get_or l (k + 1) 0)) → carried last l d ≡ false
  between k d u a b = refuted _ (λ p.
      let c = carrier d p in
      let i = c.0 in
      let v = c.1 in
      let low = c.2 in
      let high = c.3 in
      by_order k i
      (λ w. let n = b (omega arith) in
      by_order (k + 1) i (λ x. let y = A.beyond (k + 1) i x v in let z = own_reach (k + 1) (omega arith) in omega arith)
      (λ x. let e : i ≡ k + 1 = omega arith in let z = ap (λ j. device (get_or l j 0)) e in omega arith))
      (λ w. by_order i k (λ x. let y = A.beyond i k x u in let z = own_reach k u in omega arith)
      (λ x. let e : i ≡ k = omega arith in let z = ap (λ j. reach last (get_or l j 0)) e in omega arith)))

  -- nor before the first one
  pub before : (d : ℕ) → d < device (get_or l 0 0) → carried last l d ≡ false
  before d u = refuted _ (λ p.
      let c = carrier d p in
      let i = c.0 in
      let v = c.1 in
      let low = c.2 in
      let high = c.3 in
      by_order 0 i (λ x. let y = A.beyond 0 i x v in let z = own_reach 0 (omega arith) in omega arith)
      (λ x. let e : i ≡ 0 = omega arith in let z = ap (λ j. device (get_or l j 0)) e in omega arith))

-- ---- the postings after the first n

module _ {last l : List ℕ} (F : Forest last) (A : Apart last l) (n : ℕ) (a : 1 ≤ n) (b : n ≤ length l) where
  -- they carry to devices beyond those before them
  pub rest_later : (d : ℕ) → carried last (drop n l) d ≡ true → reach last (get_or l (n - 1) 0) < d
  rest_later d p =
      let c = carrier F (apart_drop A n) d p in
      let i = c.0 in
      let v = c.1 in
      let low = c.2 in
      let high = c.3 in
      let m = length-drop n l in
      let e = ap device (get_or-drop n l i 0) in
      let y = A.beyond (n - 1) (n + i) (omega arith) (omega arith) in
      omega arith

  -- and there they carry what the list carries
  pub rest_beyond : (d : ℕ) → reach last (get_or l (n - 1) 0) < d → carried last l d ≡ carried last (drop n l) d
  rest_beyond d u =
      let t = length-take-le n l b in
      let none : carried last (take n l) d ≡ false = refuted _ (λ p.
      let L = lowest_of (λ i. carries last (entry (take n l) i) d) (length (take n l)) p in
      let i = lowest (length (take n l)) (λ i. carries last (entry (take n l) i) d) in
      let h = simp tests at L.passes in
      let x = L.first in
      let y = L.last in
      let e = ap (reach last) (get_or-take n l (i - 1) 0 (omega arith)) in
      by_order (i - 1) (n - 1) (λ w. let q = A.beyond (i - 1) (n - 1) w (omega arith) in let z = own_reach F A (n - 1) (omega arith) in omega arith)
      (λ w. let f : i - 1 ≡ n - 1 = omega arith in let z = ap (λ j. reach last (get_or l j 0)) f in omega arith)) in
      ap (λ k. carried last k d) (sym (take-append-drop n l)) ∙ some_append (λ q. carries last q d) (take n l) (drop n l) ∙ rw none

  -- what is known of a run stays known
  pub rest_known : {until : ℕ} → (device (get_or l 0 0) ≤ until → RunsTo last l until) → Known last (drop n l) until
  rest_known {until} h = record {
    runs = λ w u.
        let m = length-drop n l in
        let e : n + 0 ≡ n = omega arith in
        let f : device (get_or (drop n l) 0 0) ≡ device (get_or l n 0) = ap device (get_or-drop n l 0 0 ∙ rw e) in
        let y = A.beyond 0 n a (omega arith) in
        let z = own_reach F A 0 (omega arith) in
        let g = A.beyond (n - 1) n (omega arith) (omega arith) in
        let R = h (omega arith) in
        record {
          first = u;
          all = λ d c v. sym (rest_beyond d (omega arith)) ∙ R.all d (omega arith) v;
          stop = sym (rest_beyond (until + 1) (omega arith)) ∙ R.stop;
        };
  }

  -- of a run that ends with the first n nothing is to be known
  pub past_known : {until : ℕ} → until ≡ reach last (get_or l (n - 1) 0) → Known last (drop n l) until
  past_known {until} e = record {
    runs = λ w u.
        let m = length-drop n l in
        let z : n + 0 ≡ n = omega arith in
        let f : device (get_or (drop n l) 0 0) ≡ device (get_or l n 0) = ap device (get_or-drop n l 0 0 ∙ rw z) in
        absurd (omega (arith, A.beyond (n - 1) n (omega arith) (omega arith)));
  }
