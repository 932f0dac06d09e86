-- Laws of lists: parts from one index up to another, entries with another default, lists that are written to.
use Prim.Native.Nat.{ℕ, zero, suc, ◌+◌, ◌-◌, ◌<◌, ◌≤◌, min}
use native.Mathlib.Omega.{arith}
use native.Mathlib.Numerals.{add-one}
use mathlib.Core.List.{List, [], ◌∷◌, ◌++◌}
use mathlib.Core.Path.{◌≡◌, refl, sym, ap, ◌∙◌}
use lib.ListN.{length, get_or, take, drop, set, length-take, drop_of_length-le}
use lib.Seq.{slice, slice-cons, slice_empty, take_all, take-length, take-nil, take-take, take-suc-set, drop-length, drop-drop, get_or-take, get_or-drop, length-take-le}
use Rattle.laws.proofs.Cases.{by_order}

-- an entry within the list does not depend on the default
pub getD_within : (l : List ℕ) (i d e : ℕ) → i < length l → get_or l i d ≡ get_or l i e
getD_within [] i d e h = absurd (omega arith)
getD_within (x ∷ xs) zero d e h = refl
getD_within (x ∷ xs) (suc i) d e h = getD_within xs i d e (omega arith)

-- a part of a slice, as code makes it
slice_taken : (a e : ℕ) (l : List ℕ) → take (e - a) (drop a l) ≡ slice a e l
slice_taken zero e l = let q : e - 0 ≡ e = omega arith in rw q
slice_taken (suc a) zero l = let q : 0 - suc a ≡ 0 = omega arith in rw q
slice_taken (suc a) (suc e) [] = take-nil (suc e - suc a)
slice_taken (suc a) (suc e) (x ∷ xs) = let q : suc e - suc a ≡ e - a = omega arith in rw q (slice_taken a e xs)

-- a bound past the end is as good as the end
pub take_clamped : (e : ℕ) (l : List ℕ) → take (min e (length l)) l ≡ take e l
take_clamped e l =
    by_order e (length l) (λ h. let q : min e (length l) ≡ e = omega arith in rw q)
    (λ h. let q : min e (length l) ≡ length l = omega arith in rw (q, take_all e l h, take-length l))

pub drop_clamped : (a : ℕ) (l : List ℕ) → drop (min a (length l)) l ≡ drop a l
drop_clamped a l =
    by_order a (length l) (λ h. let q : min a (length l) ≡ a = omega arith in rw q)
    (λ h. let q : min a (length l) ≡ length l = omega arith in rw (q, drop_of_length-le l {i = a} h) (drop-length l))

slice_clamped : (a e : ℕ) (l : List ℕ) → slice (min a (min e (length l))) (min e (length l)) l ≡ slice a e l
slice_clamped a e l =
    let q : length (take e l) ≡ min e (length l) = length-take e l in
    rw (take_clamped e l, ← q) (drop_clamped a (take e l))

-- so a part that code takes from bounds which it keeps within the list is the part between them
pub slice_part : (a e : ℕ) (l : List ℕ) {from to : ℕ} → to ≡ min e (length l) → from ≡ min a to → take (to - from) (drop from l) ≡ slice a e l
slice_part a e l {from} {to} p q = slice_taken from to l ∙ rw (q, p) (slice_clamped a e l)

-- two parts that meet are one
pub slice_join : (l : List ℕ) (a m e : ℕ) → a ≤ m → m ≤ e → e ≤ length l → slice a m l ++ slice m e l ≡ slice a e l
slice_join l a m e p q h = go (m - a) a (omega arith)
  where
    go : (j : ℕ) (a : ℕ) → a + j ≡ m → slice a m l ++ slice m e l ≡ slice a e l
    go zero a z = let y : a ≡ m = omega arith in rw (y, slice_empty m l)
    go (suc j) a z =
        let u : a < m = omega arith in
        let v : m ≤ length l = omega arith in
        let w : a < e = omega arith in
        rw (slice-cons a m l 0 u v, slice-cons a e l 0 w h) (ap (λ (t : List ℕ). get_or l a 0 ∷ t) (go j (suc a) (omega arith)))

-- the front of a part
pub slice_front : (l : List ℕ) (b p c : ℕ) → b ≤ p → p ≤ c → c ≤ length l → take (p - b) (slice b c l) ≡ slice b p l
slice_front l b p c x y z =
    let n : length (take c l) ≡ c = length-take-le c l z in
    slice_part b p (take c l) {from = b} {to = p} (omega arith) (omega arith) ∙ rw (take-take p c l y)

-- an entry of a part
pub getD_slice : (l : List ℕ) (b p c : ℕ) → b ≤ p → p < c → get_or (slice b c l) (p - b) 0 ≡ get_or l p 0
getD_slice l b p c x y = let e : b + (p - b) ≡ p = omega arith in get_or-drop b (take c l) (p - b) 0 ∙ rw (e, get_or-take c l p 0 y)

-- ---- a list that is written to

-- an entry that is written after the first i
pub take_written : (l : List ℕ) (i j a : ℕ) → j ≡ i + 1 → i < length l → take j (set l i a) ≡ take i l ++ (a ∷ [])
take_written l i j a e u = rw (e, add-one i) (take-suc-set l i a u)

-- two lists that are equal from index i on
module _ (p q : List ℕ) (i : ℕ) (same : drop i p ≡ drop i q) where
  pub same_from : (j d : ℕ) → i ≤ j → get_or p j d ≡ get_or q j d
  same_from j d u =
      let e : i + (j - i) ≡ j = omega arith in
      rw e at (sym (get_or-drop i p (j - i) d) ∙ ap (λ (t : List ℕ). get_or t (j - i) d) same ∙ get_or-drop i q (j - i) d)

  pub same_later : (j : ℕ) → i ≤ j → drop j p ≡ drop j q
  same_later j u =
      let e : i + (j - i) ≡ j = omega arith in
      rw e at (sym (drop-drop (j - i) i p) ∙ ap (drop (j - i)) same ∙ drop-drop (j - i) i q)

  pub same_part : (e : ℕ) → i ≤ e → e ≤ length p → e ≤ length q → slice i e p ≡ slice i e q
  same_part e u v w =
      sym (slice_part i e p {from = i} {to = e} (omega arith) (omega arith)) ∙ ap (take (e - i)) same ∙ slice_part i e q {from = i} {to = e} (omega arith) (omega arith)
