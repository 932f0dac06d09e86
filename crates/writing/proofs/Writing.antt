-- Bytes written into a buffer, one after another, and the loops that write a word and a number.
use Prim.Native.Nat.{ℕ, suc, ◌+◌, ◌-◌, ◌/◌, ◌%◌, ◌≤◌, ◌<◌}
use mathlib.Core.Path.{◌≡◌, refl, sym, ap, ◌∙◌}
use mathlib.Core.Bool.{true}
use mathlib.Core.List.{List, [], ◌∷◌, ◌++◌, append_assoc, append-nil}
use native.Mathlib.Omega.{arith}
use native.Mathlib.Numerals.{add-one}
use lib.Dec.{leb}
use lib.ListN.{length, take, drop, set, get_or, length-append, length-drop, length-set, take-append-drop, drop_of_length-le}
use lib.Seq.{paste, paste-suc, length-take-le, take-suc, take_at, drop_at, drop-drop, set_at}
use Rattle.laws.proofs.Tests.{flags}
use Rattle.laws.proofs.Cases.{either}
use Rattle.text.specs.Decimal.{numeral}
use Rattle.writing.specs.Writing.{with_bytes, Writes}
use Rattle.writing.specs.inner.Puts.{Puts, DigitRoom, padded, LastPut}
use Rattle.writing.proofs.Digits.{length_padded, numeral_padded}

-- ---- a buffer with bytes in it

-- none change nothing
with_none : (l : List ℕ) (i : ℕ) → with_bytes l i [] ≡ l
with_none l i = let e : i + 0 ≡ i = omega arith in rw (e, append-nil, take-append-drop)

module _ (l : List ℕ) (i : ℕ) (a : List ℕ) where
  front_length : i ≤ length l → length (take i l ++ a) ≡ i + length a
  front_length h = length-append (take i l) a ∙ rw (length-take-le i l h)

  with_length : i + length a ≤ length l → length (with_bytes l i a) ≡ length l
  with_length h = length-append (take i l ++ a) _ ∙ rw (front_length (omega arith), length-drop) (omega arith)

  -- bytes after others
  with_more : (b : List ℕ) → i + length a + length b ≤ length l → with_bytes (with_bytes l i a) (i + length a) b ≡ with_bytes l i (a ++ b)
  with_more b h =
      let n = front_length (omega arith) in
      let t : take (i + length a) (with_bytes l i a) ≡ take i l ++ a = take_at (take i l ++ a) (drop (i + length a) l) (i + length a) n in
      let d : drop (i + length a) (with_bytes l i a) ≡ drop (i + length a) l = drop_at (take i l ++ a) (drop (i + length a) l) (i + length a) n in
      let u : drop (i + length a + length b) (with_bytes l i a) ≡ drop (i + length a + length b) l =
      sym (drop-drop (length b) (i + length a) (with_bytes l i a)) ∙ ap (drop (length b)) d ∙ drop-drop (length b) (i + length a) l in
      let e : i + length (a ++ b) ≡ i + length a + length b = rw length-append (omega arith) in
      rw (t, u, e, append_assoc (take i l) a b)

  -- a byte before others
  with_before : (b : ℕ) → i < length l → set (with_bytes l (suc i) a) i b ≡ with_bytes l i (b ∷ a)
  with_before b h =
      let x = get_or l i 0 in
      let rest = drop (suc i + length a) l in
      let e : i + suc (length a) ≡ suc i + length a = omega arith in
      let s : with_bytes l (suc i) a ≡ take i l ++ x ∷ (a ++ rest) =
      rw (take-suc l i 0 h) (append_assoc (take i l ++ (x ∷ [])) a rest ∙ append_assoc (take i l) (x ∷ []) (a ++ rest)) in
      rw (s, set_at (take i l) x (a ++ rest) b i (length-take-le i l (omega arith)), e) (sym (append_assoc (take i l) (b ∷ a) rest))

-- ---- where there is room for the bytes, and where there is not

writes_all : {l w l' : List ℕ} {at count : ℕ} → at + length w ≤ length l → l' ≡ with_bytes l at w → count ≡ length w → Writes l at w l' count
writes_all {l} {w} {at} h s c = let e : leb (at + length w) (length l) ≡ true = omega flags in record { stored = rw e s; counted = rw e c; within = omega arith }

-- ---- a word: its first i bytes are written

pub record WordPut (l : List ℕ) (at : ℕ) (w l' : List ℕ) (i : ℕ) : Type 0 where
  pub within : i ≤ length w
  pub room : at + length w ≤ length l
  pub stored : l' ≡ paste l at w i
  pub same : length l' ≡ length l

module _ {l : List ℕ} {at : ℕ} {w : List ℕ} where
  module _ {l' : List ℕ} {i : ℕ} (p : WordPut l at w l' i) where
    pub word_more : i < length w → WordPut l at w (set l' (at + i) (get_or w i 0)) (i + 1)
    word_more h = record {
      within = omega arith;
      room = p.room;
      stored = rw (p.stored, add-one) (paste-suc l at w i 0 (omega (arith, p.room)) h);
      same = length-set l' (at + i) (get_or w i 0) ∙ p.same;
    }

-- ---- the last k digits of a number: those from i on are written, and the i before them are the last i of what is left of it

pub record Lasts (l : List ℕ) (at k n : ℕ) (l' : List ℕ) (rest i : ℕ) : Type 0 where
  pub within : i ≤ k
  pub room : at + k ≤ length l
  pub left : padded i rest ++ drop i (padded k n) ≡ padded k n
  pub stored : l' ≡ with_bytes l (at + i) (drop i (padded k n))
  pub same : length l' ≡ length l

module _ {l : List ℕ} {at k n : ℕ} where
  pub lasts_none : at + k ≤ length l → Lasts l at k n l n k
  lasts_none h =
      let z : drop k (padded k n) ≡ [] = drop_of_length-le (padded k n) {i = k} (omega (arith, length_padded k n)) in
      record { within = omega arith; room = h; left = rw (z, append-nil); stored = rw z (sym (with_none l (at + k))); same = refl }

  module _ {l' : List ℕ} {rest i : ℕ} (p : Lasts l at k n l' rest i) where
    turned : (j : ℕ) → i ≡ suc j → Lasts l at k n (set l' (at + j) (48 + rest % 10)) (rest / 10) j
    turned j e =
        let d = 48 + rest % 10 in
        let tail = drop (suc j) (padded k n) in
        let a : at + suc j ≡ suc (at + j) = omega arith in
        let left : padded j (rest / 10) ++ (d ∷ tail) ≡ padded k n = sym (append_assoc (padded j (rest / 10)) (d ∷ []) tail) ∙ (rw e at p.left) in
        let now : drop j (padded k n) ≡ d ∷ tail = ap (drop j) (sym left) ∙ drop_at (padded j (rest / 10)) (d ∷ tail) j (length_padded j (rest / 10)) in
        record {
          within = omega (arith, p.within);
          room = p.room;
          left = rw now left;
          stored = rw (now, p.stored, e, a) (with_before l (at + j) tail d (omega (arith, p.room, p.within)));
          same = length-set l' (at + j) d ∙ p.same;
        }

    pub lasts_more : {d : ℕ} → 0 < i → d ≡ 48 + rest % 10 → Lasts l at k n (set l' (at + (i - 1)) d) (rest / 10) (i - 1)
    lasts_more h e = rw e (turned (i - 1) (omega arith))

-- and so all of them
module _ {l : List ℕ} {at n count : ℕ} (d : DigitRoom l at n count) where
  pub few_room : {k : ℕ} → k ≡ length (numeral n) → at + k ≤ length l
  few_room e = omega (arith, d.all, d.room)

  pub last_all : {k c : ℕ} {l' : List ℕ} → k ≡ length (numeral n) → LastPut l at k n l' c → Writes l at (numeral n) l' c
  last_all {k} {c} z p =
      let s : padded k n ≡ numeral n = rw z (numeral_padded n) in
      writes_all (few_room refl) (p.stored ∙ rw s) (p.counted ∙ z)

  -- and so a number of any length, once none of its digits is left
  pub number_whole : {l' : List ℕ} {rest i : ℕ} → Lasts l at count n l' rest i → i ≤ 0 → Writes l at (numeral n) l' count
  number_whole {i} p h =
      let z : i ≡ 0 = omega arith in
      let y : at + 0 ≡ at = omega arith in
      last_all d.all (record { same = p.same; stored = p.stored ∙ rw (z, y); counted = refl })

-- ---- several words and numbers, one after another

pub puts : {l w l' : List ℕ} {at count : ℕ} → Writes l at w l' count → Puts l at w l' (at + count)
puts {l} {w} {l'} {at} {count} p =
    either (leb (at + length w) (length l))
    (λ e.
    let h : at + length w ≤ length l = omega flags in
    let s : l' ≡ with_bytes l at w = p.stored ∙ rw e in
    let c : count ≡ length w = p.counted ∙ rw e in
    record { same = ap length s ∙ with_length l at w h; near = p.within; stored = λ _. s; moved = λ _. rw c })
    (λ e.
    let h : length l < at + length w = omega flags in
    let s : l' ≡ l = p.stored ∙ rw e (with_none l at) in
    let c : count ≡ 0 = p.counted ∙ rw e in
    record { same = ap length s; near = p.within; stored = λ g. absurd (omega arith); moved = λ g. absurd (omega arith) })

-- nothing is written
pub puts_none : {l : List ℕ} {at : ℕ} → Puts l at [] l at
puts_none {l} {at} = record { same = refl; near = omega arith; stored = λ _. sym (with_none l at); moved = λ _. omega arith }

-- the second where the first left off
infixr 20 ◌then◌
pub ◌then◌ : {l l' l'' a b : List ℕ} {i n m : ℕ} → Puts l i a l' n → Puts l' n b l'' m → Puts l i (a ++ b) l'' m
◌then◌ {l} {l'} {l''} {a} {b} {i} {n} {m} p q =
    record {
      same = q.same ∙ p.same;
      near = omega (arith, p.same, p.near, q.near);
      stored = λ h.
          let k : i + length a + length b ≤ length l = omega (arith, simp length-append at h) in
          let e = p.moved (omega arith) in
          q.stored (omega (arith, p.same)) ∙ rw (e, p.stored (omega arith)) (with_more l i a b k);
      moved = λ h.
          let k : i + length a + length b ≤ length l = omega (arith, simp length-append at h) in
          let e = p.moved (omega arith) in
          q.moved (omega (arith, p.same)) ∙ rw (e, length-append) (omega arith);
    }
