-- How long a text is, and a loop that adds it up.
use Prim.Native.Nat.{ℕ, zero, suc, ◌+◌, ◌-◌, ◌*◌, ◌≤◌}
use mathlib.Core.Path.{◌≡◌, refl, sym, ap, ◌∙◌}
use mathlib.Core.Bool.{Bool, true, false, cond}
use mathlib.Core.List.{List, [], ◌∷◌, ◌++◌, map}
use native.Mathlib.Omega.{arith}
use native.Mathlib.Numerals.{add-one}
use lib.ListN.{length, get_or, take, length-append}
use Rattle.std.proofs.lemmas.List.Sums.{sum_by-append, sum_by-cons}
use lib.Seq.{slice, slice-cons, slice_empty, take-suc, take_all, take-length}
use Rattle.laws.proofs.Cases.{by_order}
use Rattle.laws.proofs.Lists.{slice_join}
use Rattle.plant.specs.Plant.{Plant, size}
use Rattle.index.specs.Postings.{device, shared}
use Rattle.plant.proofs.Forest as forests
use Rattle.index.specs.Index.{Index, count, tables_refusal}
use Rattle.index.proofs.Accepted.{accepted}
use Rattle.text.specs.Decimal.{numeral}
use Rattle.text.specs.Forms.{plain, with_number}
use Rattle.plant_text.specs.Form.{plant_line, device_line, term_line, own_line, all_line, close_line}
use Rattle.written_text.specs.Forms.{posting_form, term_forms, terms_forms}
use Rattle.written_text.specs.Text.{bytes_of, text_of}
use Rattle.written_text.specs.inner.Nested.{Nested, stretch}
use Rattle.written_text.proofs.Stretches.{nested_all, first_end, nested_first, nested_rest}
use Rattle.index.proofs.Accepted.{accepted_outline}
use Rattle.index.proofs.Begins.{begin, list_is, ordered, first_begin, last_begin}
use Rattle.plant_writer.specs.inner.Lengths.{lines_length, whole_length}
use Rattle.plant_writer.proofs.Bytes.{word_dev, word_mark, word_own, word_all, word_close, bytes_append, bytes_more, bytes_none, device_bytes, term_bytes, own_bytes, all_bytes, close_bytes, plant_bytes, stretch_end, stretch_bytes, term_parts, text_parts}

lines_append : (extra : ℕ) (key : ℕ → ℕ) (a b : List ℕ) → lines_length extra key (a ++ b) ≡ lines_length extra key a + lines_length extra key b
unfolding lines_length
lines_append extra key a b = sum_by-append (λ x. extra + length (numeral (key x))) a b

lines_more : (extra : ℕ) (key : ℕ → ℕ) (x : ℕ) (l : List ℕ) → lines_length extra key (x ∷ l) ≡ extra + length (numeral (key x)) + lines_length extra key l
unfolding lines_length
lines_more extra key x l = sum_by-cons (λ x. extra + length (numeral (key x))) x l

lines_none : (extra : ℕ) (key : ℕ → ℕ) → lines_length extra key [] ≡ 0
unfolding lines_length
lines_none extra key = refl

-- ---- the bytes

line_length : (w : List ℕ) (n : ℕ) (e : List ℕ) → length (w ++ (numeral n ++ e)) ≡ length w + (length (numeral n) + length e)
line_length w n e = length-append w (numeral n ++ e) ∙ rw (length-append (numeral n) e)

parts_length : (a b c d : List ℕ) → length (a ++ (b ++ (c ++ d))) ≡ length a + (length b + (length c + length d))
parts_length a b c d = simp length-append

device_length : (v : ℕ) → length (bytes_of (with_number device_line v ∷ [])) ≡ 6 + length (numeral v)
device_length v = ap length (device_bytes v) ∙ line_length word_dev v (10 ∷ []) ∙ omega arith

term_line_length : (t : ℕ) → length (bytes_of (with_number term_line t ∷ [])) ≡ 7 + length (numeral t)
term_line_length t = ap length (term_bytes t) ∙ line_length word_mark t (10 ∷ []) ∙ omega arith

posting_length : (q : ℕ) → length (bytes_of (posting_form q ∷ [])) ≡ 7 + length (numeral (device q))
posting_length q = go (shared q)
  where
    go : (s : Bool) → length (bytes_of (with_number (cond s all_line own_line) (device q) ∷ [])) ≡ 7 + length (numeral (device q))
    go true = ap length (all_bytes (device q)) ∙ line_length word_all (device q) word_close ∙ omega arith
    go false = ap length (own_bytes (device q)) ∙ line_length word_own (device q) word_close ∙ omega arith

close_length : length (bytes_of (plain close_line ∷ [])) ≡ 2
close_length = ap length close_bytes

module _ (last level : List ℕ) where
  stretch_length : (k a e : ℕ) → Nested last a e → e ≤ length level → e ≤ a + k → length (bytes_of (stretch last level a e)) ≡ lines_length 8 (λ v. v) (slice a e level)
  stretch_length zero a e n u h = let z : a ≡ e = omega (arith, n.ordered) in rw (stretch_end last level a e (omega arith), z, slice_empty e level, lines_none 8 (λ v. v))
  stretch_length (suc k) a e n u h =
      by_order a e
      (λ l.
      let b = first_end n l in
      let m = get_or last a 0 in
      let x = stretch_length k (a + 1) m (nested_first n l) (omega arith) (omega arith) in
      let y = stretch_length k m e (nested_rest n l) u (omega arith) in
      let j : slice (a + 1) m level ++ slice m e level ≡ slice (a + 1) e level = slice_join level (a + 1) m e (omega arith) (omega arith) u in
      let t = lines_append 8 (λ v. v) (slice (a + 1) m level) (slice m e level) in
      let s : slice a e level ≡ get_or level a 0 ∷ slice (a + 1) e level = rw (add-one a) (slice-cons a e level 0 l u) in
      let p = ap length (stretch_bytes last level a e n l) ∙ parts_length (bytes_of (with_number device_line (get_or level a 0) ∷ [])) (bytes_of (stretch last level (a + 1) m)) (bytes_of (plain close_line ∷ [])) (bytes_of (stretch last level m e)) in
      let d = device_length (get_or level a 0) in
      let c = close_length in
      p ∙ rw (s, lines_more 8 (λ v. v), ← j) (omega arith))
      (λ l. let z : a ≡ e = omega (arith, n.ordered) in rw (stretch_end last level a e l, z, slice_empty e level, lines_none 8 (λ v. v)))

postings_length : (l : List ℕ) → length (bytes_of (map posting_form l)) ≡ lines_length 7 device l
postings_length [] = rw (bytes_none, lines_none 7 device)
postings_length (q ∷ l) =
    let n = posting_length q in
    let h = postings_length l in
    ap length (bytes_more (posting_form q) (map posting_form l)) ∙ length-append (bytes_of (posting_form q ∷ [])) (bytes_of (map posting_form l)) ∙ rw (lines_more 7 device q l) (omega arith)

term_length : (t : ℕ) (l : List ℕ) → length (bytes_of (term_forms t l)) ≡ 9 + length (numeral t) + lines_length 7 device l
term_length t l =
    let h = postings_length l in
    let d = term_line_length t in
    let c = close_length in
    let n = bytes_of (map posting_form l) in
    ap length (term_parts t l) ∙ length-append (bytes_of (with_number term_line t ∷ [])) (n ++ bytes_of (plain close_line ∷ []))
    ∙ rw (length-append n (bytes_of (plain close_line ∷ []))) (omega arith)

-- the lists of an accepted index lie one after another
module _ (P : Plant) (I : Index) (h : tables_refusal P I ≡ 0) where
  terms_length : (n : ℕ) → n ≤ count I → length (bytes_of (terms_forms I n)) ≡ lines_length 9 (λ t. t) (take n I.terms) + lines_length 7 device (take (begin I n) I.postings)
  unfolding terms_forms
  terms_length zero u = rw (bytes_none, first_begin I (accepted_outline P I h), lines_none 9 (λ t. t), lines_none 7 device)
  terms_length (suc n) u =
      let o = ordered I (accepted_outline P I h) n (omega arith) in
      let z : suc n - 1 ≡ n = omega arith in
      let t = get_or I.terms n 0 in
      let l = slice (begin I n) (begin I (suc n)) I.postings in
      let j : take (begin I n) I.postings ++ l ≡ take (begin I (suc n)) I.postings = slice_join I.postings 0 (begin I n) (begin I (suc n)) (omega arith) o.0 o.1 in
      let a = ap (lines_length 7 device) (sym j) ∙ lines_append 7 device (take (begin I n) I.postings) l in
      let b : lines_length 9 (λ t. t) (take (suc n) I.terms) ≡ lines_length 9 (λ t. t) (take n I.terms) + (9 + length (numeral t) + 0) =
      ap (lines_length 9 (λ t. t)) (take-suc I.terms n 0 (omega arith)) ∙ lines_append 9 (λ t. t) (take n I.terms) (t ∷ []) ∙ rw (lines_more 9 (λ t. t) t [], lines_none 9 (λ t. t)) in
      let g = term_length t l in
      let f = terms_length n (omega arith) in
      let whole : length (bytes_of (terms_forms I (suc n))) ≡ length (bytes_of (terms_forms I n)) + length (bytes_of (term_forms t l)) =
      rw (list_is I (accepted_outline P I h) n (omega arith), z) (ap length (bytes_append (terms_forms I n) (term_forms t l)) ∙ length-append (bytes_of (terms_forms I n)) (bytes_of (term_forms t l))) in
      add_up (lines_length 9 (λ t. t) (take n I.terms)) (lines_length 7 device (take (begin I n) I.postings)) (length (numeral t)) (lines_length 7 device l) whole f g b a
    where
      add_up : {L A T : ℕ} (x p d q : ℕ) {u v : ℕ} → L ≡ A + T → A ≡ x + p → T ≡ 9 + d + q → u ≡ x + (9 + d + 0) → v ≡ p + q → L ≡ u + v
      add_up x p d q e f g b a = omega arith

  pub text_length : length (text_of P I) ≡ whole_length P.level I.terms I.postings
  text_length =
      let s = forests.accepted P (accepted P I h).tables in
      let a = stretch_length P.last P.level (size P) 0 (size P) (nested_all P s) (omega (arith, s.levels)) (omega arith) in
      let b = terms_length (count I) (omega arith) in
      let x : take (size P) P.level ≡ P.level = take_all (size P) P.level (omega (arith, s.levels)) in
      let y : take (count I) I.terms ≡ I.terms = take-length I.terms in
      let z : take (begin I (count I)) I.postings ≡ I.postings = take_all (begin I (count I)) I.postings (omega (arith, last_begin I (accepted_outline P I h))) in
      let p : length (bytes_of (plain plant_line ∷ [])) ≡ 7 = ap length plant_bytes in
      let c = close_length in
      ap length (text_parts P I)
      ∙ parts_length (bytes_of (plain plant_line ∷ [])) (bytes_of (stretch P.last P.level 0 (size P))) (bytes_of (terms_forms I (count I))) (bytes_of (plain close_line ∷ []))
      ∙ omega (arith, rw x at a, rw (y, z) at b)

-- ---- a loop that adds up lengths

-- the first i entries have been added up, each with a number of ten digits at most
pub record Summed (extra : ℕ) (key : ℕ → ℕ) (l : List ℕ) (n i : ℕ) : Type 0 where
  pub within : i ≤ length l
  pub known : n ≡ lines_length extra key (take i l)
  pub few : n ≤ (extra + 10) * i

module _ {extra : ℕ} {key : ℕ → ℕ} {l : List ℕ} where
  module _ {n i : ℕ} (s : Summed extra key l n i) where
    pub summed_end : length l ≤ i → (n ≡ lines_length extra key l) × (n ≤ (extra + 10) * length l)
    summed_end h = let e : i ≡ length l = omega (arith, s.within) in (s.known ∙ rw (take_all i l h), rw e at s.few)
