-- What the functions that write have written.
use Prim.Native.Nat.{ℕ, suc, ◌+◌, ◌-◌, ◌%◌, ◌≤◌, ◌<◌}
use mathlib.Core.Path.{◌≡◌, refl, sym, ◌∙◌}
use mathlib.Core.List.{List, [], ◌∷◌, ◌++◌, map, map-append, append_assoc, append-nil}
use native.Mathlib.Omega.{arith}
use native.Mathlib.Numerals.{add-one}
use borrow.Author.Tests.{eq-eqb, ne_eqb}
use lib.ListN.{length, take, get_or}
use lib.Seq.{take-suc, take_all}
use Rattle.plant.specs.Plant.{Plant, size}
use Rattle.index.specs.Postings.{device}
use Rattle.index.specs.Index.{Index, index, count, list}
use Rattle.text.specs.Decimal.{numeral}
use Rattle.text.specs.Forms.{plain, with_number}
use Rattle.writing.specs.Writing.{Writes}
use Rattle.writing.specs.inner.Puts.{Puts}
use Rattle.writing.proofs.Writing.{puts, puts_none, ◌then◌}
use Rattle.plant_text.specs.Form.{device_line, term_line, close_line}
use Rattle.written_text.specs.Forms.{posting_form, term_forms, terms_forms}
use Rattle.written_text.specs.Text.{bytes_of, text_of}
use Rattle.written_text.specs.inner.Nested.{Nested, Tiered, stretch}
use Rattle.written_text.proofs.Stretches.{first_end, nested_first, nested_rest}
use Rattle.plant_writer.specs.inner.PutUnless.{PutUnless}
use Rattle.plant_writer.proofs.Depths.{tiered_first, tiered_rest}
use Rattle.plant_writer.proofs.Bytes.{bytes_append, bytes_none, word_dev, word_mark, word_own, word_all, word_plant, word_close, device_bytes, term_bytes, own_bytes, all_bytes, close_bytes, plant_bytes, stretch_end, stretch_bytes, term_parts, text_parts}

-- the same bytes, said another way
puts_as : {l l' a b : List ℕ} {i n : ℕ} → Puts l i a l' n → a ≡ b → Puts l i b l' n
puts_as p e = rw e at p

-- ---- one line

module _ {l l' : List ℕ} {at next : ℕ} where
  pub device_put : {v n : ℕ} → n ≡ v → Puts l at (word_dev ++ (numeral n ++ (10 ∷ []))) l' next → Puts l at (bytes_of (with_number device_line v ∷ [])) l' next
  device_put {v} e p = rw (device_bytes v, ← e) p

  pub term_put : {t n : ℕ} → n ≡ t → Puts l at (word_mark ++ (numeral n ++ (10 ∷ []))) l' next → Puts l at (bytes_of (with_number term_line t ∷ [])) l' next
  term_put {t} e p = rw (term_bytes t, ← e) p

  -- a posting, by what its word is
  module _ (q : ℕ) where
    pub shared_put : q % 2 ≡ 1 → Puts l at (word_all ++ (numeral (device q) ++ word_close)) l' next → Puts l at (bytes_of (posting_form q ∷ [])) l' next
    shared_put h p = rw (eq-eqb (q % 2) 1 h, all_bytes (device q)) p

    pub private_put : (q % 2 ≡ 1 → ⊥) → Puts l at (word_own ++ (numeral (device q) ++ word_close)) l' next → Puts l at (bytes_of (posting_form q ∷ [])) l' next
    private_put h p = rw (ne_eqb (q % 2) 1 h, own_bytes (device q)) p

pub close_put : {l l' : List ℕ} {at count : ℕ} → Writes l at word_close l' count → Puts l at (bytes_of (plain close_line ∷ [])) l' (at + count)
close_put p = rw close_bytes (puts p)

-- ---- devices: those up to i are written, and those after i are left

pub record DevicesPut (last level out : List ℕ) (at a e depth : ℕ) (out' : List ℕ) (next i : ℕ) : Type 0 where
  pub from : a ≤ i
  pub nested : Nested last i e
  pub tiered : Tiered last i e depth
  pub levels : e ≤ length level
  pub done : List ℕ
  pub put : Puts out at done out' next
  pub is : bytes_of (stretch last level a e) ≡ done ++ bytes_of (stretch last level i e)

pub devices_start : {last level out : List ℕ} {at a e depth : ℕ} → Nested last a e → Tiered last a e depth → e ≤ length level → DevicesPut last level out at a e depth out at a
devices_start n t l = record { from = omega arith; nested = n; tiered = t; levels = l; done = []; put = puts_none; is = refl }

module _ {last level out : List ℕ} {at a e depth : ℕ} {o₁ : List ℕ} {n₁ i : ℕ} (s : DevicesPut last level out at a e depth o₁ n₁ i) where
  pub devices_end : e ≤ i → Puts out at (bytes_of (stretch last level a e)) o₁ n₁
  devices_end h = puts_as s.put (sym (s.is ∙ rw (stretch_end last level i e h) (append-nil s.done)))

  module _ (l : i < e) {end : ℕ} (z : end ≡ get_or last i 0) where
    pub inner_bounds : (a ≤ i) × (i < end) × (end ≤ e) × (end ≤ length level)
    inner_bounds = let b = first_end s.nested l in (s.from, omega arith, omega arith, omega (arith, s.levels))

    pub inner_nested : Nested last (i + 1) end
    inner_nested = rw z (nested_first s.nested l)

    pub inner_tiered : Tiered last (i + 1) end (depth + 1)
    inner_tiered = rw z (tiered_first s.nested s.tiered l)

    pub devices_turn : {o₂ o₃ o₄ : List ℕ} {n₂ n₃ n₄ : ℕ} → Puts o₁ n₁ (bytes_of (with_number device_line (get_or level i 0) ∷ [])) o₂ n₂ →
        Puts o₂ n₂ (bytes_of (stretch last level (i + 1) end)) o₃ n₃ → Puts o₃ n₃ (bytes_of (plain close_line ∷ [])) o₄ n₄ → DevicesPut last level out at a e depth o₄ n₄ end
    devices_turn p q r =
        let f = bytes_of (with_number device_line (get_or level i 0) ∷ []) in
        let inner = bytes_of (stretch last level (i + 1) end) in
        let close = bytes_of (plain close_line ∷ []) in
        let rest = bytes_of (stretch last level end e) in
        let split : bytes_of (stretch last level i e) ≡ f ++ (inner ++ (close ++ rest)) = rw z (stretch_bytes last level i e s.nested l) in
        record {
          from = omega (arith, inner_bounds);
          nested = rw z (nested_rest s.nested l);
          tiered = rw z (tiered_rest s.nested s.tiered l);
          levels = s.levels;
          done = s.done ++ (f ++ (inner ++ close));
          put = s.put then p then q then r;
          is = s.is ∙ rw split (regroup s.done f inner close rest);
        }
      where
        regroup : (d f i c r : List ℕ) → d ++ (f ++ (i ++ (c ++ r))) ≡ (d ++ (f ++ (i ++ c))) ++ r
        regroup d f i c r = simp append_assoc

-- ---- postings: the first i of a list are written

pub record PostingsPut (l out : List ℕ) (at : ℕ) (out' : List ℕ) (next i : ℕ) : Type 0 where
  pub within : i ≤ length l
  pub put : Puts out at (bytes_of (map posting_form (take i l))) out' next

module _ {l out : List ℕ} {at : ℕ} where
  pub postings_none : PostingsPut l out at out at 0
  postings_none = record { within = omega arith; put = rw bytes_none puts_none }

  module _ {o₁ : List ℕ} {n₁ i : ℕ} (s : PostingsPut l out at o₁ n₁ i) where
    pub postings_more : {o₂ : List ℕ} {n₂ : ℕ} → i < length l → Puts o₁ n₁ (bytes_of (posting_form (get_or l i 0) ∷ [])) o₂ n₂ → PostingsPut l out at o₂ n₂ (i + 1)
    postings_more h p = record {
      within = omega arith;
      put = rw (add-one i, take-suc l i 0 h, map-append posting_form (take i l) (get_or l i 0 ∷ []), bytes_append (map posting_form (take i l)) (posting_form (get_or l i 0) ∷ [])) (s.put then p);
    }

    pub postings_put : length l ≤ i → Puts out at (bytes_of (map posting_form l)) o₁ n₁
    postings_put h = rw (take_all i l h) at s.put

-- ---- terms: the first k are written

pub term_whole : (t : ℕ) (l : List ℕ) {out o₁ o₂ o₃ : List ℕ} {at n₁ n₂ n₃ : ℕ} → Puts out at (bytes_of (with_number term_line t ∷ [])) o₁ n₁ →
    Puts o₁ n₁ (bytes_of (map posting_form l)) o₂ n₂ → Puts o₂ n₂ (bytes_of (plain close_line ∷ [])) o₃ n₃ → Puts out at (bytes_of (term_forms t l)) o₃ n₃
term_whole t l p q r = rw (term_parts t l) (p then q then r)

pub record TermsPut (terms starts postings out : List ℕ) (at : ℕ) (out' : List ℕ) (next k : ℕ) : Type 0 where
  pub within : k ≤ length terms
  pub put : Puts out at (bytes_of (terms_forms (index terms starts postings) k)) out' next

module _ {terms starts postings out : List ℕ} {at : ℕ} where
  pub terms_none : TermsPut terms starts postings out at out at 0
  unfolding terms_forms
  terms_none = record { within = omega arith; put = rw bytes_none puts_none }

  module _ {o₁ : List ℕ} {n₁ k : ℕ} (s : TermsPut terms starts postings out at o₁ n₁ k) where
    pub terms_more : {l o₂ : List ℕ} {n₂ : ℕ} → k < length terms → l ≡ list (index [] starts postings) (k + 1) →
        Puts o₁ n₁ (bytes_of (term_forms (get_or terms k 0) l)) o₂ n₂ → TermsPut terms starts postings out at o₂ n₂ (k + 1)
    unfolding terms_forms
    terms_more {l} h e p =
        let I = index terms starts postings in
        let z : suc k - 1 ≡ k = omega arith in
        let more : terms_forms I (k + 1) ≡ terms_forms I k ++ term_forms (get_or terms k 0) l = rw (e, add-one k, z) in
        record { within = omega arith; put = rw (more, bytes_append (terms_forms I k) (term_forms (get_or terms k 0) l)) (s.put then p) }

    pub terms_put : length terms ≤ k → Puts out at (bytes_of (terms_forms (index terms starts postings) (length terms))) o₁ n₁
    terms_put h = let z : k ≡ length terms = omega (arith, s.within) in rw z at s.put

-- ---- the whole: its four parts stand one after another

pub plant_put : (P : Plant) (I : Index) {out o₁ o₂ o₃ o₄ : List ℕ} {n₁ n₂ n₃ n₄ : ℕ} → Writes out 0 word_plant o₁ n₁ →
    Puts o₁ n₁ (bytes_of (stretch P.last P.level 0 (size P))) o₂ n₂ → Puts o₂ n₂ (bytes_of (terms_forms I (count I))) o₃ n₃ →
    Puts o₃ n₃ (bytes_of (plain close_line ∷ [])) o₄ n₄ → Puts out 0 (text_of P I) o₄ n₄
plant_put P I {n₁} p q t u =
    let z : 0 + n₁ ≡ n₁ = omega arith in
    rw (text_parts P I, plant_bytes) ((rw z at (puts p)) then q then t then u)

-- it is refused, or put
module _ {refused : ℕ} {out bytes : List ℕ} where
  pub put_refused : (refused ≡ 0 → ⊥) → PutUnless refused out bytes out 0
  put_refused h = record { put = λ e. absurd (h e); kept = λ _. refl }

  pub put_taken : {out' : List ℕ} {n : ℕ} → refused ≡ 0 → Puts out 0 bytes out' n → PutUnless refused out bytes out' n
  put_taken e p = record { put = λ _. p; kept = λ h. absurd (h e) }
