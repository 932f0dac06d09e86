-- The forms of an index's terms and postings are taken, and make its tables.
use Prim.Native.Nat.{ℕ, zero, suc, ◌+◌, ◌-◌, ◌%◌, ◌≤◌, ◌<◌}
use mathlib.Core.Path.{◌≡◌, refl, sym, ◌∙◌}
use mathlib.Core.Bool.{Bool, true, false, cond, ◌||◌}
use mathlib.Core.List.{List, [], ◌∷◌, ◌++◌, map}
use native.Mathlib.Omega.{arith}
use native.Mathlib.Numerals.{add-one}
use lib.Dec.{leb, ltb, eqb}
use lib.ListN.{length, get_or, take, get_or-eq_default}
use lib.Seq.{slice, slice-cons, slice_empty, length-slice, take-suc, take-take, take_all, get_or-take, length-take-le, take-length}
use Rattle.laws.specs.Search.{any}
use Rattle.laws.specs.Tables.{entry}
use Rattle.laws.proofs.Tests.{tests, flags}
use Rattle.laws.proofs.Cases.{by_order, either}
use Rattle.laws.proofs.Search.{none_any, any_none}
use Rattle.plant.specs.Plant.{Plant, size}
use Rattle.index.specs.Postings.{posting, device, shared, misplaced, shadowed, redundant}
use Rattle.index.specs.Index.{Index, index, count, list, tables_refusal}
use Rattle.index.proofs.Lists.{ranged, rises}
use Rattle.index.proofs.Accepted.{accepted, accepted_outline, accepted_list}
use Rattle.index.proofs.Begins.{begin, start_is, list_is, ordered, first_begin, last_begin, begin_within}
use Rattle.plant_text.specs.PlantText.{Stage, devices, terms, postings, closed, State, line_refusal, next}
use Rattle.plant_text.specs.declared.Room.{Room}
use Rattle.text.specs.Forms.{plain, with_number}
use Rattle.plant_text.specs.Form.{term_line, own_line, all_line, close_line}
use Rattle.written_text.specs.Forms.{posting_form, term_forms, terms_forms}
use Rattle.laws.proofs.Lists.{slice_front, getD_slice}
use Rattle.written_text.proofs.Written.{term, close, posting_written}
use Rattle.written_text.proofs.Taking.{Takes, none, takes_append, takes_on, posting_next}

-- ---- tables and their front parts

-- entry k of the first j entries
entry_front : (l : List ℕ) (j k : ℕ) → 1 ≤ k → k ≤ j → entry (take j l) k ≡ entry l k
entry_front l j k a b = get_or-take j l (k - 1) 0 (omega arith)

-- the newest of the first j entries is below the next, where keys rise
rises_next : (most : ℕ) (key : ℕ → ℕ) (l : List ℕ) (j : ℕ) → key 0 ≡ 0 → any (length l) (misplaced most key l) ≡ false → j < length l →
    (key (entry (take j l) (length (take j l))) < key (get_or l j 0)) × (1 ≤ key (get_or l j 0)) × (key (get_or l j 0) ≤ most)
rises_next most key l j z h u =
    let n : length (take j l) ≡ j = length-take-le j l (omega arith) in
    let i : j + 1 - 1 ≡ j = omega arith in
    let g = ranged most key l h (j + 1) (omega arith) (omega arith) in
    by_order 0 j
    (λ v.
    let e = entry_front l j j v (omega arith) in
    let w = rises most key l h j (j + 1) v (omega arith) (omega arith) in
    rw (n, e) (rw i at w, rw i at g.0, rw i at g.1))
    (λ v.
    let y : j ≡ 0 = omega arith in
    let e : entry (take j l) (length (take j l)) ≡ 0 = get_or-eq_default (take j l) 0 (omega arith) in
    rw (e, z) (omega (arith, rw i at g.0), rw i at g.0, rw i at g.1))

-- none of the first j postings has the next in its branch
single_next : (last l : List ℕ) (j : ℕ) → any (length l) (redundant last l) ≡ false → j < length l → shadowed last (take j l) (device (get_or l j 0)) ≡ false
single_next last l j h u =
    let n : length (take j l) ≡ j = length-take-le j l (omega arith) in
    let i : j + 1 - 1 ≡ j = omega arith in
    let s : shadowed last l (device (get_or l j 0)) ≡ false = rw i at (none_any (redundant last l) h (j + 1) (omega arith) (omega arith)) in
    sym (any_none _ (λ k a b. rw (entry_front l j k a (omega arith)) (none_any _ s k a (omega arith))))

-- "A posting is 2 times the device, plus 1 if it is for the whole branch"
posting_is : (q : ℕ) → posting (device q) (shared q) ≡ q
posting_is q = either (shared q) (λ e. rw e (let z = simp tests at e in omega arith)) (λ e. rw e (let z : q % 2 ≡ 0 = let y = simp tests at e in omega (arith, y) in omega arith))

-- ---- what is made of the terms

module _ (r : Room) (P : Plant) (I : Index) (h : tables_refusal P I ≡ 0) (fits : count I ≤ r.terms) (room : length I.postings ≤ r.postings) where
  -- n terms and p postings
  abbrev at : ℕ → ℕ → Stage → State
  at n p s = record { stage = s; opened = []; plant = P; index = index (take n I.terms) (take n I.starts) (take p I.postings) }

  -- the first term comes after the devices
  abbrev between : ℕ → Stage
  between zero = devices
  between (suc n) = terms

  -- a term opens
  module _ (n : ℕ) (u : n < count I) where
    abbrev t : ℕ
    t = get_or I.terms n 0

    rows_term : (s : Stage) (p : ℕ) → (s ≡ between n) → line_refusal r (at n p s) (with_number term_line t) ≡ 0
    unfolding line_refusal
    rows_term s p e =
        let a = accepted P I h in
        let l : length (take n I.terms) ≡ n = length-take-le n I.terms (omega arith) in
        let g = rises_next 65535 (λ x. x) I.terms n refl a.terms_rise u in
        let x : (eqb t 0 || ltb 65535 t) ≡ false = simp tests (omega arith) in
        let y : leb r.terms (length (take n I.terms)) ≡ false = omega flags in
        let z : leb t (entry (take n I.terms) (length (take n I.terms))) ≡ false = omega flags in
        rw e (go n x y z)
      where
        go : (k : ℕ) → (eqb t 0 || ltb 65535 t) ≡ false → leb r.terms (length (take n I.terms)) ≡ false →
            leb t (entry (take n I.terms) (length (take n I.terms))) ≡ false → line_refusal r (at n p (between k)) (with_number term_line t) ≡ 0
        go zero x y z = rw (x, y, z)
        go (suc k) x y z = rw (x, y, z)

    next_term : (s : Stage) → next (at n (begin I n) s) (with_number term_line t) ≡ at (n + 1) (begin I n) postings
    unfolding next
    next_term s =
        let a = accepted P I h in
        let l : length (take (begin I n) I.postings) ≡ begin I n = length-take-le (begin I n) I.postings (begin_within I (accepted_outline P I h) n (omega arith)) in
        let v : n < length I.starts = omega (arith, a.even) in
        rw (l, add-one n, take-suc I.terms n 0 u, take-suc I.starts n (length I.postings) v)

    -- what has been read of the term's list
    module _ (p : ℕ) (x : begin I n ≤ p) (y : p < begin I (suc n)) where
      abbrev q : ℕ
      q = get_or I.postings p 0

      abbrev current : List ℕ
      current = list (at (n + 1) p postings).index (count (at (n + 1) p postings).index)

      current_is : current ≡ take (p - begin I n) (list I (suc n))
      current_is =
          let a = accepted P I h in
          let b = ordered I (accepted_outline P I h) n u in
          let l : length (take (n + 1) I.terms) ≡ n + 1 = length-take-le (n + 1) I.terms (omega arith) in
          let m : length (take p I.postings) ≡ p = length-take-le p I.postings (omega arith) in
          let o : length (take (n + 1) I.starts) ≡ n + 1 = length-take-le (n + 1) I.starts (omega (arith, a.even)) in
          let f : entry (take (n + 1) I.starts) (n + 1) ≡ begin I n = entry_front I.starts (n + 1) (n + 1) (omega arith) (omega arith) ∙ rw (add-one n) (start_is I (accepted_outline P I h) n u) in
          let g : get_or (take (n + 1) I.starts) (n + 1) p ≡ p = get_or-eq_default (take (n + 1) I.starts) p (omega arith) in
          rw (l, m, f, g, take-take p p I.postings (omega arith), list_is I (accepted_outline P I h) n u) (sym (slice_front I.postings (begin I n) p (begin I (suc n)) x (omega arith) b.1))

      rows_posting : line_refusal r (at (n + 1) p postings) (posting_form q) ≡ 0
      unfolding line_refusal
      rows_posting =
          let s = accepted_list P I h (suc n) (omega arith) (omega arith) in
          let b = ordered I (accepted_outline P I h) n u in
          let i : p - begin I n < length (list I (suc n)) = rw (list_is I (accepted_outline P I h) n u) (omega (arith, length-slice (begin I n) (begin I (suc n)) I.postings b.1)) in
          let e : get_or (list I (suc n)) (p - begin I n) 0 ≡ q = rw (list_is I (accepted_outline P I h) n u) (getD_slice I.postings (begin I n) p (begin I (suc n)) x y) in
          let g = rises_next (size P) device (list I (suc n)) (p - begin I n) refl s.placed i in
          let w = single_next P.last (list I (suc n)) (p - begin I n) s.single i in
          let m : length (take p I.postings) ≡ p = length-take-le p I.postings (omega arith) in
          let c1 : (eqb (device q) 0 || ltb (size P) (device q)) ≡ false = let g1 = rw e at g.1 in let g2 = rw e at g.2 in simp tests (omega arith) in
          let c2 : leb r.postings (length (take p I.postings)) ≡ false = omega flags in
          let c3 : leb (device q) (device (entry current (length current))) ≡ false = let g0 = rw e at g.0 in rw current_is (omega flags) in
          let c4 : shadowed P.last current (device q) ≡ false = rw current_is (rw e at w) in
          go (shared q) c1 c2 c3 c4
        where
          go : (b : Bool) → (eqb (device q) 0 || ltb (size P) (device q)) ≡ false → leb r.postings (length (take p I.postings)) ≡ false →
              leb (device q) (device (entry current (length current))) ≡ false → shadowed P.last current (device q) ≡ false →
              line_refusal r (at (n + 1) p postings) (with_number (cond b all_line own_line) (device q)) ≡ 0
          go true c1 c2 c3 c4 = rw (c1, c2, c3, c4)
          go false c1 c2 c3 c4 = rw (c1, c2, c3, c4)

      next_posting : next (at (n + 1) p postings) (posting_form q) ≡ at (n + 1) (suc p) postings
      unfolding next
      next_posting =
          let b = ordered I (accepted_outline P I h) n u in
          let v : p < length I.postings = omega arith in
          posting_next (at (n + 1) p postings) (device q) (shared q) ∙ rw (posting_is q, take-suc I.postings p 0 v)

    -- the term's postings from p on
    postings_taken : (j p : ℕ) → p + j ≡ begin I (suc n) → begin I n ≤ p →
        Takes r (at (n + 1) p postings) (map posting_form (slice p (begin I (suc n)) I.postings)) (at (n + 1) (begin I (suc n)) postings)
    postings_taken zero p e x =
        let z : p ≡ begin I (suc n) = omega arith in
        rw (z, slice_empty (begin I (suc n)) I.postings) none
    postings_taken (suc j) p e x =
        let b = ordered I (accepted_outline P I h) n u in
        let y : p < begin I (suc n) = omega arith in
        let t = postings_taken j (suc p) (omega arith) (omega arith) in
        rw (slice-cons p (begin I (suc n)) I.postings 0 y b.1) (takes_on (posting_written (device (get_or I.postings p 0)) (shared (get_or I.postings p 0))) (rows_posting p x y) (next_posting p x y) t)

    close_posting : (p : ℕ) → (line_refusal r (at (n + 1) p postings) (plain close_line) ≡ 0) × (next (at (n + 1) p postings) (plain close_line) ≡ at (n + 1) p terms)
    unfolding line_refusal next
    close_posting p = (refl, refl)

    term_taken : Takes r (at n (begin I n) (between n)) (term_forms (entry I.terms (suc n)) (list I (suc n))) (at (n + 1) (begin I (suc n)) terms)
    term_taken =
        let b = ordered I (accepted_outline P I h) n u in
        let e : suc n - 1 ≡ n = omega arith in
        let c = close_posting (begin I (suc n)) in
        let ps = postings_taken (begin I (suc n) - begin I n) (begin I n) (omega arith) (omega arith) in
        rw (list_is I (accepted_outline P I h) n u, e) (takes_on (term t) (rows_term (between n) (begin I n) refl) (next_term (between n)) (takes_append ps (takes_on close c.0 c.1 none)))

  terms_taken : (n : ℕ) → n ≤ count I → Takes r (at 0 0 devices) (terms_forms I n) (at n (begin I n) (between n))
  unfolding terms_forms
  terms_taken zero u = rw (first_begin I (accepted_outline P I h)) none
  terms_taken (suc n) u = takes_append (terms_taken n (omega arith)) (rw (add-one n) at (term_taken n (omega arith)))

  close_plant : (k : ℕ) (X : Index) → (line_refusal r (record { stage = between k; opened = []; plant = P; index = X }) (plain close_line) ≡ 0)
      × (next (record { stage = between k; opened = []; plant = P; index = X }) (plain close_line) ≡ record { stage = closed; opened = []; plant = P; index = X })
  unfolding line_refusal next
  close_plant zero X = (refl, refl)
  close_plant (suc k) X = (refl, refl)

  -- all the terms, and the closing line of the plant
  pub closed_taken : Takes r (record { stage = devices; opened = []; plant = P; index = index [] [] [] }) (terms_forms I (count I) ++ plain close_line ∷ [])
      (record { stage = closed; opened = []; plant = P; index = I })
  closed_taken =
      let x : take (count I) I.terms ≡ I.terms = take-length I.terms in
      let y : take (count I) I.starts ≡ I.starts = take_all (count I) I.starts (omega (arith, (accepted P I h).even)) in
      let z : take (begin I (count I)) I.postings ≡ I.postings = take_all (begin I (count I)) I.postings (omega (arith, last_begin I (accepted_outline P I h))) in
      let c = close_plant (count I) I in
      takes_append (rw (x, y, z) at (terms_taken (count I) (omega arith))) (takes_on close c.0 c.1 none)
