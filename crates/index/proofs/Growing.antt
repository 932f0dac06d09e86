-- An index that grows by a term or a posting: what is accepted stays so.
use Prim.Native.Nat.{ℕ, ◌+◌, ◌-◌, ◌<◌, ◌≤◌}
use mathlib.Core.Path.{◌≡◌, refl, sym, ◌∙◌}
use mathlib.Core.Bool.{Bool, false}
use mathlib.Core.List.{List, [], ◌∷◌, ◌++◌}
use native.Mathlib.Omega.{arith}
use borrow.Author.Tests.{lt-leb}
use lib.Dec.{leb}
use lib.ListN.{length, get_or, take, length-append, get_or-append, get_or-eq_default}
use lib.Seq.{slice_empty, take-length, take-append-le, drop-append-le, get_or_at}
use Rattle.laws.specs.Limits.{highest_term}
use Rattle.laws.specs.Search.{any}
use Rattle.laws.specs.Tables.{entry}
use Rattle.laws.specs.inner.Entries.{IsEntry}
use Rattle.laws.proofs.Tests.{tests}
use Rattle.laws.proofs.Cases.{by_order}
use Rattle.laws.proofs.Lists.{getD_within}
use Rattle.laws.proofs.Search.{any_none, none_any}
use Rattle.plant.specs.Plant.{Plant, size, plant_refusal}
use Rattle.index.specs.Postings.{device, reach, misplaced, shadowed}
use Rattle.index.specs.Index.{Index, index, count, list, wrong_start, misplaced_in, redundant_in, most_terms, most_postings}
use Rattle.index.specs.inner.Lists.{SoundList}
use Rattle.index.proofs.Lists.{ranged, rises, reaches, shadowed_last}
use Rattle.index.proofs.Accepted.{Accepted, accepts, bounds}

module _ (l : List ℕ) (q : ℕ) where
  longer : length (l ++ (q ∷ [])) ≡ length l + 1
  longer = length-append l (q ∷ [])

  pub entry_before : (k : ℕ) → 1 ≤ k → k ≤ length l → entry (l ++ (q ∷ [])) k ≡ entry l k
  entry_before k a b = get_or-append l (q ∷ []) 0 (k - 1) (omega arith)

  pub entry_new : (k : ℕ) → k ≡ length l + 1 → entry (l ++ (q ∷ [])) k ≡ q
  entry_new k e = get_or_at l q [] 0 (k - 1) (omega arith)

  -- what holds of each entry of the list and of the new one
  none_longer : (f : ℕ → Bool) → ((k : ℕ) → 1 ≤ k → k ≤ length l → f k ≡ false) → f (length l + 1) ≡ false → any (length (l ++ (q ∷ []))) f ≡ false
  none_longer f h e = rw longer (sym (any_none f (λ k a b. by_order k (length l + 1) (λ v. h k a (omega arith)) (λ v. let z : k ≡ length l + 1 = omega arith in rw z e))))

pub empty_entry : (l : List ℕ) (k : ℕ) → length l ≡ 0 → entry l k ≡ 0
empty_entry l k e = get_or-eq_default l 0 (omega arith)

-- a table whose keys rise, with one more
module _ (most : ℕ) (key : ℕ → ℕ) (l : List ℕ) (q : ℕ) where
  pub placed_more : any (length l) (misplaced most key l) ≡ false → 1 ≤ key q → key q ≤ most → key (entry l (length l)) < key q →
      any (length (l ++ (q ∷ []))) (misplaced most key (l ++ (q ∷ []))) ≡ false
  placed_more h a b u = none_longer l q _
      (λ k c d. by_order 1 k
      (λ v. let n = none_any _ h k c d in rw (entry_before l q k c d, entry_before l q (k - 1) (omega arith) (omega arith)) n)
      (λ v. let n = simp tests at (none_any _ h k c d) in rw (entry_before l q k c d) (simp tests (omega arith))))
      (let z : length l + 1 - 1 ≡ length l = omega arith in
      by_order 0 (length l)
      (λ v. rw (entry_new l q (length l + 1) refl, z, entry_before l q (length l) v (omega arith)) (simp tests (omega arith)))
      (λ v. rw (entry_new l q (length l + 1) refl) (simp tests (omega arith))))

pub sound_none : (last l : List ℕ) → length l ≡ 0 → SoundList last l
unfolding any
sound_none last l e = record { placed = rw e; single = rw e }

module _ (last l : List ℕ) (h : SoundList last l) where
  -- the newest posting is for a device of the plant
  pub newest_entry : (q : ℕ) → q ≡ entry l (length l) → (q ≡ 0 → ⊥) → IsEntry last (device q)
  newest_entry q e n =
      by_order 0 (length l)
      (λ v. let g = ranged (length last) device l h.placed (length l) v (omega arith) in rw e (record { first = g.0; last = g.1 }))
      (λ v. absurd (n (e ∙ empty_entry l (length l) (omega arith))))

  -- only the newest posting can have a later device in its branch
  pub shadowed_newest : (d : ℕ) → 1 ≤ d → device (entry l (length l)) < d → shadowed last l d ≡ leb d (reach last (entry l (length l)))
  unfolding any
  shadowed_newest d a u =
      by_order 0 (length l)
      (λ v. shadowed_last last l (length last) h.placed d h.single v u ∙ reaches last (entry l (length l)) d u)
      (λ v. let z : length l ≡ 0 = omega arith in rw (empty_entry l (length l) z, z) (sym (lt-leb d 0 a)))

  module _ (q : ℕ) (a : 1 ≤ device q) (b : device q ≤ length last) (u : device (entry l (length l)) < device q) (s : shadowed last l (device q) ≡ false) where
    before_new : (k : ℕ) → 1 ≤ k → k ≤ length l → device (entry l k) < device q
    before_new k c d = by_order k (length l)
        (λ v. let g = rises (length last) device l h.placed k (length l) c v (omega arith) in omega arith)
        (λ v. let z : k ≡ length l = omega arith in rw z u)

    single_more : (e : ℕ) → e ≤ device q → shadowed last l e ≡ false → shadowed last (l ++ (q ∷ [])) e ≡ false
    single_more e g n = none_longer l q _
        (λ i c d. rw (entry_before l q i c d) (none_any _ n i c d))
        (rw (entry_new l q (length l + 1) refl) (simp tests (λ p. absurd (omega arith))))

    pub sound_more : SoundList last (l ++ (q ∷ []))
    sound_more = record {
      placed = placed_more (length last) device l q h.placed a b u;
      single = none_longer l q _
          (λ k c d. let g = before_new k c d in rw (entry_before l q k c d) (single_more (device (entry l k)) (omega arith) (none_any _ h.single k c d)))
          (rw (entry_new l q (length l + 1) refl) (single_more (device q) (omega arith) s));
    }

-- with no term
pub accepted_none : (P : Plant) → plant_refusal P ≡ 0 → Accepted P (index [] [] [])
unfolding any
accepted_none P h = record {
  tables = h;
  even = refl;
  few_terms = omega arith;
  few_postings = omega arith;
  terms_rise = refl;
  starts_rise = refl;
  none_stray = refl;
  devices_rise = refl;
  none_redundant = refl;
}

-- rows 8 and 9, list by list
record SoundLists (P : Plant) (I : Index) : Type 0 where
  each : (k : ℕ) → 1 ≤ k → k ≤ count I → SoundList P.last (list I k)

lists_of : (P : Plant) (I : Index) → Accepted P I → SoundLists P I
lists_of P I a = record {
  each = λ k l u. record { placed = none_any (misplaced_in (size P) I) a.devices_rise k l u; single = none_any (redundant_in P.last I) a.none_redundant k l u };
}

module _ (P : Plant) (I : Index) (h : SoundLists P I) where
  lists_placed : any (count I) (misplaced_in (size P) I) ≡ false
  lists_placed = sym (any_none _ (λ k l u. (h.each k l u).placed))

  lists_single : any (count I) (redundant_in P.last I) ≡ false
  lists_single = sym (any_none _ (λ k l u. (h.each k l u).single))

-- row 7, start by start
record Start (I : Index) (k : ℕ) : Type 0 where
  first : k ≡ 1 → entry I.starts k ≡ 0
  later : 1 < k → entry I.starts (k - 1) ≤ entry I.starts k
  within : entry I.starts k ≤ length I.postings

start_of : (I : Index) (k : ℕ) → wrong_start I k ≡ false → Start I k
start_of I k h =
    let t = simp tests at h in
    record { first = λ e. omega (arith, t.0.0 e); later = λ u. omega (arith, t.0.1 u); within = omega arith }

start_right : (I : Index) (k : ℕ) → Start I k → wrong_start I k ≡ false
start_right I k s = simp tests ((s.first, λ u. omega (arith, s.later u)), omega (arith, s.within))

-- a term opens
module _ (P : Plant) (I : Index) (t : ℕ) (a : Accepted P I) where
  abbrev opened : Index
  opened = index (I.terms ++ (t ∷ [])) (I.starts ++ (length I.postings ∷ [])) I.postings

  -- the lists before it stay, and its own is empty
  list_stays : (k : ℕ) → 1 ≤ k → k ≤ count I → list opened k ≡ list I k
  list_stays k l u =
      let n = length I.postings in
      let e = a.even in
      let x : entry opened.starts k ≡ entry I.starts k = entry_before I.starts n k l (omega arith) in
      let y : get_or opened.starts k n ≡ get_or I.starts k n = by_order k (length I.starts)
      (λ v. get_or-append I.starts (n ∷ []) n k v)
      (λ v. get_or_at I.starts n [] n k (omega arith) ∙ sym (get_or-eq_default I.starts n v)) in
      rw (x, y)

  list_new : list opened (count I + 1) ≡ []
  list_new =
      let n = length I.postings in
      let e = a.even in
      let m = length-append I.starts (n ∷ []) in
      let x : entry opened.starts (count I + 1) ≡ n = entry_new I.starts n (count I + 1) (omega arith) in
      let y : get_or opened.starts (count I + 1) n ≡ n = get_or-eq_default opened.starts n (omega arith) in
      rw (x, y) (slice_empty n I.postings)

  open_lists : SoundLists P opened
  open_lists = record {
    each = λ k l u.
        let m = length-append I.terms (t ∷ []) in
        by_order k (count I + 1) (λ v. rw (list_stays k l (omega arith)) ((lists_of P I a).each k l (omega arith)))
        (λ v. let z : k ≡ count I + 1 = omega arith in rw (z, list_new) (sound_none P.last [] refl));
  }

  open_start : (k : ℕ) → 1 ≤ k → k ≤ count I + 1 → Start opened k
  open_start k l u =
      let n = length I.postings in
      let e = a.even in
      by_order k (count I + 1)
      (λ v.
      let s = start_of I k (none_any (wrong_start I) a.starts_rise k l (omega arith)) in
      let x = entry_before I.starts n k l (omega arith) in record {
        first = λ z. x ∙ s.first z;
        later = λ w. let y = entry_before I.starts n (k - 1) (omega arith) (omega arith) in omega (arith, s.later w);
        within = omega (arith, s.within);
      })
      (λ v.
      let x = entry_new I.starts n k (omega arith) in record {
        first = λ z. let w = (simp tests at a.none_stray) (omega arith) in omega arith;
        later = λ w.
            let y = entry_before I.starts n (k - 1) (omega arith) (omega arith) in
            let s = start_of I (k - 1) (none_any (wrong_start I) a.starts_rise (k - 1) (omega arith) (omega arith)) in omega (arith, s.within);
        within = omega arith;
      })

  pub accepted_open : 1 ≤ t → t ≤ highest_term → entry I.terms (count I) < t → count I + 1 ≤ most_terms → Accepted P opened
  accepted_open l u r few =
      let m = length-append I.terms (t ∷ []) in
      let n = length-append I.starts (length I.postings ∷ []) in
      let e = a.even in record {
        tables = a.tables;
        even = omega arith;
        few_terms = omega arith;
        few_postings = a.few_postings;
        terms_rise = placed_more highest_term (λ t. t) I.terms t a.terms_rise l u r;
        starts_rise = sym (any_none _ (λ k c d. start_right opened k (open_start k c (omega arith))));
        none_stray = simp tests (λ z. absurd (omega arith));
        devices_rise = lists_placed P opened open_lists;
        none_redundant = lists_single P opened open_lists;
      }

-- a posting is added to the newest term's list
module _ (P : Plant) (I : Index) (q : ℕ) (a : Accepted P I) (some-term : 1 ≤ count I) where
  abbrev added : Index
  added = index I.terms I.starts (I.postings ++ (q ∷ []))

  -- the lists before it stay
  list_before : (k : ℕ) → 1 ≤ k → k < count I → list added k ≡ list I k
  list_before k l u =
      let e = a.even in
      let b = bounds P I (accepts P I a) k l (omega arith) in
      let x : get_or I.starts k (length added.postings) ≡ get_or I.starts k (length I.postings) = getD_within I.starts k _ _ (omega arith) in
      let y : take (get_or I.starts k (length I.postings)) added.postings ≡ take (get_or I.starts k (length I.postings)) I.postings =
      take-append-le _ I.postings (q ∷ []) b.1 in
      rw (x, y)

  list_newest : list added (count I) ≡ list I (count I) ++ (q ∷ [])
  list_newest =
      let e = a.even in
      let n = length I.postings in
      let b = bounds P I (accepts P I a) (count I) some-term (omega arith) in
      let x : get_or I.starts (count I) (length added.postings) ≡ length added.postings = get_or-eq_default I.starts _ (omega arith) in
      let y : get_or I.starts (count I) n ≡ n = get_or-eq_default I.starts n (omega arith) in
      rw (x, y, take-length added.postings, take-length I.postings) (drop-append-le (entry I.starts (count I)) I.postings (q ∷ []) (omega arith))

  abbrev newest : List ℕ
  newest = list I (count I)

  module _ (l : 1 ≤ device q) (u : device q ≤ size P) (r : device (entry newest (length newest)) < device q) (s : shadowed P.last newest (device q) ≡ false) where
    add_lists : SoundLists P added
    add_lists = record {
      each = λ k c d.
          by_order k (count I) (λ v. rw (list_before k c v) ((lists_of P I a).each k c d))
          (λ v. let z : k ≡ count I = omega arith in
          rw (z, list_newest) (sound_more P.last newest ((lists_of P I a).each (count I) some-term (omega arith)) q l u r s));
    }

    pub accepted_add : length I.postings + 1 ≤ most_postings → Accepted P added
    accepted_add few =
        let m = length-append I.postings (q ∷ []) in
        record {
          tables = a.tables;
          even = a.even;
          few_terms = a.few_terms;
          few_postings = omega arith;
          terms_rise = a.terms_rise;
          starts_rise = sym (any_none _ (λ k c d.
              let s = start_of I k (none_any (wrong_start I) a.starts_rise k c d) in
              start_right added k (record { first = s.first; later = s.later; within = omega (arith, s.within) })));
          none_stray = simp tests (λ z. absurd (omega arith));
          devices_rise = lists_placed P added add_lists;
          none_redundant = lists_single P added add_lists;
        }
