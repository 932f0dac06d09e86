-- What an accepted index is, and what it says of each of its lists.
use Prim.Native.Nat.{ℕ, zero, suc, ◌+◌, ◌-◌, ◌≤◌, ◌<◌}
use mathlib.Core.Path.{◌≡◌, sym}
use mathlib.Core.Bool.{false}
use mathlib.Core.List.{List, [], ◌∷◌}
use native.Mathlib.Omega.{arith}
use lib.ListN.{length, get_or}
use Rattle.laws.specs.Search.{any, lowest}
use Rattle.laws.specs.Tables.{entry}
use Rattle.plant.specs.Plant.{Plant, size, plant_refusal}
use Rattle.laws.specs.inner.Entries.{IsEntry}
use Rattle.index.specs.Postings.{device}
use Rattle.index.specs.Forward.{Sorted}
use Rattle.index.specs.inner.Lists.{SoundList}
use Rattle.index.specs.inner.Outlined.{Outlined}
use Rattle.index.specs.Index.{Index, count, list, is_term, list_of, misplaced_term, wrong_start, stray, misplaced_in, redundant_in, index_rows, tables_refusal, most_terms, most_postings}
use Rattle.laws.proofs.Cases.{split_cond}
use Rattle.laws.proofs.Rows.{otherwise_none, pick_past}
use Rattle.laws.proofs.Search.{none_yet, none_any, any_none, lowest_of}
use Rattle.index.proofs.Lists.{here, ranged, rises, not_falling}
use Rattle.index.proofs.Outline.{outlined, outline_passed}
use Rattle.index.proofs.Starts.{start_bounds}

-- the devices of a list lie above a, up to n, and rise strictly
abbrev pub Rising : ℕ → ℕ → List ℕ → Type 0
Rising n a [] = Unit
Rising n a (q ∷ qs) = (a < device q) × (device q ≤ n) × Rising n (device q) qs

-- what the rows come to where none applies
pub record Accepted (P : Plant) (I : Index) : Type 0 where
  pub tables : plant_refusal P ≡ 0
  pub even : length I.starts ≡ count I
  pub few_terms : count I ≤ most_terms
  pub few_postings : length I.postings ≤ most_postings
  pub terms_rise : any (count I) (misplaced_term I) ≡ false
  pub starts_rise : any (count I) (wrong_start I) ≡ false
  pub none_stray : stray I ≡ false
  pub devices_rise : any (count I) (misplaced_in (size P) I) ≡ false
  pub none_redundant : any (count I) (redundant_in P.last I) ≡ false

-- over accepted device tables, from whatever number on the rows are numbered
pub accepted_rows : (first : ℕ) (P : Plant) (I : Index) → 1 ≤ first → plant_refusal P ≡ 0 → index_rows first P.last I ≡ 0 → Accepted P I
unfolding index_rows
accepted_rows first P I u t h =
    let o = outlined first I _ u h in
    let r8 = pick_past (any (count I) (misplaced_in (size P) I)) (first + 3) _ (omega arith) o.1 in
    let r9 = pick_past (any (count I) (redundant_in P.last I)) (first + 4) _ (omega arith) r8.1 in
    record {
      tables = t;
      even = o.0.even;
      few_terms = o.0.few_terms;
      few_postings = o.0.few_postings;
      terms_rise = o.0.terms_rise;
      starts_rise = o.0.starts_rise;
      none_stray = o.0.none_stray;
      devices_rise = r8.0;
      none_redundant = r9.0;
    }

pub accepted : (P : Plant) (I : Index) → tables_refusal P I ≡ 0 → Accepted P I
unfolding tables_refusal
accepted P I h =
    let a = otherwise_none (plant_refusal P) (index_rows 5 P.last I) h in
    accepted_rows 5 P I (omega arith) a.0 a.1

-- its lists lie one after another
outline_of : {P : Plant} {I : Index} → Accepted P I → Outlined I
outline_of a =
    record {
      even = a.even;
      few_terms = a.few_terms;
      few_postings = a.few_postings;
      terms_rise = a.terms_rise;
      starts_rise = a.starts_rise;
      none_stray = a.none_stray;
    }

-- what is accepted is refused by none of 1 to 9
pub accepts : (P : Plant) (I : Index) → Accepted P I → tables_refusal P I ≡ 0
unfolding tables_refusal index_rows
accepts P I a = rw (a.tables, a.devices_rise, a.none_redundant) (outline_passed 5 I 0 (outline_of a))

-- the device before index k of a list that stands after device a
abbrev prior : ℕ → List ℕ → ℕ → ℕ
prior a l zero = a
prior a l (suc k) = device (get_or l k 0)

rising_of : (n a : ℕ) (l : List ℕ) → ((k : ℕ) → k < length l → (prior a l k < device (get_or l k 0)) × (device (get_or l k 0) ≤ n)) → Rising n a l
rising_of n a [] h = tt
rising_of n a (q ∷ qs) h = ((h 0 (omega arith)).0, (h 0 (omega arith)).1, rising_of n (device q) qs step)
  where
    step : (k : ℕ) → k < length qs → (prior (device q) qs k < device (get_or qs k 0)) × (device (get_or qs k 0) ≤ n)
    step zero u = h 1 (omega arith)
    step (suc k) u = h (suc (suc k)) (omega arith)

-- so there are no more postings than devices
rising_few : (n a : ℕ) (l : List ℕ) → Rising n a l → length l ≤ n - a
rising_few n a [] r = omega arith
rising_few n a (q ∷ qs) r = omega (arith, rising_few n (device q) qs r.2)

-- what a sound list is, device by device
module _ {last l : List ℕ} (s : SoundList last l) where
  pub sound_device : (k : ℕ) → k < length l → IsEntry last (device (get_or l k 0))
  sound_device k h =
      let r = ranged (length last) device l s.placed (k + 1) (omega arith) (omega arith) in
      let e = here device l k in
      record { first = omega arith; last = omega arith }

  pub sound_sorted : (f : ℕ) → Sorted l f
  sound_sorted f j k a b u = not_falling (length last) device l s.placed j k b u

  above : (k : ℕ) → k < length l → (prior 0 l k < device (get_or l k 0)) × (device (get_or l k 0) ≤ length last)
  above zero u = let r = sound_device 0 u in omega arith
  above (suc k) u =
      let e = here device l k in
      let f = here device l (suc k) in
      let r = sound_device (suc k) u in
      let t = rises (length last) device l s.placed (k + 1) (suc k + 1) (omega arith) (omega arith) (omega arith) in omega arith

  pub sound_rising : Rising (length last) 0 l
  sound_rising = rising_of (length last) 0 l above

  pub sound_next : (k : ℕ) → k + 1 < length l → device (get_or l k 0) < device (get_or l (k + 1) 0)
  sound_next k u = let e : k + 1 ≡ suc k = omega arith in rw e (above (suc k) (omega arith)).0

  pub sound_few : length l ≤ length last
  sound_few = omega (arith, rising_few (length last) 0 l sound_rising)

-- where none of the rows applies
pub accepted_outline : (P : Plant) (I : Index) → tables_refusal P I ≡ 0 → Outlined I
accepted_outline P I none = outline_of (accepted P I none)

module _ (P : Plant) (I : Index) (none : tables_refusal P I ≡ 0) where
  -- each list starts no later than it ends, and ends within the postings
  pub bounds : (k : ℕ) → 1 ≤ k → k ≤ count I
      → (entry I.starts k ≤ get_or I.starts k (length I.postings)) × (get_or I.starts k (length I.postings) ≤ length I.postings)
  bounds = start_bounds I (accepted_outline P I none)

  -- the list of the k-th term
  pub accepted_list : (k : ℕ) → 1 ≤ k → k ≤ count I → SoundList P.last (list I k)
  accepted_list k a b =
      let h = accepted P I none in
      record { placed = none_any _ h.devices_rise k a b; single = none_any _ h.none_redundant k a b }

  -- the list of a term, absent or not
  pub accepted_list_of : (t : ℕ) → SoundList P.last (list_of I t)
  accepted_list_of t =
      split_cond (SoundList P.last) (any (count I) (is_term I t))
      (λ p. let k = lowest_of (is_term I t) (count I) p in accepted_list (lowest (count I) (is_term I t)) k.first k.last)
      (λ p. record { placed = sym (any_none _ (none_yet _ 0)); single = sym (any_none _ (none_yet _ 0)) })
