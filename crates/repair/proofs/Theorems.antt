-- The theorems of a repair.
use Prim.Native.Nat.{ℕ, ◌+◌, ◌-◌, ◌≤◌}
use mathlib.Core.Path.{◌≡◌, refl, sym, ap, ◌∙◌}
use mathlib.Core.Bool.{false, ◌||◌}
use mathlib.Core.List.{List, [], ◌∷◌, append-nil}
use native.Mathlib.Omega.{arith}
use lib.Dec.{ltb, eqb}
use lib.ListN.{length, length-append}
use borrow.Author.Tests.{le-ltb}
use Rattle.laws.specs.Joined.{joined}
use Rattle.laws.specs.Search.{any}
use Rattle.laws.proofs.Tests.{tests}
use Rattle.laws.proofs.Rows.{otherwise_none, pick_past}
use Rattle.laws.proofs.Search.{any_none, any_or}
use Rattle.laws.proofs.Joined.{any_same, some, some_joined, joined_empty, joined_next, joined_longer}
use Rattle.plant.specs.Plant.{Plant, size, plant_refusal}
use Rattle.plant.proofs.Forest as forests
use Rattle.index.specs.Postings.{device, outside, misplaced}
use Rattle.index.specs.Unshared.{unshared, member}
use Rattle.index.specs.Index.{Index, count, list, misplaced_in, redundant_in, tables_refusal}
use Rattle.index.specs.inner.Lists.{SoundList}
use Rattle.index.specs.inner.Outlined.{Outlined}
use Rattle.index.proofs.Lists.{ranged, rises}
use Rattle.index.proofs.Outline.{outlined, outline_passed}
use Rattle.index.proofs.Accepted.{Accepted, accepted, accepts, accepted_outline, accepted_list}
use Rattle.index.proofs.Begins.{all_lists, laid_own}
use Rattle.index.proofs.Laid.{laid_list, laid_outline, laid_same, laid_list_of}
use Rattle.repair.specs.Repair.{kept_in, dropped_in, repaired, all_dropped, reported, report_in, report_of}
use Rattle.repair.specs.Refusals.{any_outside, falls, falls_in, too_short, repair_refusal}
use Rattle.repair.specs.Promises.{Interleaved, Repairs, Unchanged, Promised}
use Rattle.repair.specs.inner.Lists.{astray_in, Repairable}
use Rattle.repair.proofs.Kept.{carried_kept, kept_sound, dropped_none}
use Rattle.repair.proofs.Interleaving.{interleaved_length, interleaved_none, joined_interleaved, kept_interleaved}
use Rattle.repair.proofs.Lists.{list_fit}

-- ---- postings astray

-- some posting of all is out of range where one of some list is
outside_lists : (last : List ℕ) (I : Index) → Outlined I → any_outside last I ≡ any (count I) (λ k. any (length (list I k)) (outside (length last) device (list I k)))
outside_lists last I o =
    ap (some (λ q. eqb (device q) 0 || ltb (length last) (device q))) (sym (all_lists I o))
    ∙ some_joined (list I) (λ q. eqb (device q) 0 || ltb (length last) (device q)) (count I)

-- some posting is astray where row 8 or 41 applies
pub astray_rows : (last : List ℕ) (I : Index) → Outlined I → any (count I) (astray_in last I) ≡ (any_outside last I || any (count I) (falls_in I))
astray_rows last I o =
    any_same _ _ (count I) (λ k a b. any_or (outside (length last) device (list I k)) (falls (list I k)) (length (list I k)))
    ∙ any_or (λ k. any (length (list I k)) (outside (length last) device (list I k))) (falls_in I) (count I)
    ∙ rw (outside_lists last I o)

-- ---- what is known where no row applies

pub record Unrefused (P : Plant) (I : Index) (room : ℕ) : Type 0 where
  pub tables : plant_refusal P ≡ 0
  pub lists : Repairable P.last I
  pub long : too_short P I room ≡ false

pub unrefused : (P : Plant) (I : Index) (room : ℕ) → repair_refusal P I room ≡ 0 → Unrefused P I room
unfolding repair_refusal
unrefused P I room h =
    let a = otherwise_none (plant_refusal P) _ h in
    let o = outlined 5 I _ (omega arith) a.1 in
    let r8 = pick_past (any_outside P.last I) 8 _ (omega arith) o.1 in
    let r41 = pick_past (any (count I) (falls_in I)) 41 _ (omega arith) r8.1 in
    let r44 = pick_past (too_short P I room) 44 _ (omega arith) r41.1 in
    record {
      tables = a.0;
      lists = record { outline = o.0; ordered = astray_rows P.last I o.0 ∙ rw (r8.0, r41.0) };
      long = r44.0;
    }

-- ---- the repaired index

-- kept and dropped together are all postings
pub interleaved : (P : Plant) (I : Index) → Outlined I → Interleaved (repaired P I).postings (all_dropped P I) I.postings
interleaved P I o =
    rw (all_lists I o) at (joined_interleaved (kept_in P I) (dropped_in P I) (list I) (count I) (λ k a b. kept_interleaved P.last (list I k)))

module _ (P : Plant) (I : Index) (room : ℕ) (u : Unrefused P I room) where
  abbrev S : forests.Sound P
  S = forests.accepted P u.tables

  sound_in : (k : ℕ) → 1 ≤ k → k ≤ count I → SoundList P.last (list (repaired P I) k)
  sound_in k a b = rw (laid_list I.terms (kept_in P I) k a b) (kept_sound P S (list I k) (list_fit u.lists k a b))

  repaired_accepted : Accepted P (repaired P I)
  repaired_accepted =
      let o = u.lists.outline in
      let n = interleaved_length (interleaved P I o) in
      let p = laid_outline I.terms (kept_in P I) o.few_terms o.terms_rise (omega (arith, o.few_postings)) in
      record {
        tables = u.tables;
        even = p.even;
        few_terms = p.few_terms;
        few_postings = p.few_postings;
        terms_rise = p.terms_rise;
        starts_rise = p.starts_rise;
        none_stray = p.none_stray;
        devices_rise = sym (any_none (misplaced_in (size P) (repaired P I)) (λ k a b. (sound_in k a b).placed));
        none_redundant = sym (any_none (redundant_in P.last (repaired P I)) (λ k a b. (sound_in k a b).single));
      }

  pub repairs : Repairs P I
  repairs = record {
    carried = laid_list_of I (kept_in P I) (λ j i. (d : ℕ) → member d (unshared P.last j) ≡ member d (unshared P.last i))
        (λ k a b. carried_kept P S (list I k) (list_fit u.lists k a b)) (λ d. refl);
    accepted = accepts P (repaired P I) repaired_accepted;
    together = interleaved P I u.lists.outline;
  }

-- ---- nothing is dropped

none_of : (l : List ℕ) → length l ≡ 0 → l ≡ []
none_of [] e = refl
none_of (x ∷ xs) e = absurd (omega arith)

none_in : (part : ℕ → List ℕ) (n : ℕ) → length (joined part n) ≡ 0 → (k : ℕ) → 1 ≤ k → k ≤ n → part k ≡ []
none_in part n e k a b =
    let z : k - 1 + 1 ≡ k = omega arith in
    let h = rw z at (ap length (joined_next part (k - 1)) ∙ length-append (joined part (k - 1)) (part (k - 1 + 1))) in
    none_of (part k) (omega (arith, joined_longer part k n b))

module _ (P : Plant) (I : Index) (o : Outlined I) (none : length (all_dropped P I) ≡ 0) where
  same_lists : (k : ℕ) → 1 ≤ k → k ≤ count I → kept_in P I k ≡ list I k
  same_lists k a b = interleaved_none (kept_interleaved P.last (list I k)) (none_in (dropped_in P I) (count I) none k a b)

  same_index : repaired P I ≡ I
  same_index = laid_same I.terms (kept_in P I) (list I) same_lists ∙ laid_own I o

  no_report : report_of P I ≡ []
  unfolding reported
  no_report = joined_empty (report_in P I) (count I) (λ k a b. rw (none_in (dropped_in P I) (count I) none k a b))

  pub unchanged : (lent : List ℕ) → repair_refusal P I (length lent) ≡ 0 → Unchanged P I lent
  unchanged lent z =
      let size_same : length I.postings - length I.postings ≡ 0 = omega arith in
      let postings-same = ap (λ (J : Index). J.postings) same_index in
      record {
        outcome = rw (z, none, postings-same);
        starts = rw z (ap (λ (J : Index). J.starts) same_index);
        postings = rw (z, postings-same, size_same, append-nil);
        report = rw (z, no_report);
      }

-- "a clean store comes back unchanged with nothing reported"
module _ (P : Plant) (I : Index) (clean : tables_refusal P I ≡ 0) where
  none_dropped : length (all_dropped P I) ≡ 0
  none_dropped = ap length (joined_empty (dropped_in P I) (count I) (λ k a b. dropped_none P.last (list I k) (accepted_list P I clean k a b)))

  clean_refusal : (room : ℕ) → repair_refusal P I room ≡ 0
  unfolding repair_refusal
  clean_refusal room =
      let h = accepted P I clean in
      let o = accepted_outline P I clean in
      let placed : (k : ℕ) → 1 ≤ k → k ≤ count I → any (length (list I k)) (misplaced (size P) device (list I k)) ≡ false = λ k a b. (accepted_list P I clean k a b).placed in
      let r8 : any_outside P.last I ≡ false = outside_lists P.last I o ∙ sym (any_none _ (λ k a b. sym (any_none _ (λ i c d.
      let r = ranged (size P) device (list I k) (placed k a b) i c d in simp tests (omega arith))))) in
      let r41 : any (count I) (falls_in I) ≡ false = sym (any_none (falls_in I) (λ k a b. sym (any_none _ (λ i c d. simp tests (λ v.
      let r = rises (size P) device (list I k) (placed k a b) (i - 1) i (omega arith) (omega arith) d in omega arith))))) in
      let r44 : too_short P I room ≡ false = rw none_dropped (le-ltb room 0 (omega arith)) in
      rw h.tables (outline_passed 5 I _ o ∙ rw (r8, r41, r44))

  clean_unchanged : (lent : List ℕ) → Unchanged P I lent
  clean_unchanged lent = unchanged P I (accepted_outline P I clean) none_dropped lent (clean_refusal (length lent))

pub promised : (P : Plant) (I : Index) (lent : List ℕ) → Promised P I lent
promised P I lent = record {
  repairs = λ z. repairs P I (length lent) (unrefused P I (length lent) z);
  clean = λ z. clean_unchanged P I z lent;
}
