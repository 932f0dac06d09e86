-- Going through the lists of an index, each of which is made anew in the room of the old ones and is no longer than it was.
use Prim.Native.Nat.{ℕ, zero, suc, ◌+◌, ◌-◌, ◌≤◌, ◌<◌}
use mathlib.Core.Path.{◌≡◌, refl, sym, ap, ◌∙◌}
use mathlib.Core.List.{List, ◌∷◌, [], ◌++◌}
use native.Mathlib.Omega.{arith}
use native.Mathlib.Numerals.{add-one}
use lib.ListN.{length, get_or, take, drop, set, replicate, length-append, length-set}
use lib.Seq.{slice, length-slice, take_all, drop-set-lt}
use Rattle.laws.specs.Joined.{joined}
use Rattle.laws.specs.Lent.{filled}
use Rattle.laws.proofs.Lists.{take_written, same_from, same_later, same_part}
use Rattle.laws.proofs.Joined.{joined_next}
use Rattle.index.specs.Index.{Index, count, list, most_postings}
use Rattle.index.specs.Laid.{laid}
use Rattle.index.specs.inner.Outlined.{Outlined}
use Rattle.index.specs.inner.Laying.{ListPut, ListsLaid}
use Rattle.index.proofs.Begins.{begin, list_is, ordered, first_begin, begin_within}

-- each list is no longer than it was
abbrev pub NoLonger : Index → (ℕ → List ℕ) → Type 0
NoLonger I lists = (k : ℕ) → 1 ≤ k → k ≤ count I → length (lists k) ≤ length (list I k)

-- the first k lists are made anew, and the next begins at `start`
pub record Laying (I : Index) (lists : ℕ → List ℕ) (starts postings : List ℕ) (place start k : ℕ) : Type 0 where
  pub within : k ≤ count I
  pub start_is : start ≡ begin I k
  pub rest : drop start postings ≡ drop start I.postings
  pub done : ListsLaid I lists k starts postings place

module _ (I : Index) (lists : ℕ → List ℕ) (o : Outlined I) where
  pub lay_start : Laying I lists I.starts I.postings 0 0 0
  unfolding joined
  lay_start = record {
    within = omega arith;
    start_is = sym (first_begin I o);
    rest = refl;
    done = record { place_is = refl; starts_size = refl; starts_front = refl; starts_rest = refl; size = refl; front = refl };
  }

  -- so the first k end no later than they did
  pub first_shorter : NoLonger I lists → (k : ℕ) → k ≤ count I → length (joined lists k) ≤ begin I k
  unfolding joined
  first_shorter short zero u = omega arith
  first_shorter short (suc k) u =
      let h = first_shorter short k (omega arith) in
      let b = ordered I o k u in
      let s = short (suc k) (omega arith) u in
      let w = ap length (list_is I o k u) ∙ length-slice (begin I k) (begin I (suc k)) I.postings b.1 in
      simp length-append (omega arith)

module _ {I : Index} {lists : ℕ → List ℕ} {starts p : List ℕ} {place start k : ℕ} (o : Outlined I) (short : NoLonger I lists)
    (t : Laying I lists starts p place start k) where
  pub lay_end : count I ≤ k → ListsLaid I lists (count I) starts p place
  lay_end u = let e : k ≡ count I = omega (arith, t.within) in rw e at t.done

  lay_low : place ≤ start
  lay_low = omega (arith, first_shorter I lists o short k t.within, t.start_is, t.done.place_is)

  pub lay_few : place ≤ most_postings
  lay_few = omega (arith, lay_low, t.start_is, begin_within I o k t.within, o.few_postings)

  pub lay_starts : k < count I → k < length starts
  lay_starts u = omega (arith, t.done.starts_size, o.even)

  -- the next list
  module _ {end : ℕ} (u : k < count I) (e : end ≡ get_or starts (k + 1) (length p)) where
    end_is : end ≡ begin I (k + 1)
    end_is = rw (e, t.done.size) (same_from starts I.starts k t.done.starts_rest (k + 1) _ (omega arith))

    bounds : (start ≤ end) × (end ≤ length I.postings)
    bounds = rw (t.start_is, end_is, add-one k) (ordered I o k u)

    pub lay_bounds : (place ≤ start) × (start ≤ end) × (end ≤ length p)
    lay_bounds = let b = bounds in let s = t.done.size in (lay_low, b.0, omega arith)

    pub lay_list : slice start end p ≡ list I (k + 1)
    lay_list =
        let b = bounds in
        let s = t.done.size in
        same_part p I.postings start t.rest end b.0 (omega arith) b.1
        ∙ rw (t.start_is, end_is, add-one k) (sym (list_is I o k u))

    pub lay_turn : {v place' : ℕ} {starts' p' : List ℕ} → v ≡ place → starts' ≡ set starts k v → ListPut p end place (lists (k + 1)) p' place'
        → Laying I lists starts' p' place' end (k + 1)
    lay_turn {v} {place'} v-is starts-are c =
        let h = t.done in
        let z : k + 1 - 1 ≡ k = omega arith in
        let n = ap length (joined_next lists k) ∙ length-append (joined lists k) (lists (k + 1)) in
        record {
          within = omega arith;
          start_is = end_is;
          rest = c.rest ∙ same_later p I.postings start t.rest end bounds.0;
          done = record {
            place_is = omega (arith, c.place_is, h.place_is);
            starts_size = rw starts-are (length-set starts k v) ∙ h.starts_size;
            starts_front = rw (starts-are, joined_next (λ i. length (joined lists (i - 1)) ∷ []) k, z, ← h.place_is, ← h.starts_front, v-is)
                (take_written starts k (k + 1) place refl (lay_starts u));
            starts_rest = rw starts-are (drop-set-lt (k + 1) starts k v (omega arith)) ∙ same_later starts I.starts k h.starts_rest (k + 1) (omega arith);
            size = c.size ∙ h.size;
            front = c.front ∙ ap (λ (x : List ℕ). x ++ lists (k + 1)) h.front ∙ sym (joined_next lists k);
          };
        }

-- all lists are: starts and postings are those of the index made of them
module _ {I : Index} {lists : ℕ → List ℕ} {starts p : List ℕ} {place : ℕ} (o : Outlined I) (d : ListsLaid I lists (count I) starts p place) where
  pub laid_starts : starts ≡ (laid I.terms lists).starts
  laid_starts = sym (take_all (count I) starts (omega (arith, d.starts_size, o.even))) ∙ d.starts_front

  -- and what is behind them is cleared
  pub laid_postings : {p' : List ℕ} → p' ≡ take place p ++ replicate (length p - place) 0 → p' ≡ filled (length I.postings) (laid I.terms lists).postings
  laid_postings e = e ∙ rw (d.front, d.size, d.place_is)
