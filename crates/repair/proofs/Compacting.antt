-- Compacting a list: what is kept goes down, and what is dropped is reported.
use Prim.Native.Nat.{ℕ, zero, suc, ◌+◌, ◌*◌, ◌-◌, ◌%◌, ◌≤◌, ◌<◌, max}
use mathlib.Core.Path.{◌≡◌, refl, sym, ap, ◌∙◌}
use mathlib.Core.Bool.{true, false}
use mathlib.Core.List.{List, [], ◌∷◌, ◌++◌, append_assoc, append-nil}
use native.Mathlib.Omega.{arith}
use lib.Dec.{ltb}
use lib.ListN.{length, get_or, take, drop, set, length-append, length-set}
use lib.Seq.{slice, length-slice, length-take-le, take-take, take-length, take-append-add, get_or-take, get_or-append-add, drop-set-lt}
use borrow.Author.Tests.{ltb-true, ltb-false}
use Rattle.laws.specs.Tables.{entry}
use Rattle.laws.specs.inner.Entries.{IsEntry}
use Rattle.laws.specs.Joined.{joined}
use Rattle.laws.proofs.Cases.{by_order, either}
use Rattle.laws.proofs.Lists.{getD_slice, take_written, same_from, same_later}
use Rattle.index.specs.Postings.{device, reach}
use Rattle.plant.specs.inner.Forest.{Forest}
use Rattle.repair.specs.Kept.{kept, dropped}
use Rattle.repair.specs.Repair.{reported}
use Rattle.repair.specs.inner.Lists.{Fit}
use Rattle.repair.specs.inner.Compaction.{stays, goes, told, Put, Compacting}
use Rattle.repair.specs.declared.compact.Filled.{Filled}
use Rattle.repair.proofs.Interleaving.{interleaved_length, kept_interleaved}
use Rattle.repair.proofs.Passing.{Passed, fit_take, passed_start, passed_turn, passed_fresh, passed_covered, passed_device}

-- ---- reports

reported_append : (t : ℕ) (xs ys : List ℕ) → reported t (xs ++ ys) ≡ reported t xs ++ reported t ys
unfolding reported
reported_append t [] ys = refl
reported_append t (x ∷ xs) ys = rw (reported_append t xs ys)

reported_one : (t q : ℕ) → reported t (q ∷ []) ≡ t ∷ device q ∷ q % 2 ∷ []
unfolding reported
reported_one t q = refl

pub length_reported : (t : ℕ) (xs : List ℕ) → length (reported t xs) ≡ 3 * length xs
unfolding reported
length_reported t [] = refl
length_reported t (x ∷ xs) = let h = length_reported t xs in omega arith

take_told : (r : List ℕ) (at t q : ℕ) → at + 3 ≤ length r → take (at + 3) (told r at t q) ≡ take at r ++ reported t (q ∷ [])
take_told r at t q u =
    take_written (set (set r at t) (at + 1) (device q)) (at + 2) (at + 3) (q % 2) (omega arith) (simp length-set (omega arith))
    ∙ ap (λ (x : List ℕ). x ++ (q % 2 ∷ []))
    (take_written (set r at t) (at + 1) (at + 2) (device q) (omega arith) (simp length-set (omega arith))
    ∙ ap (λ (x : List ℕ). x ++ (device q ∷ [])) (take_written r at (at + 1) t (omega arith) (omega arith)))
    ∙ rw (reported_one t q) (simp append_assoc)

drop_told : (r : List ℕ) (at t q : ℕ) → drop (at + 3) (told r at t q) ≡ drop (at + 3) r
drop_told r at t q =
    drop-set-lt (at + 3) _ (at + 2) _ (omega arith) ∙ drop-set-lt (at + 3) _ (at + 1) _ (omega arith) ∙ drop-set-lt (at + 3) r at t (omega arith)

length_told : (r : List ℕ) (at t q : ℕ) → length (told r at t q) ≡ length r
length_told r at t q = simp length-set

-- ---- parts of a list

-- what is kept and dropped are all postings
kept_and_dropped : (last l : List ℕ) → length (kept last l) + length (dropped last l) ≡ length l
kept_and_dropped last l = interleaved_length (kept_interleaved last l)

-- a longer part has no fewer that are dropped
module _ (last l : List ℕ) (H : Forest last) (F : Fit (length last) l) where
  passed_at : (k : ℕ) → k ≤ length l → (r : ℕ) × Passed last l k r
  passed_at zero u = (0, passed_start last l)
  passed_at (suc k) u =
      let e : k + 1 ≡ suc k = omega arith in
      let p = passed_at k (omega arith) in
      let n : Passed last l (k + 1) (max p.0 (reach last (get_or l k 0))) = passed_turn H p.1 (omega arith) (fit_take F (k + 1) (omega arith)) refl in
      (max p.0 (reach last (get_or l k 0)), rw e at n)

  one_longer : (k : ℕ) → k < length l → length (dropped last (take k l)) ≤ length (dropped last (take (k + 1) l))
  one_longer k u =
      let p = passed_at k (omega arith) in
      let G = fit_take F (k + 1) (omega arith) in
      by_order p.0 (device (get_or l k 0))
      (λ v. rw (passed_fresh H p.1 u G v).1 (omega arith))
      (λ v. let d = passed_device H p.1 u G in rw (passed_covered H p.1 u G d v).1 (simp length-append (omega arith)))

  dropped_longer : (k m : ℕ) → k + m ≤ length l → length (dropped last (take k l)) ≤ length (dropped last (take (k + m) l))
  dropped_longer k zero u = let e : k + 0 ≡ k = omega arith in rw e (omega arith)
  dropped_longer k (suc m) u =
      let e : k + suc m ≡ k + m + 1 = omega arith in
      rw e (omega (arith, dropped_longer k m (omega arith), one_longer (k + m) (omega arith)))

-- ---- the list from base up to end

-- its postings up to index i are gone through, and what they reach is known
pub record Course (last p₀ r₀ : List ℕ) (base end term to at : ℕ) (p r : List ℕ) (f : Filled) (reached i : ℕ) : Type 0 where
  pub forest : Forest last
  pub fit : Fit (length last) (slice base end p₀)
  pub ordered : (to ≤ base) × (base ≤ end) × (end ≤ length p₀)
  pub room : at + 3 * length (dropped last (slice base end p₀)) ≤ length r₀
  pub low : base ≤ i
  pub high : i ≤ end
  pub passed : Passed last (slice base end p₀) (i - base) reached
  pub done : Compacting last p₀ r₀ base end term to at i p r f

pub course_start : {last p r : List ℕ} {base end term : ℕ} {f : Filled} → Forest last → (f.postings ≤ base) × (base ≤ end) × (end ≤ length p)
    → Fit (length last) (slice base end p) → f.report + 3 * length (dropped last (slice base end p)) ≤ length r
    → Course last p r base end term f.postings f.report p r f 0 base
unfolding joined reported
course_start {last} {p} {r} {base} {end} {term} {f} H o F room =
    let z : base - base ≡ 0 = omega arith in
    record {
      forest = H;
      fit = F;
      ordered = o;
      room = room;
      low = omega arith;
      high = omega arith;
      passed = rw z (passed_start last (slice base end p));
      done = record {
        size = refl;
        place_is = rw z (omega arith);
        front = rw (z, append-nil);
        rest = refl;
        report_size = refl;
        line_is = rw z (omega arith);
        report_front = rw (z, append-nil);
        report_rest = refl;
      };
    }

module _ {last p₀ r₀ : List ℕ} {base end term to at : ℕ} {p r : List ℕ} {f : Filled} {reached i : ℕ}
    (c : Course last p₀ r₀ base end term to at p r f reached i) where
  abbrev l : List ℕ
  l = slice base end p₀

  abbrev ks : List ℕ
  ks = kept last (take (i - base) l)

  module _ (more : i < end) where
    abbrev q : ℕ
    q = get_or p i 0

    long : length l ≡ end - base
    long = length-slice base end p₀ c.ordered.2

    here : q ≡ get_or l (i - base) 0
    here = same_from p p₀ i c.done.rest i 0 (omega arith) ∙ sym (getD_slice p₀ base i end c.low more)

    next_number : i + 1 - base ≡ i - base + 1
    next_number = omega (arith, c.low)

    inside : i - base < length l
    inside = omega (arith, c.low, long)

    F : Fit (length last) (take (i - base + 1) l)
    F = fit_take c.fit (i - base + 1) (omega (arith, inside))

    -- the place is not past the posting
    place_low : f.postings ≤ i
    place_low =
        let a = kept_and_dropped last (take (i - base) l) in
        let n = length-take-le (i - base) l (omega (arith, inside)) in
        omega (arith, c.ordered, c.low, c.done.place_is)

    pub course_within : i < length p
    course_within = omega (arith, c.ordered, c.done.size)

    pub course_place : f.postings < length p
    course_place = omega (arith, place_low, course_within)

    first_device : 1 ≤ device q
    first_device = rw here (passed_device c.forest c.passed inside F)

    pub course_device : IsEntry last (device q)
    course_device =
        let m = length-take-le (i - base + 1) l (omega (arith, inside)) in
        let n = inside in
        let e : i - base + 1 - 1 ≡ i - base = omega arith in
        record { first = first_device; last = rw here (rw e at (c.fit.last (i - base + 1) (omega arith) (omega arith))) }

    reaches : ltb reached (device q) ≡ false → device q ≤ reached
    reaches e = ltb-false reached (device q) e

    -- where a posting before it reaches it, one is kept, and the report has room
    some_kept : ltb reached (device q) ≡ false → 1 ≤ length ks
    some_kept e = let v = reaches e in let d = first_device in c.passed.some (omega arith)

    pub course_held : ltb reached (device q) ≡ false → 1 ≤ f.postings
    course_held e = omega (arith, some_kept e, c.done.place_is)

    covered_next : ltb reached (device q) ≡ false →
        (kept last (take (i - base + 1) l) ≡ take (length ks - 1) ks ++ (stays (entry ks (length ks)) q ∷ []))
        × (dropped last (take (i - base + 1) l) ≡ dropped last (take (i - base) l) ++ (goes (entry ks (length ks)) q ∷ []))
    covered_next e =
        let v : device (get_or l (i - base) 0) ≤ reached = rw here at (reaches e) in
        rw here (passed_covered c.forest c.passed inside F (passed_device c.forest c.passed inside F) v)

    pub course_room : ltb reached (device q) ≡ false → f.report + 3 ≤ length r
    course_room e =
        let a = ap length (covered_next e).1 ∙ length-append (dropped last (take (i - base) l)) (goes (entry ks (length ks)) q ∷ []) in
        let z : i - base + 1 + (length l - (i - base + 1)) ≡ length l = omega (arith, inside) in
        let b = rw (z, take-length l) at (dropped_longer last l c.forest c.fit (i - base + 1) (length l - (i - base + 1)) (omega (arith, inside))) in
        omega (arith, c.room, c.done.line_is, c.done.report_size)

    -- the posting kept last
    held_is : ltb reached (device q) ≡ false → get_or p (f.postings - 1) 0 ≡ entry ks (length ks)
    held_is e =
        let n = some_kept e in
        let h = c.done.place_is in
        let m = length-take-le to p₀ (omega (arith, c.ordered)) in
        let z : f.postings - 1 ≡ length (take to p₀) + (length ks - 1) = omega arith in
        sym (get_or-take f.postings p (f.postings - 1) 0 (omega arith))
        ∙ rw (c.done.front, z) (get_or-append-add (take to p₀) ks (length ks - 1) 0)

    before_held : ltb reached (device q) ≡ false → take (f.postings - 1) p ≡ take to p₀ ++ take (length ks - 1) ks
    before_held e =
        let n = some_kept e in
        let h = c.done.place_is in
        let m = length-take-le to p₀ (omega (arith, c.ordered)) in
        let z : f.postings - 1 ≡ length (take to p₀) + (length ks - 1) = omega arith in
        sym (take-take (f.postings - 1) f.postings p (omega arith))
        ∙ ap (take (f.postings - 1)) c.done.front ∙ ap (λ (k : ℕ). take k (take to p₀ ++ ks)) z ∙ take-append-add (take to p₀) ks (length ks - 1)

    -- a fresh one
    module _ (e : ltb reached (device q) ≡ true) where
      fresh_next : (kept last (take (i + 1 - base) l) ≡ ks ++ (q ∷ [])) × (dropped last (take (i + 1 - base) l) ≡ dropped last (take (i - base) l))
      fresh_next =
          let v : reached < device (get_or l (i - base) 0) = rw here at (ltb-true reached (device q) e) in
          rw (next_number, here) (passed_fresh c.forest c.passed inside F v)

      fresh_done : Compacting last p₀ r₀ base end term to at (i + 1) (set p f.postings q) r (record { postings = f.postings + 1; report = f.report })
      fresh_done = record {
        size = length-set p f.postings q ∙ c.done.size;
        place_is = rw fresh_next.0 (let a = length-append ks (q ∷ []) in let h = c.done.place_is in omega arith);
        front = take_written p f.postings (f.postings + 1) q refl course_place ∙ rw (fresh_next.0, c.done.front) (append_assoc (take to p₀) ks (q ∷ []));
        rest = drop-set-lt (i + 1) p f.postings q (omega (arith, place_low)) ∙ same_later p p₀ i c.done.rest (i + 1) (omega arith);
        report_size = c.done.report_size;
        line_is = rw fresh_next.1 c.done.line_is;
        report_front = rw fresh_next.1 c.done.report_front;
        report_rest = c.done.report_rest;
      }

    -- another
    module _ (e : ltb reached (device q) ≡ false) where
      covered_done : Compacting last p₀ r₀ base end term to at (i + 1) (set p (f.postings - 1) (stays (entry ks (length ks)) q))
          (told r f.report term (goes (entry ks (length ks)) q)) (record { postings = f.postings; report = f.report + 3 })
      covered_done =
          let n = course_held e in
          let nx = covered_next e in
          let z : f.postings - 1 + 1 ≡ f.postings = omega arith in
          let y = goes (entry ks (length ks)) q in
          let ds = dropped last (take (i - base) l) in
          record {
            size = length-set p (f.postings - 1) _ ∙ c.done.size;
            place_is = rw (next_number, nx.0) (
                let a = length-append (take (length ks - 1) ks) (stays (entry ks (length ks)) q ∷ []) in
                let b = length-take-le (length ks - 1) ks (omega (arith, some_kept e)) in
                let h = c.done.place_is in
                let m = some_kept e in
                omega arith);
            front = take_written p (f.postings - 1) f.postings _ (sym z) (omega (arith, course_place))
                ∙ rw (before_held e, next_number, nx.0) (append_assoc (take to p₀) (take (length ks - 1) ks) (stays (entry ks (length ks)) q ∷ []));
            rest = drop-set-lt (i + 1) p (f.postings - 1) _ (omega (arith, place_low)) ∙ same_later p p₀ i c.done.rest (i + 1) (omega arith);
            report_size = length_told r f.report term y ∙ c.done.report_size;
            line_is = rw (next_number, nx.1) (let a = length-append ds (y ∷ []) in let h = c.done.line_is in omega arith);
            report_front = take_told r f.report term y (course_room e)
                ∙ rw (c.done.report_front, next_number, nx.1, reported_append term ds (y ∷ [])) (append_assoc (take at r₀) (reported term ds) (reported term (y ∷ [])));
            report_rest = drop_told r f.report term y ∙ same_later r r₀ f.report c.done.report_rest (f.report + 3) (omega arith);
          }

    pub course_turn : {p' r' : List ℕ} {f' : Filled} {reached' : ℕ} → Put p r f (ltb reached (device q)) term q p' r' f' → reached' ≡ max reached (reach last q)
        → Course last p₀ r₀ base end term to at p' r' f' reached' (i + 1)
    course_turn {p'} {r'} {f'} {reached'} h g = record {
      forest = c.forest;
      fit = c.fit;
      ordered = c.ordered;
      room = c.room;
      low = omega (arith, c.low);
      high = omega arith;
      passed = rw next_number (passed_turn c.forest c.passed inside F (rw here at g));
      done = either (ltb reached (device q))
          (λ e.
          let a : p' ≡ set p f.postings q = rw e at h.postings_are in
          let b : r' ≡ r = rw e at h.report_is in
          let d : f' ≡ record { postings = f.postings + 1; report = f.report } = rw e at h.filled_is in
          rw (a, b, d) (fresh_done e))
          (λ e.
          let a : p' ≡ set p (f.postings - 1) (stays (get_or p (f.postings - 1) 0) q) = rw e at h.postings_are in
          let b : r' ≡ told r f.report term (goes (get_or p (f.postings - 1) 0) q) = rw e at h.report_is in
          let d : f' ≡ record { postings = f.postings; report = f.report + 3 } = rw e at h.filled_is in
          rw (a, b, d, held_is e) (covered_done e));
    }
