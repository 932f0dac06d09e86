-- Counting what is kept: of a list, and of all lists.
use Prim.Native.Nat.{ℕ, ◌+◌, ◌≤◌, ◌<◌, max}
use mathlib.Core.Path.{◌≡◌, refl, sym, ◌∙◌}
use mathlib.Core.Bool.{Bool, true, false, cond}
use mathlib.Core.List.{List, []}
use native.Mathlib.Omega.{arith}
use lib.Dec.{ltb}
use lib.ListN.{length, get_or, take, length-append}
use lib.Seq.{take_all}
use Rattle.laws.specs.Joined.{joined}
use Rattle.laws.specs.Search.{any}
use Rattle.laws.specs.Tables.{entry}
use Rattle.laws.proofs.Tests.{tests, or_yes, or_no}
use Rattle.laws.proofs.Cases.{by_order}
use Rattle.laws.proofs.Search.{None as NoneOf, none_yet, none_up, any_found, any_none}
use Rattle.laws.proofs.Joined.{joined_next}
use Rattle.plant.specs.Plant.{plant}
use Rattle.index.specs.Postings.{device, reach, outside}
use Rattle.index.specs.Index.{Index, count, list}
use Rattle.plant.specs.inner.Forest.{Forest}
use Rattle.index.specs.inner.Outlined.{Outlined}
use Rattle.index.proofs.Lists.{here, previous}
use Rattle.index.proofs.Begins.{begin_within}
use Rattle.index.proofs.Laying.{NoLonger, first_shorter}
use Rattle.repair.specs.Kept.{kept}
use Rattle.repair.specs.Repair.{kept_in}
use Rattle.repair.specs.inner.Lists.{astray, astray_in}
use Rattle.repair.specs.inner.Counting.{kept_of, counted_in, counted_of}
use Rattle.std.specs.Prelude.{None, Some}
use Rattle.std.specs.Int.{from_bool}
use Rattle.repair.proofs.Interleaving.{interleaved_length, kept_interleaved}
use Rattle.repair.proofs.Passing.{Passed, fit_front, passed_start, passed_count, passed_turn}

-- what a count tells
pub none_if : (b : Bool) (n : ℕ) → None ≡ cond b None (Some n) → b ≡ true
none_if true n h = refl
none_if false n h = cc

pub some_if : (b : Bool) (m n : ℕ) → Some m ≡ cond b None (Some n) → (b ≡ false) × (m ≡ n)
some_if true m n h = cc
some_if false m n h = (refl, cc)

-- a condition as a number
pub one_if : (b : Bool) → from_bool b ≡ cond b 1 0
one_if true = refl
one_if false = refl

at_most_one : (b : Bool) → cond b 1 0 ≤ 1
at_most_one true = omega arith
at_most_one false = omega arith

-- ---- one list

-- after k postings of a list none is astray, and `before` is the device of the last of them
pub record Count (last l : List ℕ) (before reached kept' k : ℕ) : Type 0 where
  pub passed : Passed last l k reached
  pub none : NoneOf (astray (length last) l) 0 k
  pub first : k ≡ 0 → before ≡ 1
  pub later : 1 ≤ k → before ≡ device (entry l k)
  pub low : 1 ≤ before
  pub kept_is : kept' ≡ length (kept last (take k l))
  pub few : kept' ≤ k

pub count_start : (last l : List ℕ) → Count last l 1 0 0 0
unfolding joined
count_start last l = record {
  passed = passed_start last l;
  none = none_yet _ 0;
  first = λ e. refl;
  later = λ u. absurd (omega arith);
  low = omega arith;
  kept_is = refl;
  few = omega arith;
}

module _ {last l : List ℕ} {before reached kept' k : ℕ} (h : Count last l before reached kept' k) where
  module _ {d : ℕ} (u : k < length l) (e : d ≡ device (get_or l k 0)) where
    -- the next posting is astray
    astray_found : astray (length last) l (k + 1) ≡ true → None ≡ counted_in last l
    astray_found p =
        let z : any (length l) (astray (length last) l) ≡ true = sym (any_found _ (k + 1) (omega arith) p) in
        rw z

    pub count_low : d < before → None ≡ counted_in last l
    count_low v =
        let z = here device l k in
        let w = previous device l k in
        by_order 0 k
        (λ a. let b = h.later a in astray_found ((or_yes (outside (length last) device l (k + 1)) _).1 (λ _. simp tests (omega arith))))
        (λ a. let b = h.first (omega arith) in astray_found ((or_yes (outside (length last) device l (k + 1)) _).1 (λ t. absurd (let y = simp tests at t in omega arith))))

    pub count_high : length last < d → None ≡ counted_in last l
    count_high v =
        let z = here device l k in
        astray_found ((or_yes (outside (length last) device l (k + 1)) _).1 (λ t. absurd (let y = simp tests at t in omega arith)))

    -- it is not
    module _ (v : before ≤ d) (w : d ≤ length last) where
      straight : astray (length last) l (k + 1) ≡ false
      straight =
          let z = here device l k in
          let y = previous device l k in
          let o = h.low in
          (or_no (outside (length last) device l (k + 1)) _).1 (
            simp tests (omega arith),
            by_order 0 k (λ a. let b = h.later a in simp tests (omega arith)) (λ a. simp tests (λ b. absurd (omega arith))),
          )

      pub count_turn : {reached' n : ℕ} → Forest last → n ≡ cond (ltb reached d) 1 0 → reached' ≡ max reached (reach last (get_or l k 0))
          → Count last l d reached' (kept' + n) (k + 1)
      count_turn {reached'} {n} H f g =
          let none = none_up _ h.none straight in
          let F = fit_front (length last) l (k + 1) (omega arith) none in
          let c = passed_count H h.passed u F in
          let o = h.low in
          record {
            passed = passed_turn H h.passed u F g;
            none = none;
            first = λ z. absurd (omega arith);
            later = λ z. e ∙ sym (here device l k);
            low = omega arith;
            kept_is = rw (c, ← e, ← f, ← h.kept_is);
            few = let m = at_most_one (ltb reached d) in omega (arith, h.few);
          }

  pub count_end : length l ≤ k → Some kept' ≡ counted_in last l
  count_end u =
      let e : length l ≡ k = omega (arith, h.passed.within) in
      let z : any (length l) (astray (length last) l) ≡ false = rw e (sym (any_none _ h.none)) in
      rw (z, h.kept_is, take_all k l u)

-- ---- all lists

-- no list has more postings than it had
pub kept_shorter : (last : List ℕ) (I : Index) → NoLonger I (kept_in (plant last [] []) I)
kept_shorter last I k a b = omega (arith, interleaved_length (kept_interleaved last (list I k)))

-- after k lists
pub record Tally (last : List ℕ) (I : Index) (kept' k : ℕ) : Type 0 where
  pub within : k ≤ count I
  pub none : NoneOf (astray_in last I) 0 k
  pub kept_is : kept' ≡ length (kept_of last I k)

pub tally_start : (last : List ℕ) (I : Index) → Tally last I 0 0
unfolding joined
tally_start last I = record { within = omega arith; none = none_yet _ 0; kept_is = refl }

module _ {last : List ℕ} {I : Index} {kept' k : ℕ} (t : Tally last I kept' k) where
  pub tally_end : count I ≤ k → Some kept' ≡ counted_of last I
  tally_end u =
      let e : count I ≡ k = omega (arith, t.within) in
      let z : any (count I) (astray_in last I) ≡ false = rw e (sym (any_none _ t.none)) in
      rw (z, t.kept_is, e)

  -- the next list, and its count
  module _ {l : List ℕ} {m : ℕ} (u : k < count I) (z : m ≡ k + 1) (e : l ≡ list I m) where
    pub tally_found : None ≡ counted_in last l → None ≡ counted_of last I
    tally_found h =
        let y : any (count I) (astray_in last I) ≡ true = sym (any_found _ (k + 1) (omega arith) (rw (← z, ← e) (none_if _ _ h))) in
        rw y

    module _ {n : ℕ} (h : Some n ≡ counted_in last l) where
      pub tally_turn : Tally last I (kept' + n) (k + 1)
      tally_turn =
          let c = some_if (any (length l) (astray (length last) l)) n (length (kept last l)) h in
          record {
            within = omega arith;
            none = none_up _ t.none (rw (← z, ← e) c.0);
            kept_is =
                let a = joined_next (kept_in (plant last [] []) I) k in
                let b = rw (e, z) at c.1 in
                rw a (rw (t.kept_is, b) (sym (length-append (kept_of last I k) (kept last (list I (k + 1))))));
          }

      -- the sum is no more than there are postings
      pub tally_few : Outlined I → kept' + n ≤ length I.postings
      tally_few o = omega (arith, tally_turn.kept_is, first_shorter I (kept_in (plant last [] []) I) o (kept_shorter last I) (k + 1) (omega arith), begin_within I o (k + 1) (omega arith))
