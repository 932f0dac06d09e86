-- What a repair answers and leaves in the tables.
use Prim.Native.Nat.{ℕ, zero, suc, ◌+◌, ◌*◌, ◌-◌, ◌≤◌}
use mathlib.Core.Path.{◌≡◌, refl, sym, ap, ◌∙◌}
use mathlib.Core.List.{List, ◌++◌}
use native.Mathlib.Omega.{arith}
use lib.ListN.{length, take, replicate, take-append-drop}
use Rattle.laws.proofs.Tests.{flags}
use Rattle.laws.proofs.Lent.{untouched}
use Rattle.plant.specs.Plant.{Plant}
use Rattle.plant.specs.declared.branches.Branches.{Branches}
use Rattle.index.specs.Index.{Index, count}
use Rattle.index.proofs.Laying.{laid_starts, laid_postings}
use Rattle.repair.specs.Repair.{repaired, all_dropped}
use Rattle.repair.specs.Refusals.{repair_refusal}
use Rattle.repair.specs.Outcome.{outcome_of, starts_after, postings_after, report_after, repaired_values, values_or}
use Rattle.repair.specs.Promises.{RepairGives, Unchanged}
use Rattle.repair.specs.declared.Repaired.{Repaired}
use Rattle.std.specs.Prelude.{Result, Ok, Err}
use Rattle.refusal.specs.declared.Refusal.{Refusal}
use Rattle.refusal.specs.Numbers.{number, refused, given}
use Rattle.refusal.proofs.Numbers.{number_not_zero, gives as given_by}
use Rattle.repair.specs.declared.compact.Filled.{Filled}
use Rattle.repair.specs.inner.Counting.{Judges}
use Rattle.repair.specs.inner.Lists.{Repairable}
use Rattle.repair.specs.inner.Compaction.{dropped_of, Compacted}
use Rattle.repair.proofs.Interleaving.{interleaved_length}
use Rattle.repair.proofs.Theorems.{Unrefused, unrefused, interleaved, unchanged, promised}

-- the values of an outcome, by the refusal
values_by : (n d l : ℕ) → repaired_values (given n (record { dropped = d; left = l })) ≡ values_or n d l
values_by zero d l = refl
values_by (suc n) d l = refl

module _ (P : Plant) (I : Index) (lent : List ℕ) where
  -- the outcome and the tables are as the definition says
  gives : (o : Result Repaired Refusal) {starts p r : List ℕ} → refused o ≡ repair_refusal P I (length lent)
      → (repair_refusal P I (length lent) ≡ 0 → o ≡ Ok (record { dropped = length (all_dropped P I); left = length (repaired P I).postings }))
      → starts ≡ starts_after P I (length lent) → p ≡ postings_after P I (length lent) → r ≡ report_after P I lent → RepairGives P I lent starts p r o
  gives o a made b c d =
      let outcome : o ≡ outcome_of P I (length lent) = given_by (repair_refusal P I (length lent)) o a made in
      record {
        outcome = outcome;
        number = a;
        values = ap repaired_values outcome ∙ values_by (repair_refusal P I (length lent)) _ _;
        starts = b;
        postings = c;
        report = d;
        promised = promised P I lent;
      }

  pub ends_refused : (e : Refusal) → Judges P I (length lent) (Err e) → RepairGives P I lent I.starts I.postings lent (Err e)
  ends_refused e j =
      let a : number e ≡ repair_refusal P I (length lent) = j.refusal_is in
      let h : repair_refusal P I (length lent) ≡ 0 → ⊥ = λ z. number_not_zero e (a ∙ z) in
      gives (Err e) a (λ z. absurd (h z)) (untouched _ _ _ h) (untouched _ _ _ h) (untouched _ _ _ h)

  -- not refused
  module _ {b : Branches} {left : ℕ} (e : Judges P I (length lent) (Ok (b, left))) where
    free : repair_refusal P I (length lent) ≡ 0
    free = sym e.refusal_is

    u : Unrefused P I (length lent)
    u = unrefused P I (length lent) free

    pub ends_lists : Repairable b.last.now I
    ends_lists = rw e.branches_are u.lists

    pub ends_room : 3 * length (dropped_of b.last.now I (count I)) ≤ length lent
    ends_room = let s = u.long in rw e.branches_are (omega flags)

    counted : left + length (all_dropped P I) ≡ length I.postings
    counted = rw e.left_is (interleaved_length (interleaved P I u.lists.outline))

    pub ends_few : left ≤ length I.postings
    ends_few = omega (arith, counted)

    abbrev outcome : Repaired
    outcome = record { dropped = length I.postings - left; left = left }

    made : outcome ≡ record { dropped = length (all_dropped P I); left = length (repaired P I).postings }
    made =
        let l : left ≡ length (repaired P I).postings = e.left_is in
        let d : length I.postings - left ≡ length (all_dropped P I) = omega (arith, counted) in
        rw (d, l)

    -- nothing is dropped
    pub ends_same : length I.postings - left ≡ 0 → RepairGives P I lent I.starts I.postings lent (Ok outcome)
    ends_same z =
        let c : Unchanged P I lent = unchanged P I u.lists.outline (omega (arith, counted)) lent free in
        gives (Ok outcome) e.refusal_is (λ _. ap Ok made) (sym c.starts) (sym c.postings) (sym c.report)

    module _ {starts p r : List ℕ} {f : Filled} (made_of : Compacted b.last.now I lent (count I) starts p r f) where
      m : Compacted P.last I lent (count I) starts p r f
      m = rw e.branches_are at made_of

      pub ends_made : {p' : List ℕ} → p' ≡ take left p ++ replicate (length p - left) 0
          → RepairGives P I lent starts p' r (Ok outcome)
      ends_made {p'} c =
          let l : left ≡ length (repaired P I).postings = e.left_is in
          let s : left ≡ f.postings = l ∙ sym m.lists.place_is in
          gives (Ok outcome) e.refusal_is (λ _. ap Ok made)
          (rw free (laid_starts u.lists.outline m.lists))
          (rw free (laid_postings u.lists.outline m.lists (rw s at c)))
          (rw free (sym (take-append-drop f.report r) ∙ rw (m.report_front, m.report_rest, m.line_is)))
