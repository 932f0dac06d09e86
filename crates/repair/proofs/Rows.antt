-- Judging tables: each return is the first row that applies.
use Prim.Native.Nat.{ℕ, ◌+◌, ◌*◌, ◌-◌, ◌/◌, ◌≤◌, ◌<◌}
use mathlib.Core.Path.{◌≡◌, refl, sym, ap, ◌∙◌}
use mathlib.Core.Bool.{true, false, cond}
use native.Mathlib.Omega.{arith}
use lib.ListN.{length}
use borrow.Author.Tests.{lt-ltb, le-ltb}
use Rattle.laws.specs.Rows.{pick}
use Rattle.laws.specs.Search.{any}
use Rattle.laws.proofs.Tests.{or_yes, or_no}
use Rattle.laws.proofs.Cases.{either}
use Rattle.plant.specs.Plant.{Plant, plant_refusal}
use Rattle.plant.specs.declared.branches.Branches.{Branches}
use Rattle.index.specs.Index.{Index, count, outline_rows}
use Rattle.index.specs.inner.Outlined.{Outlined}
use Rattle.index.proofs.Outline.{outline_none}
use Rattle.repair.specs.Repair.{all_dropped}
use Rattle.repair.specs.Refusals.{any_outside, falls_in, too_short, repair_refusal}
use Rattle.repair.specs.inner.Counting.{counted_of, Judges}
use Rattle.repair.proofs.Counting.{none_if, some_if}
use Rattle.std.specs.Prelude.{Result, None, Some, Ok, Err}
use Rattle.std.specs.Result.{MatchResult}
use Rattle.refusal.specs.declared.IndexRow.{IndexRow}
use Rattle.refusal.specs.declared.Refusal.{Refusal}
use Rattle.refusal.specs.Numbers.{number, row_or}
use Rattle.refusal.proofs.Numbers.{first_refuses, first_passes}
use Rattle.repair.proofs.Interleaving.{interleaved_length}
use Rattle.repair.proofs.Theorems.{astray_rows, interleaved}

-- the rows that say where lists lie, told as refusals: one refuses, whatever comes after them, or they pass
rows_refuse : {T : Type 0} (I : Index) (s : Result T IndexRow) → ((first rest : ℕ) → row_or first rest s ≡ outline_rows first I rest)
    → (e : Refusal) → MatchResult s (λ x. ◌≡◌ {A = Result T Refusal} (Err e) (Ok x)) (λ row. e ≡ Refusal.Index row)
    → (rest : ℕ) → number e ≡ outline_rows 5 I rest
rows_refuse I (Ok x) h e m rest = cc
rows_refuse I (Err row) h e m rest = ap number m ∙ h 5 rest

rows_pass : {T : Type 0} (I : Index) (s : Result T IndexRow) → ((first rest : ℕ) → row_or first rest s ≡ outline_rows first I rest)
    → (y : T) → MatchResult s (λ x. ◌≡◌ {A = Result T Refusal} (Ok y) (Ok x)) (λ row. ⊥) → (first rest : ℕ) → rest ≡ outline_rows first I rest
rows_pass I (Ok x) h y m first rest = h first rest
rows_pass I (Err row) h y m first rest = absurd m

-- a refusal
refused : (P : Plant) (I : Index) (room : ℕ) (e : Refusal) → number e ≡ repair_refusal P I room → Judges P I room (Err e)
refused P I room e h = record { refusal_is = h; branches_are = tt; left_is = tt }

module _ (P : Plant) (I : Index) (room : ℕ) where
  pub judge_tables : (e : Refusal) → number e ≡ plant_refusal P → Judges P I room (Err e)
  unfolding repair_refusal
  judge_tables e h = refused P I room e (first_refuses e _ h)

  module _ (z : 0 ≡ plant_refusal P) where
    module _ {T : Type 0} (s : Result T IndexRow) (h : (first rest : ℕ) → row_or first rest s ≡ outline_rows first I rest) where
      pub judge_outline : (e : Refusal) → MatchResult s (λ x. ◌≡◌ {A = Result T Refusal} (Err e) (Ok x)) (λ row. e ≡ Refusal.Index row) → Judges P I room (Err e)
      unfolding repair_refusal
      judge_outline e m = refused P I room e (first_passes _ z (rows_refuse I s h e m _))

      -- the rows after those
      module _ (y : T) (m : MatchResult s (λ x. ◌≡◌ {A = Result T Refusal} (Ok y) (Ok x)) (λ row. ⊥)) where
        passed : (first rest : ℕ) → rest ≡ outline_rows first I rest
        passed = rows_pass I s h y m

        pub outlined : Outlined I
        outlined = outline_none 1 I 0 (passed 1 0) refl

        rest : repair_refusal P I room ≡ pick (any_outside P.last I) 8 (pick (any (count I) (falls_in I)) 41 (pick (too_short P I room) 44 0))
        unfolding repair_refusal
        rest = sym (first_passes _ z (passed 5 _))

        pub judge_astray : None ≡ counted_of P.last I → (e : Refusal) → number e ≡ cond (any_outside P.last I) 8 41 → Judges P I room (Err e)
        judge_astray n e f =
            refused P I room e (
            f
            ∙ either (any_outside P.last I)
            (λ a. rw (rest, a))
            (λ a.
            let b = (or_yes (any_outside P.last I) (any (count I) (falls_in I))).0 (sym (astray_rows P.last I outlined) ∙ none_if _ _ n) a in
            rw (rest, a, b)))

        module _ {left : ℕ} (t : Some left ≡ counted_of P.last I) where
          none : (any_outside P.last I ≡ false) × (any (count I) (falls_in I) ≡ false)
          none = (or_no (any_outside P.last I) (any (count I) (falls_in I))).0 (sym (astray_rows P.last I outlined) ∙ (some_if _ _ _ t).0)

          counted : left + length (all_dropped P I) ≡ length I.postings
          counted = rw (some_if _ _ _ t).1 (interleaved_length (interleaved P I outlined))

          pub judge_few : left ≤ length I.postings
          judge_few = omega (arith, counted)

          pub judge_short : room / 3 < length I.postings - left → Judges P I room (Err Refusal.ReportTooShort)
          judge_short u =
              let s : too_short P I room ≡ true = lt-ltb room (3 * length (all_dropped P I)) (omega (arith, counted)) in
              refused P I room Refusal.ReportTooShort (sym (rest ∙ rw (none.0, none.1, s)))

          pub judge_none : (b : Branches) → b.last.now ≡ P.last → length I.postings - left ≤ room / 3 → Judges P I room (Ok (b, left))
          judge_none b same u =
              let s : too_short P I room ≡ false = le-ltb room (3 * length (all_dropped P I)) (omega (arith, counted)) in
              record { refusal_is = sym (rest ∙ rw (none.0, none.1, s)); branches_are = same; left_is = (some_if _ _ _ t).1 }
