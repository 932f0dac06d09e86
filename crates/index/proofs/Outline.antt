-- The rows that say where lists lie: what each number tells, and what is known where none applies.
use Prim.Native.Nat.{ℕ, ◌+◌, ◌-◌, ◌≤◌}
use mathlib.Core.Path.{◌≡◌, sym, ◌∙◌}
use mathlib.Core.Bool.{Bool, true, false, ◌||◌}
use native.Mathlib.Omega.{arith}
use Rattle.laws.specs.Rows.{pick}
use Rattle.laws.specs.Search.{any}
use Rattle.index.specs.Index.{Index, count, unfit, misplaced_term, wrong_start, stray, outline_rows}
use Rattle.index.specs.inner.Outlined.{Outlined}
use Rattle.laws.proofs.Tests.{tests, or_no}
use Rattle.laws.proofs.Rows.{pick_past}

-- no row applies, nor one of the rest
pub outlined : (first : ℕ) (I : Index) (rest : ℕ) → 1 ≤ first → outline_rows first I rest ≡ 0 → Outlined I × (rest ≡ 0)
outlined first I rest u h =
    let a = pick_past (unfit I) first _ u h in
    let b = pick_past (any (count I) (misplaced_term I)) (first + 1) _ (omega arith) a.1 in
    let c = pick_past (any (count I) (wrong_start I) || stray I) (first + 2) _ (omega arith) b.1 in
    let fit = simp tests at a.0 in
    let starts = (or_no (any (count I) (wrong_start I)) (stray I)).0 c.0 in (
      record { even = omega arith; few_terms = omega arith; few_postings = omega arith; terms_rise = b.0; starts_rise = starts.0; none_stray = starts.1 },
      c.1,
    )

-- and back: the rest tells
pub outline_passed : (first : ℕ) (I : Index) (rest : ℕ) → Outlined I → outline_rows first I rest ≡ rest
outline_passed first I rest o =
    let fit : unfit I ≡ false = let x = o.even in let y = o.few_terms in let z = o.few_postings in simp tests (omega arith) in
    rw (fit, o.terms_rise, o.starts_rise, o.none_stray)

-- three rows by their numbers from 1 on, and from another number on
counted : (a b c : Bool) (first rest : ℕ) {row : ℕ} → row ≡ pick a 1 (pick b 2 (pick c 3 0)) → (row ≡ 0 → ⊥)
    → (row ≤ 3) × (first + (row - 1) ≡ pick a first (pick b (first + 1) (pick c (first + 2) rest)))
counted true b c first rest e h = (omega arith, omega arith)
counted false true c first rest e h = (omega arith, omega arith)
counted false false true first rest e h = (omega arith, omega arith)
counted false false false first rest e h = absurd (h e)

module _ (first : ℕ) (I : Index) (rest : ℕ) {row : ℕ} (e : row ≡ outline_rows 1 I 0) where
  -- the row that applies
  pub outline_first : (row ≡ 0 → ⊥) → (row ≤ 3) × (first + (row - 1) ≡ outline_rows first I rest)
  outline_first = counted (unfit I) (any (count I) (misplaced_term I)) (any (count I) (wrong_start I) || stray I) first rest e

  -- none does
  pub outline_none : row ≡ 0 → Outlined I
  outline_none z = (outlined 1 I 0 (omega arith) (sym e ∙ z)).0
