-- `index_check::rows` meets its contract: each return is the first row that applies.
use Prim.Native.Nat.{ℕ, ◌+◌}
use mathlib.Core.Path.{◌≡◌, refl, sym, ◌∙◌}
use mathlib.Core.Bool.{Bool, true, false, ◌||◌}
use mathlib.Core.List.{List}
use lib.ListN.{length}
use Rattle.std.proofs.lemmas.Result.{err_from_is_err_and}
use Rattle.laws.specs.Search.{any}
use Rattle.index.specs.Index.{Index, count, misplaced_in, redundant_in, outline_rows, index_rows}
use Rattle.index.specs.Tables.{index_of}
use Rattle.index.specs.inner.Outlined.{Outlined}
use Rattle.laws.proofs.Search.{neither, second_found}
use Rattle.index.proofs.Outline.{outline_none}
use Rattle.index_check.proofs.rows.Goals as goal

-- what is known where none of the first rows applies
module _ (last : List ℕ) (I : Index) (passed : (first rest : ℕ) → rest ≡ outline_rows first I rest) where
  outlined : Outlined I
  outlined = outline_none 1 I 0 (passed 1 0) refl

  row_misplaced : any (count I) (misplaced_in (length last) I) ≡ true → (first : ℕ) → first + 3 ≡ index_rows first last I
  unfolding index_rows
  row_misplaced a first = sym (sym (passed first _) ∙ rw a refl)

  module _ {b : Bool} (fault : b ≡ any (count I) (λ k. misplaced_in (length last) I k || redundant_in last I k)) where
    row_redundant : b ≡ true → any (count I) (misplaced_in (length last) I) ≡ false → (first : ℕ) → first + 4 ≡ index_rows first last I
    unfolding index_rows
    row_redundant p a first =
        sym (sym (passed first _) ∙ rw (a, second_found (misplaced_in (length last) I) (redundant_in last I) (count I) fault p a) refl)

    row_none : b ≡ false → (first : ℕ) → 0 ≡ index_rows first last I
    unfolding index_rows
    row_none p first =
        let n = neither (misplaced_in (length last) I) (redundant_in last I) (count I) fault p in
        sym (sym (passed first _) ∙ rw (n.0, n.1) refl)

pub returns-in_err-outline_row : goal.returns-in_err-outline_row
unfolding index_rows
returns-in_err-outline_row c first =
    let p = err_from_is_err_and c.from_residual.result c.from_residual.ensures.1 in
    rw (p.1, p.2) (c.in_err-outline_row.ensures first _)

pub returns-then-not-any_fault : goal.returns-then-not-any_fault
returns-then-not-any_fault c =
    let passed = c.in_ok-outline_row.ensures in
    row_none _ (index_of c.args.index) passed (rw (outlined c.args.branches.last.now (index_of c.args.index) passed).even at c.any_fault.ensures) c.if-not-any_fault.true

pub returns-then-any_misplaced : goal.returns-then-any_misplaced
returns-then-any_misplaced c =
    let passed = c.in_ok-outline_row.ensures in
    row_misplaced _ (index_of c.args.index) passed (rw (outlined c.args.branches.last.now (index_of c.args.index) passed).even at (sym c.any_misplaced.ensures ∙ c.if-any_misplaced.true))

pub returns : goal.returns
returns c =
    let passed = c.in_ok-outline_row.ensures in
    row_redundant _ (index_of c.args.index) passed
    (rw (outlined c.args.branches.last.now (index_of c.args.index) passed).even at c.any_fault.ensures) c.if-not-any_fault.false
    (rw (outlined c.args.branches.last.now (index_of c.args.index) passed).even at (sym c.any_misplaced.ensures ∙ c.if-any_misplaced.false))
