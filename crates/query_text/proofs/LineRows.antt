-- The rows of query text: one line, its numbers known up to the limit.
use Prim.Native.Nat.{ℕ, ◌≤◌}
use mathlib.Core.Path.{◌≡◌, refl, sym, ◌∙◌}
use mathlib.Core.Bool.{Bool, true, false}
use lib.Dec.{eqb}
use native.Mathlib.Omega.{arith}
use borrow.Author.Tests.{eqb-false}
use Rattle.laws.specs.Limits.{largest_number}
use Rattle.laws.specs.Rows.{pick}
use Rattle.laws.proofs.Rows.{pick_none}
use Rattle.laws.proofs.Tests.{tests, flags}
use Rattle.laws.proofs.Cases.{either}
use Rattle.text.specs.Forms.{unfinished}
use Rattle.text.specs.inner.Finding.{capped_form}
use Rattle.text.specs.Decimal.{up_to}
use Rattle.text.specs.Reading.{refused, unless}
use Rattle.text.specs.declared.Form.{Form}
use Rattle.query_text.specs.QueryText.{closed, out_of_order, over, ninth, line_refusal, with_line, step}
use Rattle.query_text.specs.declared.Draft.{Draft}

-- a line that no row refuses is finished, and has no number over the limit
module _ (d : Draft) (f : Form) (h : line_refusal d f ≡ 0) where
  abbrev misplaced : Bool
  misplaced = out_of_order d.stage f.kind

  abbrev last_rows : ℕ
  last_rows = pick (over f) 32 (pick (ninth d.query f.kind) 35 0)

  past_unfinished : (eqb f.kind unfinished ≡ false) × (pick misplaced 31 last_rows ≡ 0)
  unfolding line_refusal
  past_unfinished =
      pick_none (eqb f.kind unfinished) 32 (pick misplaced 31 last_rows)
      (pick_none (closed d) 33 (pick (eqb f.kind unfinished) 33 (pick misplaced 31 last_rows)) h).1

  pub finished_line : f.kind ≡ unfinished → ⊥
  finished_line = eqb-false f.kind unfinished past_unfinished.0

  pub accepted_line : over f ≡ false
  accepted_line = (pick_none (over f) 31 (pick (ninth d.query f.kind) 35 0) (pick_none misplaced 30 last_rows past_unfinished.1).1).0

-- the numbers of a line that is not over the limit
pub smalls : (f : Form) → over f ≡ false → (f.before ≤ largest_number) × (f.number ≤ largest_number)
smalls f o = let q = simp tests at o in (omega (flags, q.0), omega (flags, q.1))

-- What a line does: lines of one kind with a number over the limit are all refused alike, so the cap of its numbers changes nothing.
module _ (d : Draft) where
  abbrev over_row : ℕ → ℕ
  over_row kind = pick (closed d) 34 (pick (eqb kind unfinished) 33 (pick (out_of_order d.stage kind) 31 32))

  over_all : (f : Form) → over f ≡ true → step d f ≡ refused (over_row f.kind)
  unfolding line_refusal
  over_all f o = rw o (go (closed d) (eqb f.kind unfinished) (out_of_order d.stage f.kind))
    where
      go : (a b c : Bool) → unless (pick a 34 (pick b 33 (pick c 31 32))) (with_line d f) ≡ refused (pick a 34 (pick b 33 (pick c 31 32)))
      go true b c = refl
      go false true c = refl
      go false false true = refl
      go false false false = refl

  pub step_capped : (f : Form) → step d (capped_form largest_number f) ≡ step d f
  step_capped f =
      either (over f)
      (λ o. let q = simp tests at o in over_all (capped_form largest_number f) (simp tests (λ p. omega (flags, q (omega flags)))) ∙ sym (over_all f o))
      (λ o. let s = smalls f o in
      let a : up_to largest_number f.before ≡ f.before = omega (arith, s.0) in
      let b : up_to largest_number f.number ≡ f.number = omega (arith, s.1) in rw (a, b))
