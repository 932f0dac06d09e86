-- The level rule decides what a run lists, and nothing else.
use Prim.Native.Nat.{ℕ, zero, suc, ◌+◌}
use mathlib.Core.Path.{◌≡◌, refl, sym, ap, ◌∙◌}
use mathlib.Core.Bool.{Bool, true}
use mathlib.Core.List.{List, []}
use lib.Dec.{ltb}
use Rattle.laws.proofs.Cases.{split₂}
use Rattle.steps.specs.Matching.{passing}
use Rattle.steps.specs.Steps.{Cursor, round, End, listing, counted, run}
use Rattle.steps.proofs.Outcomes.{split-outcome₂}

-- the rule that every device passes
abbrev pub every_device : ℕ → Bool
every_device d = true

-- how a run ends, with those alone listed that pass a rule
abbrev pub ruled : (ℕ → Bool) → End → End
ruled ok e = record { listed = passing ok e.listed; position = e.position; counts = e.counts; short = e.short; cursors = e.cursors }

-- and without what it lists
abbrev pub unlisted : End → End
unlisted e = record { listed = []; position = e.position; counts = e.counts; short = e.short; cursors = e.cursors }

module _ (last root : List ℕ) (end : ℕ) (ok : ℕ → Bool) where
  -- a run under a rule is the run that lists every device it accepts, of which those that pass are kept
  pub run_ruled : (k n p : ℕ) (cs : List Cursor) → run last root end ok k n p cs ≡ ruled ok (run last root end every_device k n p cs)
  unfolding run passing
  run_ruled zero n p cs = refl
  run_ruled (suc k) n p cs =
      let r = round last root end p n cs in
      split₂ (λ (x y : End). x ≡ ruled ok y) (ltb p end)
      (λ e. split-outcome₂ (λ (x y : End). counted r.counts x ≡ ruled ok (counted r.counts y)) r.outcome
      (λ f. ap (λ x. counted r.counts (listing (ok p) p x)) (run_ruled k _ (p + 1) r.cursors))
      (λ q f. ap (counted r.counts) (run_ruled k _ q r.cursors))
      (λ f. refl))
      (λ e. refl)

-- so the position, the counts, whether it is short and where its cursors stand do not depend on the rule
pub run_unlisted : (last root : List ℕ) (end : ℕ) (ok ok' : ℕ → Bool) (k n p : ℕ) (cs : List Cursor)
    → unlisted (run last root end ok k n p cs) ≡ unlisted (run last root end ok' k n p cs)
run_unlisted last root end ok ok' k n p cs =
    ap unlisted (run_ruled last root end ok k n p cs) ∙ sym (ap unlisted (run_ruled last root end ok' k n p cs))
