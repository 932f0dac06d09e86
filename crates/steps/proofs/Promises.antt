-- What is promised of the cursor steps holds.
use Prim.Native.Nat.{ℕ, ◌+◌, ◌-◌, ◌≤◌, ◌<◌}
use mathlib.Core.Path.{◌≡◌, sym, ◌∙◌, ap}
use mathlib.Core.Bool.{true, false, true≢false}
use mathlib.Core.List.{List, Memᴰ}
use mathlib.Core.Logic.{◌↔◌, ◌⊎◌, inl}
use borrow.Author.Tests.{le-ltb}
use Rattle.laws.proofs.Tests.{flags, refuted}
use Rattle.laws.proofs.Cases.{cases, by_order}
use Rattle.plant.specs.Plant.{Plant, size}
use Rattle.plant.proofs.Forest.{Sound}
use Rattle.index.proofs.Accepted.{Rising}
use Rattle.steps.specs.Matching.{Criteria, matches}
use Rattle.steps.specs.Steps.{End, run, cursors, steps, named}
use Rattle.steps.specs.Promises.{ListsExactly, KeepsBudget}
use Rattle.steps.proofs.Matching.{matching_same, matching_has, matching_of}
use Rattle.steps.proofs.Counts.{Ended, ended, fuel, run_alike}
use Rattle.steps.proofs.Runs.{lists}
use Rattle.steps.proofs.Exact.{matches_wanted, cursors_rise}

-- over any sound plant, lists that rise, and a start and an end in range
module _ (P : Plant) (S : Sound P) (list : ℕ → List ℕ) (rise : (t : ℕ) → Rising (size P) 0 (list t))
    (a : Criteria) (lo : 1 ≤ a.start) (hi : a.start ≤ a.end) (in_plant : a.end ≤ size P + 1) where
  abbrev go : ℕ → End
  go budget = steps P.last P.root list a budget

  from_start : (budget : ℕ) → Ended a.end budget a.start (cursors list a) (go budget)
  from_start budget = ended P.last P.root a.end a.ok a.end budget a.start (cursors list a) (omega flags) (omega flags)

  -- rounds suffice: more of them change nothing
  pub rounds_suffice : (budget k : ℕ) → a.end ≤ k → run P.last P.root a.end a.ok k budget a.start (cursors list a) ≡ go budget
  rounds_suffice budget k h = fuel P.last P.root a.end a.ok k a.end budget a.start (cursors list a) (omega flags) (omega flags)

  -- with a budget of at least the postings of the lists named a run is not short: it would have spent them, and one would be left
  complete : (budget : ℕ) → named list a ≤ budget → (go budget).short ≡ false
  complete budget h = let R = from_start budget in refuted _ (λ z. omega (flags, R.more z, R.spent z, R.sum))

  alike : (n m : ℕ) → n < m → (go n ≡ go m) ⊎ (((go n).short ≡ true) × (n < (go m).counts.moves))
  alike n m = run_alike P.last P.root a.end a.ok a.end n m a.start (cursors list a)

  -- the run beside the one with a budget that is never too small
  beside : (budget : ℕ) → (go budget ≡ go (named list a)) ⊎ (((go budget).short ≡ true) × (budget < (go (named list a)).counts.moves))
  beside budget =
      by_order budget (named list a) (alike budget (named list a))
      (λ h. by_order (named list a) budget
      (λ g. cases (alike (named list a) budget g) (λ s. inl (sym s)) (λ s. absurd (true≢false (sym s.0 ∙ complete (named list a) (omega flags)))))
      (λ g. let e : budget ≡ named list a = omega flags in inl (ap go e)))

  pub lists_exactly : (budget : ℕ) → ListsExactly P.last list a (go budget).listed (go budget).position
  lists_exactly budget =
      let R = from_start budget in
      record {
        exact = lists P S a.end in_plant a.ok a.end budget a.start (cursors list a) lo (cursors_rise (size P) list rise a) (omega flags) (omega flags)
            ∙ matching_same _ _ _ _ (λ d k l. matches_wanted P.last list a d);
        from_start = omega (flags, R.least);
        to_end = R.most;
      }

  pub keeps_budget : (budget : ℕ) → KeepsBudget P.last P.root list a budget (go budget)
  keeps_budget budget =
      let R = from_start budget in
      record {
        within = R.within;
        few = omega (flags, R.sum);
        sum = R.sum;
        stopped = R.stopped;
        spent = R.spent;
        next = λ z. cases (alike budget (budget + 1) (omega flags))
            (λ s. (from_start (budget + 1)).spent (ap (λ (e : End). e.short) (sym s) ∙ z)) (λ s. omega (flags, s.1, (from_start (budget + 1)).within));
        short = (
          (λ z. cases (beside budget)
              (λ s. absurd (true≢false (sym z ∙ ap (λ (e : End). e.short) s ∙ complete (named list a) (omega flags)))) (λ s. s.1)),
          λ h. cases (beside budget) (λ s. absurd (omega (flags, ap (λ (e : End). e.counts.moves) s, R.within))) (λ s. s.0),
        );
        same = λ z. cases (beside budget) (λ s. s) (λ s. absurd (true≢false (sym s.0 ∙ R.stopped ∙ le-ltb (go budget).position a.end (omega flags))));
        enough = λ h. let t = sym R.stopped ∙ complete budget h in omega (flags, R.most);
      }

-- what a listing holds: the devices from the start up to the position that match
pub listed_has : (last : List ℕ) (list : ℕ → List ℕ) (a : Criteria) (listed : List ℕ) (position : ℕ) → ListsExactly last list a listed position → (d : ℕ) →
    Memᴰ d listed ↔ ((a.start ≤ d) × (d < position) × (matches last list a d ≡ true))
listed_has last list a listed position k d = (
  (λ m. let w = matching_has (matches last list a) (position - a.start) a.start d (rw k.exact at m) in (w.0, omega flags, w.2)),
  λ h. rw k.exact (matching_of (matches last list a) (position - a.start) a.start d h.0 (omega flags) h.2),
)
