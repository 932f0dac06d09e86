-- What the cursors ask of a device at the start is what the criteria ask of it, said of the unshared lists.
use Prim.Native.Nat.{ℕ}
use mathlib.Core.Path.{◌≡◌, refl, sym}
use mathlib.Core.Bool.{◌&&◌, and_assoc}
use mathlib.Core.List.{List, [], ◌∷◌, ◌++◌}
use Rattle.index.proofs.Unshared.{member_unshared}
use Rattle.index.proofs.Accepted.{Rising}
use Rattle.steps.specs.Matching.{Criteria, every, carried, matches}
use Rattle.steps.specs.Steps.{Side, required, forbidden, Cursor, placed, cursors}
use Rattle.steps.proofs.Rounds.{asks, fits, all_fit, AllRising}
use Rattle.steps.proofs.Runs.{wanted}

module _ (last : List ℕ) (list : ℕ → List ℕ) where
  fit_append : (d : ℕ) (cs es : List Cursor) → all_fit last (cs ++ es) d ≡ (all_fit last cs d && all_fit last es d)
  unfolding all_fit
  fit_append d [] es = refl
  fit_append d (c ∷ cs) es = rw (fit_append d cs es) (sym (and_assoc (fits last c d) (all_fit last cs d) (all_fit last es d)))

  placed_fit : (s : Side) (d : ℕ) (ts : List ℕ) → all_fit last (placed list s ts) d ≡ every (λ t. asks s (carried last list d t)) ts
  unfolding every all_fit
  placed_fit s d [] = refl
  placed_fit s d (t ∷ ts) = rw (member_unshared last (list t) d, placed_fit s d ts)

  pub matches_wanted : (a : Criteria) (d : ℕ) → wanted last a.ok (cursors list a) d ≡ matches last list a d
  matches_wanted a d =
      rw (fit_append d (placed list required a.required) (placed list forbidden a.forbidden), placed_fit required d a.required, placed_fit forbidden d a.forbidden)

module _ (n : ℕ) where
  rise_append : (cs es : List Cursor) → AllRising n cs → AllRising n es → AllRising n (cs ++ es)
  rise_append [] es a b = b
  rise_append (c ∷ cs) es a b = (a.0, rise_append cs es a.1 b)

  module _ (list : ℕ → List ℕ) (rise : (t : ℕ) → Rising n 0 (list t)) where
    placed_rise : (s : Side) (ts : List ℕ) → AllRising n (placed list s ts)
    placed_rise s [] = tt
    placed_rise s (t ∷ ts) = (rise t, placed_rise s ts)

    -- all cursors rise at the start
    pub cursors_rise : (a : Criteria) → AllRising n (cursors list a)
    cursors_rise a =
        rise_append (placed list required a.required) (placed list forbidden a.forbidden)
        (placed_rise required a.required) (placed_rise forbidden a.forbidden)
