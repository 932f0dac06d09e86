-- A move that passes over a posting, by computation.
use Prim.Native.Nat.{ℕ}
use mathlib.Core.Path.{◌≡◌, refl}
use mathlib.Core.Bool.{false, true, cond}
use mathlib.Core.List.{List, [], ◌∷◌}
use lib.Dec.{eqb}
use Rattle.laws.specs.Front.{until}
use Rattle.steps.specs.Moves.{bring}
use Rattle.steps.specs.Steps.{required, round, run, steps}

-- document 01's plant P with the list of term 9 (all 4), and for term 8 own 2, own 3, own 5
abbrev pub list : ℕ → List ℕ
list t = cond (eqb t 9) (9 ∷ []) (cond (eqb t 8) (4 ∷ 6 ∷ 10 ∷ []) [])

-- term 9 takes the position to 4; the cursor of term 8 then goes from 2 over 3 to 5, and at 6 to the end. Two moves and one passed over are the
-- three postings of its list; the cursor of term 9 stays on its first.
pub passes_over : steps (6 ∷ 3 ∷ 3 ∷ 6 ∷ 5 ∷ 6 ∷ []) (1 ∷ 1 ∷ 1 ∷ 1 ∷ 1 ∷ 1 ∷ []) list
    (record { required = 9 ∷ 8 ∷ []; forbidden = []; ok = λ d. true; start = 1; end = 7 }) 4
    ≡ record { listed = 5 ∷ []; position = 7; counts = record { moves = 2; passed = 1 }; short = false; cursors = record { side = required; left = 9 ∷ [] } ∷ record { side = required; left = [] } ∷ [] }
unfolding run round bring until
passes_over = refl
