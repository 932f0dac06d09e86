-- The smallest list of the same meaning (document 02, §6), said by what each device carries.
use Rattle.std.specs.Prelude.{ℕ, Bool, false, cond, ◌&&◌, not, List, [], ◌∷◌, eqb, length}
use Rattle.laws.specs.Joined.{joined}
use Rattle.laws.specs.Search.{any}
use Rattle.laws.specs.Tables.{entry}
use Rattle.plant.specs.Plant.{holds}
use Rattle.index.specs.Postings.{posting}

-- whether device d feeds no device
abbrev pub leaf : List ℕ → ℕ → Bool
leaf last d = eqb (entry last d) d

-- `has` says of each device whether it carries the term
module _ (last : List ℕ) (has : ℕ → Bool) where
  -- "A branch that carries it throughout": no device of d's branch is without the term
  unfoldable pub whole : ℕ → Bool
  whole d = not (any (length last) (λ e. holds last d e && not (has e)))

  -- "inside a larger such branch": the branch of another device holds d, and carries the term throughout
  unfoldable pub inside : ℕ → Bool
  inside d = any (length last) (λ e. not (eqb e d) && holds last e d && whole e)

  -- "a device that carries the mark, but whose branch doesn't carry it throughout"
  abbrev pub alone : ℕ → Bool
  alone d = has d && not (whole d)

  -- "A branch that carries it throughout, and isn't inside a larger such branch": d is its top
  abbrev pub top : ℕ → Bool
  top d = whole d && not (inside d)

  -- what the list has at device d: alone it "gets an own posting"; a top "gets one branch posting .., or an own posting where the top is a leaf"
  abbrev pub postings_at : ℕ → List ℕ
  postings_at d =
      cond (alone d) (posting d false ∷ [])
      (cond (top d) (posting d (not (leaf last d)) ∷ [])
      [])

  -- the tight list: what it has at each device, lowest first
  abbrev pub tight : List ℕ
  tight = joined postings_at (length last)
