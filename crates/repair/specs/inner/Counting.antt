-- What the count of postings tells. The contracts of private functions alone cite this.
use Rattle.std.specs.Prelude.{ℕ, ◌≡◌, cond, Option, None, Some, Result, IfOk, List, [], length}
use Rattle.laws.specs.Joined.{joined}
use Rattle.laws.specs.Search.{any}
use Rattle.refusal.specs.declared.Refusal.{Refusal}
use Rattle.refusal.specs.Numbers.{refused}
use Rattle.plant.specs.Plant.{Plant, plant}
use Rattle.plant.specs.declared.branches.Branches.{Branches}
use Rattle.index.specs.Index.{Index, count}
use Rattle.repair.specs.Kept.{kept}
use Rattle.repair.specs.Repair.{kept_in}
use Rattle.repair.specs.Refusals.{repair_refusal}
use Rattle.repair.specs.inner.Lists.{astray, astray_in}

-- what is kept of the first k lists: no more of a plant is read than `last`
abbrev pub kept_of : List ℕ → Index → ℕ → List ℕ
kept_of last I = joined (kept_in (plant last [] []) I)

-- how many postings of a list are kept, or none where one is astray; and of all lists
abbrev pub counted_in : List ℕ → List ℕ → Option ℕ
counted_in last l = cond (any (length l) (astray (length last) l)) None (Some (length (kept last l)))

abbrev pub counted_of : List ℕ → Index → Option ℕ
counted_of last I = cond (any (count I) (astray_in last I)) None (Some (length (kept_of last I (count I))))

-- the branches and how many postings are left, or the refusal
pub record Judges (P : Plant) (I : Index) (room : ℕ) (r : Result (Branches × ℕ) Refusal) : Type 0 where
  pub refusal_is : refused r ≡ repair_refusal P I room
  pub branches_are : IfOk r (λ made. made.0.last.now ≡ P.last)
  pub left_is : IfOk r (λ made. made.1 ≡ length (kept_of P.last I (count I)))
