-- The index that tightening makes.
use Rattle.std.specs.Prelude.{ℕ, Bool, List}
use Rattle.plant.specs.Plant.{Plant}
use Rattle.index.specs.Unshared.{unshared, member}
use Rattle.index.specs.Index.{Index, list}
use Rattle.index.specs.Laid.{laid}
use Rattle.tighten.specs.Tight.{tight}

-- whether device d carries the term of a list: it stands in the unshared list (document 000's model)
abbrev pub carriers : List ℕ → List ℕ → ℕ → Bool
carriers last l d = member d (unshared last l)

-- the k-th list, tightened
abbrev pub tight_in : Plant → Index → ℕ → List ℕ
tight_in P I k = tight P.last (carriers P.last (list I k))

-- the tightened index: the same terms, each with its tight list
abbrev pub tightened : Plant → Index → Index
tightened P I = laid I.terms (tight_in P I)
