-- What matches, said of lists that are written out unshared. No cursor is in it.
use Rattle.std.specs.Prelude.{ℕ, zero, suc, ◌+◌, Bool, true, false, ◌&&◌, not, List, [], ◌∷◌}
use Rattle.index.specs.Unshared.{unshared, member}

-- what a query asks for: the terms that are required (needed marks) and forbidden (barred marks), as they are written; the level rule; the
-- positions from start up to the end, which is one past the last of them: N + 1 for a whole plant
pub record Criteria : Type 0 where
  pub required : List ℕ
  pub forbidden : List ℕ
  pub ok : ℕ → Bool
  pub start : ℕ
  pub end : ℕ

unfoldable pub every : (ℕ → Bool) → List ℕ → Bool
every f [] = true
every f (t ∷ ts) = f t && every f ts

-- the lists of all terms are given by a lookup, from a term to its list: "A mark absent from the store has an empty list."
module _ (last : List ℕ) (list : ℕ → List ℕ) where
  -- whether device d carries term t: it stands in the term's unshared list
  abbrev pub carried : ℕ → ℕ → Bool
  carried d t = member d (unshared last (list t))

  -- "A device matches if it carries every needed mark, no barred one, and, where there is a window, its code is in it."
  -- Which codes pass is the level rule's: document 02 has more cases than a window.
  abbrev pub matches : Criteria → ℕ → Bool
  matches a d = every (carried d) a.required && every (λ t. not (carried d t)) a.forbidden && a.ok d

-- a device in front of others, where it is wanted
abbrev pub put : Bool → ℕ → List ℕ → List ℕ
put true d l = d ∷ l
put false d l = l

-- the devices that pass a test, of the n from d on, lowest first
unfoldable pub matching : (ℕ → Bool) → ℕ → ℕ → List ℕ
matching ok zero d = []
matching ok (suc n) d = put (ok d) d (matching ok n (d + 1))

-- of some devices, those that pass a test
unfoldable pub passing : (ℕ → Bool) → List ℕ → List ℕ
passing ok [] = []
passing ok (d ∷ ds) = put (ok d) d (passing ok ds)
