-- The lines that a plant and its index are written as, each as the form that it is.
use Rattle.std.specs.Prelude.{ℕ, zero, suc, ◌+◌, cond, List, [], ◌∷◌, ◌++◌, map, ltb, get_or}
use Rattle.laws.specs.Tables.{entry}
use Rattle.plant.specs.Plant.{Plant, size}
use Rattle.index.specs.Postings.{device, shared}
use Rattle.index.specs.Index.{Index, count, list}
use Rattle.text.specs.Forms.{plain, with_number}
use Rattle.text.specs.declared.Form.{Form}
use Rattle.plant_text.specs.Form.{plant_line, device_line, term_line, own_line, all_line, close_line}

-- "Each device is written with the devices it feeds inside it": of devices a + 1 to e the line of the first, the devices that it feeds, its
-- closing line, and then the devices after its branch; k is at least the number of devices
unfoldable pub forest : List ℕ → List ℕ → ℕ → ℕ → ℕ → List Form
forest last level zero a e = []
forest last level (suc k) a e =
    cond (ltb a e)
    (with_number device_line (get_or level a 0)
    ∷ (forest last level k (a + 1) (get_or last a 0)
    ++ plain close_line ∷ forest last level k (get_or last a 0) e))
    []

abbrev pub device_forms : Plant → List Form
device_forms P = forest P.last P.level (size P) 0 (size P)

-- a posting for the whole branch is written as `all`, another as `own`
abbrev pub posting_form : ℕ → Form
posting_form q = with_number (cond (shared q) all_line own_line) (device q)

-- a term with its postings inside it
abbrev pub term_forms : ℕ → List ℕ → List Form
term_forms t list = with_number term_line t ∷ (map posting_form list ++ plain close_line ∷ [])

-- the first n terms
unfoldable pub terms_forms : Index → ℕ → List Form
terms_forms I zero = []
terms_forms I (suc n) = terms_forms I n ++ term_forms (entry I.terms (suc n)) (list I (suc n))

-- "The text opens with a plant line, then come devices, then marks, then the closing line"
abbrev pub plant_forms : Plant → Index → List Form
plant_forms P I = plain plant_line ∷ (device_forms P ++ (terms_forms I (count I) ++ plain close_line ∷ []))
