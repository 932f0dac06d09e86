-- Document 01's plant P, whole.
use Prim.Native.Nat.{ℕ}
use mathlib.Core.Path.{◌≡◌, refl}
use mathlib.Core.List.{List, [], ◌∷◌, map}
use Rattle.laws.specs.Front.{until}
use Rattle.laws.specs.Search.{any}
use Rattle.plant.specs.Plant.{plant}
use Rattle.index.specs.Index.{index}
use Rattle.text.specs.Lines.{lines, ended}
use Rattle.text.specs.Decimal.{decimal, number}
use Rattle.text.specs.Patterns.{bytes, fit_after}
use Rattle.text.specs.Forms.{form}
use Rattle.text.specs.Reading.{made, read_lines}
use Rattle.plant_text.specs.PlantText.{State, closed, line_refusal, next, read_plant, places}

-- its text
abbrev pub text_P : List ℕ
text_P = ended (map bytes (
    "(plant" ∷ "(dev 120" ∷ "(dev 118" ∷ "(dev 255" ∷ ")" ∷ ")" ∷ "(dev 121" ∷ "(dev 90" ∷ ")" ∷ "(dev 119" ∷ ")" ∷ ")" ∷ ")"
    ∷ "(mark 7" ∷ "(all 2)" ∷ "(own 5)" ∷ ")" ∷ "(mark 9" ∷ "(all 4)" ∷ ")" ∷ ")" ∷ []
    ))

-- what it makes
abbrev pub made_P : State
made_P = record {
  stage = closed;
  opened = [];
  plant = plant (6 ∷ 3 ∷ 3 ∷ 6 ∷ 5 ∷ 6 ∷ []) (1 ∷ 1 ∷ 1 ∷ 1 ∷ 1 ∷ 1 ∷ []) (120 ∷ 118 ∷ 255 ∷ 121 ∷ 90 ∷ 119 ∷ []);
  index = index (7 ∷ 9 ∷ []) (0 ∷ 2 ∷ []) (5 ∷ 10 ∷ 9 ∷ []);
}

-- "P has N = 6, last 6, 3, 3, 6, 5, 6, all roots 1, postings 5, 10, 9."
pub plant_P : read_plant (places 6 6 6 2 2 3) text_P ≡ made made_P
unfolding any until lines ended decimal number bytes fit_after form read_lines line_refusal next read_plant
plant_P = refl
