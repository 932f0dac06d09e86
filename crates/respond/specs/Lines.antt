-- The lines that are printed, as bytes.
use Rattle.std.specs.Prelude.{ℕ, List, [], ◌∷◌, ◌++◌}
use Rattle.text.specs.Decimal.{numeral}

-- `(answer` and a line feed
abbrev pub word_answer : List ℕ
word_answer = 40 ∷ 97 ∷ 110 ∷ 115 ∷ 119 ∷ 101 ∷ 114 ∷ 10 ∷ []

-- `(device` and a space
abbrev pub word_device : List ℕ
word_device = 40 ∷ 100 ∷ 101 ∷ 118 ∷ 105 ∷ 99 ∷ 101 ∷ 32 ∷ []

-- `(place` and a space
abbrev pub word_place : List ℕ
word_place = 40 ∷ 112 ∷ 108 ∷ 97 ∷ 99 ∷ 101 ∷ 32 ∷ []

-- `(passed` and a space
abbrev pub word_passed : List ℕ
word_passed = 40 ∷ 112 ∷ 97 ∷ 115 ∷ 115 ∷ 101 ∷ 100 ∷ 32 ∷ []

-- `(moves` and a space
abbrev pub word_moves : List ℕ
word_moves = 40 ∷ 109 ∷ 111 ∷ 118 ∷ 101 ∷ 115 ∷ 32 ∷ []

-- `)` and a line feed
abbrev pub ending : List ℕ
ending = 41 ∷ 10 ∷ []

-- `(refused plant` and a space
abbrev pub word_plant : List ℕ
word_plant = 40 ∷ 114 ∷ 101 ∷ 102 ∷ 117 ∷ 115 ∷ 101 ∷ 100 ∷ 32 ∷ 112 ∷ 108 ∷ 97 ∷ 110 ∷ 116 ∷ 32 ∷ []

-- `(refused ask` and a space
abbrev pub word_ask : List ℕ
word_ask = 40 ∷ 114 ∷ 101 ∷ 102 ∷ 117 ∷ 115 ∷ 101 ∷ 100 ∷ 32 ∷ 97 ∷ 115 ∷ 107 ∷ 32 ∷ []

-- `(refused query` and a space
abbrev pub word_query : List ℕ
word_query = 40 ∷ 114 ∷ 101 ∷ 102 ∷ 117 ∷ 115 ∷ 101 ∷ 100 ∷ 32 ∷ 113 ∷ 117 ∷ 101 ∷ 114 ∷ 121 ∷ 32 ∷ []

-- a line of a word and a number: `(place 7)`
abbrev pub numbered : List ℕ → ℕ → List ℕ
numbered word n = word ++ (numeral n ++ ending)

-- a line of a word and two numbers: `(refused plant 22 5)`
abbrev pub numbered₂ : List ℕ → ℕ → ℕ → List ℕ
numbered₂ word n m = word ++ (numeral n ++ (32 ∷ (numeral m ++ ending)))

-- "device lines are the listing"
unfoldable pub device_lines : List ℕ → List ℕ
device_lines [] = []
device_lines (d ∷ ds) = numbered word_device d ++ device_lines ds

-- "Between the opening and the closing line, device lines are the listing, then come the place and the moves spent." In document 02:
-- "`(passed n)` is printed between place and moves, amending document 01's printed answer."
unfoldable pub answer_text : List ℕ → ℕ → ℕ → ℕ → List ℕ
answer_text listing position passed moves =
    word_answer
    ++ (device_lines listing ++ (numbered word_place position ++ (numbered word_passed passed ++ (numbered word_moves moves ++ ending))))
