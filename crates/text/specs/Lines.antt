-- A text is its whole lines and a tail. "Lines end in LF", byte 10.
use Rattle.std.specs.Prelude.{ℕ, ◌+◌, Bool, true, false, cond, ◌&&◌, List, [], ◌∷◌, ◌++◌, ltb, eqb, length, take, drop}
use Rattle.laws.specs.Front.{until}

-- a text's whole lines, without their line feeds, and what stands after the last of those
pub record Lines : Type 0 where
  pub whole : List (List ℕ)
  pub tail : List ℕ

abbrev pub onto : ℕ → List (List ℕ) → List ℕ → Lines
onto b [] tail = record { whole = []; tail = b ∷ tail }
onto b (l ∷ ls) tail = record { whole = (b ∷ l) ∷ ls; tail = tail }

unfoldable pub lines : List ℕ → Lines
lines [] = record { whole = []; tail = [] }
lines (b ∷ bs) =
    cond (eqb b 10)
    (record { whole = [] ∷ (lines bs).whole; tail = (lines bs).tail })
    (onto b (lines bs).whole (lines bs).tail)

-- lines as a text, each with its line feed
unfoldable pub ended : List (List ℕ) → List ℕ
ended [] = []
ended (l ∷ ls) = l ++ (10 ∷ ended ls)

-- whether a text goes on as a word
unfoldable pub begins : List ℕ → List ℕ → Bool
begins [] t = true
begins (w ∷ ws) [] = false
begins (w ∷ ws) (b ∷ bs) = eqb w b && begins ws bs

-- how many bytes stand before the first that is b; all, where none is
abbrev pub bytes_before : ℕ → List ℕ → ℕ
bytes_before b = until (λ x. eqb x b)

-- the line that begins at an index, without its line feed; nothing past the end
abbrev pub line_at : List ℕ → ℕ → List ℕ
line_at t at = take (bytes_before 10 (drop at t)) (drop at t)

-- whether it ends in a line feed
abbrev pub whole_at : List ℕ → ℕ → Bool
whole_at t at = ltb (at + length (line_at t at)) (length t)

-- where the next line begins: after the line feed, or at the end
abbrev pub next_at : List ℕ → ℕ → ℕ
next_at t at = cond (whole_at t at) (at + length (line_at t at) + 1) (length t)
