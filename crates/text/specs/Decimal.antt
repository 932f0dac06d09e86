-- Numbers, read and written. "Numbers are 0 or digits without a leading zero".
use Rattle.std.specs.Prelude.{ℕ, zero, suc, ◌+◌, ◌-◌, ◌*◌, ◌/◌, ◌%◌, min, ◌≡◌, Bool, cond, ◌&&◌, not, List, [], ◌∷◌, ◌++◌, leb, ltb, eqb, length, take, drop}
use Rattle.std.proofs.Math.Option.{Option, none, some}
use Rattle.laws.specs.Front.{until}
use Rattle.text.specs.declared.NumberAt.{NumberAt}

-- bytes 48 to 57: `0` to `9`
abbrev pub digit : ℕ → Bool
digit b = leb 48 b && leb b 57

-- the digits of a number from the most significant on, after those that make a
unfoldable pub decimal : ℕ → List ℕ → Option ℕ
decimal a [] = some a
decimal a (b ∷ bs) = cond (digit b) (decimal (a * 10 + (b - 48)) bs) none

-- 0, or digits without a leading zero
unfoldable pub number : List ℕ → Option ℕ
number [] = none
number (b ∷ []) = decimal 0 (b ∷ [])
number (b ∷ c ∷ cs) = cond (eqb b 48) none (decimal 0 (b ∷ c ∷ cs))

-- the digits of n as bytes, the most significant first; at most k of them
unfoldable pub numeral_in : ℕ → ℕ → List ℕ
numeral_in zero n = []
numeral_in (suc k) n = cond (ltb n 10) ((48 + n) ∷ []) (numeral_in k (n / 10) ++ ((48 + n % 10) ∷ []))

-- a number as it is written: it has no more digits than it has units, and one for 0
unfoldable pub numeral : ℕ → List ℕ
numeral n = numeral_in (n + 1) n

-- n is written as these bytes: they read as n, and no others do
pub record WrittenAs (n : ℕ) (bytes : List ℕ) : Type 0 where
  pub reads : number bytes ≡ some n
  pub alone : (l : List ℕ) → number l ≡ some n → l ≡ bytes

-- the digits at the front of a line, and what stands after them
abbrev pub digits : List ℕ → ℕ
digits = until (λ b. not (digit b))

abbrev pub front : List ℕ → List ℕ
front l = take (digits l) l

abbrev pub behind : List ℕ → List ℕ
behind l = drop (digits l) l

-- a number above the limit is known only as above it: one past the limit stands for all
abbrev pub up_to : ℕ → ℕ → ℕ
up_to limit n = min n (limit + 1)

-- the number at an index of a text and where it ends: where it would begin, if none is there
abbrev pub known_number : ℕ → ℕ → ℕ → Option ℕ → NumberAt
known_number limit from long none = record { value = 0; end = from }
known_number limit from long (some n) = record { value = up_to limit n; end = from + long }

abbrev pub number_at : ℕ → List ℕ → ℕ → NumberAt
number_at limit t at = known_number limit (min at (length t)) (digits (drop at t)) (number (front (drop at t)))
