-- Words and numbers written one after another. The contracts of private functions, of crates that print, alone cite this.
use Rattle.std.specs.Prelude.{ℕ, zero, suc, ◌+◌, ◌/◌, ◌%◌, ◌≤◌, ◌<◌, max, ◌≡◌, Bool, List, [], ◌∷◌, ◌++◌, ltb, length}
use Rattle.text.specs.Decimal.{numeral}
use Rattle.writing.specs.Writing.{with_bytes}

-- where the buffer has room for the bytes from `at` on, they stand there, and the next byte goes after them; in any case the buffer keeps
-- its length, and what is written ends within it
pub record Puts (out : List ℕ) (at : ℕ) (bytes out' : List ℕ) (next : ℕ) : Type 0 where
  pub same : length out' ≡ length out
  pub near : next ≤ max at (length out)
  pub stored : at + length bytes ≤ length out → out' ≡ with_bytes out at bytes
  pub moved : at + length bytes ≤ length out → next ≡ at + length bytes

-- whether a buffer of so many bytes is too short for `count` bytes from `at` on
pub record Short (room at count : ℕ) (r : Bool) : Type 0 where
  pub is : r ≡ ltb room (at + count)

-- count is how many digits n has, and the buffer has room for them from `at` on
pub record DigitRoom (out : List ℕ) (at n count : ℕ) : Type 0 where
  pub all : count ≡ length (numeral n)
  pub room : at + count ≤ length out

-- the last k digits of n, with zeros before them where there are fewer
abbrev pub padded : ℕ → ℕ → List ℕ
padded zero n = []
padded (suc k) n = padded k (n / 10) ++ ((48 + n % 10) ∷ [])

-- they are put there, and counted
pub record LastPut (out : List ℕ) (at k n : ℕ) (out' : List ℕ) (count : ℕ) : Type 0 where
  pub same : length out' ≡ length out
  pub stored : out' ≡ with_bytes out at (padded k n)
  pub counted : count ≡ k

-- 1 where n is above m, else 0
pub record Above (n m r : ℕ) : Type 0 where
  pub yes : m < n → r ≡ 1
  pub no : n ≤ m → r ≡ 0
  pub few : r ≤ 1
