-- Bytes written into a buffer, from an index on.
use Rattle.std.specs.Prelude.{ℕ, ◌+◌, ◌≤◌, max, ◌≡◌, cond, List, [], ◌++◌, leb, length, take, drop}

-- the buffer with the bytes from the index on: "no other byte of the buffer changes"
abbrev pub with_bytes : List ℕ → ℕ → List ℕ → List ℕ
with_bytes out at bytes = take at out ++ bytes ++ drop (at + length bytes) out

-- the bytes that are written: all, where the buffer has room for them from the index on, else none
abbrev pub all_or_none : List ℕ → ℕ → List ℕ → List ℕ
all_or_none out at bytes = cond (leb (at + length bytes) (length out)) bytes []

-- they stand in the buffer, the count says how many, and they end within it
pub record Writes (out : List ℕ) (at : ℕ) (bytes out' : List ℕ) (count : ℕ) : Type 0 where
  pub stored : out' ≡ with_bytes out at (all_or_none out at bytes)
  pub counted : count ≡ length (all_or_none out at bytes)
  pub within : at + count ≤ max at (length out)
