-- What a private function that prints does.
use Rattle.std.specs.Prelude.{ℕ, ◌+◌, ◌*◌, ◌≤◌, List, length}
use Rattle.writing.specs.inner.Puts.{Puts}
use Rattle.respond.specs.Limits.{device_room}

-- the most bytes of an answer that lists so many devices: 15 for the line of each, and 68 beside them, with numbers of ten digits
abbrev pub answer_bytes : ℕ → ℕ
answer_bytes devices = 68 + 15 * devices

-- the text stands at the front of the buffer where there is room for it, and is no longer than the longest answer
pub record Prints (out bytes out' : List ℕ) (count : ℕ) : Type 0 where
  pub puts : Puts out 0 bytes out' count
  pub few : length bytes ≤ answer_bytes device_room
