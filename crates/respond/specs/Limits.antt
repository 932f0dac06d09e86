-- What the program lends.
use Rattle.std.specs.Prelude.{ℕ}

-- "with room for 1,024 devices, 256 marks and 4,096 postings"; the answer list has room for 1,024 devices too
abbrev pub device_room : ℕ
device_room = 1_024

abbrev pub term_room : ℕ
term_room = 256

abbrev pub posting_room : ℕ
posting_room = 4_096
