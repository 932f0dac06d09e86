-- Limits that several crates share.
use Rattle.std.specs.Prelude.{ℕ}

-- "Devices are numbered 1 to N, 0 ≤ N ≤ 65,535"
abbrev pub most_devices : ℕ
most_devices = 65_535

-- a term (document 01's mark): "mark numbers (1 to 65,535 .."
abbrev pub highest_term : ℕ
highest_term = 65_535

-- "an allowance up to 4,294,967,295"; no number of query text is larger
abbrev pub largest_number : ℕ
largest_number = 4_294_967_295
