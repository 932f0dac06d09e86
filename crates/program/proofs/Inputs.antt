-- What was read lies within the buffer.
use Prim.Native.Nat.{ℕ, ◌≤◌}
use mathlib.Core.Path.{◌≡◌}
use Rattle.std.specs.Prelude.{Result, Ok, IfOk}

pub bounded : {E : Type 0} (n k : ℕ) (r : Result ℕ E) → IfOk r (λ j. j ≤ n) → r ≡ Ok k → k ≤ n
bounded n k r w e = rw e at w
