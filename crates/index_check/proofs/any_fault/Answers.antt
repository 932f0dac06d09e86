-- `index_check::any_fault` meets its contract: the closure tells of each list what its definition does.
use Prim.Native.Nat.{ℕ, ◌+◌}
use mathlib.Core.Path.{refl, ◌∙◌}
use native.Mathlib.Omega.{arith}
use lib.ListN.{length}
use Rattle.std.proofs.Common.{rules}
use Rattle.std.proofs.lemmas.Iterator.{YieldsList-from_range}
use Rattle.std.proofs.lemmas.Iterator.Search.{any_from_yields_List}
use Rattle.index.specs.Tables.{index_of}
use Rattle.index_check.specs.inner.Faults.{faulty_in}
use Rattle.laws.proofs.Listed.{any_counted}
use Rattle.index_check.proofs.any_fault.Goals as goal

pub returns : goal.returns
returns c =
    let n = length c.args.index.starts.now in
    let test = λ (k : ℕ). faulty_in c.args.branches.last.now (index_of c.args.index) k in
    any_from_yields_List (λ i. test (i + 1)) _ _ _ c.any.ensures.ran (YieldsList-from_range 0 n n refl (omega arith))
    (λ x b q k. (search rules, search rules)) ∙ any_counted test n
