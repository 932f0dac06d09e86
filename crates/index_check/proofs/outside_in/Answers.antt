-- `index_check::outside_in` meets its contract: the closure tells at each posting whether its device is out of range.
use Prim.Native.Nat.{ℕ}
use mathlib.Core.Path.{◌∙◌}
use mathlib.Core.Bool.{◌||◌}
use lib.Dec.{ltb, eqb}
use Rattle.std.proofs.Common.{rules}
use borrow.Author.Tests.{tests}
use Rattle.std.proofs.lemmas.Iterator.{YieldsList-from_slice}
use Rattle.std.proofs.lemmas.Iterator.Search.{any_from_yields_List}
use Rattle.index.specs.Postings.{device}
use Rattle.laws.proofs.Listed.{any_listed}
use Rattle.index_check.proofs.outside_in.Goals as goal

pub returns : goal.returns
returns c =
    let out = λ (q : ℕ). eqb (device q) 0 || ltb c.args.most (device q) in
    any_from_yields_List out _ _ _ c.any.ensures.ran (YieldsList-from_slice c.args.list.now cc) (λ x b q k. (search rules, search (rules, tests))) ∙ any_listed out c.args.list.now
