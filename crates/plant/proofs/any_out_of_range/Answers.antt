-- `plant::any_out_of_range` meets its contract: the chain asks each device by its index.
use Rattle.std.proofs.Common.{rules, ◌+◌, ◌∙◌, length, arith, refl}
use borrow.Author.Tests.{tests}
use Rattle.std.proofs.lemmas.Iterator.{YieldsList-from_range}
use Rattle.std.proofs.lemmas.Iterator.Search.{any_from_yields_List}
use Rattle.plant.specs.Plant.{out_of_range}
use Rattle.laws.proofs.Listed.{any_counted}
use Rattle.plant.proofs.any_out_of_range.Goals as goal

pub returns : goal.returns
returns c =
    let l = c.args.last.now in
    any_from_yields_List (λ i. out_of_range l (i + 1)) _ _ _ c.any.ensures.ran (YieldsList-from_range 0 (length l) (length l) refl (omega arith))
    (λ x b q k. search (rules, tests)) ∙ any_counted (out_of_range l) (length l)
