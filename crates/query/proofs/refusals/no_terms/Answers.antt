-- `query::refusals::no_terms` meets its contract: the closure tells of each term whether it is none.
use Prim.Native.Nat.{ℕ}
use mathlib.Core.Path.{◌∙◌}
use mathlib.Core.Bool.{◌||◌}
use borrow.Author.Tests.{tests}
use lib.Dec.{ltb, eqb}
use Rattle.std.proofs.Common.{rules}
use Rattle.std.proofs.lemmas.Iterator.{YieldsList-from_slice}
use Rattle.std.proofs.lemmas.Iterator.Search.{any_from_yields_List}
use Rattle.laws.specs.Limits.{highest_term}
use Rattle.laws.proofs.Listed.{any_listed}
use Rattle.query.proofs.refusals.no_terms.Goals as goal

pub returns : goal.returns
returns c =
    let out = λ (t : ℕ). eqb t 0 || ltb highest_term t in
    any_from_yields_List out _ _ _ c.any.ensures.ran (YieldsList-from_slice c.args.terms.now cc) (λ x b q k. (search rules, search (rules, tests))) ∙ any_listed out c.args.terms.now
