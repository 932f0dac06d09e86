-- `index::forward::first_at_least` meets its contract: the postings before the device are counted.
use Rattle.std.proofs.Common.{rules, ℕ, ◌-◌, ◌/◌, length, drop, ◌∙◌, ltb, ◌≡◌, ap, arith, length-drop}
use borrow.Author.Tests.{tests}
use Rattle.std.proofs.lemmas.Iterator.{YieldsList-from_slice}
use Rattle.std.proofs.lemmas.Iterator.Consumers.{count_from_yields_List}
use Rattle.std.proofs.lemmas.Iterator.Search.{YieldsList-from_take_while}
use Rattle.std.proofs.lemmas.List.Folds.{length-prefix_len}
use Rattle.std.proofs.lemmas.List.{take_all}
use Rattle.std.specs.List.{prefix_len}
use Rattle.std.specs.Slice.Iter.{iter_rest}
use Rattle.index.proofs.ForwardStep.{counted_step}
use Rattle.index.proofs.forward.first_at_least.Goals as goal

pub returns : goal.returns
returns c =
    let l = c.args.list.now in
    let from = c.min-from.result in
    let ahead = drop from l in
    let before = λ (q : ℕ). ltb (q / 2) c.args.target in
    let rest : iter_rest c.iter.result ≡ ahead = c.iter.ensures.rest ∙ take_all (length l - from) ahead (omega (arith, length-drop from l)) in
    let n : c.count-before.result ≡ prefix_len before ahead = count_from_yields_List c.take_while.result _ c.count-before.ensures.ran
    (YieldsList-from_take_while _ before (YieldsList-from_slice ahead (ap iter_rest c.take_while.ensures.source ∙ rest)) c.take_while.ensures.closure
    c.take_while.ensures.done (λ x b q k. search (rules, tests)))
    ∙ length-prefix_len before ahead in
    counted_step l c.args.position c.args.target c.min-from.ensures n c.step_to.ensures
