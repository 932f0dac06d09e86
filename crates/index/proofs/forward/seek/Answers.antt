-- `index::forward::seek` meets its contract: it stays, or the halving closes in on the place that the doubling stands around.
use native.Mathlib.Omega.{arith}
use borrow.Author.Rules.{rules}
use Rattle.std.proofs.Common.{get_or, ◌≡◌, ◌<◌, length}
use Rattle.index.proofs.ForwardStep.{sought_end, sought_here, sought_on}
use Rattle.index.proofs.forward.seek.Goals as goal

pub returns-in_default : goal.returns-in_default
returns-in_default c =
    search (rules, sought_end)

pub returns-then-target-posting : goal.returns-then-target-posting
returns-then-target-posting c =
    let l = c.args.list.now in
    let h : c.args.position < length l = search rules in
    let e : c.in-Some.field-0.now ≡ get_or l c.args.position 0 = search rules in
    sought_here h (omega arith) c.step_to-then-target-posting.ensures

pub returns : goal.returns
returns c =
    let l = c.args.list.now in
    let h : c.args.position < length l = search rules in
    let e : c.in-Some.field-0.now ≡ get_or l c.args.position 0 = search rules in
    sought_on h (omega arith) c.gallop-around.ensures c.bisect.ensures c.step_to-2.ensures
