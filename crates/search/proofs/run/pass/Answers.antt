-- `search::run::pass` meets its contract: the cursors from i on give what the whole round gives.
use mathlib.Core.Path.{refl}
use lib.ListN.{length-map}
use Rattle.search.proofs.RoundByIndex.{element, inside, doing_start, here, fits, doing_stops, doing_again, doing_more, doing_ends}
use Rattle.search.proofs.run.pass.Goals as goal

pub loop-i-init : goal.loop-i-init
loop-i-init c = doing_start c.requires.0 c.requires.2 c.requires.1.last c.requires.3

pub bring-requires : goal.bring-requires
bring-requires c =
    let h = inside c.args.lists.now c.loop-i-test.true in
    let e = element c.args.lists.now c.loop-i.i in
    (c.requires.0, here c.loop-i.invariant h e, c.requires.1, c.loop-i.invariant.few, fits c.loop-i.invariant h e c.requires.4)

pub returns-in_err-rest : goal.returns-in_err-rest
returns-in_err-rest c =
    rw c.from_residual.ensures (doing_stops c.loop-i.invariant (inside _ c.loop-i-test.true) (element c.args.lists.now c.loop-i.i) c.in_err-rest.ensures)

pub returns-then-rest-asked : goal.returns-then-rest-asked
returns-then-rest-asked c =
    doing_again c.loop-i.invariant (inside _ c.loop-i-test.true) (element c.args.lists.now c.loop-i.i) c.in_ok-rest.ensures refl c.if-rest-asked.true

pub loop-i-preserved : goal.loop-i-preserved
loop-i-preserved c =
    rw c.min-to.ensures
    (doing_more c.loop-i.invariant (inside _ c.loop-i-test.true) (element c.args.lists.now c.loop-i.i) c.in_ok-rest.ensures refl c.if-rest-asked.false)

pub returns : goal.returns
returns c = doing_ends c.loop-i.invariant (rw length-map c.loop-i-test.false)
