-- `search::run::run` meets its contract: the rounds that are left give what is left of the whole run.
use native.Mathlib.Omega.{arith}
use Rattle.search.proofs.RunByIndex.{listed_start, listed_over, listed_stops, listed_again, listed_accepted}
use Rattle.search.proofs.run.run.Goals.{else-loop-position-test, then-loop-position-test+in-None}
use Rattle.search.proofs.run.run.Goals as goal

pub loop-position-init : goal.loop-position-init
loop-position-init c =
    let t = c.requires.tables in listed_start t.0 t.2 c.requires.lists t.3 t.4

pub loop-position-preserved-in-Some-Accepts : goal.loop-position-preserved-in-Some-Accepts
loop-position-preserved-in-Some-Accepts c = listed_accepted c.loop-position.invariant (omega arith) (rw c.in-Some-Accepts.field-0-is at c.in-Some-Accepts.ensures) c.list-count.ensures

pub loop-position-preserved : goal.loop-position-preserved
loop-position-preserved c = listed_again c.loop-position.invariant (omega arith) (rw c.in-Some-Again.field-0-is at c.in-Some-Again.ensures)

pub returns : goal.returns
returns c =
    elim c.loop-position-test.branch [
      | else-loop-position-test w ↦ rw w.counts-is (listed_over c.loop-position.invariant w.loop-position-test.false)
      | then-loop-position-test+in-None w ↦ rw w.counts-is (listed_stops c.loop-position.invariant (omega (arith, w.loop-position-test.true)) w.in-None.ensures)
    ]
