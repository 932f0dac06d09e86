-- `search::cursor::bring` meets its contract: from each index on, the cursor goes on as the whole does.
use native.Mathlib.Omega.{arith}
use Rattle.search.proofs.BringByIndex.{going_ends, going_device, going_past, going_carries, going_spent, going_moves, Moves}
use Rattle.search.proofs.cursor.bring.Goals.{After-seek-step}
use Rattle.search.proofs.cursor.bring.Goals as goal

pub returns-then-p-d : goal.returns-then-p-d
returns-then-p-d c = going_past c.loop-q.invariant c.requires.2.last c.requires.1 c.in-Some.ensures.lookup.3 c.device_of-d.ensures c.if-p-d.true

pub entry_of-requires : goal.entry_of-requires
entry_of-requires c = going_device c.loop-q.invariant c.requires.2.last c.requires.1 c.in-Some.ensures.lookup.3 c.device_of-d.ensures

pub returns-then-p-to : goal.returns-then-p-to
returns-then-p-to c =
    going_carries c.loop-q.invariant c.requires.2.last c.requires.1 c.in-Some.ensures.lookup.3 c.device_of-d.ensures c.requires.0 c.if-p-d.false (rw c.entry_of.ensures.0 at c.reach_by-to.ensures) c.if-p-to.true

pub returns-then-budget-counts : goal.returns-then-budget-counts
returns-then-budget-counts c =
    going_spent c.loop-q.invariant c.requires.2.last c.requires.1 c.in-Some.ensures.lookup.3 c.device_of-d.ensures c.requires.0 c.if-p-d.false (rw c.entry_of.ensures.0 at c.reach_by-to.ensures) c.if-p-to.false
    c.if-budget-counts.true

pub target-requires : goal.target-requires
target-requires c = (
  rw c.device_of-d.ensures at (going_device c.loop-q.invariant c.requires.2.last c.requires.1 c.in-Some.ensures.lookup.3 c.device_of-d.ensures),
  record { first = c.requires.2.first; last = omega arith },
)

-- the move that is made
moves : (c : After-seek-step) → Moves c.args.plant.last.now c.args.plant.root.now c.args.list.now c.args.p c.args.budget c.args.at.now c.loop-q.at c.args.counts.now c.loop-q.counts c.seek-step.result
moves c =
    going_moves c.loop-q.invariant c.requires.2.last c.requires.1 c.in-Some.ensures.lookup.3 c.device_of-d.ensures c.requires.0 c.if-p-d.false (rw c.entry_of.ensures.0 at c.reach_by-to.ensures) c.if-p-to.false
    c.if-budget-counts.false c.target.ensures.0 c.seek-step.ensures

pub overflow_cast-counts : goal.overflow_cast-counts
overflow_cast-counts c = let m = moves (goal.at.overflow_cast-counts c).After-seek-step in omega (arith, m.fits)

pub overflow_add-counts-in-Some : goal.overflow_add-counts-in-Some
overflow_add-counts-in-Some c = let m = moves (goal.at.overflow_add-counts-in-Some c).After-seek-step in omega (arith, m.fits)

pub loop-q-preserved : goal.loop-q-preserved
loop-q-preserved c = (moves (goal.at.loop-q-preserved c).After-seek-step).going

pub returns : goal.returns
returns c = going_ends c.loop-q.invariant c.requires.2.last c.in_default.ensures.lookup.3
