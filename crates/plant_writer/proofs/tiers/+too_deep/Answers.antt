-- `too_deep` meets its contract: no device up to i has more than 32 tiers. The measure is the number of devices.
use borrow.Author.Rules.{rules}
use native.Mathlib.Omega.{arith}
use Rattle.plant_writer.proofs.Depths.{few_shallow, full_deep, shallow_start, first_nested, first_depth, end_bounds, shallow_turn}
use Rattle.plant_writer.proofs.tiers.+too_deep.Goals as goal

pub returns-then-depth-e-le32 : goal.returns-then-depth-e-le32
returns-then-depth-e-le32 t c = few_shallow c.requires.nested c.requires.depth (omega arith)

pub returns-then-depth-eq32 : goal.returns-then-depth-eq32
returns-then-depth-eq32 t c = full_deep c.requires.nested c.requires.depth (omega arith) (omega arith)

pub loop-i-init : goal.loop-i-init
loop-i-init t c = (search (rules, shallow_start), search rules)

pub too_deep-requires : goal.too_deep-requires
too_deep-requires t c =
    let s = c.loop-i.invariant.0 in
    let z = c.from-end.ensures in
    (omega (arith, end_bounds s (omega arith) z, s.from), (first_nested s (omega arith) z, (first_depth s (omega arith) z, omega arith)))

pub loop-i-smaller : goal.loop-i-smaller
loop-i-smaller t c = omega (arith, end_bounds c.loop-i.invariant.0 (omega arith) c.from-end.ensures)

pub loop-i-preserved : goal.loop-i-preserved
loop-i-preserved t c = (search (rules, shallow_turn), search rules)
