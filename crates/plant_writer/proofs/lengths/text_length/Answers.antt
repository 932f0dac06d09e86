-- `text_length` meets its contract: no table has so many entries that the lengths of their lines do not fit.
use Rattle.std.proofs.Common.{◌^◌, rules, arith}
use Rattle.std.proofs.lemmas.Iterator.{YieldsList-from_slice}
use Rattle.std.proofs.lemmas.Iterator.Adapters.{fits_from_length, at_most_from_yields_List}
use Rattle.plant_writer.specs.inner.Lengths.{lines_length}
use Rattle.plant_writer.proofs.lengths.text_length.Goals as goal

pub sum-devices-requires-clause-fits : goal.sum-devices-requires-clause-fits
sum-devices-requires-clause-fits c =
    fits_from_length _ _ 65535 (2 ^ 32) (at_most_from_yields_List (YieldsList-from_slice c.args.level.now cc) (omega arith)) c.map.ensures.closure (omega arith) (λ x r q k. search rules)

pub sum-marks-requires-clause-fits : goal.sum-marks-requires-clause-fits
sum-marks-requires-clause-fits c =
    fits_from_length _ _ 8192 (2 ^ 32) (at_most_from_yields_List (YieldsList-from_slice c.args.index.terms.now cc) (omega arith)) c.map-2.ensures.closure (omega arith) (λ x r q k. search rules)

pub sum-notes-requires-clause-fits : goal.sum-notes-requires-clause-fits
sum-notes-requires-clause-fits c =
    fits_from_length _ _ 1048576 (2 ^ 32) (at_most_from_yields_List (YieldsList-from_slice c.args.index.postings.now cc) (omega arith)) c.map-3.ensures.closure (omega arith) (λ x r q k. search rules)

pub returns-clause-is : goal.returns-clause-is
unfolding lines_length
returns-clause-is c = search rules
